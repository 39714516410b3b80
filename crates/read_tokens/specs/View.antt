-- Tokens as the scanners hand them back, with places in the text, and which of meaning's tokens each of them is.
use Rattle.std.specs.Prelude.{ℕ, suc, ◌+◌, ◌≤◌, ◌<◌, ◌≡◌, List, [], ◌∷◌, length, get_or, drop, Bool, true, not, T}
use Rattle.std.proofs.Math.Seq.{slice}
use Rattle.meaning.specs.Choice.{Bytes, pick}
use Rattle.meaning.specs.Classes.{in_class, alphabetic}
use Rattle.meaning.specs.Tokens as Tokens
use Rattle.meaning.specs.Reading.{variable_of, no_item}
use Rattle.read_tokens.specs.declared.Mode.{Mode}
use Rattle.read_tokens.specs.declared.Mode.TheVariants.{Outside, Inside, Naming}
use Rattle.read_tokens.specs.declared.Span.{Span}
use Rattle.read_tokens.specs.declared.Token.{Token}
use Rattle.read_tokens.specs.declared.Token.TheVariants.{Name, Symbol, Part, Word, Quoted, Sign, End, Malformed}
use Rattle.read_tokens.specs.declared.Placed.{Placed}

abbrev pub mode_of : Mode → Tokens.Mode
mode_of Outside = Tokens.outside
mode_of Inside = Tokens.inside
mode_of Naming = Tokens.naming

-- WORDS

-- whatever is answered of a byte is what a test says of it
abbrev pub IsTest : (ℕ → Bool → Type 0) → (ℕ → Bool) → Type 0
IsTest answers test = (b : ℕ) (answer : Bool) → answers b answer → answer ≡ test b

-- the bytes from a place to another are those that pass, as long as they go
pub record RunsTo (text : Bytes) (fits : ℕ → Bool) (from past : ℕ) : Type 0 where
  pub same : Tokens.run fits [] from (drop from text)
      ≡ record { taken = slice from past text; past = past; rest = drop past text }
  pub onward : from ≤ past
  pub inside : from ≤ length text → past ≤ length text

-- a letter stands at a place
pub record LetterAt (text : Bytes) (at : ℕ) : Type 0 where
  pub inside : at < length text
  pub letter : in_class alphabetic (get_or text at 0) ≡ true

-- STRINGS

-- the characters of a string that is well formed
abbrev pub characters_in : Tokens.Quotation → Bytes
characters_in (Tokens.closed characters past rest) = characters
characters_in (Tokens.broken past rest) = []

abbrev pub IsClosed : Tokens.Quotation → Type 0
IsClosed (Tokens.closed characters past rest) = Unit {0}
IsClosed (Tokens.broken past rest) = ⊥

-- the string whose opening quote stands at a place
abbrev pub quotation_at : Bytes → ℕ → Tokens.Quotation
quotation_at text place = Tokens.quotation Tokens.plain [] (suc place) (drop (suc place) text)

-- TOKENS

-- a part of the text
abbrev pub span_text : Bytes → Span → Bytes
span_text text s = slice s.from s.past text

-- a token at a place, which ends before another
abbrev pub token_of : Bytes → Token → ℕ → ℕ → Tokens.Token
token_of text (Name name) place past = Tokens.function_name (span_text text name)
token_of text (Symbol identifier) place past = Tokens.word (115 ∷ span_text text identifier)
token_of text (Part identifier) place past = Tokens.word (101 ∷ span_text text identifier)
token_of text Word place past = Tokens.word (slice place past text)
token_of text (Quoted count) place past = Tokens.quoted (characters_in (quotation_at text place))
token_of text (Sign b) place past = Tokens.sign b
token_of text End place past = Tokens.text_end
token_of text Malformed place past = Tokens.malformed

abbrev pub placed_of : Bytes → Placed → Tokens.Placed
placed_of text t =
    record { token = token_of text t.token t.place t.past; place = t.place; past = t.past }

-- what else holds of a token: where its name or identifier stands, that a word is no variable, and how many characters
-- a string has, each of which takes a byte of its own beside the quotes
abbrev pub Sound : Bytes → Token → ℕ → ℕ → Type 0
Sound text (Name name) place past = (name.from ≡ place) × (name.past ≡ past)
Sound text (Symbol identifier) place past =
    (identifier.from ≡ place + 1) × (identifier.past ≡ past) × (place + 1 < past)
Sound text (Part identifier) place past =
    (identifier.from ≡ place + 1) × (identifier.past ≡ past) × (place + 1 < past)
Sound text Word place past = variable_of (slice place past text) ≡ no_item
Sound text (Quoted count) place past =
    (quotation_at text place ≡ Tokens.closed (characters_in (quotation_at text place)) past (drop past text))
    × (length (characters_in (quotation_at text place)) ≡ count)
    × (place + count + 2 ≤ past)
Sound text (Sign b) place past = Unit {0}
Sound text End place past = Unit {0}
Sound text Malformed place past = Unit {0}

-- a token of the code is one of the definitions
pub record ShowsToken (text : Bytes) (t : Placed) (shown : Tokens.Placed) : Type 0 where
  pub same : placed_of text t ≡ shown
  pub sound : Sound text t.token t.place t.past

-- the tokens from a place of the text on
unfoldable pub stream : Bytes → Tokens.Mode → ℕ → List Tokens.Placed
stream text mode at = Tokens.tokens_from (suc (length text)) mode at (drop at text)

-- a token of the code comes first from a place on: what comes after it, that it is read again at its place, and that it
-- passes a byte unless it is the last
pub record Comes (text : Bytes) (mode : Tokens.Mode) (at : ℕ) (t : Placed) : Type 0 where
  pub unrolled : stream text mode at
      ≡ placed_of text t
      ∷ pick (Tokens.is_last_token (token_of text t.token t.place t.past)) []
      (stream text (Tokens.mode_after mode (token_of text t.token t.place t.past)) t.past)
  pub again : stream text mode t.place ≡ stream text mode at
  pub onward : at ≤ t.place
  pub forward : t.place ≤ t.past
  pub inside : t.past ≤ length text
  pub moves : T (not (Tokens.is_last_token (token_of text t.token t.place t.past))) → t.place < t.past
  pub sound : Sound text t.token t.place t.past
