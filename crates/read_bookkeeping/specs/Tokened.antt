-- Single tokens of the code: their faults, the bytes that stand for themselves, words, and passing one.
use Rattle.std.specs.Prelude.{ℕ, ◌≤◌, ◌<◌, ◌≡◌, Bool, true, false, List, [], ◌∷◌, eqb, length, Result, Ok, Err}
use Rattle.meaning.specs.Choice.{Bytes, pick}
use Rattle.meaning.specs.Answers.{malformed_token, not_allowed_here}
use Rattle.meaning.specs.Tokens as Tokens
use Rattle.meaning.specs.Grammar.{standing}
use Rattle.meaning.specs.Reading.{Parsed, stopped, parsed, fault_of, is_sign}
use Rattle.read_tokens.specs.View.{stream}
use Rattle.read_tokens.specs.declared.Token.{Token}
use Rattle.read_tokens.specs.declared.Token.TheVariants.{Name, Symbol, Part, Word, Quoted, Sign, End, Malformed}
use Rattle.answers.specs.declared.Fault.{Fault}
use Rattle.answers.specs.Numbers.{refusal_number}

abbrev pub token_fault : Token → ℕ
token_fault (Name name) = not_allowed_here
token_fault (Symbol identifier) = not_allowed_here
token_fault (Part identifier) = not_allowed_here
token_fault Word = not_allowed_here
token_fault (Quoted count) = not_allowed_here
token_fault (Sign b) = not_allowed_here
token_fault End = not_allowed_here
token_fault Malformed = malformed_token

abbrev pub sign_is : ℕ → Token → Bool
sign_is byte (Name name) = false
sign_is byte (Symbol identifier) = false
sign_is byte (Part identifier) = false
sign_is byte Word = false
sign_is byte (Quoted count) = false
sign_is byte (Sign b) = eqb b byte
sign_is byte End = false
sign_is byte Malformed = false

-- a word of a sentence
abbrev pub word_is : Token → Bool
word_is (Name name) = false
word_is (Symbol identifier) = true
word_is (Part identifier) = true
word_is Word = true
word_is (Quoted count) = false
word_is (Sign b) = false
word_is End = false
word_is Malformed = false

abbrev pub is_word : Tokens.Token → Bool
is_word (Tokens.function_name n) = false
is_word (Tokens.word w) = true
is_word (Tokens.quoted text) = false
is_word (Tokens.sign b) = false
is_word Tokens.text_end = false
is_word Tokens.malformed = false

-- "Inside a sentence a word that is no variable is refused with 3": what was read as long as variables went, unless a
-- word comes after it
abbrev pub unless_word : {A : Type 0} → Parsed A → Parsed A
unless_word (stopped number place) = stopped number place
unless_word (parsed value []) = parsed value []
unless_word (parsed value (t ∷ rest)) =
    pick (is_word t.token) (stopped not_allowed_here t.place) (parsed value (t ∷ rest))

-- the first token from a place on is this byte, and the next come from another place on
pub record Taken (text : Bytes) (mode : Tokens.Mode) (byte at past : ℕ) : Type 0 where
  pub place : ℕ
  pub unrolled : stream text mode at
      ≡ standing (Tokens.sign byte) place past ∷ stream text (Tokens.mode_after mode (Tokens.sign byte)) past
  pub onward : at < past
  pub inside : past ≤ length text

-- the first token from a place on is another, and this is its fault
pub record Barred (text : Bytes) (mode : Tokens.Mode) (byte at : ℕ) (fault : Fault) : Type 0 where
  pub token : Tokens.Placed
  pub rest : List Tokens.Placed
  pub unrolled : stream text mode at ≡ token ∷ rest
  pub other : is_sign byte token.token ≡ false
  pub number : refusal_number fault.refusal ≡ fault_of token.token
  pub place : fault.place ≡ token.place

abbrev pub Passes : Bytes → Tokens.Mode → ℕ → ℕ → Result ℕ Fault → Type 0
Passes text mode byte at (Ok past) = Taken text mode byte at past
Passes text mode byte at (Err fault) = Barred text mode byte at fault
