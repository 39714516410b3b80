-- The tokens of a table text: 01 'Table text', 000 section 2.1 with its notes. "The reader goes through the lent table
-- text from left to right." Every scanner goes on from the remaining bytes, carries the place in the text and eats one
-- byte at each step.
use Rattle.std.specs.Prelude.{ℕ, zero, suc, ◌+◌, ◌*◌, ◌-◌, Bool, true, false, List, [], ◌∷◌, ◌++◌, ltb, eqb, length}
use Rattle.std.proofs.Math.Option.{Option, none, some}
use Rattle.meaning.specs.Choice.{Bytes, Name, pick, both, either}
use Rattle.meaning.specs.Ascii.{tab, line_feed, double_quote, single_quote, asterisk, slash, digit_zero}
use Rattle.meaning.specs.Ascii.{backslash, small_e, small_n, small_s, small_t}
-- the signs of the grammar
pub use Rattle.meaning.specs.Ascii.{left_brace, right_brace, semicolon, comma, colon, equals, less_than, greater_than}
use Rattle.meaning.specs.Classes.{in_class, digit, alphabetic, is_blank_byte}
use Rattle.meaning.specs.Allowed.{word_byte, name_byte}

-- How a word is read: outside sentences and directly after `<` by the rule of function names; inside a sentence "a word
-- there is a letter and the letters and digits after it".
pub data Mode : Type 0 where
  outside inside naming : Mode

pub data Token : Type 0 where
  -- "a letter, then letters, digits, _ or -"
  function_name : Name → Token
  -- a word inside a sentence
  word : Bytes → Token
  -- a string, by its characters
  quoted : Bytes → Token
  -- a byte that stands for itself: { } ; , = < > : and every byte that no rule allows
  sign : ℕ → Token
  text_end : Token
  -- "comment or string without an end, escape not listed or over 255, bare double quote in a string, `<` with no letter
  -- right after it"
  malformed : Token

-- A token with "the offset, from 0, of its token's first byte" and the offset of the byte after its last.
-- A malformed token ends after the byte that shows it, or with the text where its end is missing.
pub record Placed : Type 0 where
  pub token : Token
  pub place : ℕ
  pub past : ℕ

-- a token with the bytes after it
pub record Lexed : Type 0 where
  pub first : Placed
  pub rest : Bytes

abbrev pub lexed : Token → ℕ → ℕ → Bytes → Lexed
lexed token place past rest = record { first = record { token = token; place = place; past = past }; rest = rest }

-- BLANKS AND COMMENTS

-- the next byte is there and passes
abbrev pub ahead : (ℕ → Bool) → Bytes → Bool
ahead test [] = false
ahead test (b ∷ rest) = test b

-- between tokens, or in the comment whose `/` stands at a place: its `*` comes next, inside it, inside it right after a
-- `*`
pub data Gap : Type 0 where
  between : Gap
  opening commented starred : ℕ → Gap

-- "Comments run from `/*` to the first `*/` after those two bytes (`/*/` is still open) and stand wherever blanks may."
-- The byte at a place belongs to the gap, and how the gap goes on; or a token begins with it.
abbrev pub gap_after : Gap → ℕ → ℕ → Bytes → Option Gap
gap_after between at b rest =
    pick (is_blank_byte b) (some between) (pick (both (eqb b slash) (ahead (eqb asterisk) rest)) (some (opening at)) none)
gap_after (opening start) at b rest = some (commented start)
gap_after (commented start) at b rest = some (pick (eqb b asterisk) (starred start) (commented start))
gap_after (starred start) at b rest =
    some (pick (eqb b slash) between (pick (eqb b asterisk) (starred start) (commented start)))

-- a token begins at a place, with the bytes from there; or the comment that begins at a place has no end in the text,
-- which ends at another
pub data Skipped : Type 0 where
  found : ℕ → Bytes → Skipped
  unclosed : ℕ → ℕ → Skipped

abbrev pub skipped_end : Gap → ℕ → Skipped
skipped_end between at = found at []
skipped_end (opening start) at = unclosed start at
skipped_end (commented start) at = unclosed start at
skipped_end (starred start) at = unclosed start at

abbrev pub skip_on : Option Gap → (Gap → Skipped) → Skipped → Skipped
skip_on none next stays = stays
skip_on (some gap) next stays = next gap

unfoldable pub skip : Gap → ℕ → Bytes → Skipped
skip gap at [] = skipped_end gap at
skip gap at (b ∷ rest) = skip_on (gap_after gap at b rest) (λ next. skip next (suc at) rest) (found at (b ∷ rest))

-- WORDS

-- the bytes taken, the place after them and the bytes from there
pub record Run : Type 0 where
  pub taken : Bytes
  pub past : ℕ
  pub rest : Bytes

-- "as long as it goes"
unfoldable pub run : (ℕ → Bool) → Bytes → ℕ → Bytes → Run
run fits taken at [] = record { taken = taken; past = at; rest = [] }
run fits taken at (b ∷ rest) =
    let longer = run fits (taken ++ b ∷ []) (suc at) rest in
    pick (fits b) longer (record { taken = taken; past = at; rest = b ∷ rest })

abbrev pub name_token : ℕ → Run → Lexed
name_token at r = lexed (function_name r.taken) at r.past r.rest

abbrev pub word_token : ℕ → Run → Lexed
word_token at r = lexed (word r.taken) at r.past r.rest

abbrev pub word_at : Mode → ℕ → Bytes → Lexed
word_at outside at bytes = name_token at (run name_byte [] at bytes)
word_at inside at bytes = word_token at (run word_byte [] at bytes)
word_at naming at bytes = name_token at (run name_byte [] at bytes)

-- STRINGS

-- inside a string: plainly, right after a `\`, or after a `\` and digits that make this code so far
pub data Quoting : Type 0 where
  plain escaped : Quoting
  coded : ℕ → Quoting

-- what a byte does inside a string: it goes on with these characters so far, it ends with them, or the byte may not
-- stand there
pub data Turn : Type 0 where
  goes_on : Quoting → Bytes → Turn
  closes : Bytes → Turn
  breaks : Turn

-- "A bare double quote is forbidden. Other bytes stand for themselves."
abbrev pub plain_turn : Bytes → ℕ → Turn
plain_turn characters b =
    pick (eqb b single_quote) (closes characters)
    (pick (eqb b double_quote) breaks
    (pick (eqb b backslash) (goes_on escaped characters)
    (goes_on plain (characters ++ b ∷ []))))

abbrev pub digit_value : ℕ → ℕ
digit_value b = b - digit_zero

-- "decimal digits as long as they go (0 to 255)"
abbrev pub code_turn : ℕ → Bytes → Turn
code_turn code characters = pick (ltb code 256) (goes_on (coded code) characters) breaks

-- a byte that stands for itself after a `\`: "\', \", \\"
abbrev pub is_escaped : ℕ → Bool
is_escaped b = either (eqb b single_quote) (either (eqb b double_quote) (eqb b backslash))

-- "Escapes: \', \", \\, \n (10), \t (9), \ with decimal digits ..., and \ before byte 10, which gives nothing."
abbrev pub escaped_turn : Bytes → ℕ → Turn
escaped_turn characters b =
    pick (is_escaped b) (goes_on plain (characters ++ b ∷ []))
    (pick (eqb b small_n) (goes_on plain (characters ++ line_feed ∷ []))
    (pick (eqb b small_t) (goes_on plain (characters ++ tab ∷ []))
    (pick (eqb b line_feed) (goes_on plain characters)
    (pick (in_class digit b) (code_turn (digit_value b) characters) breaks))))

abbrev pub turn : Quoting → Bytes → ℕ → Turn
turn plain characters b = plain_turn characters b
turn escaped characters b = escaped_turn characters b
turn (coded code) characters b =
    pick (in_class digit b) (code_turn (code * 10 + digit_value b) characters) (plain_turn (characters ++ code ∷ []) b)

-- a string's characters, the place after its closing quote and the bytes from there; or, where it isn't well formed,
-- the place after what shows it and the bytes from there
pub data Quotation : Type 0 where
  closed : Bytes → ℕ → Bytes → Quotation
  broken : ℕ → Bytes → Quotation

abbrev pub quote_on : Turn → (Quoting → Bytes → Quotation) → ℕ → Bytes → Quotation
quote_on (goes_on state characters) next past rest = next state characters
quote_on (closes characters) next past rest = closed characters past rest
quote_on breaks next past rest = broken past rest

unfoldable pub quotation : Quoting → Bytes → ℕ → Bytes → Quotation
quotation state characters at [] = broken at []
quotation state characters at (b ∷ rest) =
    quote_on (turn state characters b) (λ next longer. quotation next longer (suc at) rest) (suc at) rest

-- a fault inside a string stands at its opening quote: decision 4 of docs/DECISIONS.md
abbrev pub quoted_at : ℕ → Quotation → Lexed
quoted_at at (closed characters past rest) = lexed (quoted characters) at past rest
quoted_at at (broken past rest) = lexed malformed at past rest

-- TOKENS

-- `<` and the name directly after it are two tokens
abbrev pub bracket_at : ℕ → Bytes → Bool → Lexed
bracket_at at rest true = lexed (sign less_than) at (suc at) rest
bracket_at at rest false = lexed malformed at (suc at) rest

-- the token that begins at a place
abbrev pub token_at : Mode → ℕ → Bytes → Lexed
token_at mode at [] = lexed text_end at at []
token_at mode at (b ∷ rest) =
    pick (in_class alphabetic b) (word_at mode at (b ∷ rest))
    (pick (eqb b single_quote) (quoted_at at (quotation plain [] (suc at) rest))
    (pick (eqb b less_than) (bracket_at at rest (ahead (in_class alphabetic) rest))
    (lexed (sign b) at (suc at) rest)))

abbrev pub token_past : Mode → Skipped → Lexed
token_past mode (found at bytes) = token_at mode at bytes
token_past mode (unclosed start text_length) = lexed malformed start text_length []

-- the first token from a place on, with the bytes after it
unfoldable pub lex : Mode → ℕ → Bytes → Lexed
lex mode at bytes = token_past mode (skip between at bytes)

-- how words are read after a name
abbrev pub after_name : Mode → Mode
after_name outside = outside
after_name inside = inside
after_name naming = inside

-- how words are read after a token: `{` leads into sentences, `}` out of them, `<` to the name right after it
abbrev pub mode_after : Mode → Token → Mode
mode_after mode (function_name n) = after_name mode
mode_after mode (word w) = mode
mode_after mode (quoted characters) = mode
mode_after mode (sign b) =
    pick (eqb b left_brace) inside (pick (eqb b right_brace) outside (pick (eqb b less_than) naming mode))
mode_after mode text_end = mode
mode_after mode malformed = mode

-- no token comes after the end of the text or after a malformed one
abbrev pub is_last_token : Token → Bool
is_last_token (function_name n) = false
is_last_token (word w) = false
is_last_token (quoted characters) = false
is_last_token (sign b) = false
is_last_token text_end = true
is_last_token malformed = true

abbrev pub tokens_past : (Mode → ℕ → Bytes → List Placed) → Mode → Lexed → List Placed
tokens_past next mode l =
    let later = next (mode_after mode l.first.token) l.first.past l.rest in
    l.first ∷ pick (is_last_token l.first.token) [] later

-- Every token but the last eats a byte, so a bound above the number of bytes is never reached (proved in
-- proofs/roundtrip/Remaining).
unfoldable pub tokens_from : ℕ → Mode → ℕ → Bytes → List Placed
tokens_from zero mode at bytes = []
tokens_from (suc bound) mode at bytes = tokens_past (tokens_from bound) mode (lex mode at bytes)

-- the tokens of a text, to its end or to the first malformed one
abbrev pub tokens : Bytes → List Placed
tokens text = tokens_from (suc (length text)) outside 0 text

-- SINGLE TOKENS

-- a byte that stands for itself
abbrev pub is_sign : ℕ → Token → Bool
is_sign c (function_name n) = false
is_sign c (word w) = false
is_sign c (quoted text) = false
is_sign c (sign b) = eqb b c
is_sign c text_end = false
is_sign c malformed = false

abbrev pub is_text_end : Token → Bool
is_text_end (function_name n) = false
is_text_end (word w) = false
is_text_end (quoted text) = false
is_text_end (sign b) = false
is_text_end text_end = true
is_text_end malformed = false

-- the name of a function
abbrev pub name_of : Token → Option Name
name_of (function_name n) = some n
name_of (word w) = none
name_of (quoted text) = none
name_of (sign b) = none
name_of text_end = none
name_of malformed = none

-- what a pattern and an expression are made of, calls apart
pub data Item : Type 0 where
  characters : Bytes → Item
  symbol_item part_item : Name → Item
  no_item : Item

-- "Variable: `s` or `e`, then at least one letter or digit ... Inside a sentence a word that is no variable is refused
-- with 3"
abbrev pub variable_of : Bytes → Item
variable_of [] = no_item
variable_of (b ∷ []) = no_item
variable_of (b ∷ c ∷ x) = pick (eqb b small_s) (symbol_item (c ∷ x)) (pick (eqb b small_e) (part_item (c ∷ x)) no_item)

-- the item that a token is
abbrev pub item_of : Token → Item
item_of (function_name n) = no_item
item_of (word w) = variable_of w
item_of (quoted text) = characters text
item_of (sign b) = no_item
item_of text_end = no_item
item_of malformed = no_item

-- the token is one
abbrev pub is_item : Item → Bool
is_item (characters text) = true
is_item (symbol_item x) = true
is_item (part_item x) = true
is_item no_item = false

-- a token that a sentence can begin with
abbrev pub begins : Token → Bool
begins token = either (is_item (item_of token)) (either (is_sign comma token) (is_sign equals token))
