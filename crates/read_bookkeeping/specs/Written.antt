-- Words written on the tape, and how far a reader has come.
use Rattle.std.specs.Prelude.{ℕ, ◌+◌, ◌≤◌, ◌≡◌, Bool, List, [], ltb, length, drop}
use Rattle.std.proofs.lemmas.List.Edits.{sets}
use Rattle.meaning.specs.Choice.{Bytes}
use Rattle.meaning.specs.Allowed.{max_table}
use Rattle.meaning.specs.Tokens as Tokens
use Rattle.tape_layout.specs.Tape.{call_word}

-- the tape with these words from a place on
unfoldable pub written_from : List ℕ → ℕ → List ℕ → List ℕ
written_from tape at words = sets tape at words

-- these words were written from a place on, up to another
pub record WroteOnTape (tape : List ℕ) (at : ℕ) (words : List ℕ) (at' : ℕ) (tape' : List ℕ) : Type 0 where
  pub reached : at' ≡ at + length words
  pub same : tape' ≡ written_from tape at words

-- a string from the place after its opening quote
abbrev pub string_from : Bytes → ℕ → Tokens.Quotation
string_from text from = Tokens.quotation Tokens.plain [] from (drop from text)

-- no call's opening word, which is `call_word` or more
abbrev pub is_quiet : ℕ → Bool
is_quiet word = ltb word call_word

-- a reader may begin at a place: the text is no longer than a table may be, and each word of the tape is charged to a
-- byte
pub record Ready (text : Bytes) (at words : ℕ) : Type 0 where
  pub inside : at ≤ length text
  pub charged : words ≤ at
  pub short : length text ≤ max_table

-- from a place, and so many words on a tape, to another with these words written
pub record Went (text : Bytes) (at words : ℕ) (tape : List ℕ) (at' words' : ℕ) (tape' added : List ℕ) : Type 0 where
  pub onward : at ≤ at'
  pub inside : at' ≤ length text
  pub charged : words' ≤ at'
  pub counted : words' ≡ words + length added
  pub wrote : tape' ≡ written_from tape words added
