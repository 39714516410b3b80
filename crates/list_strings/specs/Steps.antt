-- What a character adds to the listing, and how the listing stands after it.
use Rattle.std.specs.Prelude.{ℕ, ◌≡◌, Bool, true, false, [], ◌∷◌, ◌++◌}
use Rattle.meaning.specs.Choice.{Bytes, pick}
use Rattle.meaning.specs.Listing.{Quoted, unquoted, in_string, after_code, character_text, is_coded}
use Rattle.byte_writing.specs.declared.ByteWriter.{ByteWriter}
use Rattle.byte_writing.specs.Wrote.{Wrote}
use Rattle.list_strings.specs.declared.State.{State}
use Rattle.list_strings.specs.declared.State.TheVariants.{Start, Plain, InString, AfterCode, Name, Condition}
use Rattle.list_strings.specs.declared.State.TheVariants.{Header}

-- the bytes that a word adds, and how the listing stands after it
pub record Step : Type 0 where
  pub bytes : Bytes
  pub state : State

abbrev pub step : Bytes → State → Step
step bytes state = record { bytes = bytes; state = state }

-- no step but that of bytes handed in adds more bytes than these
abbrev pub longest_step : ℕ
longest_step = 20

-- whether a string is open
abbrev pub quoted_in : State → Quoted
quoted_in Start = unquoted
quoted_in Plain = unquoted
quoted_in InString = in_string
quoted_in AfterCode = after_code
quoted_in (Name n) = unquoted
quoted_in (Condition n b) = unquoted
quoted_in (Header n) = unquoted

abbrev pub is_quoted : State → Bool
is_quoted Start = false
is_quoted Plain = false
is_quoted InString = true
is_quoted AfterCode = true
is_quoted (Name n) = false
is_quoted (Condition n b) = false
is_quoted (Header n) = false

abbrev pub is_start : State → Bool
is_start Start = true
is_start Plain = false
is_start InString = false
is_start AfterCode = false
is_start (Name n) = false
is_start (Condition n b) = false
is_start (Header n) = false

-- "Items are parted by one blank"; none stands at the beginning of a line
abbrev pub gap : State → Bytes
gap s = pick (is_start s) [] (32 ∷ [])

-- the quote before a character, where no string is open
abbrev pub quoting : State → Bytes
quoting s = pick (is_quoted s) [] (gap s ++ 39 ∷ [])

abbrev pub character_step : State → ℕ → Step
character_step s c = step (quoting s ++ character_text (quoted_in s) c) (pick (is_coded (quoted_in s) c) AfterCode InString)

-- what a step leaves of a writer, and how the listing stands after it
pub record WroteStep (old : ByteWriter) (s : Step) (after : State) (new : ByteWriter) : Type 0 where
  pub state : after ≡ s.state
  pub wrote : Wrote old s.bytes new
