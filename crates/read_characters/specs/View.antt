-- What stands at a place of a string, as the scanner hands it back, and how the string goes on after it by the
-- definitions of meaning.
use Rattle.std.specs.Prelude.{ℕ, ◌≤◌, ◌≡◌, [], ◌∷◌, ◌++◌, length, drop}
use Rattle.meaning.specs.Choice.{Bytes}
use Rattle.meaning.specs.Tokens as Tokens
use Rattle.read_characters.specs.declared.Character.{Character}
use Rattle.read_characters.specs.declared.Character.TheVariants.{Given, Nothing, Closed, Broken}

-- a code is below the number of bytes
abbrev pub byte_count : ℕ
byte_count = 256

-- how a string with these characters so far goes on after what stands at a place
abbrev pub continued : Bytes → Character → Bytes → Tokens.Quotation
continued text (Given b past) characters = Tokens.quotation Tokens.plain (characters ++ b ∷ []) past (drop past text)
continued text (Nothing past) characters = Tokens.quotation Tokens.plain characters past (drop past text)
continued text (Closed past) characters = Tokens.closed characters past (drop past text)
continued text (Broken past) characters = Tokens.broken past (drop past text)

-- each but a fault ends at a place or after it, in the text
abbrev pub EndsInText : Bytes → ℕ → Character → Type 0
EndsInText text low (Given b past) = (low ≤ past) × (past ≤ length text)
EndsInText text low (Nothing past) = (low ≤ past) × (past ≤ length text)
EndsInText text low (Closed past) = (low ≤ past) × (past ≤ length text)
EndsInText text low (Broken past) = Unit {0}

-- what stands at a place of a string in a state, whatever its characters so far, up to another place at least
pub record StandsInString (text : Bytes) (state : Tokens.Quoting) (at low : ℕ) (character : Character) : Type 0 where
  pub same : (characters : Bytes) → Tokens.quotation state characters at (drop at text)
      ≡ continued text character characters
  pub passes : EndsInText text low character
