-- Blanks and comments between tokens: what the scanner hands back, by the definitions of meaning.
use Rattle.std.specs.Prelude.{ℕ, ◌≤◌, ◌≡◌, length, drop, Option, None, Some, Result, Ok, Err}
use Rattle.meaning.specs.Choice.{Bytes}
use Rattle.meaning.specs.Tokens as Tokens
use Rattle.read_gaps.specs.declared.Unclosed.{Unclosed}

abbrev pub skipped_of : Bytes → Result ℕ Unclosed → Tokens.Skipped
skipped_of text (Ok at) = Tokens.found at (drop at text)
skipped_of text (Err comment) = Tokens.unclosed comment.slash comment.past

-- so many bytes of a comment are compared at once
abbrev pub compared_at_once : ℕ
compared_at_once = 16

-- inside a comment nothing changes from a place to another
pub record Plain (text : Bytes) (from past : ℕ) : Type 0 where
  pub same : (slash : ℕ) → Tokens.skip (Tokens.commented slash) from (drop from text)
      ≡ Tokens.skip (Tokens.commented slash) past (drop past text)
  pub onward : from ≤ past

-- what comes after the comment whose `/` stands at a place: it ends before another place, or the text ends first
abbrev pub comment_of : Bytes → ℕ → Option ℕ → Tokens.Skipped
comment_of text slash (Some past) = Tokens.skip Tokens.between past (drop past text)
comment_of text slash None = Tokens.unclosed slash (length text)

abbrev pub EndsAfter : ℕ → Option ℕ → Type 0
EndsAfter from (Some past) = from ≤ past
EndsAfter from None = Unit {0}

-- where the comment ends inside which a place is
pub record Ends (text : Bytes) (from : ℕ) (comment : Option ℕ) : Type 0 where
  pub same : (slash : ℕ) → Tokens.skip (Tokens.commented slash) from (drop from text) ≡ comment_of text slash comment
  pub after : EndsAfter from comment
