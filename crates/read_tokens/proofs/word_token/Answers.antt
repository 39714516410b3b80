-- The facts about `word_token` that the check is told.
use mathlib.Core.Path.{refl}
use Rattle.read_tokens.proofs.Words.{letter-alone}
use Rattle.read_tokens.proofs.word_token.Goals as goal

pub returns-then-past-at : goal.returns-then-past-at
returns-then-past-at c = (refl, letter-alone _ _ _ c.requires c.if-past-at.true)
