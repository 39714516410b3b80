-- The facts about `names::spells` that the check is told.
use mathlib.Core.Path.{◌∙◌}
use Rattle.read_bookkeeping.proofs.Spelling.{spelled}
use Rattle.read_bookkeeping.proofs.names.spells.Goals as goal

pub returns : goal.returns
returns c = rw (← c.of.ensures) (c.eq.ensures ∙ spelled _ _)
