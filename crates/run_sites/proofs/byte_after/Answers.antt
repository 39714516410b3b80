-- The facts about `byte_after` that the check is told: the cell is in the field, or past its end.
use native.Mathlib.Omega.{arith}
use mathlib.Core.Path.{sym}
use Rattle.run_sites.proofs.Laws.Lists.{nth_in, nth-out}
use Rattle.run_sites.proofs.byte_after.Goals as goal

pub returns-then-offset-saturating_sub : goal.returns-then-offset-saturating_sub
returns-then-offset-saturating_sub c = sym (nth_in _ _ (omega arith))

pub returns-else-offset-saturating_sub : goal.returns-else-offset-saturating_sub
returns-else-offset-saturating_sub c = sym (nth-out _ _ (omega arith))
