-- The fact about `copying::copy_over` that the check is told: one byte more is pasted over.
use native.Mathlib.Omega.{arith}
use lib.ListN.{length-set}
use Rattle.run_cells.proofs.Laws.Copying.{pasted-one}
use Rattle.run_cells.proofs.copying.copy_over.Goals as goal

pub loop-i-preserved : goal.loop-i-preserved
loop-i-preserved c = (pasted-one _ _ _ _ _ c.loop-i.invariant.0 c.requires (omega arith), rw length-set c.loop-i.invariant.1)
