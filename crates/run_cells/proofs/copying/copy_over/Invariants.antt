-- The loop invariant of `copying::copy_over`: the bytes so far are pasted over.
use mathlib.Core.Path.{◌≡◌}
use lib.ListN.{length}
use lib.Seq.{paste}
use Rattle.run_cells.proofs.copying.copy_over.Given as goal

abbrev pub invariant-loop-i : goal.invariant-loop-i
invariant-loop-i l = (l.to ≡ paste l.initial.to l.at l.from l.i) × (length l.to ≡ length l.initial.to)
