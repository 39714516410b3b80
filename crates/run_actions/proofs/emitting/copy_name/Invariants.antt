-- The loop invariant of `emitting::copy_name`: the bytes so far are pasted over.
use mathlib.Core.Path.{◌≡◌}
use lib.ListN.{length}
use lib.Seq.{paste}
use Rattle.run_actions.proofs.emitting.copy_name.Given as goal

abbrev pub invariant-loop-i : goal.invariant-loop-i
invariant-loop-i l =
    (l.emissions ≡ paste l.initial.emissions l.to.0 l.name l.i) × (length l.emissions ≡ length l.initial.emissions)
