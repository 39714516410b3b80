-- The loop invariants and measures of `nested_call`. The scan from the start is that from here.
use Prim.Native.Nat.{◌-◌}
use mathlib.Core.Path.{◌≡◌}
use lib.ListN.{length, drop}
use Rattle.tape_flatness.specs.Scanned.{out_of_calls, scanned_calls}
use Rattle.tape_flatness.proofs.nested_call.Given as goal

abbrev pub invariant-loop-i : goal.invariant-loop-i
invariant-loop-i l = scanned_calls 0 (drop l.i l.tape) (out_of_calls l.leftmost) ≡ scanned_calls 0 l.tape (out_of_calls 0)

abbrev pub decreases-loop-i : goal.decreases-loop-i
decreases-loop-i l = length l.tape - l.i
