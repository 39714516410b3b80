-- The loop invariants and measures of `pass_items`. The scan from the start is that from here, whatever call is outermost.
use Prim.Native.Nat.{ℕ, ◌-◌, ◌≤◌}
use mathlib.Core.Path.{◌≡◌}
use lib.ListN.{length, drop}
use Rattle.tape_flatness.specs.Scanned.{in_call, scanned_calls}
use Rattle.tape_flatness.proofs.pass_items.Given as goal

abbrev pub invariant-loop-i : goal.invariant-loop-i
invariant-loop-i l = (l.from ≤ l.i) × (l.more ≤ l.i)
    × ((outermost : ℕ) → scanned_calls 0 (drop l.from l.tape) (in_call 0 outermost l.leftmost)
    ≡ scanned_calls 0 (drop l.i l.tape) (in_call l.more outermost l.found))

abbrev pub decreases-loop-i : goal.decreases-loop-i
decreases-loop-i l = length l.tape - l.i
