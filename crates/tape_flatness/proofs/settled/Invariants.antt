-- The loop invariants of `settled`.
use mathlib.Core.Path.{◌≡◌}
use mathlib.Core.Bool.{false}
use Rattle.tape_flatness.specs.Scanned.{NoneFurtherLeft}
use Rattle.tape_flatness.proofs.settled.Given as goal

abbrev pub invariant-loop-at : goal.invariant-loop-at
invariant-loop-at l = l.any ≡ false → NoneFurtherLeft l.leftmost l.tape l.from l.at
