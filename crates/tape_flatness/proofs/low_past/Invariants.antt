-- The loop invariants of `low_past`.
use Rattle.tape_flatness.specs.Scanned.{Below}
use Rattle.tape_flatness.proofs.low_past.Given as goal

abbrev pub invariant-loop-at : goal.invariant-loop-at
invariant-loop-at l = Below l.bound l.tape l.from l.at
