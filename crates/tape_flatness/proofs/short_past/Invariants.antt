-- The loop invariants of `short_past`.
use Prim.Native.Nat.{◌+◌}
use Rattle.tape_flatness.proofs.Low.{Unchanged}
use Rattle.tape_flatness.proofs.short_past.Given as goal

abbrev pub invariant-loop-k : goal.invariant-loop-k
invariant-loop-k l = Unchanged l.tape (l.end + 1) (l.end + l.k)
