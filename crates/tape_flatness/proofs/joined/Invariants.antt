-- The loop invariants and measures of `joined`.
use Prim.Native.Nat.{◌+◌}
use Rattle.tape_flatness.specs.Scanned.{Below}
use Rattle.tape_flatness.proofs.joined.Given as goal

abbrev pub invariant-loop-word : goal.invariant-loop-word
invariant-loop-word l = Below (l.all + 1) l.tape l.from (l.from + l.word-index)
