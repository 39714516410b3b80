-- The loop invariants and measures of `tests::write_tests`. The loop keeps what the tests written and those still to come amount to.
use Prim.Native.Nat.{◌-◌}
use Rattle.code_patterns.proofs.Laws.Tested.{SmallTestsSoFar}
use lib.ListN.{length}
use Rattle.code_patterns.proofs.tests.write_tests.Given as goal

abbrev pub invariant-loop-further : goal.invariant-loop-further
invariant-loop-further l = SmallTestsSoFar l.tape l.lengths l.start l.initial.symbols l.initial.code l.symbols l.code l.t

abbrev pub decreases-loop-further : goal.decreases-loop-further
decreases-loop-further l = length l.tape - l.t.next
