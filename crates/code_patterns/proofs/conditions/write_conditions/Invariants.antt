-- The loop invariants and measures of `conditions::write_conditions`. The loop keeps what the conditions written and those still to come amount to.
use Prim.Native.Nat.{◌-◌}
use lib.ListN.{length}
use Rattle.code_patterns.specs.Conditioning.{located}
use Rattle.code_patterns.proofs.Laws.Conditioned.{ConditionsSoFar}
use Rattle.code_patterns.proofs.conditions.write_conditions.Given as goal

abbrev pub invariant-loop-m : goal.invariant-loop-m
invariant-loop-m l = ConditionsSoFar l.tape (located l.tape l.m l.symbols) l.start l.initial.code l.code l.c

abbrev pub decreases-loop-m : goal.decreases-loop-m
decreases-loop-m l = length l.tape - l.c.next
