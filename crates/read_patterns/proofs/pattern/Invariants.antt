-- The loop invariants and measures of `pattern`. The pattern from the start is that from here.
use Prim.Native.Nat.{◌-◌}
use lib.ListN.{length}
use Rattle.read_patterns.proofs.Patterned.{Patterned}
use Rattle.read_patterns.proofs.pattern.Given as goal

abbrev pub invariant-loop-next : goal.invariant-loop-next
invariant-loop-next l = Patterned l.text l.initial.tape l.at l.words l.tape l.variables l.p

abbrev pub decreases-loop-next : goal.decreases-loop-next
decreases-loop-next l = length l.text - l.p.at
