-- The loop invariants and measures of `pattern::measure`. The loop keeps what measuring comes to.
use mathlib.Core.Path.{◌≡◌}
use Prim.Native.Nat.{◌-◌}
use lib.ListN.{length}
use Rattle.code_patterns.specs.Measuring.{InPattern, measuring}
use Rattle.code_patterns.proofs.pattern.measure.Given as goal

abbrev pub invariant-loop-further : goal.invariant-loop-further
invariant-loop-further l = InPattern l.tape l.m × (measuring l.tape l.m ≡ measuring l.tape l.initial.m)

abbrev pub decreases-loop-further : goal.decreases-loop-further
decreases-loop-further l = length l.tape - l.m.next
