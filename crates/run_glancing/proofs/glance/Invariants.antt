-- The loop invariants and measures of `glance`. The loop's invariant: the choice from this sentence on is the choice
-- from the first on.
use Prim.Native.Nat.{◌-◌}
use lib.ListN.{length}
use Rattle.run_glancing.proofs.Laws.Sentences.{ChoiceKept}
use Rattle.run_glancing.proofs.glance.Given as goal

abbrev pub invariant-loop-at : goal.invariant-loop-at
invariant-loop-at l = ChoiceKept l.code l.field l.initial.at l.at

abbrev pub decreases-loop-at : goal.decreases-loop-at
decreases-loop-at l = length l.code - l.at
