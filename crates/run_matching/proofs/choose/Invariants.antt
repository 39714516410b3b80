-- The loop invariants and measures of `choose`. The loop's invariant: what is chosen from this sentence on is what is
-- chosen from the first on.
use Prim.Native.Nat.{◌-◌}
use mathlib.Core.Path.{◌≡◌}
use lib.ListN.{length}
use Rattle.run_matching.proofs.Laws.Sentences.{choosing}
use Rattle.run_matching.proofs.choose.Given as goal

abbrev pub invariant-loop-at : goal.invariant-loop-at
invariant-loop-at l = choosing l.code l.field l.at ≡ choosing l.code l.field l.initial.at

abbrev pub decreases-loop-at : goal.decreases-loop-at
decreases-loop-at l = length l.code - l.at
