-- The loop invariants and measures of `check_all`. The loop's invariant: the tests from here on say what those from
-- the first on say.
use mathlib.Core.Path.{◌≡◌}
use Rattle.run_checking.proofs.Laws.Testing.{testing}
use Rattle.run_checking.proofs.check_all.Given as goal

abbrev pub invariant-loop-left : goal.invariant-loop-left
invariant-loop-left l = testing l.field l.place l.code l.at l.left ≡ testing l.field l.place l.code l.initial.at l.initial.left

abbrev pub decreases-loop-left : goal.decreases-loop-left
decreases-loop-left l = l.left
