-- The loop invariants and measures of `settle`. The loop's invariant: the tests that are kept and those to come say
-- what all tests say, in a range that finds the same.
use mathlib.Core.Path.{◌≡◌}
use lib.ListN.{length, drop}
use Rattle.meaning.specs.Matching.{check_all}
use Rattle.meaning.specs.Packing.{unpack_tests}
use Rattle.run_placing.proofs.Laws.Settling.{Reached}
use Rattle.run_placing.proofs.settle.Given as goal

abbrev pub invariant-loop-left : goal.invariant-loop-left
invariant-loop-left l =
    Reached (check_all (unpack_tests l.initial.left (drop l.initial.at l.code)) l.field)
    (check_all (unpack_tests l.size l.kept) l.field)
    (check_all (unpack_tests l.left (drop l.at l.code)) l.field)
    l.initial.among.first l.initial.among.count l.among.first l.among.count ×
    (length l.kept ≡ length l.initial.kept)

abbrev pub decreases-loop-left : goal.decreases-loop-left
decreases-loop-left l = l.left
