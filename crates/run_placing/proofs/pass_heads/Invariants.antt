-- The loop invariants and measures of `pass_heads`. The loop's invariant: the tests from here on say what all say, at
-- each place.
use Prim.Native.Nat.{ℕ}
use mathlib.Core.Path.{◌≡◌}
use lib.ListN.{drop}
use Rattle.meaning.specs.Matching.{check_all}
use Rattle.meaning.specs.Packing.{unpack_tests}
use Rattle.run_placing.proofs.pass_heads.Given as goal

abbrev pub invariant-loop-left : goal.invariant-loop-left
invariant-loop-left l =
    (place : ℕ) →
    check_all (unpack_tests l.initial.left (drop l.initial.at l.code)) l.field place ≡
    check_all (unpack_tests l.left (drop l.at l.code)) l.field place

abbrev pub decreases-loop-left : goal.decreases-loop-left
decreases-loop-left l = l.left
