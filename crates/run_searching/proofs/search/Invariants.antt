-- The loop invariant of `search`: the search from this place on finds what the search from the first place on finds.
use Prim.Native.Nat.{◌+◌, ◌-◌}
use mathlib.Core.Path.{◌≡◌}
use lib.ListN.{drop}
use Rattle.meaning.specs.Matching.{check_all}
use Rattle.meaning.specs.Matching.{search as searched}
use Rattle.meaning.specs.Packing.{unpack_tests}
use Rattle.run_searching.proofs.search.Given as goal

abbrev pub invariant-loop-place : goal.invariant-loop-place
invariant-loop-place l =
    searched (check_all (unpack_tests l.count (drop l.tests.0 l.code)) l.field) (l.fn.first + l.fn.places - l.place) l.place ≡
    searched (check_all (unpack_tests l.count (drop l.tests.0 l.code)) l.field) l.fn.places l.fn.first
