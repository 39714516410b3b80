-- The facts about `search` that the check is told: what the tests at a place say, and where they fail what is found
-- from the next one on, is what is found.
use native.Mathlib.Omega.{arith}
use Prim.Native.Nat.{◌+◌, ◌-◌, ◌≤◌}
use mathlib.Core.Path.{◌∙◌}
use Rattle.run_searching.proofs.Laws.Places.{no-places, range_next, search_refused}
use Rattle.run_searching.proofs.search.Goals as goal

pub returns-in_err-check_all : goal.returns-in_err-check_all
returns-in_err-check_all c =
    search_refused _ c.from_residual.ensures.0 ∙
    rw (range_next _ _ _ c.loop-place-test.true, ← c.in_err-check_all.ensures) at c.loop-place.invariant

pub returns-then-branch : goal.returns-then-branch
returns-then-branch c =
    rw (range_next _ _ _ c.loop-place-test.true, ← c.in_ok-check_all.ensures, c.if-branch.true) at c.loop-place.invariant

pub loop-place-preserved : goal.loop-place-preserved
loop-place-preserved c =
    rw (range_next _ _ _ c.loop-place-test.true, ← c.in_ok-check_all.ensures, c.if-branch.false) at c.loop-place.invariant

pub returns : goal.returns
returns c =
    let none : c.args.first + c.args.places - c.loop-place.place ≤ 0 = omega arith in
    rw (no-places _ _ _ none) at c.loop-place.invariant
