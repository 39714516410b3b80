-- The facts about `find_place` that the check is told: of no places none is found, one Look is scanned for, and after
-- the head the tests that are left decide.
use native.Mathlib.Omega.{arith}
use Prim.Native.Nat.{◌≤◌}
use mathlib.Core.Path.{sym, ◌∙◌}
use Rattle.run_checking.proofs.Laws.Testing.{no-tests}
use Rattle.run_searching.proofs.Laws.Places.{no-places, search-none, search-first}
use Rattle.run_searching.proofs.Laws.Scanning.{scanned}
use Rattle.run_placing.proofs.find_place.Goals as goal

pub returns-then-places-eq0 : goal.returns-then-places-eq0
returns-then-places-eq0 c = sym (no-places _ _ _ (omega arith))

pub returns-then-looks_once : goal.returns-then-looks_once
returns-then-looks_once c =
    let a = c.args in
    scanned a.field.now a.code.now a.tests.0 a.count _ _ a.places a.first _ c.if-looks_once.ensures c.scan.ensures

pub returns-in_default : goal.returns-in_default
returns-in_default c = sym (search-none _ _ _ (λ p h h'. c.in_default.ensures p))

pub returns-then-left-eq0 : goal.returns-then-left-eq0
returns-then-left-eq0 c =
    let a = c.args in
    let none : c.in-Some.left ≤ 0 = omega arith in
    sym (search-first _ _ _ (omega arith)
    (c.in-Some.ensures a.first ∙ no-tests a.field.now a.first a.code.now c.in-Some.rest.0 _ none))
