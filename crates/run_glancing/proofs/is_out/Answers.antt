-- The facts about `is_out` that the check is told: the sentence is tried at the places that its first word leaves.
use native.Mathlib.Omega.{arith}
use Prim.Native.Nat.{◌≤◌, ◌<◌}
use mathlib.Core.Path.{◌∙◌}
use Rattle.meaning.specs.Packing.{metric_in, stores_in, max_stored}
use Rattle.run_matching.proofs.Laws.Sentences.{tried-places}
use Rattle.run_searching.proofs.Laws.Places.{no-places}
use Rattle.run_glancing.proofs.Laws.Sentences.{out-at-each}
use Rattle.run_glancing.proofs.is_out.Goals as goal

pub returns-then-places-eq0 : goal.returns-then-places-eq0
returns-then-places-eq0 c =
    let a = c.args in
    let few = rw c.first.ensures at c.if-first-gt-MAX_STORED.false in
    let none : c.in-Some.places.count ≤ 0 = omega arith in
    tried-places a.counts.0 _ _ (metric_in a.word.0) c.in-Some.places c.in-Some.ensures few ∙ no-places _ _ _ none

pub returns : goal.returns
returns c =
    let a = c.args in
    let few = rw c.first.ensures at c.if-first-gt-MAX_STORED.false in
    let some : 0 < c.in-Some.places.count = omega arith in
    out-at-each c.looks_fail.result _ _ _ _ some (tried-places a.counts.0 _ _ (metric_in a.word.0) c.in-Some.places c.in-Some.ensures few)
    (rw (c.wide.ensures, c.number.ensures) at c.looks_fail.ensures)
