-- The facts about `nested_call` that the check is told.
use native.Mathlib.Omega.{arith}
use mathlib.Core.Path.{refl, sym, ◌∙◌, ap}
use Rattle.tape_flatness.specs.Scanned.{place_of, out_of_calls}
use Rattle.tape_flatness.proofs.Passing.{outer-stays, scan-ends}
use Rattle.tape_flatness.proofs.Low.{outer-passed}
use Rattle.tape_flatness.proofs.Further.{rest-settled}
use Rattle.tape_flatness.proofs.nested_call.Goals as goal

pub returns-then-settled : goal.returns-then-settled
returns-then-settled c =
    let rest = c.settled.ensures c.if-settled.true in
    c.place_of.ensures ∙ ap place_of (sym (rest-settled _ (λ none. omega arith) _ _ rest) ∙ c.loop-i.invariant)

pub loop-i-preserved : goal.loop-i-preserved
loop-i-preserved c =
    sym (outer-passed c.low_past-i.ensures refl _)
    ∙ sym (outer-stays _ _ c.loop-i-test.true c.word_at.ensures.0 c.opens_call.ensures
    c.if-opens_call.false _)
    ∙ c.loop-i.invariant

pub returns : goal.returns
returns c =
    c.place_of-2.ensures ∙ ap place_of (sym (scan-ends _ _ c.loop-i-test.false (out_of_calls _)) ∙ c.loop-i.invariant)
