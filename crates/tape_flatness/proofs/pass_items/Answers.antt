-- The facts about `pass_items` that the check is told.
use native.Mathlib.Omega.{arith}
use mathlib.Core.Path.{refl, ◌∙◌}
use Rattle.tape_flatness.proofs.Low.{low-passed}
use Rattle.tape_flatness.proofs.Passing.{inner-opens, closes_here, inner-closes, stays_here, argument-ends}
use Rattle.tape_flatness.proofs.pass_items.Goals as goal

pub returns-then-more-eq0 : goal.returns-then-more-eq0
returns-then-more-eq0 c =
    let inv = c.loop-i.invariant in (
      omega (arith, inv.0),
      λ p. inv.2 p ∙ rw c.if-more-eq0.true
          (closes_here _ _ c.loop-i-test.true c.word_at-word.ensures.0 c.if-word-eq-CLOSE_WORD.true _),
    )

pub loop-i-preserved-then-word-eq-CLOSE_WORD : goal.loop-i-preserved-then-word-eq-CLOSE_WORD
loop-i-preserved-then-word-eq-CLOSE_WORD c =
    let inv = c.loop-i.invariant in (
      omega (arith, inv.0),
      omega (arith, inv.1),
      λ p. inv.2 p
          ∙ inner-closes _ _ c.loop-i-test.true c.word_at-word.ensures.0 c.if-word-eq-CLOSE_WORD.true _ c.if-more-eq0.false p _,
    )

pub loop-i-preserved-then-opens_call : goal.loop-i-preserved-then-opens_call
loop-i-preserved-then-opens_call c =
    let inv = c.loop-i.invariant in
    let far = c.name_end-i.ensures in (
      omega (arith, far, inv.0),
      omega (arith, far, inv.1),
      λ p. inv.2 p
          ∙ inner-opens _ _ c.loop-i-test.true c.word_at-word.ensures.0 c.opens_call.ensures
          c.if-opens_call.true far c.declared_call.ensures _ c.earlier-found.ensures _ p,
    )

pub loop-i-preserved : goal.loop-i-preserved
loop-i-preserved c =
    let inv = c.loop-i.invariant in
    let low = c.low_past-i.ensures in (
      omega (arith, low.onward, inv.0),
      omega (arith, low.onward, inv.1),
      λ p. inv.2 p
          ∙ stays_here _ _ c.loop-i-test.true c.word_at-word.ensures.0 c.opens_call.ensures
          c.if-opens_call.false c.if-word-eq-CLOSE_WORD.false _
          ∙ low-passed low refl _,
    )

pub returns : goal.returns
returns c =
    let inv = c.loop-i.invariant in
    (inv.0, λ p. inv.2 p ∙ argument-ends _ _ c.loop-i-test.false _ p _)
