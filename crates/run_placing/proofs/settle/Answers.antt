-- The facts about `settle` that the check is told: a test and those after it are all that are still to come, and it
-- is kept or narrows the range.
use native.Mathlib.Omega.{arith}
use mathlib.Core.Path.{refl, sym, ◌∙◌}
use lib.ListN.{length-set}
use Rattle.run_checking.proofs.Laws.Testing.{no-tests, next-test}
use Rattle.run_searching.proofs.Laws.Places.{no-places}
use Rattle.run_placing.proofs.Laws.Settling.{kept_more, reached-first, reached-last, reached-kept, reached-narrowed}
use Rattle.run_placing.proofs.settle.Goals as goal

pub loop-left-init : goal.loop-left-init
loop-left-init c = (reached-first _ _ _ _ (λ p. no-tests _ p _ 0 0 (omega arith)), refl)

pub loop-left-preserved-in-Kept : goal.loop-left-preserved-in-Kept
loop-left-preserved-in-Kept c = (
  reached-kept _ _ _ _ _ _ _ c.loop-left.invariant.0 _ _ (λ p. next-test _ p _ _ _ c.loop-left-test.true c.if-code-at.false) _
      (λ p. kept_more _ _ _ _ p c.if-kept-size.false) (rw c.in-Kept.is at c.in_ok-sift.ensures),
  simp length-set c.loop-left.invariant.1,
)

pub loop-left-preserved : goal.loop-left-preserved
loop-left-preserved c = (
  reached-narrowed _ _ _ _ _ _ _ c.loop-left.invariant.0 _ _ (λ p. next-test _ p _ _ _ c.loop-left-test.true c.if-code-at.false) _ _
      (rw c.in-Among.is at c.in_ok-sift.ensures),
  c.loop-left.invariant.1,
)

pub returns-else-among-gt0 : goal.returns-else-among-gt0
returns-else-among-gt0 c =
    let r = c.loop-left.invariant.0 in
    record {
      same = no-places _ _ _ c.if-among-gt0.false ∙ sym (no-places _ _ _ c.if-among-gt0.false) ∙ r.same;
      inside = r.inside;
    }

pub returns-after-loop-left : goal.returns-after-loop-left
returns-after-loop-left c =
    let r = c.loop-left.invariant.0 in
    let a = c.args in
    record {
      same = reached-last _ _ _ _ _ _ _ r (λ p. no-tests a.field.now p a.code.now c.loop-left.at _ c.loop-left-test.false);
      inside = r.inside;
    }
