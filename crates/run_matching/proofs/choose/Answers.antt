-- The facts about `choose` that the check is told: a sentence is chosen or wrong as it was found, and else the choice
-- is made from the next one on.
use Prim.Native.Nat.{◌+◌}
use mathlib.Core.Path.{sym, ◌∙◌}
use lib.ListN.{get_or, drop}
use Rattle.meaning.specs.Packing.{metric_in}
use Rattle.run_matching.proofs.Laws.Sentences.{choosing-past, choosing-end, choosing-cut, choosing-next, tried-few, chooses_refused}
use Rattle.run_matching.proofs.choose.Goals as goal

pub returns-then-number-eq-SENTENCES_END : goal.returns-then-number-eq-SENTENCES_END
returns-then-number-eq-SENTENCES_END c =
    let end = rw c.number.ensures at c.if-number-eq-SENTENCES_END.true in
    record {
      same = rw (choosing-end _ _ _ c.loop-at-test.true end, ← c.operands.ensures, ← c.wide.ensures) at c.loop-at.invariant;
      few = tt;
    }

pub returns-then-code-at-lt-SENTENCE_HEAD : goal.returns-then-code-at-lt-SENTENCE_HEAD
returns-then-code-at-lt-SENTENCE_HEAD c =
    let more = rw c.number.ensures at c.if-number-eq-SENTENCES_END.false in
    record {
      same = rw (choosing-cut _ _ _ c.loop-at-test.true c.if-code-at-lt-SENTENCE_HEAD.true more) at c.loop-at.invariant;
      few = tt;
    }

pub returns-in_err-place : goal.returns-in_err-place
returns-in_err-place c =
    let more = rw c.number.ensures at c.if-number-eq-SENTENCES_END.false in
    chooses_refused _ _ _ c.from_residual.ensures.0
    (rw (choosing-next _ _ _ c.if-code-at-lt-SENTENCE_HEAD.false more, ← c.in_err-place.ensures) at c.loop-at.invariant)

pub returns-in-Some : goal.returns-in-Some
returns-in-Some c =
    let at = c.loop-at.at in
    let words = c.args.code.now in
    let more = rw c.number.ensures at c.if-number-eq-SENTENCES_END.false in
    let found = rw c.in-Some.is at c.in_ok-place.ensures in
    let chosen = rw (choosing-next _ _ _ c.if-code-at-lt-SENTENCE_HEAD.false more, ← found) at c.loop-at.invariant in
    let tests = c.wide-in-Some.ensures ∙ c.number-in-Some.ensures in
    let stores = c.wide-in-Some-2.ensures ∙ c.first.ensures in
    record {
      same = rw (← tests, ← stores) at chosen;
      few = rw stores (tried-few _ (drop (at + 2) words) c.args.field.now (metric_in (get_or words at 0)) _ found);
    }

pub loop-at-preserved : goal.loop-at-preserved
loop-at-preserved c =
    let more = rw c.number.ensures at c.if-number-eq-SENTENCES_END.false in
    let found = rw c.in_default.is at c.in_ok-place.ensures in
    let next = rw (choosing-next _ _ _ c.if-code-at-lt-SENTENCE_HEAD.false more, ← found) at c.loop-at.invariant in
    rw (← c.wide-in-loop-at.ensures) at next

pub returns : goal.returns
returns c = record { same = rw (choosing-past _ _ _ c.loop-at-test.false) at c.loop-at.invariant; few = tt }
