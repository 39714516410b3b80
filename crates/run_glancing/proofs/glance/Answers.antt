-- The facts about `glance` that the check is told: no sentence is left, one drops its field, or one is passed over.
use Rattle.run_glancing.proofs.Laws.Sentences.{none_left, passed_over, dropped}
use Rattle.run_glancing.proofs.glance.Goals as goal

pub returns-then-word-eq-UNRECOVERED_END : goal.returns-then-word-eq-UNRECOVERED_END
returns-then-word-eq-UNRECOVERED_END c = none_left _ _ _ _ c.loop-at.invariant c.loop-at-test.true c.if-word-eq-UNRECOVERED_END.true

pub returns-then-drops : goal.returns-then-drops
returns-then-drops c = dropped _ _ _ _ c.loop-at.invariant c.if-drops.ensures

pub loop-at-preserved : goal.loop-at-preserved
loop-at-preserved c =
    rw c.wide.ensures (passed_over _ _ _ _ c.loop-at.invariant c.if-code-at-lt-SENTENCE_HEAD.false c.if-not-is_out.ensures)
