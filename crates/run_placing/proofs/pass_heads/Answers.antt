-- The facts about `pass_heads` that the check is told: a head that passes is passed over, and one that fails, fails
-- all.
use mathlib.Core.Path.{◌∙◌}
use Rattle.run_placing.proofs.Laws.Heads.{head-passes, head-fails}
use Rattle.run_placing.proofs.pass_heads.Goals as goal

pub returns-then-field-offset-2 : goal.returns-then-field-offset-2
returns-then-field-offset-2 c place =
    c.loop-left.invariant place ∙
    head-fails _ _ _ _ _ c.loop-left-test.true c.if-at-code.true c.if-word-ne-LOOK_FROM_START.false (c.wide-offset.ensures ∙ c.second.ensures)
    c.if-field-offset.false (rw c.third.ensures at c.if-field-offset-2.true) place

pub loop-left-preserved : goal.loop-left-preserved
loop-left-preserved c place =
    c.loop-left.invariant place ∙
    head-passes _ _ _ _ _ c.loop-left-test.true c.if-at-code.true c.if-word-ne-LOOK_FROM_START.false (c.wide-offset.ensures ∙ c.second.ensures)
    c.if-field-offset.false (rw c.third.ensures at c.if-field-offset-2.false) place
