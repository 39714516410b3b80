-- The facts about `check_all` that the check is told: what a test says, and where it passes what the tests after it
-- say, is what all of them say.
use mathlib.Core.Path.{◌∙◌}
use Rattle.run_checking.proofs.Laws.Testing.{no-tests, tests-run-out, next-test, refused}
use Rattle.run_checking.proofs.check_all.Goals as goal

pub returns-then-code-at : goal.returns-then-code-at
returns-then-code-at c = rw (tests-run-out _ _ _ _ _ c.loop-left-test.true c.if-code-at.true) at c.loop-left.invariant

pub returns-in_err-check : goal.returns-in_err-check
returns-in_err-check c =
    refused _ c.from_residual.ensures.0 ∙
    rw (next-test _ _ _ _ _ c.loop-left-test.true c.if-code-at.false, ← c.in_err-check.ensures) at c.loop-left.invariant

pub returns-then-not-branch : goal.returns-then-not-branch
returns-then-not-branch c =
    rw (next-test _ _ _ _ _ c.loop-left-test.true c.if-code-at.false, ← c.in_ok-check.ensures, c.if-not-branch.true) at
    c.loop-left.invariant

pub loop-left-preserved : goal.loop-left-preserved
loop-left-preserved c =
    rw (next-test _ _ _ _ _ c.loop-left-test.true c.if-code-at.false, ← c.in_ok-check.ensures, c.if-not-branch.false) at
    c.loop-left.invariant

pub returns : goal.returns
returns c = rw (no-tests _ _ _ _ _ c.loop-left-test.false) at c.loop-left.invariant
