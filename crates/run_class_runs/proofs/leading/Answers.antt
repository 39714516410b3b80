-- The facts about `leading` that the check is told: a byte that passes goes on, another one or the end stops.
use native.Mathlib.Omega.{arith}
use mathlib.Core.Path.{sym, ◌∙◌}
use mathlib.Core.Path.{◌≡◌}
use lib.ListN.{length}
use Rattle.run_class_runs.proofs.Laws.Runs.{no_bytes, leads-here, leads-all, leads-on}
use Rattle.run_class_runs.proofs.leading.Goals as goal

pub loop-at-init : goal.loop-at-init
loop-at-init g c = (c.requires, λ test is. no_bytes test c.args.part.now)

pub loop-at-preserved : goal.loop-at-preserved
loop-at-preserved g c = (
  c.loop-at.invariant.0,
  λ test is. leads-on test _ _ c.loop-at-test.true (c.loop-at.invariant.1 test is) (sym (is _ _ c.fits.ensures) ∙ c.if-not-fits.false),
)

pub returns-then-not-fits : goal.returns-then-not-fits
returns-then-not-fits g c = λ test is.
    leads-here test _ _ c.loop-at-test.true (c.loop-at.invariant.1 test is) (sym (is _ _ c.fits.ensures) ∙ c.if-not-fits.true)

pub returns : goal.returns
returns g c = λ test is.
    let all : c.loop-at.at ≡ length c.args.part.now = omega arith in
    rw all at (leads-all test _ _ all (c.loop-at.invariant.1 test is))
