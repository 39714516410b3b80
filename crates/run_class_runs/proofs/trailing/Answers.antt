-- The facts about `trailing` that the check is told: a byte that passes goes on, another one or the beginning stops.
use native.Mathlib.Omega.{arith}
use Prim.Native.Nat.{◌+◌, ◌-◌}
use mathlib.Core.Path.{◌≡◌, sym, ◌∙◌}
use lib.ListN.{length}
use Rattle.run_class_runs.proofs.Laws.Runs.{every-past, trails-here, trails-all, trails-on}
use Rattle.run_class_runs.proofs.trailing.Goals as goal

pub loop-at-init : goal.loop-at-init
loop-at-init g c = let part = c.args.part.now in (c.requires, λ test is. every-past test part (length part) (omega arith))

pub loop-at-preserved : goal.loop-at-preserved
loop-at-preserved g c = (
  c.loop-at.invariant.0,
  λ test is. trails-on test _ _ c.loop-at-test.true c.loop-at.auto.at (c.loop-at.invariant.1 test is)
      (sym (is _ _ c.fits.ensures) ∙ c.if-not-fits.false),
)

pub returns-then-not-fits : goal.returns-then-not-fits
returns-then-not-fits g c = λ test is.
    let after : c.loop-at.at - 1 + 1 ≡ c.loop-at.at = omega arith in
    rw after (trails-here test _ _ c.loop-at-test.true c.loop-at.auto.at (c.loop-at.invariant.1 test is)
    (sym (is _ _ c.fits.ensures) ∙ c.if-not-fits.true))

pub returns : goal.returns
returns g c = λ test is.
    let all : c.loop-at.at ≡ 0 = omega arith in
    rw all at (trails-all test _ _ all (c.loop-at.invariant.1 test is))
