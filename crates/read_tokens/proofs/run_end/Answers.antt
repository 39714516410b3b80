-- The facts about `run_end` that the check is told.
use mathlib.Core.Path.{sym, ◌∙◌}
use native.Mathlib.Omega.{arith}
use Rattle.read_tokens.proofs.Words.{run-goes, run-stops, run_ends}
use Rattle.read_tokens.proofs.run_end.Goals as goal

pub returns-then-not-fits : goal.returns-then-not-fits
returns-then-not-fits g c = λ test is. run-stops _ _ _ _
    (record {
      running = c.loop-at.invariant.1 test is;
      inside = c.loop-at-test.true;
      class = sym (is _ _ c.fits.ensures) ∙ c.if-not-fits.true;
    })

pub loop-at-preserved : goal.loop-at-preserved
loop-at-preserved g c = (
  c.loop-at.invariant.0,
  λ test is. run-goes _ _ _ _
      (record {
        running = c.loop-at.invariant.1 test is;
        inside = c.loop-at-test.true;
        class = sym (is _ _ c.fits.ensures) ∙ c.if-not-fits.false;
      }),
)

pub returns : goal.returns
returns g c = λ test is. run_ends _ _ _ _ c.loop-at-test.false (omega (arith, c.requires.1, c.loop-at.auto.at-end)) (c.loop-at.invariant.1 test is)
