-- The facts about `expression::write_expression` that the check is told.
use Rattle.code_expressions.specs.Resuming.{resume, open_names}
use native.Mathlib.Omega.{arith}
use mathlib.Core.Path.{refl}
use Rattle.code_words.proofs.Laws.Writers.{still_refl}
use Rattle.code_expressions.proofs.Laws.Itemised.{items-go-on, items-all}
use Rattle.code_expressions.proofs.expression.write_expression.Goals as goal

pub loop-walk-init : goal.loop-walk-init
unfolding resume open_names
loop-walk-init c =
    record {
      same = λ t s ss means. still_refl _ _;
      rest = refl;
      within =
          record {
            room = refl;
            opened = λ k h. absurd (omega arith);
            depth = omega arith;
            items = omega arith;
            next = c.requires.3;
          };
      grown = omega arith;
    }

pub loop-walk-preserved : goal.loop-walk-preserved
loop-walk-preserved c = items-go-on c.loop-walk.invariant c.loop-walk-test.true c.write_item-walk.ensures

pub returns : goal.returns
returns c = items-all c.loop-walk.invariant c.loop-walk-test.false
