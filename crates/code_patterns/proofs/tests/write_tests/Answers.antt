-- The facts about `tests::write_tests` that the check is told.
use mathlib.Core.Path.{refl}
use borrow.Author.Rules.{rules}
use Rattle.code_words.proofs.Laws.Writers.{still_refl}
use native.Mathlib.Omega.{arith}
use Rattle.code_patterns.proofs.tests.write_tests.Goals as goal

pub loop-further-init : goal.loop-further-init
loop-further-init c =
    record {
      so_far =
          record {
            same = still_refl _ _;
            known = refl;
            rest = refl;
            within =
                record {
                  room = search rules;
                  letters = omega arith;
                  offset = omega arith;
                  few = omega arith;
                  next = c.requires.lengths_bound.1;
                  place = omega arith;
                };
            grown = omega arith;
          };
      small = λ h. h;
    }
