-- The facts about `expressions::join_part` that the check is told.
use native.Mathlib.Omega.{arith}
use Rattle.read_bookkeeping.specs.Items.{part_spans}
use Rattle.read_functions.proofs.Joining.{from-on, Sought, part-unknown, part-few, part-joined}
use Rattle.read_functions.proofs.expressions.join_part.Goals.{After-find}
use Rattle.read_functions.proofs.expressions.join_part.Goals as goal

sought-here : (c : After-find) → let a = c.args in Sought a.text.now a.v.now a.s a.x c.find.result
sought-here c =
    record {
      here = c.requires;
      few = c.if-s-ge-MAX_ITEMS.false;
      brief = c.if-x-gt-MAX_IDENTIFIER.false;
      found = rw (c.parts.ensures, from-on c.args.s.passed (part_spans c.args.v.now)) at c.find.ensures;
    }

pub returns-in_default : goal.returns-in_default
returns-in_default c =
    rw c.fault_at-in_default.ensures (part-unknown _ (sought-here (goal.at.returns-in_default c).After-find) c.in_default.is)

pub overflow_add-passed : goal.overflow_add-passed
overflow_add-passed c = omega (arith, part-few 0 (sought-here (goal.at.overflow_add-passed c).After-find) c.in-Some.is)

pub overflow_add-passed-2 : goal.overflow_add-passed-2
overflow_add-passed-2 c = omega (arith, part-few 0 (sought-here (goal.at.overflow_add-passed-2 c).After-find) c.in-Some.is)

pub returns : goal.returns
returns c = part-joined _ (sought-here (goal.at.returns c).After-find) c.in-Some.is c.take_variable.ensures
