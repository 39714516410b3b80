-- The facts about `store_values` that the check is told.
use mathlib.Core.Path.{sym, ◌∙◌, ap}
use Rattle.run_code_places.specs.Options.{option_meant}
use Rattle.run_applications.proofs.Laws.Storing.{storing-cut, storing-wrong, storing-next, storing-done}
use Rattle.run_applications.proofs.store_values.Goals as goal

pub returns-then-code-at : goal.returns-then-code-at
returns-then-code-at c = record {
  stores = storing-cut _ _ _ _ _ _ _ _ _ _ c.loop-i.invariant c.loop-i-test.true c.if-code-at.true;
}

pub returns-in_default : goal.returns-in_default
returns-in_default c = record {
  stores =
      storing-wrong _ _ _ _ _ _ _ _ _ _ c.loop-i.invariant c.loop-i-test.true c.if-code-at.false
      (sym c.stored_cell.ensures ∙ ap option_meant c.in_default.is);
}

pub loop-i-preserved : goal.loop-i-preserved
loop-i-preserved c =
    storing-next _ _ _ _ _ _ _ _ _ _ c.loop-i.invariant _ c.loop-i-test.true c.requires c.if-code-at.false
    (sym c.stored_cell.ensures ∙ ap option_meant c.in-Some.is)

pub returns : goal.returns
returns c = record {
  stores = storing-done _ _ _ _ _ _ _ _ _ _ c.loop-i.invariant c.loop-i-test.false;
}
