-- The facts about `moving::go` that the check is told.
use mathlib.Core.Path.{sym, ◌∙◌}
use Rattle.run_actions.proofs.Laws.Acting.{goes}
use Rattle.run_actions.proofs.moving.go.Goals as goal

pub returns-in_default : goal.returns-in_default
returns-in_default c = record {
  implements =
      λ output «record» values. rw c.stopped.ensures (goes _ _ c.requires.selection_within.ordered c.requires.selection_within.inside c.args.span.0 _
      (sym c.in_default.is ∙ c.reach.ensures.reaches values));
}

pub returns : goal.returns
returns c = record {
  implements =
      λ output «record» values. goes _ _ c.requires.selection_within.ordered c.requires.selection_within.inside c.args.span.0 _
      (c.in-Ok.ensures.reaches values);
}
