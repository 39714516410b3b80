-- The facts about `truth_said` that the check is told.
use Rattle.read_conditions.proofs.Conditioned.{truth-three}
use Rattle.read_conditions.proofs.truth_said.Goals as goal

pub returns : goal.returns
returns c =
    truth-three c.args.text.now c.args.t _ c.in-Quoted.is c.requires c.if-t-end.false
    c.truth_between.ensures
