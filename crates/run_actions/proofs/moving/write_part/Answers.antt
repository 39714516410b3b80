-- The facts about `moving::write_part` that the check is told.
use Rattle.meaning.specs.Instructions.{out}
use Rattle.run_actions.specs.States.{memory}
use Rattle.run_actions.proofs.Laws.Acting.{part-writes}
use Rattle.run_actions.proofs.moving.write_part.Goals as goal

pub returns : goal.returns
returns c = record {
  implements =
      let a = c.args in
      λ «record» values frames. c.write_text.ensures.implements out a.input.now «record» values frames
      (rw c.part.ensures (part-writes a.g (memory a.input.now a.output.now «record» frames values) c.requires.selection_within.inside));
}
