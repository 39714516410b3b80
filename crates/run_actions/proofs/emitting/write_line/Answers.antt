-- The fact about `emitting::write_line` that the check is told: the line is pasted over.
use mathlib.Core.Path.{refl}
use lib.ListN.{length}
use Rattle.run_actions.proofs.Laws.Naming.{line-written}
use Rattle.run_actions.proofs.emitting.write_line.Goals as goal

pub returns : goal.returns
returns c = record {
  pastes =
      let a = c.args in
      rw (
        c.put-2.ensures,
        c.after.ensures,
        c.copy_to.ensures,
        c.after-start.ensures,
        c.put.ensures,
        c.after-gap.ensures,
        c.copy_name.ensures.pastes,
      )
      (line-written a.emissions.now a.name.now a.argument.now a.to.0 (length a.name.now) refl
      c.requires.line_in_bounds);
}
