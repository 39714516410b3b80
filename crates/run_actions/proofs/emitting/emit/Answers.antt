-- The fact about `emitting::emit` that the check is told: where there is room, the line is written.
use Prim.Native.Nat.{◌-◌}
use mathlib.Core.Path.{◌≡◌, sym, ap, ◌∙◌}
use lib.ListN.{length}
use Rattle.run_actions.specs.States.{memory}
use Rattle.run_actions.proofs.Laws.Acting.{part-long}
use Rattle.run_actions.proofs.Laws.Lines.{emission-written}
use Rattle.run_actions.proofs.Laws.Naming.{spelled, spelled-long}
use Rattle.run_actions.proofs.emitting.emit.Goals as goal

pub returns : goal.returns
returns c = record {
  implements =
      let a = c.args in
      let p = c.requires in
      let known = sym c.in-Some.ensures.found in
      -- the argument is what is selected, and the name has as many words as it should
      let selected : length c.part-argument.result.now ≡ a.g.q.0 - a.g.p.0 =
      ap length c.part-argument.ensures ∙ part-long a.input.now a.g.p.0 a.g.q.0 p.selection_within.inside in
      let long : length c.in-Some.name.now ≡ a.size =
      ap length c.in-Some.ensures.name ∙ spelled-long a.code.now a.g.at.0 a.size (spelled a.code.now a.g.at.0 a.size known) in
      λ output values frames.
      rw (c.write_line.ensures.pastes, c.new.ensures, long, selected, c.in-Some.ensures.name, c.part-argument.ensures)
      (emission-written a.g (memory a.input.now output a.emissions.now frames values) a.code.now a.size
      p.selection_within.ordered p.selection_within.inside p.emitted_in_bounds known
      (rw selected at c.if-emissions-g.false));
}
