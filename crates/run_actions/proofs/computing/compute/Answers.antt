-- The facts about `computing::compute` that the check is told.
use native.Mathlib.Nat.{sub-zero}
use Prim.Native.Nat.{◌-◌}
use lib.ListN.{take, drop}
use Rattle.meaning.specs.Angles.{angled}
use Rattle.code_numbers.specs.Operations.{operation_meant}
use Rattle.meaning.specs.Instructions.{compute}
use Rattle.run_actions.specs.States.{memory}
use Rattle.run_actions.proofs.Laws.Computing.{result-writes, Given, given}
use Rattle.run_actions.proofs.computing.compute.Goals as goal

pub slice_bounds-write_text-end : goal.slice_bounds-write_text-end
slice_bounds-write_text-end c =
    let a = c.args in
    let handed : Given (angled (operation_meant a.operation) (take (a.g.q.0 - a.g.p.0) (drop a.g.p.0 a.input.now))) c.in-Ok.count
    c.compute_angles.new.res = given _ _ (rw c.part-argument.ensures at c.in-Ok.ensures) in
    handed.within

pub returns-in-Ok : goal.returns-in-Ok
returns-in-Ok c = record {
  implements =
      let a = c.args in
      -- a result's bytes stand first in the lent ones
      let handed : Given (angled (operation_meant a.operation) (take (a.g.q.0 - a.g.p.0) (drop a.g.p.0 a.input.now))) c.in-Ok.count
      c.compute_angles.new.res = given _ _ (rw c.part-argument.ensures at c.in-Ok.ensures) in
      λ «record» values frames. c.write_text.ensures.implements (compute (operation_meant a.operation)) a.input.now «record» values frames
      (result-writes a.g (memory a.input.now a.output.now «record» frames values) (operation_meant a.operation)
      (rw sub-zero handed.same));
}
