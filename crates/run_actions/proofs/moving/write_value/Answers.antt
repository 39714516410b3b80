-- The facts about `moving::write_value` that the check is told.
use native.Mathlib.Omega.{arith}
use Rattle.run_actions.proofs.Laws.Acting.{value_none, value_written}
use Rattle.run_actions.proofs.moving.write_value.Goals as goal

pub returns-then-stored_values-index : goal.returns-then-stored_values-index
returns-then-stored_values-index c = record {
  implements =
      let a = c.args in
      λ input «record». rw c.stopped.ensures (value_none _ _ a.index (rw c.stored_values.ensures.result at c.if-stored_values-index.true));
}

pub bounds-values-g : goal.bounds-values-g
bounds-values-g c =
    let p = c.requires in
    omega (arith, p.paired c.args.g.frame p.frame_within.frame_room, p.held.stored, c.stored_values.ensures.result, c.if-stored_values-index.false)

pub returns : goal.returns
returns c = record {
  implements =
      let a = c.args in
      let p = c.requires in
      λ input «record». value_written _ _ a.index _ _ (rw c.stored_values.ensures.result at c.if-stored_values-index.false) p.held.stored
      (p.paired _ p.frame_within.frame_room)
      (c.write_byte.ensures.implements input «record» a.values.now a.frames.now);
}
