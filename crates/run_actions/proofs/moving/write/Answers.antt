-- The facts about `moving::write` that the check is told.

use Rattle.run_actions.proofs.moving.write.Goals as goal

pub returns-in-Out : goal.returns-in-Out
returns-in-Out c = record {
  implements =
      let a = c.args in
      λ «record». rw c.in-Out.is (c.write_part.ensures.implements «record» a.values.now a.frames.now);
}

pub returns-in-OutC : goal.returns-in-OutC
returns-in-OutC c = record {
  implements =
      let a = c.args in
      λ «record». rw c.in-OutC.is (c.write_byte.ensures.implements a.input.now «record» a.values.now a.frames.now);
}

pub returns-in-OutV : goal.returns-in-OutV
returns-in-OutV c = record {
  implements =
      let a = c.args in
      λ «record». rw c.in-OutV.is (c.write_value.ensures.implements a.input.now «record»);
}
