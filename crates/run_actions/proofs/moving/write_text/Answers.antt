-- The facts about `moving::write_text` that the check is told.
use Rattle.run_actions.proofs.Laws.Acting.{text-written}
use Rattle.run_actions.proofs.moving.write_text.Goals as goal

pub returns : goal.returns
returns c = record {
  implements =
      λ action input «record» values frames w. rw (c.after-end.ensures, c.copy_to.ensures)
      (text-written _ _ c.requires.r_in_bounds w c.requires.p_le_q (rw c.room.ensures at c.if-room-text.false));
}
