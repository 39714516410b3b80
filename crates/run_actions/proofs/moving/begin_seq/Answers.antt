-- The facts about `moving::begin_seq` that the check is told.
use Rattle.run_actions.specs.States.{memory}
use Rattle.run_actions.proofs.Laws.Sequences.{begin-many, begin-kept}
use Rattle.run_actions.proofs.moving.begin_seq.Goals as goal

pub returns-then-not-open_sequence : goal.returns-then-not-open_sequence
returns-then-not-open_sequence c = record {
  implements =
      let a = c.args in
      let p = c.requires in
      let full = rw c.if-not-open_sequence.true at c.open_sequence.ensures.opens in
      λ input output «record» values r≤out. rw (c.stopped.ensures, full.1)
      (begin-many a.g (memory input output «record» a.frames.now values) p.frame_within.frame_room
      p.held.opened full.0);
}

pub returns : goal.returns
returns c = record {
  implements =
      let a = c.args in
      let p = c.requires in
      let opened = rw c.if-not-open_sequence.false at c.open_sequence.ensures.opens in
      λ input output «record» values r≤out. rw opened.1
      (begin-kept a.g (memory input output «record» a.frames.now values) p.frame_within.frame_room
      r≤out opened.0);
}
