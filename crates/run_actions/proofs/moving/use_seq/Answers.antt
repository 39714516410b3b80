-- The facts about `moving::use_seq` that the check is told.
use Prim.Native.Nat.{◌-◌, min}
use mathlib.Core.Path.{◌≡◌, ap}
use Rattle.run_cells.specs.Places.{place}
use Rattle.run_actions.specs.States.{memory, frame_word}
use Rattle.run_actions.proofs.Laws.Sequences.{begins-before, use-full, use-moved}
use Rattle.run_actions.proofs.moving.use_seq.Goals as goal

pub returns-then-count_before-until : goal.returns-then-count_before-until
returns-then-count_before-until c = record {
  implements =
      let a = c.args in
      let p = c.requires in
      let start = min (frame_word a.g.frame (24 - frame_word a.g.frame 5 a.frames.now) a.frames.now) a.g.r.0 in
      let first : c.earlier-first.result.0 ≡ start =
      rw (c.sequence_start.ensures.result, c.open_sequences-opened.ensures.result) at c.earlier-first.ensures in
      λ «record» values. rw c.stopped-then-count_before-until.ensures
      (use-full _ (memory a.input.now a.output.now «record» a.frames.now values) p.frame_within.frame_room
      (record {
        p≤q = p.selection_within.ordered;
        q≤in = p.selection_within.inside;
        r≤out = p.r_in_bounds;
        few = p.held.opened;
      })
      (rw c.open_sequences-opened.ensures.result at c.if-opened-eq0.false)
      (rw (c.count_before.ensures, c.until.ensures, first) at c.if-count_before-until.true));
}

pub returns : goal.returns
returns c = record {
  implements =
      let a = c.args in
      let p = c.requires in
      let start = min (frame_word a.g.frame (24 - frame_word a.g.frame 5 a.frames.now) a.frames.now) a.g.r.0 in
      let first : c.earlier-first.result.0 ≡ start =
      rw (c.sequence_start.ensures.result, c.open_sequences-opened.ensures.result) at c.earlier-first.ensures in
      let first_cell : c.earlier-first.result ≡ place start = ap (λ cell. place cell) first in
      let cells = rw first at c.move_down-start.ensures.input_after in
      let room = rw (c.count_before.ensures, c.until.ensures, first) at c.if-count_before-until.false in
      let begins = begins-before _ _ _ (rw first at (ap (λ cell. cell.0) c.move_down-start.ensures.value)) room in
      λ «record» values. rw (c.set_open_sequences.ensures.leaves, c.open_sequences-opened.ensures.result, first_cell)
      (use-moved _ (memory a.input.now a.output.now «record» a.frames.now values) p.frame_within.frame_room
      (record {
        p≤q = p.selection_within.ordered;
        q≤in = p.selection_within.inside;
        r≤out = p.r_in_bounds;
        few = p.held.opened;
      })
      _ _ begins cells (rw c.open_sequences-opened.ensures.result at c.if-opened-eq0.false)
      c.move_down-start.auto.input);
}
