-- The facts about `try_writes` that the check is told: where a word is to be written, the invariant holds; one more is
-- written, or left where it can't be.
use mathlib.Core.Path.{◌≡◌, ◌∙◌}
use Rattle.run_decoding.proofs.Laws.Reading.{actions-at}
use Rattle.run_turns.specs.Turns.{kept_of}
use Rattle.run_turns.proofs.Laws.Statuses.{over-other, over-kept}
use Rattle.run_turns.proofs.Laws.Trying.{acting-on, tries-action, tries-then}
use Rattle.run_turns.proofs.try_writes.Goals as goal

pub write-requires : goal.write-requires
write-requires c =
    let o = c.requires in
    let u = (acting-on _ _ (c.loop-h.invariant.1 o.allowance o.«record» o.acting)).invariant in
    record {
      selection_within = u.ready.room.selection;
      r_in_bounds = u.ready.room.written.below;
      frame_within = u.ready.room.frame;
      held = u.current;
      paired = u.ready.room.values;
    }

pub returns-in_default-write : goal.returns-in_default-write
returns-in_default-write c = record {
  simulates =
      λ allowance «record» a.
      let h = c.loop-h.h in
      let answer = c.write.result in
      let none : kept_of answer h ≡ h = over-kept answer h (over-other answer c.in_default-write.not-Onward) in
      let t = c.loop-h.invariant.1 allowance «record» a in
      rw none at
      (tries-then _ _ t
      (tries-action _ _ _ answer _ c.if-code-at.false
      (actions-at _ _ _ (rw c.in-Write.is at c.decode.ensures) c.if-code-at.false) (rw c.write.auto.output)
      (c.write.ensures.implements «record») (acting-on _ _ t)));
}

pub loop-h-preserved : goal.loop-h-preserved
loop-h-preserved c = (
  c.write.auto.output ∙ c.loop-h.invariant.0,
  λ allowance «record» a.
      let t = c.loop-h.invariant.1 allowance «record» a in
      tries-then _ _ t
      (tries-action _ _ _ _ _ c.if-code-at.false
      (actions-at _ _ _ (rw c.in-Write.is at c.decode.ensures) c.if-code-at.false) (rw c.write.auto.output)
      (rw c.in-Onward.is at (c.write.ensures.implements «record»)) (acting-on _ _ t)),
)
