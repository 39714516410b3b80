-- The fact about `try_begin` that the check is told: a sequence that is opened is BeginSeq done.
use mathlib.Core.Path.{refl}
use Rattle.run_decoding.specs.declared.Instruction.TheVariants.{BeginSeq}
use Rattle.run_decoding.proofs.Laws.Reading.{found-means, found_number}
use Rattle.run_actions.specs.declared.registers.Next.TheVariants.{Onward}
use Rattle.run_actions.specs.States.{memory}
use Rattle.run_actions.proofs.Laws.Sequences.{begin-kept}
use Rattle.run_turns.specs.Turns.{stepped}
use Rattle.run_turns.proofs.Laws.Trying.{tries-action}
use Rattle.run_turns.proofs.try_begin.Goals as goal

pub returns-then-open_sequence : goal.returns-then-open_sequence
returns-then-open_sequence c = record {
  simulates =
      let a = c.args in
      let taken = rw c.in-Some.is at c.find_word.ensures in
      let opened = rw c.if-open_sequence.true at c.open_sequence.ensures.opens in
      λ allowance input output «record» values acting. rw (taken.after, opened.1)
      (tries-action _ _ _ (Onward (stepped a.g)) _ taken.numbered.within (found-means taken BeginSeq (rw (found_number taken))) refl
      (begin-kept (stepped a.g) (memory input output «record» a.frames.now values) c.requires.frame_within.frame_room
      acting.invariant.ready.room.written.below opened.0) acting);
}
