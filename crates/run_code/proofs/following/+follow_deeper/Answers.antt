-- The facts about `following::follow_deeper` that the check is told: the room for all frames begins as the one that was lent
-- (`grown`), and the run goes on there as it would have gone on.
use native.Mathlib.Omega.{arith}
use mathlib.Core.Path.{◌≡◌, ◌∙◌}
use lib.ListN.{length, drop}
use lib.Seq.{take-length}
use Rattle.meaning.specs.Leaving.{max_frames}
use Rattle.run_actions.specs.States.{words_for}
use Rattle.run_code.proofs.Laws.Growing.{Grown, pasted-begins, counts-back, deeper-invariant, deeper-follows}
use Rattle.run_code.proofs.following.+follow_deeper.Goals as goal

pub follow-next-requires : goal.follow-next-requires
follow-next-requires t c = record {
  next_invariant =
      let a = c.args in
      let p = c.requires in
      let grown : Grown a.frames.now c.copy_words.new.to a.values.now c.copy_over.new.to =
      record {
        rest = drop (length a.frames.now) c.all_words-words.result;
        begun = c.copy_words.ensures.leaves ∙ rw (take-length a.frames.now);
        begins = pasted-begins c.all_values-stored.result a.values.now c.copy_over.new.to
            (omega (arith, c.all_values-stored.ensures, p.values_len)) c.copy_over.ensures;
        sized = c.copy_words.auto.to ∙ c.all_words-words.ensures;
        wide = c.copy_over.auto.to ∙ c.all_values-stored.ensures;
      } in
      deeper-invariant grown a.input.now a.output.now a.«record».now a.program.code.now a.program.allowance a.g p.invariant;
}

pub returns-in_default : goal.returns-in_default
returns-in_default t c = record {
  simulates =
      let a = c.args in
      let p = c.requires in
      let grown : Grown a.frames.now c.copy_words.new.to a.values.now c.copy_over.new.to =
      record {
        rest = drop (length a.frames.now) c.all_words-words.result;
        begun = c.copy_words.ensures.leaves ∙ rw (take-length a.frames.now);
        begins = pasted-begins c.all_values-stored.result a.values.now c.copy_over.new.to
            (omega (arith, c.all_values-stored.ensures, p.values_len)) c.copy_over.ensures;
        sized = c.copy_words.auto.to ∙ c.all_words-words.ensures;
        wide = c.copy_over.auto.to ∙ c.all_values-stored.ensures;
      } in
      let whole : length c.follow-next.new.frames ≡ words_for max_frames = c.follow-next.auto.frames ∙ grown.sized in
      let left = c.follow-next.new in
      deeper-follows grown a.input.now a.output.now a.«record».now a.program.code.now a.program.allowance a.g p.invariant c.follow-next.result left.input
      left.output left.«record» left.frames _ left.values whole
      (counts-back a.frames.now _ left.frames c.copy_words-in_default.ensures.leaves (omega (arith, whole)))
      c.follow-next.ensures.simulates;
}
