-- The fact about `try_use` that the check is told: UseSeq is done where it comes next.
use Rattle.run_decoding.specs.declared.Instruction.TheVariants.{UseSeq}
use Rattle.run_decoding.proofs.Laws.Reading.{found-means, found_number}
use Rattle.run_turns.proofs.Laws.Trying.{uses-action}
use Rattle.run_turns.proofs.try_use.Goals as goal

pub returns : goal.returns
returns c = record {
  simulates =
      let taken = rw c.in-Some.is at c.find_word.ensures in
      λ allowance «record» values. uses-action _ _ _ _ _ taken.numbered.within (found-means taken UseSeq (rw (found_number taken)))
      (rw c.use_seq.auto.input) (rw taken.after at (c.use_seq.ensures.implements «record» values));
}
