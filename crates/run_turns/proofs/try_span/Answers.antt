-- The facts about `try_span` that the check is told: the word that was found has the number of Go, or of Select, and the
-- instruction is done or left.
use mathlib.Core.Path.{◌≡◌, refl, ap, ◌∙◌}
use Rattle.meaning.specs.Packing.{number_in, go_number, select_number}
use Rattle.run_decoding.specs.declared.Instruction.TheVariants.{Go, Select}
use Rattle.run_decoding.proofs.Laws.Reading.{found-means, found_number}
use Rattle.run_turns.specs.Turns.{span_number}
use Rattle.run_turns.proofs.Laws.Trying.{tries-action}
use Rattle.run_turns.proofs.try_span.Goals as goal

pub returns-in-Go : goal.returns-in-Go
returns-in-Go c = record {
  simulates =
      let taken = rw c.in-Some.is at c.find_word.ensures in
      let numbered : number_in c.in-Some.word.0 ≡ go_number =
      found_number taken ∙ c.number.ensures ∙ ap span_number c.in-Go.is in
      let means = found-means taken (Go c.in-Some.word) (rw numbered) in
      λ allowance output «record» values. rw c.kept.ensures.result
      (tries-action _ _ _ _ _ taken.numbered.within means refl
      (rw taken.after at (c.go.ensures.implements output «record» values)));
}

pub returns-in-Select : goal.returns-in-Select
returns-in-Select c = record {
  simulates =
      let taken = rw c.in-Some.is at c.find_word.ensures in
      let numbered : number_in c.in-Some.word.0 ≡ select_number =
      found_number taken ∙ c.number.ensures ∙ ap span_number c.in-Select.is in
      let means = found-means taken (Select c.in-Some.word) (rw numbered) in
      λ allowance output «record» values. rw c.kept-in-Select.ensures.result
      (tries-action _ _ _ _ _ taken.numbered.within means refl
      (rw taken.after at (c.select.ensures.implements output «record» values)));
}
