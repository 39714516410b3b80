-- The facts about `apply` that the check is told: what is required where a sentence is chosen, and what follows from each
-- choice. In each, `may` says that a step is left for a function that is declared, and `meant` which sentence is meant.
use mathlib.Core.Path.{ap, ◌∙◌}
use lib.ListN.{get_or, drop}
use Rattle.meaning.specs.Packing.{unpack_sentences}
use Rattle.meaning.specs.Matching.{choose_from}
use Rattle.run_applications.proofs.Laws.Calling.{Payable, apply-spent, apply-starts, apply-recovers, apply-wrong}
use Rattle.run_applications.proofs.apply.Goals as goal

pub returns-then-allowed-steps : goal.returns-then-allowed-steps
returns-then-allowed-steps c = record { simulates = λ output «record». rw c.stopped.ensures (apply-spent _ _ _ _ _ c.if-allowed-steps.true) }

pub start_sentence-requires-clause-paired : goal.start_sentence-requires-clause-paired
start_sentence-requires-clause-paired c = rw c.count_application.auto.frames c.requires.paired

pub returns-in-Ok-Sentence : goal.returns-in-Ok-Sentence
returns-in-Ok-Sentence c = record {
  simulates =
      let a = c.args in
      let p = c.requires in
      let may : Payable a.program.code.now a.program.allowance a.number a.g =
      record { counted = a.program.counted; positive = p.number_nonzero; within = p.number_bound; left = c.if-allowed-steps.false } in
      let meant = (rw (c.wide.ensures, c.in-Ok-Sentence.is, c.in-Ok-Sentence.field-0-is) at c.choose.ensures).same ∙
      ap (choose_from (unpack_sentences 0 (drop (get_or a.program.code.now a.number 0) a.program.code.now))) c.part-field.ensures in
      λ output «record». apply-starts _ _ _ _ _ may c.in-Ok-Sentence.place c.in-Ok-Sentence.stores.0 c.in-Ok-Sentence.stored _ _
      c.count_application.ensures.leaves meant (c.start_sentence.ensures.simulates _ output «record»);
}

pub returns-in-Ok-Nothing : goal.returns-in-Ok-Nothing
returns-in-Ok-Nothing c = record {
  simulates =
      let a = c.args in
      let p = c.requires in
      let may : Payable a.program.code.now a.program.allowance a.number a.g =
      record { counted = a.program.counted; positive = p.number_nonzero; within = p.number_bound; left = c.if-allowed-steps.false } in
      let meant = (rw (c.wide.ensures, c.in-Ok-Nothing.is, c.in-Ok-Nothing.field-0-is) at c.choose.ensures).same ∙
      ap (choose_from (unpack_sentences 0 (drop (get_or a.program.code.now a.number 0) a.program.code.now))) c.part-field.ensures in
      λ output «record». rw (c.count_application.ensures.leaves, c.recover.ensures.result)
      (apply-recovers _ _ _ _ _ may c.in-Ok-Nothing.recoverer meant);
}

pub returns-in-Err : goal.returns-in-Err
returns-in-Err c = record {
  simulates =
      let a = c.args in
      let p = c.requires in
      let may : Payable a.program.code.now a.program.allowance a.number a.g =
      record { counted = a.program.counted; positive = p.number_nonzero; within = p.number_bound; left = c.if-allowed-steps.false } in
      let meant = (rw (c.wide.ensures, c.in-Err.is) at c.choose.ensures).same ∙
      ap (choose_from (unpack_sentences 0 (drop (get_or a.program.code.now a.number 0) a.program.code.now))) c.part-field.ensures in
      λ output «record». rw (c.stopped-in-Err.ensures, c.count_application.ensures.leaves) (apply-wrong _ _ _ _ _ may meant);
}
