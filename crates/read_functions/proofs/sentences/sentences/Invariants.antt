-- The loop invariants and measures of `sentences::sentences`. The sentences from the start are those from here.
use Rattle.read_functions.proofs.Sentencing.{Sentenced}
use Rattle.read_functions.proofs.sentences.sentences.Given as goal

abbrev pub invariant-loop-s : goal.invariant-loop-s
invariant-loop-s l = Sentenced l.text l.initial.tape l.limit l.from l.words l.tape l.at l.to l.left

abbrev pub decreases-loop-s : goal.decreases-loop-s
decreases-loop-s l = l.left
