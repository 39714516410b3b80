-- The loop invariant of `write_sentences`: it keeps what the sentences written and those still to come amount to.
use Rattle.code_sentences.proofs.Sentenced.{SentencesSoFar}
use Rattle.code_sentences.proofs.write_sentences.Given as goal

abbrev pub invariant-loop-count : goal.invariant-loop-count
invariant-loop-count l = SentencesSoFar l.tape l.heads l.start l.initial.code l.code l._count l.next
