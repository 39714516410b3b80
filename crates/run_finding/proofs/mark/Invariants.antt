-- The loop invariant of `mark`: the table of the bytes so far.
use Rattle.run_finding.proofs.Laws.Marking.{Marked}
use Rattle.run_finding.proofs.mark.Given as goal

abbrev pub invariant-loop-byte : goal.invariant-loop-byte
invariant-loop-byte l = Marked l.string l.marks l.unit l.byte-index
