-- What the loop of `put_lines` keeps: to write the lines still to come is to write all from the start.
use Rattle.program_profile.proofs.Lines.{LinesSoFar}
use Rattle.program_profile.proofs.put_lines.Given as goal

abbrev pub invariant-loop-k : goal.invariant-loop-k
invariant-loop-k l = LinesSoFar l.tape l.heads l.counts l.initial.writer l.writer l.k
