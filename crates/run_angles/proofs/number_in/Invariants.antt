-- What the loop of `number_in` keeps: the digits so far are read, and make the value.
use Rattle.run_angles.proofs.Reading.{Reads}
use Rattle.run_angles.proofs.number_in.Given as goal

abbrev pub invariant-loop-byte : goal.invariant-loop-byte
invariant-loop-byte l = Reads l.text l.value l.byte-index
