-- What the loop of `place_of` keeps: the byte is to be sought from here on.
use Rattle.run_angles.proofs.Reading.{Seeks}
use Rattle.run_angles.proofs.place_of.Given as goal

abbrev pub invariant-loop-at : goal.invariant-loop-at
invariant-loop-at l = Seeks l.byte l.text l.at
