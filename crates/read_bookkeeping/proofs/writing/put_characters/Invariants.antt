-- The loop invariants and measures of `writing::put_characters`. The characters so far are written.
use Prim.Native.Nat.{◌-◌}
use lib.ListN.{length}
use Rattle.read_bookkeeping.proofs.Words.{Spelled-to}
use Rattle.read_bookkeeping.proofs.writing.put_characters.Given as goal

abbrev pub invariant-loop-byte : goal.invariant-loop-byte
invariant-loop-byte l = Spelled-to l.text l.initial.tape l.at l.from l.tape l.to l.i

abbrev pub decreases-loop-byte : goal.decreases-loop-byte
decreases-loop-byte l = length l.text - l.i
