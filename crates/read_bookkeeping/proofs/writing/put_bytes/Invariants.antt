-- The loop invariants of `writing::put_bytes`. The bytes so far are written.
use Rattle.read_bookkeeping.proofs.Words.{Copied}
use Rattle.read_bookkeeping.proofs.writing.put_bytes.Given as goal

abbrev pub invariant-loop-i : goal.invariant-loop-i
invariant-loop-i l = Copied l.bytes l.initial.tape l.at l.tape l.i
