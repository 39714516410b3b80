-- What the loop of `ByteWriter::put_all` keeps: the bytes before this one are written.
use lib.ListN.{take}
use Rattle.byte_writing.specs.Wrote.{Wrote}
use Rattle.byte_writing.proofs.ByteWriter.put_all.Given as goal

abbrev pub invariant-loop-byte : goal.invariant-loop-byte
invariant-loop-byte l = Wrote l.initial.self (take l.byte-index l.text) l.self
