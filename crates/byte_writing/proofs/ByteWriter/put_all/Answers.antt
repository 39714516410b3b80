-- The fact about `ByteWriter::put_all` that the check is told.
use Rattle.byte_writing.proofs.Writing.{wrote_more}
use Rattle.byte_writing.proofs.ByteWriter.put_all.Goals as goal

pub loop-byte-preserved : goal.loop-byte-preserved
loop-byte-preserved c = wrote_more _ _ c.loop-byte-test.true c.loop-byte.invariant c.put.ensures
