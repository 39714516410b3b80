-- The facts about `writing::put_named` that the check is told.
use Rattle.read_bookkeeping.proofs.Words.{wrote_after}
use Rattle.read_bookkeeping.proofs.writing.put_named.Goals as goal

pub returns : goal.returns
returns c = (
  wrote_after _ _ _ _ _ _ _ c.put.ensures c.put_bytes.ensures.0,
  c.put_bytes.ensures.1,
)
