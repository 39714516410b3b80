-- The fact about `byte_at` that the check is told: the cell that the slice lends.
use Rattle.run_sites.proofs.Laws.Lists.{item_found}
use Rattle.run_sites.proofs.byte_at.Goals as goal

pub returns : goal.returns
returns c = rw c.copied.ensures (item_found _ _ _ c.get.ensures.lookup)
