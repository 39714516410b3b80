-- The fact about `copying::copy_few` that the check is told: the three parts are the whole copy.
use Rattle.run_cells.proofs.Laws.Copying.{pasted-few}
use Rattle.run_cells.proofs.copying.copy_few.Goals as goal

pub returns : goal.returns
returns c =
    pasted-few _ _ _ c.requires.from_in_bounds c.copy_part-i.ensures c.copy_part-i-2.ensures c.copy_part.ensures
