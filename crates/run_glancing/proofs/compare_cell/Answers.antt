-- The facts about `compare_cell` that the check is told: the cell has the byte, or it has another.
use Rattle.run_glancing.proofs.Laws.Looks.{cell-right, cell-fails}
use Rattle.run_glancing.proofs.compare_cell.Goals as goal

pub returns-then-field-index-2 : goal.returns-then-field-index-2
returns-then-field-index-2 c = cell-right _ _ _ c.if-field-index.false c.if-field-index-2.true

pub returns-else-field-index-2 : goal.returns-else-field-index-2
returns-else-field-index-2 c = cell-fails _ _ _ c.if-field-index.false c.if-field-index-2.false
