-- The facts about `functions::write_table` that the check is told.
use Rattle.code_table.proofs.Laws.Declared.{table-written}
use Rattle.code_table.proofs.functions.write_table.Goals as goal

pub returns : goal.returns
returns c = search table-written
