-- The facts about `functions::note_head` that the check is told.
use Rattle.code_table.proofs.Laws.Declared.{head-noted, head-none}
use Rattle.code_table.proofs.functions.note_head.Goals as goal

pub returns-then-is_function : goal.returns-then-is_function
returns-then-is_function c = search head-noted

pub returns : goal.returns
returns c = search head-none
