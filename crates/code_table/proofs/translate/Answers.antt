-- The facts about `translate` that the check is told.
use Rattle.code_table.proofs.Laws.Leaving.{leaves-code, leaves_nothing}
use Rattle.code_table.proofs.translate.Goals as goal

pub returns-then-code-written : goal.returns-then-code-written
returns-then-code-written c = search leaves_nothing

pub returns : goal.returns
returns c = search leaves-code
