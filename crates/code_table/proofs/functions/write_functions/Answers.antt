-- The facts about `functions::write_functions` that the check is told.
use Rattle.code_table.proofs.Laws.Declared.{functions-go-on, functions-all}
use Rattle.code_table.proofs.functions.write_functions.Goals as goal

pub loop-k-preserved : goal.loop-k-preserved
loop-k-preserved c =
    functions-go-on c.loop-k.invariant c.loop-k-test.true c.min-entry.ensures c.write_entry-at.ensures
    (search)

pub returns : goal.returns
returns c = functions-all c.put.ensures c.loop-k.invariant c.loop-k-test.false
