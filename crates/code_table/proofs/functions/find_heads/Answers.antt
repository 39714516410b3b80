-- The facts about `functions::find_heads` that the check is told.
use Rattle.code_table.proofs.Laws.Declared.{heads-all}
use Rattle.code_table.proofs.functions.find_heads.Goals as goal

pub returns : goal.returns
returns c = heads-all c.loop-i.invariant c.loop-i-test.false
