-- The facts about `conditions::write_conditions` that the check is told.
use Rattle.code_patterns.proofs.Laws.Conditioned.{conditions-all}
use Rattle.code_patterns.proofs.conditions.write_conditions.Goals as goal

pub returns : goal.returns
returns c = conditions-all c.loop-m.invariant c.is_condition.ensures c.loop-m-test.false
