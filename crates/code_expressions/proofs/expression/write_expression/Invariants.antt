-- The loop invariants and measures of `expression::write_expression`. The loop keeps what the actions written and those still to come amount to.
use Rattle.code_expressions.specs.Resuming.{to_go}
use Rattle.code_expressions.proofs.Laws.Itemised.{ItemsSoFar}
use Rattle.code_expressions.proofs.expression.write_expression.Given as goal

abbrev pub invariant-loop-walk : goal.invariant-loop-walk
invariant-loop-walk l = ItemsSoFar l.tape l.heads l.symbols l.m l.start l.initial.code l.calls l.code l.walk

abbrev pub decreases-loop-walk : goal.decreases-loop-walk
decreases-loop-walk l = to_go l.tape l.walk
