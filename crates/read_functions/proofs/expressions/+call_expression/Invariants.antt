-- The loop invariant and the measures of `expressions::call` and `expressions::expression`, which call each other.
-- The measure of both is the text that
-- remains and the nesting that is left: a call's reader begins after its `<`, an argument's after the name and one call deeper.
use Prim.Native.Nat.{ℕ, ◌+◌, ◌-◌}
use lib.ListN.{length}
use Rattle.meaning.specs.Choice.{Bytes}
use Rattle.read_functions.specs.declared.expressions.ExpressionCounts.{ExpressionCounts}
use Rattle.read_functions.proofs.Expressed.{Expressed}
use Rattle.read_functions.proofs.expressions.+call_expression.Given as goal

abbrev remaining : Bytes → ExpressionCounts → ℕ → ℕ
remaining text s depth = (length text - s.at) + (16 - depth)

abbrev pub decreases-call : goal.decreases-call
decreases-call l = remaining l.text.now l.s l.depth

abbrev pub decreases-expression : goal.decreases-expression
decreases-expression l = remaining l.text.now l.start l.depth

abbrev pub invariant-expression-loop-next : goal.invariant-expression-loop-next
invariant-expression-loop-next l =
    Expressed l.text l.v l.depth l.initial.s l.initial.tape l.tape l.s

abbrev pub decreases-expression-loop-next : goal.decreases-expression-loop-next
decreases-expression-loop-next l = length l.text - l.s.at
