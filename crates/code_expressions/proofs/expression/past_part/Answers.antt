-- The facts about `expression::past_part` that the check is told.
use Rattle.code_expressions.proofs.Laws.Itemised.{past-within}
use Rattle.code_expressions.proofs.expression.past_part.Goals as goal

pub past_ending-requires : goal.past_ending-requires
past_ending-requires c =
    rw (c.past_item.ensures, c.name_size-size.ensures) (past-within c.requires.0 c.requires.1 c.requires.2)
