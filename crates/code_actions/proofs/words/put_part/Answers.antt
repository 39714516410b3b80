-- The facts about `words::put_part` that the check is told.
use Rattle.code_actions.proofs.Spanned.{small-as, piece-small}
use borrow.Author.Rules.{rules}
use Rattle.code_actions.proofs.words.put_part.Goals as goal

pub put_span-requires-2 : goal.put_span-requires-2
put_span-requires-2 c = search (rules, small-as, piece-small)
