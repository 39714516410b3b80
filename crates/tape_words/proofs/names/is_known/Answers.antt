-- The facts about `names::is_known` that the check is told.
use Rattle.tape_words.proofs.Laws.Spelling.{known-declared}
use Rattle.tape_words.proofs.names.is_known.Goals as goal

pub returns-else-is_built_in : goal.returns-else-is_built_in
returns-else-is_built_in c = known-declared _ _ c.is_built_in.ensures c.if-is_built_in.false c.find.result c.find.ensures.number c.is_some.ensures
