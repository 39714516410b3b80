-- The facts about `names::is_prefixed` that the check is told.
use Rattle.tape_words.proofs.Laws.Spelling.{prefixed-by, not-prefixed}
use Rattle.tape_words.proofs.names.is_prefixed.Goals as goal

pub returns-then-starts_with : goal.returns-then-starts_with
returns-then-starts_with c = prefixed-by _ _ _ c.starts_with.ensures.value c.if-starts_with.true c.same_name.ensures

pub returns-else-starts_with : goal.returns-else-starts_with
returns-else-starts_with c = search not-prefixed
