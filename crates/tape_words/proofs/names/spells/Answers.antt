-- The facts about `names::spells` that the check is told.
use Rattle.std.proofs.Common.{sym, ◌∙◌}
use borrow.Author.Tests.{ne_eqb}
use Rattle.meaning.proofs.Laws.Beginnings.{lengths_differ, starts-same}
use Rattle.tape_words.proofs.names.spells.Goals as goal

pub returns-then-name-word : goal.returns-then-name-word
returns-then-name-word c = c.starts_with.ensures.value ∙ starts-same c.args.word.now c.args.name.now c.if-name-word.true

pub returns-else-name-word : goal.returns-else-name-word
returns-else-name-word c = ne_eqb _ _ c.if-name-word.false ∙ sym (lengths_differ c.args.name.now c.args.word.now c.if-name-word.false)
