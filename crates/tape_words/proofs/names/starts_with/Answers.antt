-- The facts about `names::starts_with` that the check is told.
use Rattle.std.proofs.Common.{rules, sym, ◌∙◌}
use Rattle.std.proofs.lemmas.Iterator.{cases_from_all, YieldsList-from_slice, YieldsList-from_zip}
use Rattle.meaning.proofs.Laws.Beginnings.{starts-short}
use borrow.Author.Tests.{lt-leb}
use Rattle.tape_words.proofs.Laws.Lists.{tests}
use Rattle.tape_words.proofs.Laws.Spelling.{Same, Differs, begins-by}
use Rattle.tape_words.proofs.names.starts_with.Goals as goal

pub returns-then-prefix-name-clause-value : goal.returns-then-prefix-name-clause-value
returns-then-prefix-name-clause-value c =
    let p = c.args.prefix.now in
    let n = c.args.name.now in
    begins-by p n _ c.if-prefix-name.true
    (cases_from_all c.all.new.self _ _ Same Differs c.all.ensures.ran (YieldsList-from_zip {s = c.zip.result} (YieldsList-from_slice p cc) (YieldsList-from_slice n cc))
    (λ x q k. search (rules, tests)) (λ x q k. search (rules, tests)))

pub returns-else-prefix-name-clause-value : goal.returns-else-prefix-name-clause-value
returns-else-prefix-name-clause-value c =
    lt-leb _ _ c.if-prefix-name.false ∙ sym (starts-short c.args.prefix.now c.args.name.now c.if-prefix-name.false)
