-- The facts about `add_string` that the check is told.
use borrow.Author.Tests.{ltb-false}
use Rattle.read_bookkeeping.proofs.Choosing.{not-refused}
use Rattle.read_patterns.proofs.Adding.{string-taken}
use Rattle.read_patterns.proofs.add_string.Goals as goal

pub returns-then-p : goal.returns-then-p
returns-then-p c =
    string-taken c.requires (ltb-false _ _ (not-refused _ _ c.in_ok-refuse_if.ensures.number)) _ _ _ _ c.put_characters-words.ensures (rw c.if-p.true)

pub returns-else-p : goal.returns-else-p
returns-else-p c =
    string-taken c.requires (ltb-false _ _ (not-refused _ _ c.in_ok-refuse_if.ensures.number)) _ _ _ _ c.put_characters-words.ensures (rw c.if-p.false)
