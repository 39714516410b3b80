-- The facts about `names::check_later` that the check is told.
use mathlib.Core.Path.{◌∙◌, ap}
use Rattle.std.specs.Prelude.{is_some}
use Rattle.read_bookkeeping.proofs.Naming.{later-number}
use Rattle.read_bookkeeping.proofs.names.check_later.Goals as goal

pub returns-clause-number : goal.returns-clause-number
returns-clause-number c =
    later-number _ _ _ c.requires.0 (rw c.len.ensures at c.in_ok-refuse_if.ensures.number) (c.is_some-known.ensures ∙ ap is_some c.find.ensures)
    c.refuse_if-2.ensures.number
