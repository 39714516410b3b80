-- The facts about `names::find` that the check is told.
use mathlib.Core.Path.{sym, ◌∙◌, ap}
use native.Mathlib.Omega.{arith}
use Rattle.meaning.specs.Choice.{same_bytes}
use Rattle.read_bookkeeping.proofs.Finding.{find-starts, find-ends, find-on}
use Rattle.read_bookkeeping.proofs.names.find.Goals as goal

pub loop-i-init : goal.loop-i-init
loop-i-init c = find-starts _ _ _

pub returns-then-spells : goal.returns-then-spells
returns-then-spells c =
    find-on _ _ _ _ c.loop-i.invariant _ c.loop-i-test.true _
    (sym c.if-spells.true ∙ c.spells.ensures ∙ ap (same_bytes _) c.of.ensures)

pub loop-i-preserved : goal.loop-i-preserved
loop-i-preserved c =
    find-on _ _ _ _ c.loop-i.invariant _ c.loop-i-test.true _
    (sym c.if-spells.false ∙ c.spells.ensures ∙ ap (same_bytes _) c.of.ensures)

pub returns : goal.returns
returns c = find-ends _ _ _ _ c.loop-i.invariant (omega arith)
