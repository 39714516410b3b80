-- The facts about `string_of` that the check is told: at first no byte is spelled, and one test spells one byte more.
use native.Mathlib.Omega.{arith}
use Prim.Native.Nat.{◌+◌}
use mathlib.Core.Path.{refl, sym, ◌∙◌}
use lib.ListN.{get_or, length-set, length-drop}
use Rattle.run_searching.proofs.Laws.Strings.{look-there, spelled-first, spelled-next}
use Rattle.run_searching.proofs.string_of.Goals as goal

pub loop-size-init : goal.loop-size-init
loop-size-init c = let a = c.args in (spelled-first a.code.now a.tests.0 c.wide-offset.result a.string.now, refl)

pub loop-size-preserved : goal.loop-size-preserved
loop-size-preserved c =
    let a = c.args in
    let inv = c.loop-size.invariant in
    let there = look-there (get_or a.code.now (a.tests.0 + c.loop-size.size) 0) _ c.if-word-ne-LOOK_FROM_PLACE.false
    (sym c.second-else-word-ne-LOOK_FROM_PLACE.ensures ∙ sym c.wide.ensures ∙ c.if-wide-offset.false) in
    rw c.third.ensures (
      spelled-next a.code.now a.tests.0 c.wide-offset.result c.loop-size.string c.loop-size.size _ inv.0 (omega arith)
          (rw (length-drop a.tests.0 a.code.now) (omega arith)) there,
      simp length-set inv.1,
    )
