-- The fact about `look` that the check is told: the cell that a Look from the place asks for is there.
use native.Mathlib.Omega.{arith}
use Rattle.run_glancing.proofs.Laws.Looks.{look-place}
use Rattle.run_glancing.proofs.look.Goals as goal

pub returns-then-offset-field-2 : goal.returns-then-offset-field-2
returns-then-offset-field-2 c place h =
    look-place _ _ place c.if-kind-eq-LOOK_FROM_PLACE.true
    (omega (arith, c.wide-offset.ensures, c.if-offset-field-2.true, c.if-last-field.true, h))
