-- The facts about `mark` that the check is told: the table at the beginning, and one byte more.
use native.Mathlib.Omega.{arith}
use Prim.Native.Nat.{◌<◌}
use lib.ListN.{get_or}
use Rattle.run_finding.proofs.Laws.Marking.{marked-first, marked_next, mark-fits}
use Rattle.run_finding.proofs.mark.Goals as goal

pub loop-byte-init : goal.loop-byte-init
loop-byte-init c = marked-first _ _ _ c.requires.in_bounds c.requires.marks_value c.power-unit.ensures

pub overflow_add-marks : goal.overflow_add-marks
overflow_add-marks c =
    let below : get_or c.args.string.now c.loop-byte.byte-index 0 < 256 = omega (arith, c.type_inv.string c.loop-byte.byte-index) in
    omega (arith, mark-fits _ _ _ _ c.loop-byte.invariant c.loop-byte-test.true c.requires.string_len_bound below)

pub loop-byte-preserved : goal.loop-byte-preserved
loop-byte-preserved c =
    let below : get_or c.args.string.now c.loop-byte.byte-index 0 < 256 = omega (arith, c.type_inv.string c.loop-byte.byte-index) in
    marked_next _ _ _ _ c.loop-byte.invariant c.loop-byte-test.true below
