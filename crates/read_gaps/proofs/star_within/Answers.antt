-- The facts about `star_within` that the check is told.
use mathlib.Core.Path.{◌∙◌}
use native.Mathlib.Omega.{arith}
use Rattle.std.proofs.lemmas.List.{get_or-take, get_or-drop, length-take}
use Rattle.read_gaps.proofs.Gaps.{plain_still}
use Rattle.read_gaps.proofs.star_within.Goals as goal

pub loop-byte-preserved : goal.loop-byte-preserved
loop-byte-preserved c =
    let f = c.args.from in
    let i = c.loop-byte.byte-index in
    let t = c.loop-byte-test.true in
    plain_still _ _ _ _ _ (omega arith) (get_or-take _ _ i 0 (omega (arith, rw (length-take _ _) at t)) ∙ get_or-drop f _ i 0) c.loop-byte.invariant
