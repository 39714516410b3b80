-- The facts about `looks_fail` that the check is told: where a Look fails, or those after it do, all do.
use native.Mathlib.Omega.{arith}
use Prim.Native.Nat.{◌+◌, ◌-◌, ◌<◌}
use mathlib.Core.Path.{◌≡◌}
use Rattle.run_glancing.specs.declared.Glimpse.TheVariants.{Right}
use Rattle.run_glancing.proofs.Laws.Looks.{fails-after, fails-here}
use Rattle.run_glancing.proofs.looks_fail.Goals as goal

pub returns-in-Fails : goal.returns-in-Fails
returns-in-Fails c place h =
    let some : 0 < c.args.tests.0 + c.args.count - c.loop-at.at = omega arith in
    c.loop-at.invariant place h (fails-here _ place _ _ _ some c.if-code-at.false (c.in-Fails.ensures place h))

pub loop-at-preserved : goal.loop-at-preserved
loop-at-preserved c place h e =
    let some : 0 < c.args.tests.0 + c.args.count - c.loop-at.at = omega arith in
    let rest : c.args.tests.0 + c.args.count - (c.loop-at.at + 1) ≡ c.args.tests.0 + c.args.count - c.loop-at.at - 1 = omega arith in
    let right : c.look.result ≡ Right = cc in
    c.loop-at.invariant place h
    (fails-after _ place _ _ _ some c.if-code-at.false (rw right at (c.look.ensures place h)) (rw rest at e))
