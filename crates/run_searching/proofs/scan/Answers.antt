-- The facts about `scan` that the check is told: the cell that is looked at is there, and decides at its place.
use native.Mathlib.Omega.{arith}
use Prim.Native.Nat.{◌+◌, ◌-◌, ◌≤◌, ◌<◌}
use mathlib.Core.Path.{◌≡◌}
use lib.ListN.{length}
use Rattle.meaning.specs.Packing.{second_in, third_in}
use Rattle.run_searching.proofs.Laws.Places.{no-places}
use Rattle.run_searching.proofs.Laws.Scanning.{scan-here, scan-on}
use Rattle.run_searching.proofs.scan.Goals as goal

pub returns-then-field-here : goal.returns-then-field-here
returns-then-field-here c =
    let there : c.loop-here.here + second_in c.args.word.0 < length c.args.field.now = omega (arith, c.requires) in
    let some : 0 < c.args.first + c.args.places - c.loop-here.here = omega arith in
    let here = rw (c.wide-offset.ensures, c.second.ensures, c.third-byte.ensures) at c.if-field-here.true in
    rw (scan-here _ _ (third_in c.args.word.0) _ _ some there here) at c.loop-here.invariant

pub loop-here-preserved : goal.loop-here-preserved
loop-here-preserved c =
    let there : c.loop-here.here + second_in c.args.word.0 < length c.args.field.now = omega (arith, c.requires) in
    let some : 0 < c.args.first + c.args.places - c.loop-here.here = omega arith in
    let other = rw (c.wide-offset.ensures, c.second.ensures, c.third-byte.ensures) at c.if-field-here.false in
    let rest : c.args.first + c.args.places - (c.loop-here.here + 1) ≡ c.args.first + c.args.places - c.loop-here.here - 1 = omega arith in
    rw rest (rw (scan-on _ _ (third_in c.args.word.0) _ _ some there other) at c.loop-here.invariant)

pub returns : goal.returns
returns c =
    let none : c.args.first + c.args.places - c.loop-here.here ≤ 0 = omega arith in
    rw (no-places _ _ _ none) at c.loop-here.invariant
