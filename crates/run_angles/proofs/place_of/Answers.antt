-- The facts about `place_of` that the check is told: the byte stands here, or further on, or nowhere.
use native.Mathlib.Omega.{arith}
use mathlib.Core.Path.{◌≡◌}
use lib.ListN.{length}
use Rattle.run_angles.proofs.Reading.{seek-on, seek_found, seek-end}
use Rattle.run_angles.proofs.place_of.Goals as goal

pub returns-then-here-byte : goal.returns-then-here-byte
returns-then-here-byte c = seek_found c.loop-at.invariant (omega arith) c.if-here-byte.true

pub loop-at-preserved : goal.loop-at-preserved
loop-at-preserved c = seek-on c.loop-at.invariant (omega arith) c.if-here-byte.false

pub returns : goal.returns
returns c =
    let e : c.loop-at.at ≡ length c.args.text.now = omega arith in
    rw e at (seek-end c.loop-at.invariant c.loop-at-test.false)
