-- `program::write_bytes`: a write takes some of the bytes that are left, or fails and takes none.
use Rattle.std.proofs.Common.{arith, length-take, length-drop}
use Rattle.std.proofs.KnownBytes.{Appends-kept}
use Rattle.program.proofs.Writing.{appends_more}
use Rattle.program.proofs.write_bytes.Goals as goal
use Rattle.program.proofs.write_bytes.Goals.{in-Ok, in-Err+else-ne}

pub loop-preserved : goal.loop-preserved
loop-preserved g c =
    elim c.match-write.branch [
      | in-Ok w ↦ (
        omega (arith, simp (length-take, length-drop) at w.in-Ok.ensures.bound),
        rw w.done-is (appends_more _ _ _ c.args.bytes.now c.loop.done w.in-Ok.count c.loop.invariant.1 w.in-Ok.ensures.bytes),
      )
      | in-Err+else-ne w ↦ (omega arith, rw w.done-is (Appends-kept _ _ _ _ c.loop.invariant.1 w.in-Err.ensures.bytes))
    ]
