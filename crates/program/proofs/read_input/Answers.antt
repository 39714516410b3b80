-- `program::read_input`: a read gives some of the bytes that are left, or fails and takes none.
use Rattle.std.proofs.Common.{rules}
use Rattle.program.proofs.Reading.{read_more, read_none}
use Rattle.program.proofs.read_input.Goals as goal
use Rattle.program.proofs.read_input.Goals.{in-Ok, in-Err+else-ne}

pub loop-preserved : goal.loop-preserved
loop-preserved g c =
    let held = c.loop.invariant in
    elim c.match-read.branch [
      | in-Ok w ↦ (
        rw w.count-is (search rules),
        rw w.count-is (read_more _ _ _ _ _ _ held.0 held.1 _ w.in-Ok.ensures.bound.0 w.in-Ok.ensures.bytes.0),
      )
      | in-Err+else-ne w ↦ (rw w.count-is (search rules), rw w.count-is (read_none _ _ _ _ _ _ held.0 held.1 w.in-Err.ensures.bytes))
    ]
