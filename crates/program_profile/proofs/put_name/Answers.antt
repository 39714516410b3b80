-- The facts about `put_name` that the check is told.
use Rattle.byte_writing.proofs.Writing.{wrote_more}
use Rattle.program_profile.proofs.Names.{byte_at}
use Rattle.program_profile.proofs.put_name.Goals as goal

pub loop-word-preserved : goal.loop-word-preserved
loop-word-preserved c =
    wrote_more _ _ c.loop-word-test.true c.loop-word.invariant
    (rw (byte_at _ c.loop-word.word-index (rw (← c.name_at-name.ensures) at c.requires.0.bytes)) at c.put.ensures)
