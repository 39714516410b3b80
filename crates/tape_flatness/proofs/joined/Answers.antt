-- The facts about `joined` that the check is told.
use native.Mathlib.Omega.{arith}
use Rattle.tape_flatness.proofs.Low.{joined-one, part-word}
use Rattle.tape_flatness.proofs.joined.Goals as goal

pub loop-word-preserved : goal.loop-word-preserved
loop-word-preserved c =
    joined-one c.loop-word.all c.loop-word.word-index c.loop-word.invariant (omega arith) (part-word c.args.tape.now c.args.from 8 c.loop-word.word-index c.loop-word-test.true)
