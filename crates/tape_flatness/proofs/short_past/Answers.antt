-- The facts about `short_past` that the check is told.
use native.Mathlib.Omega.{arith}
use Rattle.tape_flatness.proofs.Low.{short-goes, short-ends}
use Rattle.tape_flatness.proofs.short_past.Goals as goal

pub returns-then-word-eq-CLOSE_WORD : goal.returns-then-word-eq-CLOSE_WORD
returns-then-word-eq-CLOSE_WORD c =
    let args = c.args in (
      omega arith,
      omega arith,
      short-ends args.tape.now args.end c.loop-k.k c.loop-k.invariant (omega arith) c.word_inside-word.ensures.0
          c.if-word-eq-CLOSE_WORD.true,
    )

pub loop-k-preserved : goal.loop-k-preserved
loop-k-preserved c =
    let args = c.args in
    short-goes args.tape.now args.end c.loop-k.k c.loop-k.invariant (omega arith) c.word_inside-word.ensures.0 (omega arith)
