-- The facts about `write_sentences` that the check is told.
use native.Mathlib.Omega.{arith}
use Rattle.code_sentences.proofs.Sentenced.{sentences-go-on, sentences-last, sentences-full}
use Rattle.code_sentences.proofs.write_sentences.Goals as goal

pub write_sentence-body-requires : goal.write_sentence-body-requires
write_sentence-body-requires c =
    let s = c.loop-count.invariant in (c.requires.0, s.inside, omega (arith, s.grown, s.few))

pub returns-then-not-follows : goal.returns-then-not-follows
returns-then-not-follows c =
    sentences-last c.loop-count.invariant c.loop-count-test.true c.write_sentence-body.ensures c.follows.ensures c.if-not-follows.true

pub loop-count-preserved : goal.loop-count-preserved
loop-count-preserved c =
    sentences-go-on c.loop-count.invariant c.loop-count-test.true c.write_sentence-body.ensures c.follows.ensures c.if-not-follows.false

pub returns : goal.returns
returns c = sentences-full c.loop-count.invariant c.loop-count-test.false
