-- The facts about `words::list_words` that the check is told.
use Rattle.std.proofs.Common.{rules}
use Rattle.list_table.proofs.Stepping.{lists-word, lists-all}
use Rattle.list_table.proofs.words.list_words.Goals as goal

pub loop-word-preserved : goal.loop-word-preserved
loop-word-preserved c = lists-word c.loop-word.invariant c.loop-word-test.true c.list_word-state.ensures

pub returns : goal.returns
returns c =
    let all = lists-all c.loop-word.invariant c.loop-word-test.false in
    search rules
