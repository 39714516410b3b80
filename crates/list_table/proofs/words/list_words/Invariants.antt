-- What the loop of `words::list_words` keeps: to write the rest of the words from here is to write the whole from the start.
use Rattle.list_table.proofs.Stepping.{Lists}
use Rattle.list_table.proofs.words.list_words.Given as goal

abbrev pub invariant-loop-word : goal.invariant-loop-word
invariant-loop-word l = Lists l.initial.writer l.words l.writer l.word-index l.state
