-- The loop invariant of `calls::unknown_call`. The search from the start is that from here.
use Rattle.tape_words.specs.Words.{head_names}
use Rattle.read_table.proofs.Called.{Searching}
use Rattle.read_table.proofs.calls.unknown_call.Given as goal

abbrev pub invariant-loop-i : goal.invariant-loop-i
invariant-loop-i l = Searching (head_names l.tape l.heads) l.tape l.i
