-- The loop invariants of `code`. The code from the start on is that from here.
use Rattle.read_characters.proofs.Strings.{Coding}
use Rattle.read_characters.proofs.code.Given as goal

abbrev pub invariant-loop-at : goal.invariant-loop-at
invariant-loop-at l = Coding l.text l.first l.from l.value l.at
