-- The loop invariant of `string_of`: the tests so far look for the string so far.
use mathlib.Core.Path.{◌≡◌}
use lib.ListN.{length}
use Rattle.run_searching.proofs.Laws.Strings.{SpelledTo}
use Rattle.run_searching.proofs.string_of.Given as goal

abbrev pub invariant-loop-size : goal.invariant-loop-size
invariant-loop-size l = SpelledTo l.code l.at l.offset l.string l.size × (length l.string ≡ length l.initial.string)
