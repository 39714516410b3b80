-- The loop invariant of `pass`: the bits are those of the bytes read, and the
-- places that these leave undecided are all that is left to search.
use mathlib.Core.Path.{◌≡◌}
use Rattle.run_finding.specs.Occurrences.{leftmost_occurrence}
use Rattle.run_finding.proofs.Laws.Passing.{after, undecided}
use Rattle.run_finding.proofs.pass.Given as goal

abbrev pub invariant-loop-read : goal.invariant-loop-read
invariant-loop-read l =
    (l.state ≡ after l.string l.text l.first l.read) ×
    (undecided l.string l.text l.first l.places l.read ≡ leftmost_occurrence l.string l.text l.places l.first)
