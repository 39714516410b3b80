-- The fact about `find` that the check is told: at none of no places a string stands.
use native.Mathlib.Omega.{arith}
use mathlib.Core.Path.{◌≡◌}
use mathlib.Core.Bool.{true}
use lib.ListN.{length}
use Rattle.meaning.specs.Matching.{search as searched}
use Rattle.run_finding.specs.Occurrences.{suited}
use Rattle.run_finding.proofs.Laws.Suiting.{suits}
use Rattle.run_finding.proofs.find.Goals as goal

pub returns-then-places-eq0 : goal.returns-then-places-eq0
unfolding searched
returns-then-places-eq0 c =
    let a = c.args in
    let looked : suited (length a.string.now) (length a.text.now) a.places a.first ≡ true =
    suits (length a.string.now) (length a.text.now) a.places a.first (omega arith) (omega arith) (omega arith) (omega arith) in
    rw (looked, c.if-places-eq0.true)
