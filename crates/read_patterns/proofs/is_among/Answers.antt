-- The facts about `is_among` that the check is told.
use mathlib.Core.Path.{◌∙◌, ap}
use Rattle.std.specs.Prelude.{is_some}
use Rattle.read_bookkeeping.proofs.Finding.{place_member}
use Rattle.read_patterns.proofs.is_among.Goals as goal

pub returns : goal.returns
returns c = c.is_some.ensures ∙ ap is_some c.find.ensures ∙ place_member _ _
