-- The loop invariant of `moving::move_part`, after each byte: so many bytes are moved, the last first.
use mathlib.Core.Path.{◌≡◌}
use lib.ListN.{length}
use Rattle.run_cells.specs.Moved.{moved}
use Rattle.run_cells.proofs.moving.move_part.Given as goal

abbrev pub invariant-loop-k : goal.invariant-loop-k
invariant-loop-k g l =
    (l.input ≡ moved l.k l.initial.input l.p.0 l.output l.r.0) × (length l.input ≡ length l.initial.input)
