-- The loop invariant of `moving::move_down`, after each byte: so many bytes are moved, the last first.
use mathlib.Core.Path.{◌≡◌}
use lib.ListN.{length}
use Rattle.run_cells.specs.Moved.{moved}
use Rattle.run_cells.proofs.moving.move_down.Given as goal

abbrev pub invariant-loop-done : goal.invariant-loop-done
invariant-loop-done l =
    (l.input ≡ moved l.done l.initial.input l.p.0 l.output l.r.0) × (length l.input ≡ length l.initial.input)
