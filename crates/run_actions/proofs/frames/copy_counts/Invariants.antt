-- The loop invariant of `frames::copy_counts`: the counts so far are copied.
use mathlib.Core.Path.{◌≡◌}
use lib.ListN.{length, take}
use Rattle.run_actions.proofs.frames.copy_counts.Given as goal

abbrev pub invariant-loop-i : goal.invariant-loop-i
invariant-loop-i l = (length l.counts ≡ length l.initial.counts) × (take l.i l.counts ≡ take l.i l.frames)
