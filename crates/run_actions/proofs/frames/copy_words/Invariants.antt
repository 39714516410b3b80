-- The loop invariant of `frames::copy_words`: the words so far are copied, and those past the last are as they were.
use mathlib.Core.Path.{◌≡◌}
use lib.ListN.{length, take, drop}
use Rattle.run_actions.proofs.frames.copy_words.Given as goal

abbrev pub invariant-loop-i : goal.invariant-loop-i
invariant-loop-i l = (length l.to ≡ length l.initial.to) × (take l.i l.to ≡ take l.i l.from) ×
    (drop l.count l.to ≡ drop l.count l.initial.to)
