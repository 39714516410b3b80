-- The loop invariant and measure of `try_writes`. The loop's invariant: what was written so far was tried from the entry on.
use Prim.Native.Nat.{ℕ, ◌-◌}
use mathlib.Core.Path.{◌≡◌}
use lib.ListN.{length}
use Rattle.meaning.specs.Choice.{Bytes}
use Rattle.run_actions.specs.States.{memory}
use Rattle.run_turns.specs.Turns.{ActingInvariant, SimulatesTry}
use Rattle.run_turns.proofs.try_writes.Given as goal

abbrev pub invariant-loop-h : goal.invariant-loop-h
invariant-loop-h l =
    (length l.output ≡ length l.initial.output) ×
    ((allowance : ℕ) («record» : Bytes) →
    let m = memory l.input l.initial.output «record» l.frames l.values in
    ActingInvariant allowance l.initial.h m →
    SimulatesTry l.code allowance l.initial.h m l.h (memory l.input l.output «record» l.frames l.values))

abbrev pub decreases-loop-h : goal.decreases-loop-h
decreases-loop-h l = length l.code - l.h.at.0
