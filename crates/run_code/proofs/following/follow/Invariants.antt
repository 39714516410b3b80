-- The loop invariant and measure of `following::follow`. The loop's invariant: the run is simulated from the first answer up to
-- here. The measure is what is left to do.
use lib.ListN.{length}
use Rattle.run_actions.specs.States.{memory, memory_room}
use Rattle.run_applications.specs.Waiting.{outcome_from, measure}
use Rattle.run_applications.specs.Simulation.{registers_in, Simulates}
use Rattle.run_turns.specs.Turns.{next_of}
use Rattle.run_code.proofs.following.follow.Given as goal

abbrev pub invariant-loop-status : goal.invariant-loop-status
invariant-loop-status l =
    let m = memory l.initial.input l.initial.output l.initial.«record» l.initial.frames l.initial.values in
    Simulates l.program.code.now l.program.allowance (outcome_from (memory_room m) l.program.allowance l.program.code.now l.fn.first m) (registers_in l.fn.first) m
    (next_of l.status l.g) (memory l.input l.output l.«record» l.frames l.values)

abbrev pub decreases-loop-status : goal.decreases-loop-status
decreases-loop-status l =
    measure (length l.program.code.now) l.program.allowance (next_of l.status l.g) (memory l.input l.output l.«record» l.frames l.values)
