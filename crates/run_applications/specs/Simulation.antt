-- The invariant of a run, and the simulation of the machine: the outcome that was to come by its definition is the one
-- that comes after a function has done its part.
use Rattle.std.specs.Prelude.{ℕ, suc, ◌+◌, ◌-◌, ◌≤◌, ◌<◌, true, ◌≡◌, length, take, drop}
use Rattle.meaning.specs.Choice.{Bytes}
use Rattle.meaning.specs.Outcome.{pay}
use Rattle.meaning.specs.Instructions.{Action}
use Rattle.meaning.specs.Matching.{stored_values}
use Rattle.meaning.specs.Machine.{started, ran_paid}
use Rattle.meaning.specs.Runs.{lent}
use Rattle.meaning.specs.Packing.{Words, unpack_stores, unpack_actions}
use Rattle.run_actions.specs.declared.registers.Registers.{Registers}
use Rattle.run_actions.specs.declared.registers.Next.{Next}
use Rattle.run_actions.specs.declared.registers.Next.TheVariants.{Onward, Done, Stopped, Deeper}
use Rattle.run_actions.specs.States.{crowded_at, Memory, Held, CountsWithin, stacks_of, ledger_of, memory_room}
use Rattle.run_actions.specs.States.{Outcomes, WrittenWithin, WithinRoom}
use Rattle.run_applications.specs.Waiting.{functions_in, entering, returning, outcome_from, Waits, outcome_of_action}
use Rattle.run_applications.specs.Waiting.{measure_below, measure}

-- THE INVARIANT

-- an application may begin: the registers stay within what is lent and allowed, and so do the frames that wait
pub record ReadyToApply (allowance : ℕ) (g : Registers) (m : Memory) : Type 0 where
  pub room : WithinRoom g m
  pub paid : g.steps ≤ allowance
  pub counts : CountsWithin g.steps m.frames
  pub waits : (k : ℕ) → k < g.frame → Waits (length m.input) k m.frames

-- a run goes on: an application may begin, or, as the words of the current frame agree, an instruction come next
pub record Invariant (allowance : ℕ) (g : Registers) (m : Memory) : Type 0 where
  pub ready : ReadyToApply allowance g m
  pub current : Held g.frame m.frames

-- a run goes on with an instruction that may add a frame, for which there is no room
pub record CrowdedInvariant (allowance : ℕ) (g : Registers) (m : Memory) : Type 0 where
  pub invariant : Invariant allowance g m
  pub crowded : crowded_at g.frame m.frames ≡ true

-- what holds of an answer, by how the run goes on; where it has ended, only what it wrote is still within what is lent
abbrev pub NextInvariant : ℕ → Next → Memory → Type 0
NextInvariant allowance (Onward g) m = Invariant allowance g m
NextInvariant allowance (Done g) m = WrittenWithin g.r.0 g.emitted m.output m.«record»
NextInvariant allowance (Stopped g ending function) m = WrittenWithin g.r.0 g.emitted m.output m.«record»
NextInvariant allowance (Deeper g) m = CrowdedInvariant allowance g m

abbrev pub registers_in : Next → Registers
registers_in (Onward g) = g
registers_in (Done g) = g
registers_in (Stopped g ending function) = g
registers_in (Deeper g) = g

-- THE SIMULATION

-- code simulates the machine: from its answer on the outcome is the one that was to come, the invariant holds of the
-- answer, the room is as it was, and so is the record past the emissions
pub record Simulates (words : Words) (allowance : ℕ) (tocome : Outcomes) (g : Registers) (m : Memory)
    (next : Next) (n : Memory) : Type 0 where
  pub same : tocome ≡ outcome_from (memory_room m) allowance words next n
  pub invariant : NextInvariant allowance next n
  pub room : memory_room n ≡ memory_room m
  pub beyond : (old : Bytes) → drop g.emitted m.«record» ≡ drop g.emitted old →
      drop (registers_in next).emitted n.«record» ≡ drop (registers_in next).emitted old

-- it simulates the machine, and the measure is then below a bound
pub record SimulatesBelow (words : Words) (allowance : ℕ) (tocome : Outcomes) (bound : ℕ) (g : Registers) (m : Memory)
    (next : Next) (n : Memory) : Type 0 where
  pub simulates : Simulates words allowance tocome g m next n
  pub decreases : measure (length words) allowance next n < bound

-- WHAT EACH FUNCTION SIMULATES, from the invariant on

-- an action of the machine, the registers being at the place after its word, which then goes on at a place
abbrev pub SimulatesAction : Words → ℕ → Action → ℕ → Registers → Memory → Next → Memory → Type 0
SimulatesAction words allowance action at g m next n =
    Invariant allowance g m →
    SimulatesBelow words allowance (outcome_of_action (memory_room m) allowance words action at g m)
    (suc (measure (length words) allowance (Onward g) m)) g m next n

-- an application of a function in the frame of the registers
abbrev pub SimulatesApplication : Words → ℕ → ℕ → Registers → Memory → Next → Memory → Type 0
SimulatesApplication words allowance number g m next n =
    let l = ledger_of allowance g m in
    Invariant allowance g m →
    SimulatesBelow words allowance
    (returning (memory_room m) allowance words g m
    (ran_paid (lent (memory_room m)) (functions_in words) (entering (memory_room m) allowance words) (suc g.frame)
    number
    (stacks_of g m) l (pay number l.tally)))
    (suc (measure_below (length words) allowance g m))
    g m next n

-- the actions of a sentence, with so many stores from a place of the code on, and the middle template at a place of the
-- field
abbrev pub SimulatesSentence : Words → ℕ → ℕ → ℕ → ℕ → Registers → Memory → Next → Memory → Type 0
SimulatesSentence words allowance at stores stored g m next n =
    let actions = unpack_actions 0 (drop (stores + stored) words) in
    let field = take (g.q.0 - g.p.0) (drop g.p.0 m.input) in
    ReadyToApply allowance g m →
    SimulatesBelow words allowance
    (returning (memory_room m) allowance words g m
    (started (lent (memory_room m)) (functions_in words) (entering (memory_room m) allowance words) (suc g.frame)
    actions at
    (stored_values (unpack_stores stored (drop stores words)) field at) (stacks_of g m) (ledger_of allowance g m)))
    (measure_below (length words) allowance g m + suc (suc (length words)))
    g m next n
