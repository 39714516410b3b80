-- A run followed turn by turn.
use Rattle.std.specs.Prelude.{ℕ}
use Rattle.meaning.specs.Packing.{Words}
use Rattle.run_actions.specs.declared.registers.Next.{Next}
use Rattle.run_actions.specs.declared.registers.Next.TheVariants.{Onward, Done, Stopped, Deeper}
use Rattle.run_actions.specs.States.{Memory, memory_room}
use Rattle.run_applications.specs.Waiting.{outcome_from}
use Rattle.run_applications.specs.Simulation.{registers_in, Simulates}

-- a run that has ended
abbrev pub HasEnded : Next → Type 0
HasEnded (Onward g) = ⊥
HasEnded (Done g) = Unit {0}
HasEnded (Stopped g ending function) = Unit {0}
HasEnded (Deeper g) = ⊥

-- a run simulated from an answer on, until one of which a condition holds
pub record SimulatesUntil (Last : Next → Type 0) (words : Words) (allowance : ℕ) (first : Next) (m : Memory)
    (last : Next) (n : Memory) : Type 0 where
  pub simulates : let tocome = outcome_from (memory_room m) allowance words first m in
      Simulates words allowance tocome (registers_in first) m last n
  pub ended : Last last
