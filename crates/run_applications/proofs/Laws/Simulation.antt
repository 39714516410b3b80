-- Simulations, one after the other.
use Prim.Native.Nat.{ℕ}
use mathlib.Core.Path.{refl, ◌∙◌}
use Rattle.meaning.specs.Packing.{Words}
use Rattle.run_actions.specs.declared.registers.Registers.{Registers}
use Rattle.run_actions.specs.declared.registers.Next.{Next}
use Rattle.run_actions.specs.States.{Memory, memory_room, Outcomes}
use Rattle.run_applications.specs.Waiting.{outcome_from}
use Rattle.run_applications.specs.Simulation.{NextInvariant, registers_in, Simulates}

pub simulates-start : (words : Words) (allowance : ℕ) (next : Next) (m : Memory) → NextInvariant allowance next m →
    Simulates words allowance (outcome_from (memory_room m) allowance words next m) (registers_in next) m next m
simulates-start words allowance next m invariant = record { same = refl; invariant = invariant; room = refl; beyond = λ old e. e }

module _ (words : Words) (allowance : ℕ) (tocome : Outcomes) (g : Registers) (m n l : Memory) (mid next : Next) where
  pub simulates-on : Simulates words allowance tocome g m mid n →
      Simulates words allowance (outcome_from (memory_room n) allowance words mid n) (registers_in mid) n next l →
      Simulates words allowance tocome g m next l
  simulates-on p q =
      record {
        same = p.same ∙ rw p.room at q.same;
        invariant = q.invariant;
        room = q.room ∙ p.room;
        beyond = λ old e. q.beyond old (p.beyond old e);
      }
