-- A turn of a run: instructions that are tried where they come next, one that is done in any case, and what these
-- simulate.
use Rattle.std.specs.Prelude.{ℕ, suc, ◌+◌, ◌≤◌, ◌<◌, Bool, true, false, ◌≡◌, List, length}
use Rattle.meaning.specs.Choice.{Bytes}
use Rattle.meaning.specs.Packing.{Words, go_number, select_number, use_seq_number}
use Rattle.run_decoding.specs.Decoded.{Numbered}
use Rattle.run_turns.specs.declared.SpanKind.{SpanKind}
use Rattle.run_turns.specs.declared.SpanKind.TheVariants.{Go, Select}
use Rattle.run_actions.specs.declared.registers.Registers.{Registers}
use Rattle.run_actions.specs.declared.registers.Next.{Next}
use Rattle.run_actions.specs.declared.registers.Next.TheVariants.{Onward, Done, Stopped, Deeper}
use Rattle.run_actions.specs.declared.registers.Status.{Status}
use Rattle.run_actions.specs.declared.registers.Status.TheVariants as status
use Rattle.run_actions.specs.States.{Memory, memory, memory_room}
use Rattle.run_applications.specs.Waiting.{outcome_from, measure}
use Rattle.run_applications.specs.Simulation.{Invariant, Simulates, SimulatesBelow}

-- the numbers of the instructions that lead on by a span's cells
abbrev pub span_number : SpanKind → ℕ
span_number Go = go_number
span_number Select = select_number

-- AN ANSWER'S PARTS

-- how a run goes on, apart from its registers, and both put together
abbrev pub status_in : Next → Status
status_in (Onward g) = status.Onward
status_in (Done g) = status.Done
status_in (Stopped g ending function) = status.Stopped ending function
status_in (Deeper g) = status.Deeper

abbrev pub next_of : Status → Registers → Next
next_of status.Onward g = Onward g
next_of status.Done g = Done g
next_of (status.Stopped ending function) g = Stopped g ending function
next_of status.Deeper g = Deeper g

abbrev pub is_onward : Status → Bool
is_onward status.Onward = true
is_onward status.Done = false
is_onward (status.Stopped ending function) = false
is_onward status.Deeper = false

-- a run that has ended, or goes on in a larger room
abbrev pub IsOver : Next → Type 0
IsOver (Onward g) = ⊥
IsOver (Done g) = Unit {0}
IsOver (Stopped g ending function) = Unit {0}
IsOver (Deeper g) = Unit {0}

-- no application is to begin, if the run goes on
abbrev pub Idle : Next → Type 0
Idle (Onward g) = g.callee ≡ 0
Idle (Done g) = Unit {0}
Idle (Stopped g ending function) = Unit {0}
Idle (Deeper g) = Unit {0}

-- the registers at the place after a word
abbrev pub stepped : Registers → Registers
stepped g =
    record {
      p = g.p;
      q = g.q;
      r = g.r;
      frame = g.frame;
      at = record { 0 = g.at.0 + 1 };
      steps = g.steps;
      emitted = g.emitted;
      callee = g.callee;
    }

-- the registers after an action, or those before it where it stops
abbrev pub kept_of : Next → Registers → Registers
kept_of (Onward h) g = h
kept_of (Done h) g = g
kept_of (Stopped h ending function) g = g
kept_of (Deeper h) g = g

-- THE INVARIANT WHERE AN INSTRUCTION COMES NEXT

-- a run goes on, and no application is to begin
pub record ActingInvariant (allowance : ℕ) (g : Registers) (m : Memory) : Type 0 where
  pub invariant : Invariant allowance g m
  pub idle : g.callee ≡ 0

-- the same for some allowance and some record, for what needs neither
pub record SomeActingInvariant (g : Registers) (input output : Bytes) (frames : List ℕ) (values : Bytes) : Type 0 where
  pub allowance : ℕ
  pub «record» : Bytes
  pub acting : ActingInvariant allowance g (memory input output «record» frames values)

-- WHAT A TURN SIMULATES

-- a turn of the loop: it simulates the run from where it stands, and the measure falls
abbrev pub SimulatesTurn : Words → ℕ → Registers → Memory → Next → Memory → Type 0
SimulatesTurn words allowance g m next n =
    SimulatesBelow words allowance (outcome_from (memory_room m) allowance words (Onward g) m)
    (measure (length words) allowance (Onward g) m) g m next n

-- its first part, the application that is to begin, if there is one: the measure may stay where actions come next
pub record SimulatesEntry (words : Words) (allowance : ℕ) (g : Registers) (m : Memory)
    (next : Next) (n : Memory) : Type 0 where
  pub below : SimulatesBelow words allowance (outcome_from (memory_room m) allowance words (Onward g) m)
      (suc (measure (length words) allowance (Onward g) m)) g m next n
  pub again : (Idle next → ⊥) → measure (length words) allowance next n < measure (length words) allowance (Onward g) m

-- nothing has changed, or the measure has fallen
pub data UnchangedOrBelow (size allowance : ℕ) (g : Registers) (m : Memory) (h : Registers) (n : Memory) : Type 0 where
  still : h ≡ g → n ≡ m → UnchangedOrBelow size allowance g m h n
  onwards : measure size allowance (Onward h) n < measure size allowance (Onward g) m →
      UnchangedOrBelow size allowance g m h n

-- instructions that are tried, each where it comes next: the measure falls if one is done
pub record SimulatesTry (words : Words) (allowance : ℕ) (g : Registers) (m : Memory)
    (h : Registers) (n : Memory) : Type 0 where
  pub simulates : Simulates words allowance (outcome_from (memory_room m) allowance words (Onward g) m) g m (Onward h) n
  pub idle : h.callee ≡ 0
  pub moved : UnchangedOrBelow (length words) allowance g m h n

-- UseSeq, which is done where it comes next, or else does not come next
pub data SimulatesUse (words : Words) (allowance : ℕ) (g : Registers) (m : Memory)
    (next : Next) (n : Memory) : Type 0 where
  other : (Numbered words g.at.0 use_seq_number → ⊥) → next ≡ Onward g → n ≡ m
      → SimulatesUse words allowance g m next n
  used : SimulatesTurn words allowance g m next n → Idle next → SimulatesUse words allowance g m next n

-- one instruction, any but UseSeq; before UseSeq the measure must have fallen already
abbrev pub SimulatesInstruction : Words → ℕ → Registers → Memory → Next → Memory → Type 0
SimulatesInstruction words allowance g m next n =
    (bound : ℕ) → measure (length words) allowance (Onward g) m ≤ bound →
    (Numbered words g.at.0 use_seq_number → measure (length words) allowance (Onward g) m < bound) →
    SimulatesBelow words allowance (outcome_from (memory_room m) allowance words (Onward g) m) bound g m next n
