-- The facts about `act` that the check is told: what each instruction simulates.
use Prim.Native.Nat.{ℕ, ◌+◌, ◌<◌, ◌≤◌}
use native.Mathlib.Omega.{arith}
use mathlib.Core.Path.{◌≡◌, refl, ◌∙◌}
use mathlib.Core.List.{[], ◌∷◌}
use lib.ListN.{length, get_or, drop}
use Rattle.meaning.specs.Instructions.{Action}
use Rattle.meaning.specs.Packing.{Words, unpack_actions}
use Rattle.run_decoding.specs.declared.Instruction.{Instruction}
use Rattle.run_decoding.specs.Decoded.{instruction_in, actions_meant}
use Rattle.run_decoding.proofs.Laws.Reading.{actions-at, actions-none, actions-named}
use Rattle.run_actions.specs.declared.registers.Registers.{Registers}
use Rattle.run_actions.specs.declared.registers.Next.{Next}
use Rattle.run_actions.specs.States.{Memory, memory_room, ImplementsAction}
use Rattle.run_turns.specs.Turns.{ActingInvariant, stepped, SimulatesInstruction}
use Rattle.run_turns.proofs.Laws.Turning.{turn-simulates, turn-implements, turn-unknown, turn-leaves}
use Rattle.run_turns.proofs.Laws.Trying.{does-step}
use Rattle.run_turns.proofs.act.Goals as goal

-- an instruction that is one action, and leads on to a place
acts : (words : Words) (allowance : ℕ) (g : Registers) (m : Memory) → ActingInvariant allowance g m → g.at.0 < length words →
    (i : Instruction) → i ≡ instruction_in (get_or words g.at.0 0) → (action : Action) (at : ℕ) →
    actions_meant i (drop (g.at.0 + 1) words) ≡ action ∷ unpack_actions 0 (drop at words) → g.at.0 + 1 ≤ at →
    (next : Next) (n : Memory) → memory_room n ≡ memory_room m → ImplementsAction action at (stepped g) m next n →
    SimulatesInstruction words allowance g m next n
acts words allowance g m a within i is action at means l next n room implements =
    does-step _ _
    (turn-implements words _ g m a.idle action at next n within a.invariant (actions-at words g.at.0 i is within ∙ means) room l
    implements)

pub returns-then-code-at : goal.returns-then-code-at
returns-then-code-at c = record {
  simulates =
      let a = c.requires.acting_invariant in
      rw c.stopped.ensures
      (does-step _ _
      (turn-unknown _ _ _ _ a.idle [] a.invariant (actions-none c.args.program.code.now c.args.g.at.0 c.if-code-at.true) c.args.g refl refl
      refl));
}

pub returns-in-Go : goal.returns-in-Go
returns-in-Go c = record {
  simulates =
      acts c.args.program.code.now _ _ _ c.requires.acting_invariant c.if-code-at.false _ (rw c.in-Go.is at c.decode.ensures)
      _ _ refl (omega arith) _ _ refl (c.go.ensures.implements _ _ _);
}

pub returns-in-Select : goal.returns-in-Select
returns-in-Select c = record {
  simulates =
      acts c.args.program.code.now _ _ _ c.requires.acting_invariant c.if-code-at.false _ (rw c.in-Select.is at c.decode.ensures)
      _ _ refl (omega arith) _ _ refl (c.select.ensures.implements _ _ _);
}

pub returns-in-Write : goal.returns-in-Write
returns-in-Write c = record {
  simulates =
      acts c.args.program.code.now _ _ _ c.requires.acting_invariant c.if-code-at.false _ (rw c.in-Write.is at c.decode.ensures)
      _ _ refl (omega arith) _ _ (rw c.write.auto.output) (c.write.ensures.implements _);
}

pub returns-in-BeginSeq : goal.returns-in-BeginSeq
returns-in-BeginSeq c = record {
  simulates =
      acts c.args.program.code.now _ _ _ c.requires.acting_invariant c.if-code-at.false _ (rw c.in-BeginSeq.is at c.decode.ensures)
      _ _ refl (omega arith) _ _ refl
      (c.begin_seq.ensures.implements _ _ _ _ c.requires.acting_invariant.invariant.ready.room.written.below);
}

pub returns-else-crowded : goal.returns-else-crowded
returns-else-crowded c = record {
  simulates =
      let a = c.requires.acting_invariant in
      does-step _ _
      (turn-simulates _ _ _ _ a.idle _ (c.args.g.at.0 + 1) _ _ c.if-code-at.false a.invariant
      (actions-at c.args.program.code.now _ _ (rw c.in-Call.is at c.decode.ensures) c.if-code-at.false)
      (c.call.ensures.simulates _ _ _ _));
}

pub returns-in-Emit : goal.returns-in-Emit
returns-in-Emit c = record {
  simulates =
      let named = actions-named c.args.program.code.now (c.args.g.at.0 + 1) c.in-Emit.length in
      acts c.args.program.code.now _ _ _ c.requires.acting_invariant c.if-code-at.false _ (rw c.in-Emit.is at c.decode.ensures)
      _ _ (rw named) (omega arith) _ _ (rw c.emit.auto.emissions) (c.emit.ensures.implements _ _ _);
}

pub returns-in-Compute : goal.returns-in-Compute
returns-in-Compute c = record {
  simulates =
      acts c.args.program.code.now _ _ _ c.requires.acting_invariant c.if-code-at.false _ (rw c.in-Compute.is at c.decode.ensures)
      _ _ refl (omega arith) _ _ (rw c.compute.auto.output) (c.compute.ensures.implements _ _ _);
}

pub returns-in-End : goal.returns-in-End
returns-in-End c = record {
  simulates =
      let a = c.requires.acting_invariant in
      rw c.leave.ensures.result
      (does-step _ _
      (turn-leaves _ _ _ _ a.idle c.if-code-at.false a.invariant
      (actions-at c.args.program.code.now _ _ (rw c.in-End.is at c.decode.ensures) c.if-code-at.false)));
}

pub returns-in-Unknown : goal.returns-in-Unknown
returns-in-Unknown c = record {
  simulates =
      let a = c.requires.acting_invariant in
      rw c.stopped-in-Unknown.ensures
      (does-step _ _
      (turn-unknown _ _ _ _ a.idle _ a.invariant
      (actions-at c.args.program.code.now _ _ (rw c.in-Unknown.is at c.decode.ensures) c.if-code-at.false) (stepped c.args.g) refl refl refl));
}
