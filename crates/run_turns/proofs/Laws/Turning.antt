-- One instruction as a turn of the loop: what it simulates, from the action that its function implements.
use Prim.Native.Nat.{ℕ, zero, suc, ◌+◌, ◌≤◌, ◌<◌}
use native.Mathlib.Omega.{arith}
use mathlib.Core.Path.{◌≡◌, refl, sym, ap, ◌∙◌}
use mathlib.Core.List.{List, [], ◌∷◌}
use lib.ListN.{length, drop}
use Rattle.meaning.specs.Instructions.{Action, unknown_action}
use mathlib.Core.Bool.{false}
use Rattle.meaning.specs.Machine.{is_declared, process}
use Rattle.meaning.specs.Packing.{Words, unpack_actions}
use Rattle.run_actions.specs.declared.registers.Registers.{Registers}
use Rattle.answers.specs.declared.Ending.TheVariants.{NoInstruction}
use Rattle.run_actions.specs.declared.registers.Next.{Next}
use Rattle.run_actions.specs.declared.registers.Next.TheVariants.{Onward, Done, Stopped, Deeper}
use Rattle.run_actions.specs.States.{Memory, memory_room, ActionInvariant, Preserves, ImplementsAction}
use Rattle.run_applications.specs.Waiting.{functions_in, entering, continuation_at, returning, measure_waiting, measure, left_from, left_by}
use Rattle.run_applications.specs.Simulation.{Invariant, NextInvariant, registers_in, SimulatesAction}
use Rattle.run_applications.proofs.Laws.Waiting.{measure-same, waits-same, waiting-same, waiting-stop, waiting-done}
use Rattle.run_turns.specs.Turns.{SimulatesTurn, stepped}

-- THE INVARIANT AFTER AN ACTION

action-invariant : {allowance : ℕ} {g : Registers} {m : Memory} → Invariant allowance g m → ActionInvariant g m
action-invariant u = record { room = u.ready.room; held = u.current }

module _ (allowance at : ℕ) (g : Registers) (m : Memory) (h : Registers) (n : Memory) (room : memory_room n ≡ memory_room m)
    (s : Preserves at g m h n) (u : Invariant allowance g m) where
  invariant-preserved : Invariant allowance h n
  invariant-preserved =
      let f = s.invariant (action-invariant u) in
      let fewer : h.steps ≤ allowance = rw s.steps u.ready.paid in
      let sized : length n.input ≡ length m.input = ap (λ r. r.in_cells) room in
      record {
        ready =
            record {
              room = f.room;
              paid = fewer;
              counts = λ i. rw (s.counts, s.steps) (u.ready.counts i);
              waits = λ k l.
                  rw sized
                  (waits-same m.frames n.frames g.frame (sym s.waiting) (length m.input) u.ready.waits k (rw s.frame at l));
            };
        current = f.held;
      }

  measure-preserved : (size : ℕ) → g.at.0 ≤ at → measure size allowance (Onward h) n < suc (measure size allowance (Onward g) m)
  measure-preserved size l =
      rw (s.frame, s.place, s.steps, measure-same n.frames m.frames g.frame s.waiting size) (omega arith)

-- AN INSTRUCTION THAT NEITHER CALLS NOR RETURNS

module _ (words : Words) (allowance : ℕ) (action : Action) (at : ℕ) (g : Registers) (m n : Memory) (room : memory_room n ≡ memory_room m)
    (l : g.at.0 ≤ at) (idle : g.callee ≡ 0) where
  pub action-simulates : (next : Next) → ImplementsAction action at g m next n → SimulatesAction words allowance action at g m next n
  action-simulates (Onward h) a u =
      let s = a.preserves in
      let enters = entering (memory_room m) allowance words in
      record {
        simulates =
            record {
              same =
                  ap (returning (memory_room m) allowance words g m) (a.same allowance (functions_in words) enters
                  (continuation_at (memory_room m) allowance words g.frame at)) ∙
                  rw (s.callee, idle, s.frame, s.place)
                  (waiting-same (memory_room m) allowance words m.frames n.frames m.values n.values g.frame (sym s.waiting)
                  (rw s.values) _);
              invariant = invariant-preserved allowance at g m h n room s u;
              room = room;
              beyond = s.beyond;
            };
        decreases = measure-preserved allowance at g m h n room s u (length words) l;
      }
  action-simulates (Done h) a u = absurd a.preserves
  action-simulates (Deeper h) a u = absurd a.preserves
  action-simulates (Stopped h ending function) a u =
      let same : h ≡ g = a.preserves.0 in
      let kept : n ≡ m = a.preserves.1 in
      record {
        simulates =
            record {
              same =
                  ap (returning (memory_room m) allowance words g m) (a.same allowance (functions_in words) (entering (memory_room m) allowance words)
                  (continuation_at (memory_room m) allowance words g.frame at)) ∙
                  waiting-stop (memory_room m) allowance words g.frame m.frames m.values _ _ _;
              invariant = rw (same, kept) u.ready.room.written;
              room = room;
              beyond = λ old e. rw (same, kept) e;
            };
        decreases = omega arith;
      }

-- ONE INSTRUCTION OF THE LOOP

pub invariant-stepped : {allowance : ℕ} {g : Registers} {m : Memory} → Invariant allowance g m → Invariant allowance (stepped g) m
invariant-stepped u =
    record {
      ready = record { room = u.ready.room; paid = u.ready.paid; counts = u.ready.counts; waits = u.ready.waits };
      current = u.current;
    }

module _ (words : Words) (allowance : ℕ) (g : Registers) (m : Memory) (idle : g.callee ≡ 0) where
  pub turn-simulates : (action : Action) (at : ℕ) (next : Next) (n : Memory) → g.at.0 < length words → Invariant allowance g m →
      unpack_actions 0 (drop g.at.0 words) ≡ action ∷ unpack_actions 0 (drop at words) →
      SimulatesAction words allowance action at (stepped g) m next n → SimulatesTurn words allowance g m next n
  unfolding process
  turn-simulates action at next n h u e does =
      let d = does (invariant-stepped u) in
      record {
        simulates = record {
          same = rw (idle, e) d.simulates.same;
          invariant = d.simulates.invariant;
          room = d.simulates.room;
          beyond =
              d.simulates.beyond;
        };
        decreases = omega (arith, d.decreases);
      }

  -- words that are no instruction
  pub turn-unknown : (more : List Action) → Invariant allowance g m → unpack_actions 0 (drop g.at.0 words) ≡ unknown_action ∷ more →
      (h : Registers) → h.r ≡ g.r → h.steps ≡ g.steps → h.emitted ≡ g.emitted → SimulatesTurn words allowance g m (Stopped h NoInstruction 0) m
  unfolding process
  turn-unknown more u e h r steps emitted =
      record {
        simulates =
            record {
              same = rw (idle, e, steps, emitted) (waiting-stop (memory_room m) allowance words g.frame m.frames m.values _ _ _);
              invariant = record { below = rw r u.ready.room.written.below; logged = rw emitted u.ready.room.written.logged };
              room = refl;
              beyond = λ old b. rw emitted b;
            };
        decreases = omega arith;
      }

  pub turn-implements : (action : Action) (at : ℕ) (next : Next) (n : Memory) → g.at.0 < length words → Invariant allowance g m →
      unpack_actions 0 (drop g.at.0 words) ≡ action ∷ unpack_actions 0 (drop at words) → memory_room n ≡ memory_room m → g.at.0 + 1 ≤ at →
      ImplementsAction action at (stepped g) m next n → SimulatesTurn words allowance g m next n
  turn-implements action at next n h u e room l a =
      turn-simulates action at next n h u e (action-simulates words allowance action at (stepped g) m n room l idle next a)

  -- THE END OF AN APPLICATION

  module _ (h : g.at.0 < length words) (u : Invariant allowance g m) where
    invariant-left : (k : ℕ) → k ≡ g.frame → NextInvariant allowance (left_from k (stepped g) m.frames) m
    invariant-left zero e = u.ready.room.written
    invariant-left (suc k) e =
        record {
          ready =
              record {
                room =
                    record {
                      selection =
                          record {
                            ordered = omega arith;
                            inside = omega (arith, u.ready.room.selection, (u.ready.waits k (omega arith)).kept);
                          };
                      written = u.ready.room.written;
                      frame = record { framed = omega (arith, u.ready.room.frame); frame_room = omega (arith, u.ready.room.frame) };
                      values = u.ready.room.values;
                    };
                paid = u.ready.paid;
                counts = u.ready.counts;
                waits = λ i l. u.ready.waits i (omega arith);
              };
          current = (u.ready.waits k (omega arith)).held;
        }

    left-emitted : (k : ℕ) → (registers_in (left_from k (stepped g) m.frames)).emitted ≡ g.emitted
    left-emitted zero = refl
    left-emitted (suc k) = refl

    measure-left : (k : ℕ) → k ≡ g.frame → measure (length words) allowance (left_from k (stepped g) m.frames) m < measure (length words) allowance
        (Onward g) m
    unfolding measure_waiting
    measure-left zero e = omega arith
    measure-left (suc k) e = rw (← e) (omega arith)

    pub turn-leaves : unpack_actions 0 (drop g.at.0 words) ≡ [] → SimulatesTurn words allowance g m (left_by (stepped g) m.frames) m
    unfolding process
    turn-leaves e =
        let none : is_declared (functions_in words) g.callee ≡ false = rw idle in
        record {
          simulates =
              record {
                same =
                    rw (none, e)
                    (waiting-done allowance words g.frame (stepped g) m idle (omega (arith, u.ready.room.selection)) u.ready.waits);
                invariant = invariant-left g.frame refl;
                room = refl;
                beyond = λ old b. rw (left-emitted g.frame) b;
              };
          decreases = measure-left g.frame refl;
        }
