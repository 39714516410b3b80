-- Instructions that are tried one after the other, and what a turn of the loop then leads to.
use Prim.Native.Nat.{ℕ, ◌+◌, ◌≤◌, ◌<◌}
use native.Mathlib.Omega.{arith}
use mathlib.Core.Path.{◌≡◌, refl, ap, ◌∙◌}
use mathlib.Core.Bool.{true, false}
use mathlib.Core.List.{◌∷◌}
use lib.ListN.{length, drop}
use Rattle.meaning.specs.Instructions.{Action}
use Rattle.meaning.specs.Machine.{is_declared}
use Rattle.meaning.specs.Packing.{Words, unpack_actions, use_seq_number}
use Rattle.run_decoding.specs.Decoded.{Numbered}
use Rattle.run_actions.specs.declared.registers.Registers.{Registers}
use Rattle.run_actions.specs.declared.registers.Next.{Next}
use Rattle.run_actions.specs.declared.registers.Next.TheVariants.{Onward, Done, Stopped, Deeper}
use Rattle.run_actions.specs.States.{Memory, crowded_at, memory_room, ImplementsAction}
use Rattle.run_applications.specs.Waiting.{functions_in, outcome_from, measure}
use Rattle.run_applications.specs.Simulation.{Invariant, registers_in, Simulates, SimulatesApplication}
use Rattle.run_turns.specs.Turns.{Idle, stepped, kept_of, ActingInvariant, SimulatesTurn, SimulatesEntry}
use Rattle.run_turns.specs.Turns.{UnchangedOrBelow, still, onwards, SimulatesTry, SimulatesUse, other, used, SimulatesInstruction}
use Rattle.run_applications.proofs.Laws.Simulation.{simulates-start, simulates-on}
use Rattle.run_turns.proofs.Laws.Turning.{turn-implements}

module _ (words : Words) (allowance : ℕ) where
  -- what is left to do, and what the run comes to
  abbrev Left : Registers → Memory → ℕ
  Left g m = measure (length words) allowance (Onward g) m

  module _ {g : Registers} {m : Memory} where
    -- nothing done
    pub tries-nothing : (n : Memory) → n ≡ m → ActingInvariant allowance g m → SimulatesTry words allowance g m g n
    tries-nothing n same a =
        rw same
        (record { simulates = simulates-start words allowance (Onward g) m a.invariant; idle = a.idle; moved = still refl refl })

    -- an action done, or left where it stops
    pub tries-action : (action : Action) (next : Next) (n : Memory) → g.at.0 < length words →
        unpack_actions 0 (drop g.at.0 words) ≡ action ∷ unpack_actions 0 (drop (g.at.0 + 1) words) → memory_room n ≡ memory_room m →
        ImplementsAction action (g.at.0 + 1) (stepped g) m next n → ActingInvariant allowance g m →
        SimulatesTry words allowance g m (kept_of next g) n
    tries-action action (Onward h) n within means room acts a =
        let steps = turn-implements words allowance g m a.idle action (g.at.0 + 1) (Onward h) n within a.invariant means room (omega arith)
        acts in
        record { simulates = steps.simulates; idle = acts.preserves.callee ∙ a.idle; moved = onwards steps.decreases }
    tries-action action (Done h) n within means room acts a = absurd acts.preserves
    tries-action action (Stopped h ending function) n within means room acts a = tries-nothing n acts.preserves.1 a
    tries-action action (Deeper h) n within means room acts a = absurd acts.preserves

    pub acting-on : {h : Registers} {n : Memory} → SimulatesTry words allowance g m h n → ActingInvariant allowance h n
    acting-on t = record { invariant = t.simulates.invariant; idle = t.idle }

    no_more : {h : Registers} {n : Memory} → UnchangedOrBelow (length words) allowance g m h n → Left h n ≤ Left g m
    no_more (still e e') = rw (e, e') (omega arith)
    no_more (onwards l) = omega arith

    moved_on : {h k : Registers} {n l : Memory} → UnchangedOrBelow (length words) allowance g m h n →
        UnchangedOrBelow (length words) allowance h n k l → UnchangedOrBelow (length words) allowance g m k l
    moved_on (still e e') (still f f') = still (f ∙ e) (f' ∙ e')
    moved_on (still e e') (onwards l) = onwards (rw (e, e') at l)
    moved_on (onwards l) (still f f') = onwards (rw (f, f') l)
    moved_on (onwards l) (onwards l') = onwards (omega arith)

    -- one after the other
    pub tries-then : {h k : Registers} {n l : Memory} → SimulatesTry words allowance g m h n → SimulatesTry words allowance h n k l →
        SimulatesTry words allowance g m k l
    tries-then t t' =
        record {
          simulates = simulates-on words allowance _ g m _ _ _ _ t.simulates t'.simulates;
          idle = t'.idle;
          moved = moved_on t.moved t'.moved;
        }

    -- UseSeq done
    pub uses-action : (action : Action) (next : Next) (n : Memory) → g.at.0 < length words →
        unpack_actions 0 (drop g.at.0 words) ≡ action ∷ unpack_actions 0 (drop (g.at.0 + 1) words) → memory_room n ≡ memory_room m →
        ImplementsAction action (g.at.0 + 1) (stepped g) m next n → ActingInvariant allowance g m → SimulatesUse words allowance g m next n
    uses-action action next n within means room acts a =
        used (turn-implements words allowance g m a.idle action (g.at.0 + 1) next n within a.invariant means room (omega arith) acts)
        (idles next acts)
      where
        idles : (next : Next) → ImplementsAction action (g.at.0 + 1) (stepped g) m next n → Idle next
        idles (Onward h) acts = acts.preserves.callee ∙ a.idle
        idles (Done h) acts = tt
        idles (Stopped h ending function) acts = tt
        idles (Deeper h) acts = tt

    pub acting-used : {h : Registers} {n : Memory} → ActingInvariant allowance g m → SimulatesUse words allowance g m (Onward h) n →
        ActingInvariant allowance h n
    acting-used {h = h} a (other none e e') = let same : h ≡ g = ap registers_in e in rw (same, e') a
    acting-used a (used steps idle) = record { invariant = steps.simulates.invariant; idle = idle }

    -- ONE INSTRUCTION

    pub does-step : {next : Next} {n : Memory} → SimulatesTurn words allowance g m next n → SimulatesInstruction words allowance g m next n
    does-step steps bound h more = record { simulates = steps.simulates; decreases = omega (arith, steps.decreases) }

    pub does-use : ActingInvariant allowance g m → Numbered words g.at.0 use_seq_number → SimulatesInstruction words allowance g m (Onward g) m
    does-use a numbered bound h more = record { simulates = simulates-start words allowance (Onward g) m a.invariant; decreases = more numbered }

    -- a call left for where there is room for its frame
    pub does-deeper : ActingInvariant allowance g m → crowded_at g.frame m.frames ≡ true → SimulatesInstruction words allowance g m (Deeper g) m
    does-deeper a full bound h more =
        record {
          simulates = record { same = refl; invariant = record { invariant = a.invariant; crowded = full }; room = refl; beyond = λ old e. e };
          decreases = omega arith;
        }

  -- AN APPLICATION THAT IS TO BEGIN

  module _ (g : Registers) (m : Memory) where
    -- the registers with no application to begin
    abbrev pub idle_of : Registers
    idle_of = record { p = g.p; q = g.q; r = g.r; frame = g.frame; at = g.at; steps = g.steps; emitted = g.emitted; callee = 0 }

    pub enters_none : is_declared (functions_in words) g.callee ≡ false → Invariant allowance g m →
        SimulatesEntry words allowance g m (Onward idle_of) m
    enters_none none u =
        record {
          below =
              record {
                simulates =
                    record {
                      same = rw none;
                      invariant =
                          record {
                            ready = record { room = u.ready.room; paid = u.ready.paid; counts = u.ready.counts; waits = u.ready.waits };
                            current = u.current;
                          };
                      room = refl;
                      beyond = λ old b. b;
                    };
                decreases = omega arith;
              };
          again = λ more. absurd (more refl);
        }

    pub enters-applied : is_declared (functions_in words) g.callee ≡ true → (next : Next) (n : Memory) →
        SimulatesApplication words allowance g.callee g m next n → Invariant allowance g m → SimulatesEntry words allowance g m next n
    enters-applied declared next n applies u =
        let d = applies u in
        record {
          below =
              record {
                simulates = record {
                  same = rw declared d.simulates.same;
                  invariant = d.simulates.invariant;
                  room = d.simulates.room;
                  beyond =
                      d.simulates.beyond;
                };
                decreases = omega (arith, d.decreases);
              };
          again = λ more. omega (arith, d.decreases);
        }

  -- A TURN OF THE LOOP

  module _ {g : Registers} {m : Memory} where
    -- what is begun and doesn't go on has ended the run
    pub turn-begun : {next : Next} {n : Memory} → measure (length words) allowance next n ≡ 0 →
        SimulatesEntry words allowance g m next n → SimulatesTurn words allowance g m next n
    turn-begun over b = record { simulates = b.below.simulates; decreases = rw over (omega arith) }

    -- another application is left for the next turn
    pub turn-again : {next : Next} {n : Memory} → (Idle next → ⊥) →
        SimulatesEntry words allowance g m next n → SimulatesTurn words allowance g m next n
    turn-again more b = record { simulates = b.below.simulates; decreases = b.again more }

    module _ {g₁ g₂ : Registers} {m₁ m₂ : Memory}
        (begun : SimulatesEntry words allowance g m (Onward g₁) m₁)
        (written : SimulatesTry words allowance g₁ m₁ g₂ m₂) where
      through : Simulates words allowance (outcome_from (memory_room m) allowance words (Onward g) m) g m (Onward g₂) m₂
      through = simulates-on words allowance _ g m m₁ m₂ (Onward g₁) (Onward g₂) begun.below.simulates written.simulates

      less : Left g₂ m₂ ≤ Left g m
      less = omega (arith, begun.below.decreases, no_more written.moved)

      -- UseSeq ends the run
      pub turn-used : {next : Next} {n : Memory} → measure (length words) allowance next n ≡ 0 → SimulatesUse words allowance g₂ m₂ next n →
          SimulatesTurn words allowance g m next n
      turn-used over (other none e e') = let z : measure (length words) allowance (Onward g₂) m₂ ≡ 0 = rw (e, e') at over in absurd (omega arith)
      turn-used {next} {n} over (used steps idle) =
          record {
            simulates = simulates-on words allowance _ g m m₂ n (Onward g₂) next through steps.simulates;
            decreases =
                rw over (omega arith);
          }

      -- or one instruction more is done
      pub turn-done : {g₃ g₄ : Registers} {m₃ m₄ n : Memory} {next : Next} → SimulatesUse words allowance g₂ m₂ (Onward g₃) m₃ →
          SimulatesTry words allowance g₃ m₃ g₄ m₄ →
          SimulatesInstruction words allowance g₄ m₄ next n → SimulatesTurn words allowance g m next n
      turn-done {g₃} {g₄} {m₃} {m₄} {n} {next} u selected does = by u
        where
          ends : Simulates words allowance (outcome_from (memory_room m) allowance words (Onward g) m) g m (Onward g₃) m₃ → Left g₄ m₄ ≤ Left g m →
              (Numbered words g₄.at.0 use_seq_number → Left g₄ m₄ < Left g m) → SimulatesTurn words allowance g m next n
          ends lead few fewer =
              let d = does (Left g m) few fewer in
              record {
                simulates = simulates-on words allowance _ g m m₄ n (Onward g₄) next
                    (simulates-on words allowance _ g m m₃ m₄ (Onward g₃) (Onward g₄) lead selected.simulates) d.simulates;
                decreases = d.decreases;
              }

          -- what comes next was no UseSeq, so if it is one now, something was done
          selected-use : (Numbered words g₃.at.0 use_seq_number → ⊥) → Left g₃ m₃ ≤ Left g m →
              UnchangedOrBelow (length words) allowance g₃ m₃ g₄ m₄ →
              Numbered words g₄.at.0 use_seq_number → Left g₄ m₄ < Left g m
          selected-use none few (still e e') numbered = absurd (none (rw e at numbered))
          selected-use none few (onwards l) numbered = omega arith

          by : SimulatesUse words allowance g₂ m₂ (Onward g₃) m₃ → SimulatesTurn words allowance g m next n
          by (other none e e') =
              let same : g₃ ≡ g₂ = ap registers_in e in
              let few : Left g₃ m₃ ≤ Left g m = rw (same, e') less in
              ends (rw (same, e') through) (omega (arith, few, no_more selected.moved)) (selected-use (rw same none) few selected.moved)
          by (used steps idle) =
              let fewer : Left g₄ m₄ < Left g m = omega (arith, steps.decreases, less, no_more selected.moved) in
              ends (simulates-on words allowance _ g m m₂ m₃ (Onward g₂) (Onward g₃) through steps.simulates) (omega (arith, fewer))
              (λ numbered. fewer)
