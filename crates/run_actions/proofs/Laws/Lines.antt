-- The emission on registers and cells does what the machine's does.
use Prim.Native.Nat.{ℕ, ◌+◌, ◌-◌, ◌≤◌, ◌<◌}
use native.Mathlib.Nat.{sub_self}
use native.Mathlib.Omega.{arith}
use mathlib.Core.Path.{◌≡◌, refl, sym, ◌∙◌}
use mathlib.Core.Bool.{true, false}
use lib.ListN.{length, take, drop}
use lib.Seq.{drop-drop, length-take-le, paste, take-paste, drop-paste, length-paste, take_all}
use borrow.Author.Tests.{lt-ltb, le-ltb}
use Rattle.meaning.specs.Choice.{Bytes}
use Rattle.meaning.specs.Outcome.{emitted_line}
use Rattle.meaning.specs.Packing.{Words, emission_of}
use Rattle.run_actions.specs.declared.registers.Registers.{Registers}
use Rattle.answers.specs.declared.Ending.TheVariants.{NoInstruction, RecordFull}
use Rattle.run_actions.specs.declared.registers.Next.TheVariants.{Onward, Stopped}
use Rattle.run_decoding.specs.Decoded.{is_name}
use Rattle.run_actions.specs.States.{line_marks, Memory, memory, ImplementsAction}
use Rattle.run_actions.proofs.Laws.Acting.{part-long, stops}
use Rattle.run_actions.proofs.Laws.Naming.{spelled, spelled-long, length-line}

-- what is alike from a place on is alike from a later place on
further : (a b : Bytes) (i n : ℕ) → drop i a ≡ drop i b → drop (i + n) a ≡ drop (i + n) b
further a b i n e = sym (drop-drop n i a) ∙ rw e (drop-drop n i b)

module _ (g : Registers) (m : Memory) (words : Words) (n : ℕ) where
  pub emission-wrong : is_name n (drop g.at.0 words) ≡ false →
      ImplementsAction (emission_of n (drop g.at.0 words)) (g.at.0 + n) g m (Stopped g NoInstruction 0) m
  emission-wrong e = stops g m _ _ NoInstruction (λ allowance code enter k. rw e)

  module _ (p≤q : g.p.0 ≤ g.q.0) (q≤in : g.q.0 ≤ length m.input) (logged : g.emitted ≤ length m.«record»)
      (known : is_name n (drop g.at.0 words) ≡ true) where
    -- the line that is emitted, and its length
    abbrev line : Bytes
    line = emitted_line (take n (drop g.at.0 words)) (take (g.q.0 - g.p.0) (drop g.p.0 m.input))

    abbrev size : ℕ
    size = n + (g.q.0 - g.p.0) + line_marks

    sized : length line ≡ size
    sized =
        length-line (take n (drop g.at.0 words)) (take (g.q.0 - g.p.0) (drop g.p.0 m.input)) ∙
        rw (
          spelled-long words g.at.0 n (spelled words g.at.0 n known),
          part-long m.input g.p.0 g.q.0 q≤in,
        )

    pub emission-full : length m.«record» - g.emitted < size →
        ImplementsAction (emission_of n (drop g.at.0 words)) (g.at.0 + n) g m (Stopped g RecordFull 0) m
    emission-full h =
        let full : length m.«record» < g.emitted + size = omega arith in
        stops g m _ _ RecordFull (λ allowance code enter k.
        rw (known, length-take-le g.emitted m.«record» logged, sized, lt-ltb (length m.«record») (g.emitted + size) full))

    pub emission-written : size ≤ length m.«record» - g.emitted →
        ImplementsAction (emission_of n (drop g.at.0 words)) (g.at.0 + n) g m
        (Onward (record {
          p = g.q;
          q = g.q;
          r = g.r;
          frame = g.frame;
          at = record { 0 = g.at.0 + n };
          steps = g.steps;
          emitted = g.emitted + size;
          callee = g.callee;
        }))
        (memory m.input m.output (paste m.«record» g.emitted line size) m.frames m.values)
    emission-written h =
        let there : g.emitted + size ≤ length m.«record» = omega arith in
        let end : g.p.0 + (g.q.0 - g.p.0) ≡ g.q.0 = omega arith in
        let long : size ≤ length line = omega (arith, sized) in
        record {
          same = λ allowance code enter k.
              rw (
                known,
                length-take-le g.emitted m.«record» logged,
                sized,
                le-ltb (length m.«record») (g.emitted + size) there,
                drop-drop (g.q.0 - g.p.0) g.p.0 m.input,
                end,
                sub_self g.q.0,
                take-paste m.«record» g.emitted line size logged long,
                take_all size line (omega (arith, sized)),
              );
          preserves = record {
            invariant = λ f. record {
              room = record {
                selection = record { ordered = omega arith; inside = f.room.selection.inside };
                written = record {
                  below = f.room.written.below;
                  logged = rw (length-paste m.«record» g.emitted line size there long) there;
                };
                frame = f.room.frame;
                values = f.room.values;
              };
              held = f.held;
            };
            frame = refl;
            place = refl;
            steps = refl;
            callee = refl;
            waiting = refl;
            counts = refl;
            values = refl;
            beyond = λ old e. drop-paste m.«record» g.emitted line size logged long ∙ further m.«record» old g.emitted size e;
          };
        }
