-- Each action on registers and cells does what the machine's action does: one law for each way that an action can go.
use Prim.Native.Nat.{ℕ, suc, ◌+◌, ◌*◌, ◌-◌, ◌≤◌, ◌<◌}
use native.Mathlib.Nat.{sub_self}
use native.Mathlib.Numerals.{add-one}
use native.Mathlib.Omega.{arith}
use mathlib.Core.Path.{◌≡◌, refl, ◌∙◌}
use mathlib.Core.Option.{Option, none, some}
use lib.ListN.{length, get_or, take, drop, set, length-drop, length-take, length-set}
use lib.Seq.{drop-drop, length-take-le, take-suc-set, paste, take-paste, take-length, length-paste, get_or-take, get_or-drop}
use borrow.Author.Tests.{le-leb, lt-leb, lt-ltb, le-ltb}
use Rattle.meaning.specs.Choice.{Bytes, nth}
use Rattle.meaning.specs.Instructions.{Action, go, select, out, out_c, out_v, Code}
use Rattle.meaning.specs.Instructions.{Length as Register}
use Rattle.meaning.specs.Machine.{Stacks, register_of, perform}
use Rattle.meaning.specs.Outcome.{stop}
use Rattle.meaning.specs.Runs.{lent}
use Rattle.meaning.specs.Packing.{first_in, second_in, third_in, length_of, span_action}
use Rattle.run_actions.specs.declared.registers.Registers.{Registers}
use Rattle.answers.specs.declared.Ending.{Ending}
use Rattle.answers.specs.declared.Ending.TheVariants.{NoInstruction, OutFull}
use Rattle.run_actions.specs.declared.registers.Next.{Next}
use Rattle.run_actions.specs.declared.registers.Next.TheVariants.{Onward, Stopped}
use Rattle.std.specs.Prelude.{Result, Ok, Err}
use Rattle.run_code_places.specs.declared.Wrong.{Wrong}
use Rattle.run_cells.specs.Places.{InCell}
use Rattle.run_decoding.specs.Decoded.{span_meant}
use Rattle.answers.specs.Numbers.{ending_number}
use Rattle.run_actions.specs.Spans.{wrong, cells_of, reached_by}
use Rattle.run_actions.specs.States.{Memory, memory, frame_word, local_of, stacks_of, Ledgers, ledger_of, memory_room, moved_to, ActionInvariant}
use Rattle.run_actions.specs.States.{Outcomes, Continuation, Writes, Preserves, ImplementsAction, HasValues}
use Rattle.run_sites.proofs.Laws.Lists.{nth_in, nth-out}
use Rattle.run_actions.proofs.Laws.Spanning.{counted, not-counted, led, not-led}

-- the cells from one to another
pub part-long : (l : Bytes) (p q : ℕ) → q ≤ length l → length (take (q - p) (drop p l)) ≡ q - p
part-long l p q h = length-take-le (q - p) (drop p l) (rw length-drop (omega arith))

-- the value that a frame stored under a number
stored-value : (frame k n : ℕ) (values : Bytes) → k < n → n ≤ 16 → HasValues frame values →
    nth k (take n (drop (16 * frame) (take (16 * frame + 16) values))) ≡ some (get_or values (16 * frame + k) 0)
stored-value frame k n values h few there =
    let within : k < length (take n (drop (16 * frame) (take (16 * frame + 16) values))) =
    simp (length-take, length-drop, length-take-le (16 * frame + 16) values (omega (arith, there))) (omega arith) in
    let low : 16 * frame + k < 16 * frame + 16 = omega arith in
    rw (
      nth_in _ k within,
      get_or-take n (drop (16 * frame) (take (16 * frame + 16) values)) k 0 h,
      get_or-drop (16 * frame) (take (16 * frame + 16) values) k 0,
      get_or-take (16 * frame + 16) values (16 * frame + k) 0 low,
    )

module _ (g : Registers) (m : Memory) where
  -- what the machine's action does here
  abbrev pub Performing : Action → ℕ → Code → (ℕ → ℕ → Stacks → Ledgers → Outcomes) → Continuation → Outcomes
  Performing action allowance code enter k =
      perform (lent (memory_room m)) code enter k (suc g.frame) action (local_of g m) (stacks_of g m) (ledger_of allowance g m)

  -- an action that stops
  pub stops : (action : Action) (at : ℕ) (ending : Ending) →
      ((allowance : ℕ) (code : Code) (enter : ℕ → ℕ → Stacks → Ledgers → Outcomes) (k : Continuation) →
      Performing action allowance code enter k ≡ stop (ending_number ending) 0 (ledger_of allowance g m)) →
      ImplementsAction action at g m (Stopped g ending 0) m
  stops action at ending h = record { same = h; preserves = (refl, refl) }

  -- only p, q, r and cells of the stacks change
  preserved : (p q r : ℕ) (input output : Bytes) → (ActionInvariant g m → p ≤ q) → (ActionInvariant g m → q ≤ length input) →
      (ActionInvariant g m → r ≤ length output) →
      Preserves g.at.0 g m (moved_to g p q r) (memory input output m.«record» m.frames m.values)
  preserved p q r input output o i b =
      record {
        invariant = λ f. record {
          room = record {
            selection = record { ordered = o f; inside = i f };
            written = record { below = b f; logged = f.room.written.logged };
            frame = f.room.frame;
            values = f.room.values;
          };
          held = f.held;
        };
        frame = refl;
        place = refl;
        steps = refl;
        callee = refl;
        waiting = refl;
        counts = refl;
        values = refl;
        beyond = λ old e. e;
      }

  -- GO AND SELECT

  module _ (p≤q : g.p.0 ≤ g.q.0) (q≤in : g.q.0 ≤ length m.input) (add back : ℕ) where
    -- the cells from a cell on that a span counts
    abbrev Spanned : Option Register → ℕ → Result ℕ Wrong
    Spanned o from = cells_of o add back (local_of g m) (length m.input - from)

    go-none : (o : Option Register) → Err wrong ≡ Spanned o g.p.0 →
        ImplementsAction (span_action go o add back) g.at.0 g m (Stopped g NoInstruction 0) m
    go-none none e = stops _ _ NoInstruction (λ allowance code enter k. refl)
    go-none (some r) e =
        stops _ _ NoInstruction (λ allowance code enter k. rw
        (length-drop g.p.0 m.input, lt-leb _ (length m.input - g.p.0) (not-counted _ _ e)))

    go-moved : (o : Option Register) (to : InCell) → Ok to ≡ reached_by (Spanned o g.p.0) g.p.0 →
        ImplementsAction (span_action go o add back) g.at.0 g m (Onward (moved_to g to.0 to.0 g.r.0)) m
    go-moved o to e =
        let l = led _ _ to e in
        let t = counted add back (local_of g m) _ o l.on l.count in
        record {
          same = λ allowance code enter k.
              rw (
                t.known,
                t.amount,
                length-drop g.p.0 m.input,
                le-leb l.on (length m.input - g.p.0) t.enough,
                drop-drop l.on g.p.0 m.input,
                ← l.sum,
                sub_self to.0,
              );
          preserves = preserved _ _ _ m.input m.output (λ f. omega arith) (λ f. omega (arith, t.enough, l.sum))
              (λ f. f.room.written.below);
        }

    select-none : (o : Option Register) → Err wrong ≡ Spanned o g.q.0 →
        ImplementsAction (span_action select o add back) g.at.0 g m (Stopped g NoInstruction 0) m
    select-none none e = stops _ _ NoInstruction (λ allowance code enter k. refl)
    select-none (some r) e =
        let n = register_of r (local_of g m) + add - back in
        let short : length m.input - g.p.0 < g.q.0 - g.p.0 + n = omega (arith, not-counted n _ e) in
        stops _ _ NoInstruction (λ allowance code enter k. rw (length-drop g.p.0 m.input, lt-leb _ _ short))

    select-moved : (o : Option Register) (to : InCell) → Ok to ≡ reached_by (Spanned o g.q.0) g.q.0 →
        ImplementsAction (span_action select o add back) g.at.0 g m (Onward (moved_to g g.p.0 to.0 g.r.0)) m
    select-moved o to e =
        let l = led _ _ to e in
        let t = counted add back (local_of g m) _ o l.on l.count in
        let there : g.q.0 - g.p.0 + l.on ≤ length m.input - g.p.0 = omega (arith, t.enough) in
        let moved : g.q.0 - g.p.0 + l.on ≡ to.0 - g.p.0 = omega (arith, l.sum) in
        record {
          same = λ allowance code enter k. rw (t.known, t.amount, length-drop g.p.0 m.input, le-leb _ _ there, moved);
          preserves = preserved _ _ _ m.input m.output (λ f. omega (arith, l.sum)) (λ f. omega (arith, t.enough, l.sum))
              (λ f. f.room.written.below);
        }

  module _ (p≤q : g.p.0 ≤ g.q.0) (q≤in : g.q.0 ≤ length m.input) (w : ℕ) where
    -- where a span leads from a cell, if the cells are there
    abbrev pub Leading : ℕ → Result InCell Wrong
    Leading from = reached_by (cells_of (length_of (first_in w)) (second_in w) (third_in w) (local_of g m) (length m.input - from)) from

    abbrev pub gone : Result InCell Wrong → Next
    gone (Err x) = Stopped g NoInstruction 0
    gone (Ok to) = Onward (moved_to g to.0 to.0 g.r.0)

    pub goes : (r : Result InCell Wrong) → r ≡ Leading g.p.0 → ImplementsAction (span_meant go w) g.at.0 g m (gone r) m
    goes (Err x) e = go-none p≤q q≤in (second_in w) (third_in w) (length_of (first_in w)) (not-led _ _ e)
    goes (Ok to) e = go-moved p≤q q≤in (second_in w) (third_in w) (length_of (first_in w)) to e

    abbrev pub selected : Result InCell Wrong → Next
    selected (Err x) = Stopped g NoInstruction 0
    selected (Ok to) = Onward (moved_to g g.p.0 to.0 g.r.0)

    pub selects : (r : Result InCell Wrong) → r ≡ Leading g.q.0 → ImplementsAction (span_meant select w) g.at.0 g m (selected r) m
    selects (Err x) e = select-none p≤q q≤in (second_in w) (third_in w) (length_of (first_in w)) (not-led _ _ e)
    selects (Ok to) e = select-moved p≤q q≤in (second_in w) (third_in w) (length_of (first_in w)) to e

  -- OUT, OUTC, OUTV

  module _ (r≤out : g.r.0 ≤ length m.output) where
    pub byte_full : (b : ℕ) → length m.output ≤ g.r.0 → ImplementsAction (out_c b) g.at.0 g m (Stopped g OutFull 0) m
    byte_full b h =
        let full : length m.output < suc g.r.0 = omega arith in
        stops _ _ OutFull (λ allowance code enter k. rw (length-take-le g.r.0 m.output r≤out, lt-ltb _ _ full))

    pub byte-written : (b : ℕ) → g.r.0 < length m.output →
        ImplementsAction (out_c b) g.at.0 g m (Onward (moved_to g g.p.0 g.q.0 (g.r.0 + 1)))
        (memory m.input (set m.output g.r.0 b) m.«record» m.frames m.values)
    byte-written b h =
        record {
          same = λ allowance code enter k.
              rw (
                length-take-le g.r.0 m.output r≤out,
                le-ltb (length m.output) (suc g.r.0) h,
                add-one g.r.0,
                take-suc-set m.output g.r.0 b h,
              );
          preserves = preserved _ _ _ m.input _ (λ f. f.room.selection.ordered) (λ f. f.room.selection.inside)
              (λ f. rw length-set (omega arith));
        }

    -- a text, whatever action writes it
    module _ {action : Action} {text : Bytes} (w : Writes action text g m) where
      pub text-full : length m.output - g.r.0 < length text → ImplementsAction action g.at.0 g m (Stopped g OutFull 0) m
      text-full h =
          let full : length m.output < g.r.0 + length text = omega arith in
          stops _ _ OutFull (λ allowance code enter k.
          w.same allowance code enter k ∙ rw (length-take-le g.r.0 m.output r≤out, lt-ltb _ _ full))

      pub text-written : g.p.0 ≤ g.q.0 → length text ≤ length m.output - g.r.0 →
          ImplementsAction action g.at.0 g m (Onward (moved_to g g.q.0 g.q.0 (g.r.0 + length text)))
          (memory m.input (paste m.output g.r.0 text (length text)) m.«record» m.frames m.values)
      text-written o h =
          let there : g.r.0 + length text ≤ length m.output = omega arith in
          let end : g.p.0 + (g.q.0 - g.p.0) ≡ g.q.0 = omega arith in
          record {
            same = λ allowance code enter k.
                w.same allowance code enter k ∙
                rw (
                  length-take-le g.r.0 m.output r≤out,
                  le-ltb (length m.output) _ there,
                  drop-drop (g.q.0 - g.p.0) g.p.0 m.input,
                  end,
                  sub_self g.q.0,
                  take-paste m.output g.r.0 text (length text) r≤out (omega arith),
                  take-length text,
                );
            preserves = preserved _ _ _ m.input _ (λ f. omega arith) (λ f. f.room.selection.inside)
                (λ f. rw (length-paste m.output g.r.0 text (length text) there (omega arith)) there);
          }

  pub part-writes : g.q.0 ≤ length m.input → Writes out (take (g.q.0 - g.p.0) (drop g.p.0 m.input)) g m
  part-writes i = record { same = λ allowance code enter k. rw (part-long m.input g.p.0 g.q.0 i) }

  -- a stored value is written as a character is
  pub value_none : (k : ℕ) → frame_word g.frame 4 m.frames ≤ k → ImplementsAction (out_v k) g.at.0 g m (Stopped g NoInstruction 0) m
  value_none k h = stops _ _ NoInstruction (λ allowance code enter next. rw (nth-out (local_of g m).values k (rw length-take (omega arith))))

  pub value_written : (k : ℕ) (next : Next) (n : Memory) → k < frame_word g.frame 4 m.frames → frame_word g.frame 4 m.frames ≤ 16 →
      HasValues g.frame m.values →
      ImplementsAction (out_c (get_or m.values (16 * g.frame + k) 0)) g.at.0 g m next n →
      ImplementsAction (out_v k) g.at.0 g m next n
  value_written k next n h few there a =
      record {
        same = λ allowance code enter k'. rw (stored-value g.frame k (frame_word g.frame 4 m.frames) m.values h few there)
            (a.same allowance code enter k');
        preserves = a.preserves;
      }
