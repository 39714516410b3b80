-- Code without a Call asks for no frame but the first: with any number of frames lent it comes to the same, and it never answers 15.
use Prim.Native.Nat.{ℕ}
use native.Mathlib.Omega.{arith}
use mathlib.Core.Path.{◌≡◌, refl, ap}
use mathlib.Core.Bool.{Bool, true, false}
use mathlib.Core.Option.{Option, none, some}
use lib.Dec.{T}
use lib.ListN.{take}
use Rattle.meaning.specs.Choice.{Bytes, pick}
use Rattle.meaning.specs.Answers.{frames_full}
use Rattle.meaning.specs.Outcome.{Tally, fresh, pay, emitted, Outcome, done, stop, and_then, result_of}
use Rattle.meaning.specs.Instructions.{Code}
use Rattle.meaning.specs.Machine.{Need, in_cells, out_cells, record_bytes, frames, onward, halt, Ledger, Stacks, Ran, with_tally, after_note}
use Rattle.meaning.specs.Machine.{where_payable}
use Rattle.meaning.specs.Machine.{ran_choice, ran_paid}
use Rattle.meaning.specs.Runs.{Room, passes, answer_to, lent, loaded, run_under, text_of, run_lent}
use Rattle.meaning_agreeing.proofs.Laws.Answers.{StopsSo, then-stops}
use Rattle.meaning_agreeing.proofs.Laws.Framing.{is_frames, code_calls, choice-calls}
use Rattle.meaning_agreeing.proofs.Laws.Related.{Own, unfitting, spent, unreadable, Computation, Closed, Enters, choice_for, Nested, applies}
use Rattle.meaning_agreeing.proofs.Laws.Related.{misformed, past}

-- the same room with so many frames
abbrev pub with_frames : ℕ → Room → Room
with_frames n room = record { in_cells = room.in_cells; out_cells = room.out_cells; record_bytes = room.record_bytes; frames = n }

-- what is counted on lent cells
abbrev Counting : Type 0
Counting = Ledger (Unit {0})

-- nothing that is chosen adds a frame
uncalled : (code : Code) → (T (code_calls code) → ⊥) → Nested ⊥ code
uncalled code h f s t = h (choice-calls code f (take s.selected s.input) t)

-- ANY NUMBER OF FRAMES

module _ (room : Room) (n : ℕ) where
  abbrev Same : Computation (lent (with_frames n room)) → Computation (lent room) → Type 0
  Same k k' = (g : Counting) → k g ≡ k' g

  same-passes : (need : Need) → (T (is_frames need) → ⊥) → passes (with_frames n room) need ≡ passes room need
  same-passes (in_cells m) h = refl
  same-passes (out_cells m) h = refl
  same-passes (record_bytes m) h = refl
  same-passes (frames m) h = absurd (h tt)

  same_noted : (need : Need) (b : Bool) (k : Computation (lent (with_frames n room))) (k' : Computation (lent room)) → Same k k' → (g : Counting) →
      after_note (lent (with_frames n room)) (pick b (halt (answer_to need)) (onward tt)) g k ≡
      after_note (lent room) (pick b (halt (answer_to need)) (onward tt)) g k'
  same_noted need true k k' same g = refl
  same_noted need false k k' same g = same (record { tally = g.tally; mark = tt })

  same-afforded : (o : Option Tally) (k : Computation (lent (with_frames n room))) (k' : Computation (lent room)) → Same k k' → (g : Counting) →
      where_payable (lent (with_frames n room)) o g (k g) ≡ where_payable (lent room) o g (k' g)
  same-afforded none k k' same g = refl
  same-afforded (some t) k k' same g = same g

  same_then : (o : Outcome Stacks Counting) (k : Stacks → Computation (lent (with_frames n room))) (k' : Stacks → Computation (lent room)) →
      ((s : Stacks) → Same (k s) (k' s)) → and_then o k ≡ and_then o k'
  same_then (done s g) k k' later = later s g
  same_then (stop answer function g) k k' later = refl

  same-closed : Closed (lent (with_frames n room)) (lent room) ⊥ Same
  same-closed =
      record {
        gives = λ s g. refl;
        ends = λ answer function own g. refl;
        notes = λ need nesting k k' same g.
            rw (same-passes (need g.tally) (nesting g.tally)) (same_noted (need g.tally) (passes room (need g.tally)) k k' same g);
        emits = λ name text k k' same g. same (with_tally (lent room) (emitted name text g.tally) g);
        affords = λ f k k' same g. same-afforded (pay f g.tally) k k' same g;
        chains = λ first first' k k' same later g. rw (same g) (same_then (first' g) k k' later);
      }

  same-paid : (o : Option Tally) (code : Code) (e : Enters (lent (with_frames n room))) (e' : Enters (lent room)) (frame f : ℕ) (s : Stacks) →
      Same (ran_choice (lent (with_frames n room)) code e frame f (choice_for code f s) s)
      (ran_choice (lent room) code e' frame f (choice_for code f s) s) → (g : Counting) →
      ran_paid (lent (with_frames n room)) code e frame f s g o ≡ ran_paid (lent room) code e' frame f s g o
  same-paid none code e e' frame f s same g = refl
  same-paid (some t) code e e' frame f s same g = same (with_tally (lent room) t g)

  pub any-frames : (code : Code) → (T (code_calls code) → ⊥) → (start : ℕ) (text : Bytes) (allowance : ℕ) →
      run_lent (with_frames n room) code start text allowance ≡ run_lent room code start text allowance
  any-frames code h start text allowance =
      ap (λ (o : Outcome Stacks Counting). result_of (text_of o))
      (applies (lent (with_frames n room)) (lent room) ⊥ Same same-closed
      (λ code e e' frame f s same g. same-paid (pay f g.tally) code e e' frame f s same g)
      allowance code (uncalled code h) 1 start (loaded text) (record { tally = fresh allowance; mark = tt }))

-- NEVER 15

abbrev Fifteenless : ℕ → ℕ → Type 0
Fifteenless answer function = answer ≡ frames_full → ⊥

own-fifteenless : (answer function : ℕ) → Own answer → Fifteenless answer function
own-fifteenless answer function (unfitting e) h = omega arith
own-fifteenless answer function (spent e) h = omega arith
own-fifteenless answer function (unreadable e) h = omega arith
own-fifteenless answer function (misformed e) h = omega arith
own-fifteenless answer function (past e) h = omega arith

need-fifteenless : (need : Need) → (T (is_frames need) → ⊥) → Fifteenless (answer_to need) 0
need-fifteenless (in_cells n) other h = omega arith
need-fifteenless (out_cells n) other h = omega arith
need-fifteenless (record_bytes n) other h = omega arith
need-fifteenless (frames n) other h = other tt

module _ (room : Room) where
  abbrev Framed : Ran (lent room) → Type 0
  Framed = StopsSo Fifteenless

  abbrev KeepsFrame : Computation (lent room) → Computation (lent room) → Type 0
  KeepsFrame k k' = (g : Counting) → Framed (k g)

  framed-noted : (need : Need) (b : Bool) (k : Computation (lent room)) → (T (is_frames need) → ⊥) → ((g : Counting) → Framed (k g)) →
      (g : Counting) →
      Framed (after_note (lent room) (pick b (halt (answer_to need)) (onward tt)) g k)
  framed-noted need true k other framed g = need-fifteenless need other
  framed-noted need false k other framed g = framed (record { tally = g.tally; mark = tt })

  framed-afforded : (o : Option Tally) (g : Counting) (ran : Ran (lent room)) → Framed ran → Framed (where_payable (lent room) o g ran)
  framed-afforded none g ran framed = λ h. omega arith
  framed-afforded (some t) g ran framed = framed

  framed-closed : Closed (lent room) (lent room) ⊥ KeepsFrame
  framed-closed =
      record {
        gives = λ s g. tt;
        ends = λ answer function own g. own-fifteenless answer function own;
        notes = λ need nesting k k' framed g. framed-noted (need g.tally) (passes room (need g.tally)) k (nesting g.tally) framed g;
        emits = λ name text k k' framed g. framed (with_tally (lent room) (emitted name text g.tally) g);
        affords = λ f k k' framed g. framed-afforded (pay f g.tally) g (k g) (framed g);
        chains = λ first first' k k' framed later g. then-stops Fifteenless (first g) k (framed g) later;
      }

  framed-paid : (o : Option Tally) (code : Code) (e : Enters (lent room)) (frame f : ℕ) (s : Stacks) (g : Counting) →
      ((g : Counting) → Framed (ran_choice (lent room) code e frame f (choice_for code f s) s g)) → Framed (ran_paid (lent room) code e frame f s g o)
  framed-paid none code e frame f s g framed = λ h. omega arith
  framed-paid (some t) code e frame f s g framed = framed (with_tally (lent room) t g)

  framed-result : (o : Ran (lent room)) → Framed o → (result_of (text_of o)).answer ≡ frames_full → ⊥
  framed-result (done s g) framed h = omega arith
  framed-result (stop answer function g) framed h = framed h

  pub never-framed : (code : Code) → (T (code_calls code) → ⊥) → (start : ℕ) (text : Bytes) (allowance : ℕ) →
      (run_lent room code start text allowance).answer ≡ frames_full → ⊥
  never-framed code h start text allowance =
      framed-result (run_under (lent room) code start text allowance tt)
      (applies (lent room) (lent room) ⊥ KeepsFrame framed-closed
      (λ code e e' frame f s framed g. framed-paid (pay f g.tally) code e frame f s g framed)
      allowance code (uncalled code h) 1 start (loaded text) (record { tally = fresh allowance; mark = tt }))
