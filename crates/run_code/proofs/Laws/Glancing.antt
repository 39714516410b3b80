-- A run that its first application ends: what it comes to, and what it leaves.
use Prim.Native.Nat.{ℕ, zero, suc, ◌-◌, ◌+◌, ◌≤◌, ◌<◌}
use native.Mathlib.Nat.{sub_self}
use native.Mathlib.Numerals.{sub-one}
use native.Mathlib.Omega.{arith}
use mathlib.Core.Path.{◌≡◌, refl, ◌∙◌}
use mathlib.Core.List.{List, [], ◌∷◌}
use lib.ListN.{length, get_or, drop}
use lib.Seq.{take-length, drop-length}
use borrow.Author.Tests.{le-leb}
use Rattle.meaning.specs.Choice.{Bytes}
use Rattle.meaning.specs.Outcome.{uncounted, fresh, done}
use Rattle.meaning.specs.Instructions.{whole, go}
use Rattle.meaning.specs.Matching.{Choice, chosen, chosen_none, choose_from, stored_values}
use Rattle.meaning.specs.Machine.{process, ran_choice}
use Rattle.meaning.specs.Runs.{lent, loaded, run_under, run_lent}
use Rattle.meaning.specs.Packing.{Words, unpack_sentences}
use Rattle.meaning.specs.Leaving.{after_run}
use Rattle.meaning.specs.Leaving.{room_of}
use Rattle.run_cells.specs.Places.{place}
use Rattle.run_actions.specs.declared.registers.Registers.{Registers}
use Rattle.answers.specs.declared.Ending.TheVariants.{Finished, NoSentenceFits}
use Rattle.run_actions.specs.declared.registers.Next.TheVariants.{Done, Stopped}
use Rattle.run_actions.specs.States.{Memory, memory, counts_in, counted_in, ledger_of, memory_room}
use Rattle.run_actions.proofs.Laws.Frames.{counts-counted}
use Rattle.run_applications.specs.Waiting.{count_in, functions_in, entering}
use Rattle.run_applications.proofs.Laws.Waiting.{entering-paid}
use Rattle.run_applications.proofs.Laws.Applying.{code-at}
use Rattle.run_glancing.specs.declared.Seen.{Seen}
use Rattle.run_glancing.specs.declared.Seen.TheVariants.{Nothing, Dropped, Perhaps}
use Rattle.run_glancing.specs.Glanced.{Glances, Drop}
use Rattle.run_code.specs.Leaving.{cells, Leaves, cleared_from, ended_with, Foreseen}
use Rattle.run_code.proofs.Laws.Leaving.{leaves-end}

-- a step is allowed for what is seen
pub foreseen : (s : Seen) (allowance : ℕ) (choice : Choice) → (allowance ≡ 0 → ⊥) → Glances s choice → Foreseen s allowance choice
foreseen Nothing allowance choice h g = (omega arith, g)
foreseen Dropped allowance choice h g = (omega arith, g)
foreseen Perhaps allowance choice h g = tt

-- the registers after one step that passed over the field
abbrev Ended : ℕ → Registers
Ended count =
    record {
      p = place count;
      q = place count;
      r = place 0;
      frame = 0;
      at = record { 0 = 0 };
      steps = 1;
      emitted = 0;
      callee = 0;
    }

-- a function that is declared and applied first
pub record Begins (words : Words) (start : ℕ) (frames : List ℕ) : Type 0 where
  pub counted : count_in words < length words
  pub positive : 0 < start
  pub within : start ≤ count_in words
  pub none : counts_in frames ≡ uncounted

module _ (words : Words) (start : ℕ) (text input output «record» : Bytes) (frames : List ℕ) (values : Bytes) (b : Begins words start frames) where
  -- in frames with the application counted
  abbrev Memory-then : Memory
  Memory-then = memory input output «record» (counted_in start frames) values

  -- the run is what comes of the choice for the text, its step paid
  chosen-runs : (allowance : ℕ) (choice : Choice) → 0 < allowance →
      choose_from (unpack_sentences 0 (drop (get_or words start 0) words)) text ≡ choice →
      run_under (lent (memory_room Memory-then)) (functions_in words) start text allowance tt ≡
      ran_choice (lent (memory_room Memory-then)) (functions_in words) (entering (memory_room Memory-then) allowance words) 1 start choice
      (loaded text)
      (ledger_of allowance (Ended (length input)) Memory-then)
  chosen-runs zero choice h e = absurd (omega arith)
  chosen-runs (suc n) choice h e =
      entering-paid (memory_room Memory-then) (suc n) words 1 start (loaded text) (record { tally = fresh (suc n); mark = tt }) (omega arith) ∙
      rw (
        code-at words b.counted start b.positive b.within,
        take-length text,
        e,
        counts-counted frames start b.positive,
        b.none,
        sub-one,
      )

  -- a sentence that passes over the text and ends
  drop-runs : (allowance : ℕ) →
      ran_choice (lent (memory_room Memory-then)) (functions_in words) (entering (memory_room Memory-then) allowance words) 1 start
      (chosen 0 [] (go (record { register = whole; add = 0; back = 0 }) ∷ [])) (loaded text)
      (ledger_of allowance (Ended (length input)) Memory-then) ≡
      done (record { input = []; selected = 0; output = [] }) (ledger_of allowance (Ended (length input)) Memory-then)
  unfolding process stored_values
  drop-runs allowance =
      let all : length text + 0 - 0 ≡ length text = omega arith in
      rw (all, le-leb (length text) (length text) (omega arith), drop-length text)

  module _ (allowance : ℕ) (allowed : 0 < allowance) where
    abbrev Chosen : Choice
    Chosen = choose_from (unpack_sentences 0 (drop (get_or words start 0) words)) text

    pub ends-unfitted : Chosen ≡ chosen_none 0 →
        Leaves (ended_with NoSentenceFits start) (counts_in (counted_in start frames)) (cells (cleared_from 0 input) (cleared_from 0 output) «record»)
        (after_run (run_lent (room_of (cells input output «record»)) (functions_in words) start text allowance) (cells input output «record»))
    ends-unfitted e =
        leaves-end (memory_room Memory-then) allowance words Memory-then (Stopped (Ended (length input)) NoSentenceFits start)
        (cells input output «record») _
        (chosen-runs allowance (chosen_none 0) allowed e) tt (record { below = omega arith; logged = omega arith }) refl refl

    pub ends-dropped : Drop Chosen →
        Leaves (ended_with Finished 0) (counts_in (counted_in start frames)) (cells (cleared_from 0 input) (cleared_from 0 output) «record»)
        (after_run (run_lent (room_of (cells input output «record»)) (functions_in words) start text allowance) (cells input output «record»))
    ends-dropped d =
        leaves-end (memory_room Memory-then) allowance words Memory-then (Done (Ended (length input))) (cells input output «record») _
        (chosen-runs allowance _ allowed d.same ∙ drop-runs allowance ∙ rw (drop-length input, sub_self (length input)))
        tt (record { below = omega arith; logged = omega arith }) refl refl
