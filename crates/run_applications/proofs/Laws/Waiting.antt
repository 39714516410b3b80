-- The frames that wait: what they depend on, and how they take up an outcome.
use Prim.Native.Nat.{ℕ, zero, suc, ◌+◌, ◌*◌, ◌-◌, ◌≤◌, ◌<◌, max}
use native.Mathlib.Omega.{arith}
use mathlib.Core.Path.{◌≡◌, refl, sym, ◌∙◌}
use mathlib.Core.List.{List}
use lib.ListN.{length, take, length-drop}
use lib.Seq.{get_or-take, take-take}
use Rattle.meaning.specs.Choice.{Bytes}
use Rattle.meaning.specs.Outcome.{stop, done, pay}
use Rattle.meaning.specs.Machine.{Stacks, ran_paid}
use Rattle.meaning.specs.Runs.{Room, lent}
use Rattle.meaning.specs.Packing.{Words}
use Rattle.meaning_agreeing.proofs.Laws.Depth.{enter_step}
use Rattle.run_actions.specs.declared.registers.Registers.{Registers}
use Rattle.run_actions.specs.declared.registers.Next.TheVariants.{Onward}
use Rattle.run_actions.specs.States.{Memory, words_in, words_below, frame_word, local_at, Held, stacks_of, Ledgers, ledger_of, memory_room, Outcomes}
use Rattle.run_applications.specs.Waiting.{functions_in, entering, waiting, outcome_from, Waits, measure_waiting, back_in, left_from, left_by}
use Rattle.run_applications.specs.Waiting.{called_in, recovered_by}

-- A FRAME DEPENDS ON ITS OWN WORDS AND VALUES ALONE

-- a frame with the same words up to its counts holds the same
pub same-held : (k : ℕ) (frames frames' : List ℕ) → Held k frames → ((i : ℕ) → i ≤ 5 → frame_word k i frames ≡ frame_word k i frames') →
    Held k frames'
same-held k frames frames' held e =
    record {
      null = rw (← (e 0 (omega arith))) held.null;
      right = rw (← (e 1 (omega arith)), ← (e 2 (omega arith)), ← (e 3 (omega arith))) held.right;
      stored = rw (← (e 4 (omega arith))) held.stored;
      opened = rw (← (e 5 (omega arith))) held.opened;
    }

-- where the words of the frames below a number are the same, so is what each of them holds
module _ (frames frames' : List ℕ) (k : ℕ) (e : words_below k frames ≡ words_below k frames') where
  word_same : (i : ℕ) → i < k → (j : ℕ) → j < 24 → frame_word i j frames ≡ frame_word i j frames'
  word_same i h j l =
      let low : 24 * i + j < 24 * k = omega arith in
      sym (get_or-take (24 * k) (words_in frames) (24 * i + j) 0 low) ∙ rw e (get_or-take (24 * k) (words_in frames') (24 * i + j) 0 low)

  words_same : (i : ℕ) → i < k → take (24 * i + 24) (words_in frames) ≡ take (24 * i + 24) (words_in frames')
  words_same i h =
      let low : 24 * i + 24 ≤ 24 * k = omega arith in
      sym (take-take (24 * i + 24) (24 * k) (words_in frames) low) ∙ rw e (take-take (24 * i + 24) (24 * k) (words_in frames') low)

  pub held_same : (i : ℕ) → i < k → Held i frames → Held i frames'
  held_same i h held = same-held i frames frames' held (λ j l. word_same i h j (omega arith))

  pub waits-same : (cells : ℕ) → ((i : ℕ) → i < k → Waits cells i frames) → (i : ℕ) → i < k → Waits cells i frames'
  waits-same cells waits i h = record { held = held_same i h (waits i h).held; kept = rw (← (word_same i h 7 (omega arith))) (waits i h).kept }

  measure-upto : (size i : ℕ) → i ≤ k → measure_waiting size i frames ≡ measure_waiting size i frames'
  unfolding measure_waiting
  measure-upto size zero h = refl
  measure-upto size (suc i) h = rw (word_same i (omega arith) 6 (omega arith), measure-upto size i (omega arith))

  pub measure-same : (size : ℕ) → measure_waiting size k frames ≡ measure_waiting size k frames'
  measure-same size = measure-upto size k (omega arith)

  module _ (values values' : Bytes) (e' : take (16 * k) values ≡ take (16 * k) values') where
    values_same : (i : ℕ) → i < k → take (16 * i + 16) values ≡ take (16 * i + 16) values'
    values_same i h =
        let low : 16 * i + 16 ≤ 16 * k = omega arith in
        sym (take-take (16 * i + 16) (16 * k) values low) ∙ rw e' (take-take (16 * i + 16) (16 * k) values' low)

    pub local_same : (i : ℕ) → i < k → local_at i frames values ≡ local_at i frames' values'
    local_same i h =
        rw (
          word_same i h 1 (omega arith),
          word_same i h 2 (omega arith),
          word_same i h 4 (omega arith),
          word_same i h 5 (omega arith),
          words_same i h,
          values_same i h,
        )

    module _ (room : Room) (allowance : ℕ) (words : Words) where
      waiting-upto : (i : ℕ) → i ≤ k → (o : Outcomes) →
          waiting room allowance words i frames values o ≡ waiting room allowance words i frames' values' o
      unfolding waiting
      waiting-upto zero h o = refl
      waiting-upto (suc i) h o =
          rw (word_same i (omega arith) 6 (omega arith), word_same i (omega arith) 7 (omega arith), local_same i (omega arith))
          (waiting-upto i (omega arith) _)

module _ (room : Room) (allowance : ℕ) (words : Words) where
  pub waiting-same : (frames frames' : List ℕ) (values values' : Bytes) (k : ℕ) → words_below k frames ≡ words_below k frames' →
      take (16 * k) values ≡ take (16 * k) values' → (o : Outcomes) →
      waiting room allowance words k frames values o ≡ waiting room allowance words k frames' values' o
  waiting-same frames frames' values values' k e e' o = waiting-upto frames frames' k e values values' e' room allowance words k (omega arith) o

  -- a frame that waits is not asked where the one above it stops
  pub waiting-stop : (k : ℕ) (frames : List ℕ) (values : Bytes) (answer function : ℕ) (l : Ledgers) →
      waiting room allowance words k frames values (stop answer function l) ≡ stop answer function l
  unfolding waiting
  waiting-stop zero frames values answer function l = refl
  waiting-stop (suc k) frames values answer function l = waiting-stop k frames values answer function l

  -- an application is its one step
  pub entering-paid : (frame f : ℕ) (s : Stacks) (l : Ledgers) → l.tally.steps_left ≤ allowance →
      entering room allowance words frame f s l ≡
      ran_paid (lent room) (functions_in words) (entering room allowance words) frame f s l (pay f l.tally)
  entering-paid frame f s l h = enter_step (lent room) allowance allowance (functions_in words) frame f s l h (omega arith)

-- the end of an application
pub waiting-done : (allowance : ℕ) (words : Words) (k : ℕ) (g : Registers) (m : Memory) → g.callee ≡ 0 → g.p.0 ≤ length m.input →
    ((i : ℕ) → i < k → Waits (length m.input) i m.frames) →
    waiting (memory_room m) allowance words k m.frames m.values (done (stacks_of g m) (ledger_of allowance g m)) ≡
    outcome_from (memory_room m) allowance words (left_from k g m.frames) m
unfolding waiting
waiting-done allowance words zero g m idle h waits = refl
waiting-done allowance words (suc k) g m idle h waits =
    let kept = frame_word k 7 m.frames in
    let selected : length m.input - g.p.0 - (length m.input - kept) ≡ max g.p.0 kept - g.p.0 =
    omega (arith, (waits k (omega arith)).kept) in
    rw (length-drop g.p.0 m.input, selected, idle)

-- a number that isn't 0 is that of a function that recovers
pub recovers-some : (size number recoverer : ℕ) (g : Registers) → (recoverer ≡ 0 → ⊥) →
    Onward (called_in g.frame size recoverer g) ≡ recovered_by size number recoverer g
recovers-some size number zero g h = absurd (h refl)
recovers-some size number (suc r) g h = refl

-- a frame that is not the lowest is left for the one below it
pub left_back : (g : Registers) (frames : List ℕ) → (g.frame ≡ 0 → ⊥) → Onward (back_in (g.frame - 1) g frames) ≡ left_by g frames
left_back g frames h = by g.frame h
  where
    by : (n : ℕ) → (n ≡ 0 → ⊥) → Onward (back_in (n - 1) g frames) ≡ left_from n g frames
    by zero h = absurd (h refl)
    by (suc k) h = let e : suc k - 1 ≡ k = omega arith in rw e
