-- What a run begins with, and what its end leaves in the lent cells.
use Prim.Native.Nat.{ℕ, suc, ◌+◌, ◌-◌, ◌≤◌, ◌<◌}
use native.Mathlib.Nat.{sub-zero}
use native.Mathlib.Decide.{dec_le}
use native.Mathlib.Numerals.{add-one}
use native.Mathlib.Omega.{arith}
use mathlib.Core.Path.{◌≡◌, refl, sym, ap, ◌∙◌}
use mathlib.Core.Bool.{true, false}
use mathlib.Core.List.{List, [], ◌∷◌, ◌++◌, append_assoc, append-nil}
use lib.ListN.{length, get_or, take, drop, set, length-append, length-replicate, get_or-replicate, get_or-eq_default, replicate-append-replicate}
use lib.ListN.{take-append-drop}
use lib.Seq.{drop-cons, append_snoc, set_at, drop_at, length-take-le, take-length, drop-length, paste}
use borrow.Author.Tests.{le-leb, lt-leb}
use Rattle.meaning.specs.Choice.{Bytes}
use Rattle.meaning.specs.Outcome.{max_counted, uncounted, fresh, result_of}
use Rattle.meaning.specs.Machine.{is_declared}
use Rattle.meaning.specs.Runs.{Room, lent, loaded, run_under, text_of, run_lent}
use Rattle.meaning.specs.Packing.{Words}
use Rattle.meaning.specs.Leaving.{Cells, zeros, refused_run, after_run, leaving}
use Rattle.meaning.specs.Leaving.{room_of}
use Rattle.run_actions.specs.declared.registers.Registers.{Registers}
use Rattle.answers.specs.declared.Ending.{Ending}
use Rattle.run_actions.specs.declared.registers.Next.{Next}
use Rattle.run_actions.specs.declared.registers.Next.TheVariants.{Onward, Done, Stopped, Deeper}
use Rattle.answers.specs.Numbers.{ending_number}
use Rattle.run_actions.specs.States.{first_frames, words_for, values_for, Memory, memory, Held, counts_in, stacks_of, memory_room, Outcomes}
use Rattle.run_applications.specs.Waiting.{sound_in, functions_in, waiting, outcome_from}
use Rattle.run_applications.specs.Simulation.{Invariant, NextInvariant, registers_in, Simulates}
use Rattle.run_code.specs.Following.{HasEnded}
use Rattle.run_code.specs.Leaving.{cells, Tells, Leaves, refused_with, reported_of, cleared_from, loaded_with}
use Rattle.meaning_agreeing.proofs.Laws.Depth.{counted_of, from-spent}
use Rattle.run_applications.proofs.Laws.Waiting.{entering-paid}
use Rattle.run_code.proofs.Laws.Tables.{unpacked}

-- CLEARING

-- the cells cleared from a start on up to a place
abbrev pub cleared_to : Bytes → ℕ → ℕ → Bytes
cleared_to bytes start i = (take start bytes ++ zeros (i - start)) ++ drop i bytes

module _ (bytes : Bytes) (start : ℕ) (within : start ≤ length bytes) where
  pub cleared-none : bytes ≡ cleared_to bytes start start
  cleared-none =
      let nothing : start - start ≡ 0 = omega arith in
      rw (nothing, append-nil (take start bytes)) (sym (take-append-drop start bytes))

  pub cleared-one : (i : ℕ) → start ≤ i → i < length bytes → set (cleared_to bytes start i) i 0 ≡ cleared_to bytes start (i + 1)
  cleared-one i h l =
      let front = take start bytes ++ zeros (i - start) in
      let sized : length front ≡ i =
      rw (length-append (take start bytes) (zeros (i - start)), length-take-le start bytes within, length-replicate {A = ℕ} (i - start) 0)
      (omega arith) in
      let more : i + 1 - start ≡ i - start + 1 = omega arith in
      rw (
        drop-cons bytes i 0 l,
        set_at front (get_or bytes i 0) (drop (suc i) bytes) 0 i sized,
        more,
        ← replicate-append-replicate {A = ℕ} (i - start) 1 0,
        ← append_assoc (take start bytes) (zeros (i - start)) (0 ∷ []),
        append_snoc front 0 (drop (i + 1) bytes),
        add-one i,
      )

  pub cleared-all : (i : ℕ) → length bytes ≤ i → i ≤ length bytes → cleared_to bytes start i ≡ cleared_from start bytes
  cleared-all i h l =
      let all : i ≡ length bytes = omega arith in
      rw (all, drop-length bytes, append-nil (take start bytes ++ zeros (length bytes - start)))

-- THE END

pub reported-within : (allowance : ℕ) (last : Next) (m : Memory) → HasEnded last → NextInvariant allowance last m →
    (reported_of last).text ≤ length m.output
reported-within allowance (Onward g) m o k = absurd o
reported-within allowance (Deeper g) m o k = absurd o
reported-within allowance (Done g) m o k = k.below
reported-within allowance (Stopped g ending function) m o k = omega arith

module _ (room : Room) (allowance : ℕ) (words : Words) (m : Memory) where
  tells-end : (last : Next) → HasEnded last → NextInvariant allowance last m →
      Tells (reported_of last) (result_of (text_of (outcome_from room allowance words last m)))
  tells-end (Onward g) o k = absurd o
  tells-end (Deeper g) o k = absurd o
  tells-end (Done g) o k =
      record {
        answer = refl;
        function = refl;
        steps = refl;
        text = sym (length-take-le g.r.0 m.output k.below);
        emissions = sym (length-take-le g.emitted m.«record» k.logged);
      }
  tells-end (Stopped g ending function) o k =
      record {
        answer = refl;
        function = refl;
        steps = refl;
        text = refl;
        emissions = sym (length-take-le g.emitted m.«record» k.logged);
      }

  steps-end : (last : Next) → HasEnded last → (counted_of (outcome_from room allowance words last m)).tally.steps ≡ (registers_in last).steps
  steps-end (Onward g) o = absurd o
  steps-end (Deeper g) o = absurd o
  steps-end (Done g) o = refl
  steps-end (Stopped g ending function) o = refl

  counts_end : (last : Next) → HasEnded last → counts_in m.frames ≡ (result_of (text_of (outcome_from room allowance words last m))).counts
  counts_end (Onward g) o = absurd o
  counts_end (Deeper g) o = absurd o
  counts_end (Done g) o = refl
  counts_end (Stopped g ending function) o = refl

  -- the cells after the stacks are cleared
  cells-end : (last : Next) (before : Cells) → HasEnded last → NextInvariant allowance last m → memory_room m ≡ room_of before →
      drop (registers_in last).emitted m.«record» ≡ drop (registers_in last).emitted before.«record» →
      cells (cleared_from 0 m.input) (cleared_from (reported_of last).text m.output) m.«record» ≡
      (after_run (result_of (text_of (outcome_from room allowance words last m))) before).cells
  cells-end (Onward g) before o k e beyond = absurd o
  cells-end (Deeper g) before o k e beyond = absurd o
  cells-end (Done g) before o k e beyond =
      rw (
        length-take-le g.r.0 m.output k.below,
        length-take-le g.emitted m.«record» k.logged,
        ← beyond,
        take-append-drop g.emitted m.«record»,
        sub-zero (length m.input),
        ap (λ r. r.in_cells) e,
        ap (λ r. r.out_cells) e,
      )
  cells-end (Stopped g ending function) before o k e beyond =
      rw (
        length-take-le g.emitted m.«record» k.logged,
        ← beyond,
        take-append-drop g.emitted m.«record»,
        sub-zero (length m.input),
        ap (λ r. r.in_cells) e,
        ap (λ r. r.out_cells) e,
      )

  pub leaves-end : (last : Next) (before : Cells) (o : Outcomes) → o ≡ outcome_from room allowance words last m → HasEnded last →
      NextInvariant allowance last m →
      memory_room m ≡ room_of before → drop (registers_in last).emitted m.«record» ≡ drop (registers_in last).emitted before.«record» →
      Leaves (reported_of last) (counts_in m.frames) (cells (cleared_from 0 m.input) (cleared_from (reported_of last).text m.output)
      m.«record»)
      (after_run (result_of (text_of o)) before)
  leaves-end last before o e over k room beyond =
      rw e (record { tells = tells-end last over k; counted = counts_end last over; leaves = cells-end last before over k room beyond })

-- THE START

-- nothing is counted at first
pub get_d-zeros : (i : ℕ) → get_or uncounted i 0 ≡ 0
get_d-zeros i = by (dec_le max_counted i)
  where
    by : Dec (max_counted ≤ i) → get_or uncounted i 0 ≡ 0
    by (yes h) = get_or-eq_default uncounted 0 {n = i} (rw length-replicate h)
    by (no h) = get_or-replicate max_counted i 0 0 (omega arith)

-- the text stands at the right end of in
pub record Loaded (text input input' : Bytes) : Type 0 where
  pub fits : length text ≤ length input
  pub pasted : input' ≡ paste input (length input - length text) text (length text)
  pub sized : length input' ≡ length input

module _ (text input input' : Bytes) (l : Loaded text input input') where
  loaded-text : drop (length input - length text) input' ≡ text
  loaded-text =
      let place = length input - length text in
      let past : place + length text ≡ length input = omega (arith, l.fits) in
      rw (l.pasted, past, drop-length input, take-length text, append-nil (take place input ++ text))
      (drop_at (take place input) text place (length-take-le place input (omega arith)))

  module _ (output «record» : Bytes) (frames : List ℕ) (values : Bytes) (words : Words) (start allowance : ℕ) where
    abbrev Start : Memory
    Start = memory input' output «record» frames values

    abbrev Beginning : Registers
    Beginning = loaded_with (length input) (length text) start

    loaded-stacks : stacks_of Beginning Start ≡ loaded text
    loaded-stacks = let whole : length input - (length input - length text) ≡ length text = omega (arith, l.fits) in rw (loaded-text, whole)

    -- what the run comes to
    abbrev pub Whole : Outcomes
    Whole = run_under (lent (memory_room Start)) (functions_in words) start text allowance tt

    pub invariant-start : length frames ≡ words_for first_frames → length values ≡ values_for first_frames → counts_in frames ≡ uncounted →
        Held 0 frames →
        Invariant allowance Beginning Start
    invariant-start f v none empty =
        record {
          ready =
              record {
                room =
                    record {
                      selection = record { ordered = omega arith; inside = omega (arith, l.sized) };
                      written = record { below = omega arith; logged = omega arith };
                      frame = record { framed = omega arith; frame_room = omega (arith, f) };
                      values = λ k h. omega (arith, f, v, h);
                    };
                paid = omega arith;
                counts = λ i. rw none (omega (arith, get_d-zeros i));
                waits = λ k h. absurd (omega arith);
              };
          current = empty;
        }

    -- the run is followed from where its first application is to begin
    pub starting : Invariant allowance Beginning Start → counts_in frames ≡ uncounted → is_declared (functions_in words) start ≡ true →
        Simulates words allowance Whole Beginning Start (Onward Beginning) Start
    unfolding waiting
    starting invariant none declared =
        record {
          same =
              entering-paid (memory_room Start) allowance words 1 start (loaded text) (record { tally = fresh allowance; mark = tt }) (omega arith) ∙
              rw (declared, loaded-stacks, sub-zero allowance, none);
          invariant = invariant;
          room = refl;
          beyond = λ old e. e;
        }

    -- no more steps are made than are allowed
    pub steps-allowed : (last : Next) (m : Memory) → Simulates words allowance Whole Beginning Start last m → HasEnded last →
        (registers_in last).steps ≤ allowance
    steps-allowed last m simulates over =
        let made = ap (λ (o : Outcomes). (counted_of o).tally.steps) simulates.same ∙ steps-end (memory_room Start) allowance words m last over in
        omega (arith, made, from-spent (lent (memory_room Start)) (functions_in words) start text allowance tt)

    -- and leaves what it should when it has been followed to its end
    pub ending : (last : Next) (m : Memory) → Simulates words allowance Whole Beginning Start last m → HasEnded last →
        Leaves (reported_of last) (counts_in m.frames) (cells (cleared_from 0 m.input) (cleared_from (reported_of last).text m.output)
        m.«record»)
        (after_run (run_lent (room_of (cells input output «record»)) (functions_in words) start text allowance) (cells input output «record»))
    ending last m simulates over =
        rw l.sized at
        (leaves-end (memory_room Start) allowance words m last (cells input output «record») Whole simulates.same over simulates.invariant
        (simulates.room ∙ rw l.sized)
        (simulates.beyond «record» refl))

-- BEFORE A RUN

pub refused-leaves : (ending : Ending) (before : Cells) → Leaves (refused_with ending) uncounted before (refused_run (ending_number ending) before)
refused-leaves ending before =
    record { tells = record { answer = refl; function = refl; steps = refl; text = refl; emissions = refl }; counted = refl; leaves = refl }

module _ (words : Words) (start : ℕ) (text : Bytes) (before : Cells) (allowance : ℕ) where
  pub leaving-unsound : sound_in words ≡ false → leaving words start text before allowance ≡ refused_run 18 before
  leaving-unsound e = rw (unpacked words, e)

  module _ (sound : sound_in words ≡ true) where
    pub leaving-undeclared : is_declared (functions_in words) start ≡ false → leaving words start text before allowance ≡ refused_run 9 before
    leaving-undeclared d = rw (unpacked words, sound, d)

    module _ (declared : is_declared (functions_in words) start ≡ true) where
      pub leaving-long : length before.stack_in < length text → leaving words start text before allowance ≡ refused_run 10 before
      leaving-long l = rw (unpacked words, sound, declared, lt-leb (length text) (length before.stack_in) l)

      pub leaving-runs : length text ≤ length before.stack_in →
          leaving words start text before allowance ≡ after_run (run_lent (room_of before) (functions_in words) start text allowance) before
      leaving-runs l = rw (unpacked words, sound, declared, le-leb (length text) (length before.stack_in) l)
