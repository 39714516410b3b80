-- A tail call, a function that recovers, the step of an application paid, and a call with its frame.
use Prim.Native.Nat.{ℕ, zero, suc, ◌+◌, ◌*◌, ◌-◌, ◌≤◌, ◌<◌}
use native.Mathlib.Nat.{suc-mul}
use native.Mathlib.Numerals.{add-one}
use native.Mathlib.Omega.{arith}
use mathlib.Core.Path.{◌≡◌, refl, sym, ap, ◌∙◌}
use mathlib.Core.Bool.{Bool, true, false}
use mathlib.Core.List.{List}
use lib.Dec.{ltb}
use lib.ListN.{length, get_or, take, drop, length-drop}
use lib.Seq.{take-set-lt, drop-set-lt}
use borrow.Author.Tests.{lt-ltb, le-ltb, ltb-true, ltb-false}
use Rattle.meaning.specs.Choice.{Bytes, pick}
use Rattle.meaning.specs.Answers.{no_instruction}
use Rattle.meaning.specs.Outcome.{pay, stop, and_then}
use Rattle.meaning.specs.Instructions.{call, tail_call}
use Rattle.meaning.specs.Matching.{Choice, chosen, chosen_none, chosen_wrong, choose_from}
use Rattle.meaning.specs.Machine.{where_there, perform, process, is_declared, returned, ran_paid, ran_choice}
use Rattle.meaning.specs.Runs.{Room, lent}
use Rattle.meaning.specs.Packing.{Words, unpack_sentences, unpack_stores, unpack_actions}
use Rattle.meaning.specs.Leaving.{max_frames}
use Rattle.run_decoding.proofs.Laws.Reading.{actions-none}
use Rattle.run_decoding.specs.declared.CallKind.{CallKind}
use Rattle.run_decoding.specs.declared.CallKind.TheVariants.{Framed, Tail}
use Rattle.run_decoding.specs.Decoded.{call_by}
use Rattle.run_actions.specs.declared.registers.Registers.{Registers}
use Rattle.answers.specs.declared.Ending.TheVariants.{AllowanceSpent, FramesFull, NoInstruction, NoSentenceFits}
use Rattle.run_actions.specs.declared.registers.Next.{Next}
use Rattle.run_actions.specs.declared.registers.Next.TheVariants.{Onward, Stopped}
use Rattle.run_actions.specs.States.{Memory, memory, frame_word, counts_in, counted_in, local_at, local_of, Held}
use Rattle.run_actions.specs.States.{stacks_of, ledger_of, memory_room, Outcomes}
use Rattle.run_actions.specs.States.{HasFrame, crowded_at, words_for, words_in, words_below, with_word, calling_from}
use Rattle.run_actions.proofs.Laws.Frames.{words-stored, stored-length, stored_there, word_set, word_kept, held-past, waiting_kept, counts-kept}
use Rattle.run_actions.proofs.Laws.Frames.{counts-counted, counted_words, counted-length, counted-within}
use Rattle.run_applications.specs.Waiting.{count_in, functions_in, entering, continuation_at, waiting, returning, outcome_of_application}
use Rattle.run_applications.specs.Waiting.{outcome_of_actions, Waits, outcome_of_action, measure_waiting}
use Rattle.run_applications.specs.Waiting.{measure_below, called_in, recovered_by}
use Rattle.run_applications.specs.Simulation.{ReadyToApply, Invariant, SimulatesBelow, SimulatesAction, SimulatesApplication, SimulatesSentence}
use Rattle.run_applications.proofs.Laws.Waiting.{measure-same, held_same, waits-same, waiting-same, entering-paid}
use Rattle.run_applications.proofs.Laws.Applying.{code-at, stopping}

-- A TAIL CALL, AND A FUNCTION THAT RECOVERS

module _ (words : Words) (allowance number : ℕ) (g : Registers) (m : Memory) where
  -- the registers of a function that is called keep within what is lent, as its caller's do
  called-ready : (frame size : ℕ) (frames : List ℕ) → frame < 256 → HasFrame frame frames → length frames ≡ length m.frames → counts_in frames
      ≡ counts_in m.frames →
      ((i : ℕ) → i < frame → Waits (length m.input) i frames) → ReadyToApply allowance g m →
      ReadyToApply allowance (called_in frame size number g) (memory m.input m.output m.«record» frames m.values)
  called-ready frame size frames framed there sized counted waits r =
      record {
        room =
            record {
              selection = r.room.selection;
              written = r.room.written;
              frame = record { framed = framed; frame_room = there };
              values = rw sized r.room.values;
            };
        paid = r.paid;
        counts = λ i. rw counted (r.counts i);
        waits = waits;
      }

  -- its application comes next if it is declared; if it isn't, no instruction comes at no place of the code
  called-there : (declared : Bool) →
      where_there (lent (memory_room m)) declared (ledger_of allowance g m)
      (entering (memory_room m) allowance words (suc g.frame) number (stacks_of g m) (ledger_of allowance g m)) ≡
      pick declared (outcome_of_application (memory_room m) allowance words (called_in g.frame (length words) number g) m)
      (outcome_of_actions (memory_room m) allowance words (called_in g.frame (length words) number g) m)
  unfolding process
  called-there true = entering-paid (memory_room m) allowance words (suc g.frame) number (stacks_of g m) (ledger_of allowance g m) (omega arith)
  called-there false = rw (actions-none words (length words) (omega arith))

  -- a tail call is an application in the caller's frame
  pub tail-enters : SimulatesAction words allowance (tail_call number) g.at.0 g m (Onward (called_in g.frame (length words) number g)) m
  tail-enters u =
      let r = u.ready in
      record {
        simulates =
            record {
              same = ap (waiting (memory_room m) allowance words g.frame m.frames m.values)
                  (called-there (is_declared (functions_in words) number));
              invariant = record {
                ready = called-ready g.frame (length words) m.frames r.room.frame.framed r.room.frame.frame_room refl refl r.waits
                    r;
                current = u.current;
              };
              room = refl;
              beyond = λ old e. e;
            };
        decreases = omega arith;
      }

-- what comes of a choice in the frame of the registers
abbrev ChoiceSimulates : Words → ℕ → ℕ → Choice → Registers → Memory → Next → Memory → Type 0
ChoiceSimulates words allowance number choice g m next n =
    SimulatesBelow words allowance
    (returning (memory_room m) allowance words g m
    (ran_choice (lent (memory_room m)) (functions_in words) (entering (memory_room m) allowance words) (suc g.frame) number choice (stacks_of g m)
    (ledger_of allowance g m)))
    (measure_below (length words) allowance g m + suc (suc (length words)))
    g m next n

-- the function that recovers is called as by a tail call
recovers : (words : Words) (allowance number recoverer : ℕ) (g : Registers) (m : Memory) → Invariant allowance g m →
    ChoiceSimulates words allowance number (chosen_none recoverer) g m (recovered_by (length words) number recoverer g) m
recovers words allowance number zero g m u =
    stopping words allowance g m m u.ready _ _ NoSentenceFits number g (omega arith) refl refl refl refl refl refl
recovers words allowance number (suc r) g m u = record { simulates = (tail-enters words allowance (suc r) g m u).simulates; decreases = omega arith }

-- THE STEP

-- a step that is left is one and those left after it
one_left : {allowance steps : ℕ} → steps < allowance → allowance - steps ≡ suc (allowance - suc steps)
one_left h = omega arith

-- or none is
none_left : {allowance steps : ℕ} → allowance ≤ steps → allowance - steps ≡ 0
none_left h = omega arith

-- one step paid
abbrev pub paid_of : Registers → Registers
paid_of g =
    record { p = g.p; q = g.q; r = g.r; frame = g.frame; at = g.at; steps = g.steps + 1; emitted = g.emitted; callee = g.callee }

-- the sentence chosen for the field
abbrev pub Chosen : Words → ℕ → Registers → Bytes → Choice
Chosen words number g input = choose_from (unpack_sentences 0 (drop (get_or words number 0) words)) (take (g.q.0 - g.p.0) (drop g.p.0 input))

-- a function that is declared, and a step that is left for it
pub record Payable (words : Words) (allowance number : ℕ) (g : Registers) : Type 0 where
  pub counted : count_in words < length words
  pub positive : 0 < number
  pub within : number ≤ count_in words
  pub left : g.steps < allowance

-- one application counted
abbrev counted_for : ℕ → Memory → Memory
counted_for number m = memory m.input m.output m.«record» (counted_in number m.frames) m.values

module _ (words : Words) (allowance number : ℕ) (g : Registers) (m : Memory) where
  pub apply-spent : allowance ≤ g.steps → SimulatesApplication words allowance number g m (Stopped g AllowanceSpent 0) m
  apply-spent h u =
      stopping words allowance g m m u.ready _ _ AllowanceSpent 0 g (omega arith) (rw (none_left h)) refl refl refl refl refl

  module _ (may : Payable words allowance number g) where
    paying : (choice : Choice) → choice ≡ Chosen words number g m.input →
        ran_paid (lent (memory_room m)) (functions_in words) (entering (memory_room m) allowance words) (suc g.frame) number (stacks_of g m)
        (ledger_of allowance g m)
        (pay number (ledger_of allowance g m).tally) ≡
        ran_choice (lent (memory_room m)) (functions_in words) (entering (memory_room m) allowance words) (suc g.frame) number choice (stacks_of g m)
        (ledger_of allowance (paid_of g) (counted_for number m))
    paying choice e =
        rw (
          one_left may.left,
          add-one g.steps,
          e,
          code-at words may.counted number may.positive may.within,
          counts-counted m.frames number may.positive,
        )

    -- the frames that wait are not touched
    counted-waiting : (k : ℕ) → words_below k m.frames ≡ words_below k (counted_in number m.frames)
    counted-waiting k = ap (take (24 * k)) (sym (counted_words m.frames number may.positive))

    ready-paid : ReadyToApply allowance g m → ReadyToApply allowance (paid_of g) (counted_for number m)
    ready-paid r =
        record {
          room =
              record {
                selection = r.room.selection;
                written = r.room.written;
                frame =
                    record {
                      framed = r.room.frame.framed;
                      frame_room = rw (counted-length m.frames number) r.room.frame.frame_room;
                    };
                values = rw (counted-length m.frames number) r.room.values;
              };
          paid = omega (arith, may.left);
          counts = λ i. rw (add-one g.steps) (counted-within m.frames number g.steps may.positive r.counts i);
          waits = waits-same m.frames (counted_in number m.frames) g.frame (counted-waiting g.frame) (length m.input) r.waits;
        }

    invariant-paid : Invariant allowance g m → Invariant allowance (paid_of g) (counted_for number m)
    invariant-paid u =
        record {
          ready = ready-paid u.ready;
          current = held_same m.frames (counted_in number m.frames) (suc g.frame) (counted-waiting (suc g.frame)) g.frame (omega arith)
              u.current;
        }

    -- what the choice leads to, its step paid, is what the application leads to
    apply-simulates : (choice : Choice) → choice ≡ Chosen words number g m.input → (next : Next) (n : Memory) →
        (Invariant allowance (paid_of g) (counted_for number m) →
        ChoiceSimulates words allowance number choice (paid_of g) (counted_for number m) next n) →
        SimulatesApplication words allowance number g m next n
    apply-simulates choice e next n simulates u =
        let d = simulates (invariant-paid u) in
        let below = counted-waiting g.frame in
        let one : allowance - g.steps ≡ suc (allowance - (g.steps + 1)) = omega (arith, may.left) in
        let times : (allowance - g.steps) * suc (length words) ≡ (allowance - (g.steps + 1)) * suc (length words) + suc (length words) =
        rw one (suc-mul (allowance - (g.steps + 1)) (suc (length words))) in
        record {
          simulates =
              record {
                same =
                    ap (waiting (memory_room m) allowance words g.frame m.frames m.values) (paying choice e) ∙
                    waiting-same (memory_room m) allowance words m.frames (counted_in number m.frames) m.values m.values g.frame below
                    refl _
                    ∙
                    d.simulates.same;
                invariant = d.simulates.invariant;
                room = d.simulates.room;
                beyond = d.simulates.beyond;
              };
          decreases = omega (arith, d.decreases, times, measure-same m.frames (counted_in number m.frames) g.frame below (length words));
        }

    -- in frames with the application counted
    pub apply-starts : (place stores stored : ℕ) (next : Next) (n : Memory) {frames : List ℕ} → frames ≡ counted_in number m.frames →
        chosen place (unpack_stores stored (drop stores words)) (unpack_actions 0 (drop (stores + stored) words))
        ≡ Chosen words number g m.input →
        SimulatesSentence words allowance place stores stored (paid_of g) (memory m.input m.output m.«record» frames m.values) next n →
        SimulatesApplication words allowance number g m next n
    apply-starts place stores stored next n is e starts = apply-simulates _ e next n (λ u. (rw is at starts) u.ready)

    -- where no sentence fits, the run ends, or the function that recovers is called
    pub apply-recovers : (recoverer : ℕ) → chosen_none recoverer ≡ Chosen words number g m.input →
        SimulatesApplication words allowance number g m (recovered_by (length words) number recoverer (paid_of g)) (counted_for number m)
    apply-recovers recoverer e = apply-simulates (chosen_none recoverer) e _ _
        (recovers words allowance number recoverer (paid_of g) (counted_for number m))

    -- words that are no sentence end the run
    pub apply-wrong : chosen_wrong ≡ Chosen words number g m.input
        → SimulatesApplication words allowance number g m (Stopped (paid_of g) NoInstruction 0) (counted_for number m)
    apply-wrong e =
        apply-simulates chosen_wrong e _ _
        (λ u. stopping words allowance (paid_of g) (counted_for number m) (counted_for number m) u.ready _ _ NoInstruction 0 (paid_of g) (omega arith)
        refl refl refl refl refl refl)

-- A CALL

-- a store between a frame's counts and its open sequences leaves what its application keeps
local-past : (frames : List ℕ) (k i v : ℕ) → 5 < i → i < 8 → Held k frames → (values : Bytes) → local_at k (with_word k i v frames) values
    ≡ local_at k frames values
local-past frames k i v h l held values =
    rw (
      word_kept frames k i 1 v (omega arith),
      word_kept frames k i 2 v (omega arith),
      word_kept frames k i 4 v (omega arith),
      word_kept frames k i 5 v (omega arith),
      words-stored frames k i v,
      take-set-lt (24 * k + 24) (words_in frames) (24 * k + i) v (omega arith),
      drop-set-lt (24 * k + 24 - frame_word k 5 frames) (take (24 * k + 24) (words_in frames)) (24 * k + i) v (omega (arith, held.opened)),
    )

pub calling-counts : (frames : List ℕ) (k at end : ℕ) → counts_in (calling_from k at end frames) ≡ counts_in frames
calling-counts frames k at end = counts-kept (with_word k 6 at frames) k 7 end ∙ counts-kept frames k 6 at

pub calling-length : (frames : List ℕ) (k at end : ℕ) → length (calling_from k at end frames) ≡ length frames
calling-length frames k at end = stored-length (with_word k 6 at frames) k 7 end ∙ stored-length frames k 6 at

-- a frame more is there, unless it may not be added
pub not-crowded : (k : ℕ) (frames : List ℕ) → crowded_at k frames ≡ false → suc k < max_frames → HasFrame (suc k) frames
not-crowded k frames e h = ltb-false (length frames) (words_for (suc (suc k))) (rw (lt-ltb (suc k) max_frames h) at e)

module _ (frames : List ℕ) (k at end : ℕ) (there : HasFrame k frames) where
  abbrev Returning : List ℕ
  Returning = with_word k 6 at frames

  abbrev Calling : List ℕ
  Calling = calling_from k at end frames

  called-below : words_below k Calling ≡ words_below k frames
  called-below = waiting_kept Returning k 7 end ∙ waiting_kept frames k 6 at

  called-back : frame_word k 6 Calling ≡ at
  called-back = word_kept Returning k 7 6 end (omega arith) ∙ word_set frames k there 6 at (omega arith)

  called-end : frame_word k 7 Calling ≡ end
  called-end = word_set Returning k (stored_there frames k 6 at there) 7 end (omega arith)

  called-local : (values : Bytes) → Held k frames → local_at k Calling values ≡ local_at k frames values
  called-local values held =
      local-past Returning k 7 end (omega arith) (omega arith) (held-past frames k 6 at (omega arith) held) values ∙
      local-past frames k 6 at (omega arith) (omega arith) held values

  module _ (cells : ℕ) (within : end ≤ cells) (waits : (i : ℕ) → i < k → Waits cells i frames) (current : Held k frames) where
    called-waits : (i : ℕ) → i < suc k → Waits cells i Calling
    called-waits i h = by (ltb i k) refl
      where
        by : (b : Bool) → ltb i k ≡ b → Waits cells i Calling
        by true e = waits-same frames Calling k (sym called-below) cells waits i (ltb-true i k e)
        by false e =
            let here : i ≡ k = omega (arith, ltb-false i k e) in
            rw here (record {
              held = held-past Returning k 7 end (omega arith) (held-past frames k 6 at (omega arith) current);
              kept = rw called-end
                  within;
            })

  -- the frame above may be any
  module _ (above : List ℕ) (same : words_below (suc k) above ≡ words_below (suc k) Calling) where
    above-waits : (cells : ℕ) → end ≤ cells → ((i : ℕ) → i < k → Waits cells i frames) → Held k frames → (i : ℕ) → i < suc k → Waits cells i above
    above-waits cells within waits current = waits-same Calling above (suc k) (sym same) cells (called-waits cells within waits current)

    module _ (roomy : Room) (allowance : ℕ) (words : Words) where
      above-left : (size : ℕ) → measure_waiting size (suc k) above ≡ size - at + measure_waiting size k frames
      unfolding measure_waiting
      above-left size = measure-same above Calling (suc k) same size ∙ rw (called-back, measure-same Calling frames k called-below size)

      above_waiting : (values : Bytes) → Held k frames → (o : Outcomes) →
          waiting roomy allowance words k frames values (and_then o (λ s l. continuation_at roomy allowance words k at (local_at k frames values)
          (returned (roomy.in_cells - end) s) l)) ≡
          waiting roomy allowance words (suc k) above values o
      unfolding waiting
      above_waiting values held o =
          rw (called-back, called-end, called-local values held)
          (waiting-same roomy allowance words frames Calling values values k (sym called-below) refl _) ∙
          waiting-same roomy allowance words Calling above values values (suc k) (sym same) refl o

module _ (words : Words) (allowance number : ℕ) (g : Registers) (m : Memory) where
  pub undeclared : (kind : CallKind) → is_declared (functions_in words) number ≡ false →
      SimulatesAction words allowance (call_by kind number) g.at.0 g m (Stopped g NoInstruction 0) m
  undeclared kind e u = stopping words allowance g m m u.ready _ _ NoInstruction 0 g (omega arith) (stops kind) refl refl refl refl refl
    where
      stops : (kind : CallKind) →
          perform (lent (memory_room m)) (functions_in words) (entering (memory_room m) allowance words)
          (continuation_at (memory_room m) allowance words g.frame g.at.0)
          (suc g.frame)
          (call_by kind number) (local_of g m) (stacks_of g m) (ledger_of allowance g m) ≡
          stop no_instruction 0 (ledger_of allowance g m)
      stops Framed = rw e
      stops Tail = rw e

  module _ (declared : is_declared (functions_in words) number ≡ true) where
    pub call-spent : allowance ≤ g.steps → SimulatesAction words allowance (call number) g.at.0 g m (Stopped g AllowanceSpent 0) m
    call-spent h u =
        stopping words allowance g m m u.ready _ _ AllowanceSpent 0 g (omega arith) (rw (declared, none_left h)) refl refl refl refl refl

    pub call-full : g.steps < allowance → 255 ≤ g.frame → SimulatesAction words allowance (call number) g.at.0 g m (Stopped g FramesFull 0) m
    call-full h l u =
        stopping words allowance g m m u.ready _ _ FramesFull 0 g (omega arith)
        (rw (declared, one_left h, lt-ltb 256 (suc (suc g.frame)) (omega arith))) refl refl refl refl refl

module _ (words : Words) (allowance number : ℕ) (g : Registers) (input output «record» : Bytes) (frames : List ℕ) (values : Bytes) where
  abbrev Caller : Memory
  Caller = memory input output «record» frames values

  -- a call is an application in the frame above
  pub call_enters : is_declared (functions_in words) number ≡ true → g.steps < allowance → g.frame < 255 → (above : List ℕ)
      → HasFrame (suc g.frame) above → length above ≡ length frames → counts_in above ≡ counts_in frames →
      words_below (suc g.frame) above ≡ words_below (suc g.frame) (calling_from g.frame g.at.0 g.q.0 frames)
      → Held (suc g.frame) above →
      SimulatesAction words allowance (call number) g.at.0 g Caller (Onward (called_in (suc g.frame) (length words) number g))
      (memory input output «record» above values)
  call_enters declared h l above there sized counted same empty u =
      let k = g.frame in
      let room = memory_room Caller in
      let r = u.ready in
      let application = entering room allowance words (suc (suc k)) number (stacks_of g Caller) (ledger_of allowance g Caller) in
      let entered = entering-paid room allowance words (suc (suc k)) number (stacks_of g Caller) (ledger_of allowance g Caller) (omega arith) in
      let left = above-left frames k g.at.0 g.q.0 r.room.frame.frame_room above same room allowance words (length words) in
      let selected : length input - g.p.0 - (g.q.0 - g.p.0) ≡ length input - g.q.0 = omega (arith, r.room.selection) in
      record {
        simulates =
            record {
              same =
                  opens declared (one_left h) (le-ltb 256 (suc (suc k)) (omega arith)) (length-drop g.p.0 input) selected ∙
                  above_waiting frames k g.at.0 g.q.0 r.room.frame.frame_room above same room allowance words values u.current
                  application ∙
                  rw (declared, counted) (ap (waiting room allowance words (suc k) above values) entered);
              invariant =
                  record {
                    ready = called-ready words allowance number g Caller (suc k) (length words) above (omega arith) there sized counted
                        (above-waits frames k g.at.0 g.q.0 r.room.frame.frame_room above same (length input) r.room.selection.inside
                        r.waits u.current) r;
                    current = empty;
                  };
              room = refl;
              beyond = λ old e. e;
            };
        decreases = rw left (omega arith);
      }
    where
      -- a call that is declared, paid for and has a frame enters its function
      opens : {n : ℕ} → is_declared (functions_in words) number ≡ true → allowance - g.steps ≡ suc n → ltb 256 (suc (suc g.frame)) ≡ false →
          length (drop g.p.0 input) ≡ length input - g.p.0 → length input - g.p.0 - (g.q.0 - g.p.0) ≡ length input - g.q.0 →
          outcome_of_action (memory_room Caller) allowance words (call number) g.at.0 g Caller ≡
          waiting (memory_room Caller) allowance words g.frame frames values
          (and_then (entering (memory_room Caller) allowance words (suc (suc g.frame)) number (stacks_of g Caller) (ledger_of allowance g Caller))
          (λ s l. continuation_at (memory_room Caller) allowance words g.frame g.at.0 (local_at g.frame frames values)
          (returned (length input - g.q.0) s)
          l))
      opens e e' e'' long selected = rw (e, e', e'', long, selected)
