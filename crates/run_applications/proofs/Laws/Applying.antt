-- An application: the function table, the sentence begun in its frame, the step paid, a call and a tail call.
use Prim.Native.Nat.{ℕ, zero, suc, ◌+◌, ◌*◌, ◌-◌, ◌≤◌, ◌<◌}
use native.Mathlib.Nat.{sub_self}
use native.Mathlib.Omega.{arith}
use mathlib.Core.Path.{◌≡◌, refl, sym, ap, ◌∙◌}
use mathlib.Core.Bool.{true}
use mathlib.Core.List.{List, [], ◌∷◌, map}
use mathlib.Core.Option.{Option, some}
use lib.Dec.{leb}
use lib.ListN.{length, get_or, take, drop, length-take, length-drop, length-set, length-map}
use lib.Seq.{get_or-take, get_or-drop, take-take, take-add, drop_at, length-take-le}
use borrow.Author.Tests.{lt-ltb, leb-true}
use Rattle.meaning.specs.Choice.{Bytes, nth}
use Rattle.meaning.specs.Outcome.{stop}
use Rattle.meaning.specs.Instructions.{Sentences}
use Rattle.meaning.specs.Matching.{stored_values}
use Rattle.meaning.specs.Machine.{is_declared, code_at}
use Rattle.meaning.specs.Packing.{Words, unpack_sentences, unpack_stores}
use Rattle.run_actions.specs.declared.registers.Registers.{Registers}
use Rattle.answers.specs.declared.Ending.{Ending}
use Rattle.answers.specs.declared.Ending.TheVariants.{NoInstruction}
use Rattle.run_actions.specs.declared.registers.Next.TheVariants.{Onward, Stopped}
use Rattle.run_code_places.specs.declared.CodePlace.{CodePlace}
use Rattle.std.specs.Prelude.{Ok, Err}
use Rattle.run_code_places.specs.declared.Wrong.{Wrong}
use Rattle.answers.specs.Numbers.{ending_number}
use Rattle.run_actions.specs.States.{Memory, memory, frame_word, local_at, Held, counts_in, ledger_of, memory_room, Outcomes}
use Rattle.run_actions.specs.States.{HasFrame, HasValues, words_in}
use Rattle.run_actions.specs.States.{words_below, with_word, begun}
use Rattle.run_actions.proofs.Laws.Frames.{word_set, word_kept, waiting_kept, counts-kept}
use Rattle.run_applications.specs.Storing.{Stores}
use Rattle.run_applications.specs.Waiting.{count_in, functions_in, returning}
use Rattle.run_applications.specs.Simulation.{ReadyToApply, SimulatesBelow, SimulatesSentence}
use Rattle.meaning.proofs.Laws.Remaining.{past_end}
use Rattle.run_applications.proofs.Laws.Waiting.{measure-same, waits-same, waiting-same, waiting-stop}

-- THE FUNCTION TABLE

module _ (words : Words) (counted : count_in words < length words) where
  table-length : length (take (count_in words) (drop 1 words)) ≡ count_in words
  table-length = length-take-le (count_in words) (drop 1 words) (rw (length-drop 1 words) (omega arith))

  functions-length : length (functions_in words) ≡ count_in words
  functions-length = rw (length-map (take (count_in words) (drop 1 words)) (λ at. unpack_sentences 0 (drop at words))) table-length

  pub declared-some : (number : ℕ) → (number ≡ 0 → ⊥) → is_declared (functions_in words) number ≡ leb number (count_in words)
  declared-some zero h = absurd (h refl)
  declared-some (suc n) h = rw (lt-ltb 0 (suc n) (omega arith), functions-length)

  nth-map : (f : ℕ → Sentences) (l : List ℕ) (i : ℕ) → i < length l → nth i (map f l) ≡ some (f (get_or l i 0))
  unfolding nth
  nth-map f [] i h = absurd (omega arith)
  nth-map f (x ∷ l) zero h = refl
  nth-map f (x ∷ l) (suc i) h = nth-map f l i (omega arith)

  -- a function's sentences stand where its entry says
  pub code-at : (number : ℕ) → 0 < number → number ≤ count_in words → code_at (functions_in words) number ≡
      unpack_sentences 0 (drop (get_or words number 0) words)
  code-at zero h l = absurd (omega arith)
  code-at (suc n) h l =
      let one : 1 + n ≡ suc n = omega arith in
      rw (
        nth-map (λ at. unpack_sentences 0 (drop at words)) (take (count_in words) (drop 1 words)) n (rw table-length (omega arith)),
        get_or-take (count_in words) (drop 1 words) n 0 (omega arith),
        get_or-drop 1 words n 0,
        one,
      )

  pub is_declared_lem : (number : ℕ) → is_declared (functions_in words) number ≡ true → (0 < number) × (number ≤ count_in words)
  is_declared_lem zero e = let z : ◌≡◌ {A = ℕ} 0 1 = cc in absurd (omega arith)
  is_declared_lem (suc n) e = (omega arith, leb-true (suc n) (count_in words) (rw (declared-some (suc n) (λ z. omega arith)) at e))

-- AN INSTRUCTION THAT ENDS THE RUN

module _ (words : Words) (allowance : ℕ) (g : Registers) (m n : Memory) (r : ReadyToApply allowance g m) where
  -- the outcome in the frame is the run's; the values, the frames and the counts may have changed
  pub stopping : (tocome : Outcomes) (bound : ℕ) (ending : Ending) (function : ℕ) (h : Registers) → 0 < bound →
      tocome ≡ stop (ending_number ending) function (ledger_of allowance h n) →
      h.r ≡ g.r → h.emitted ≡ g.emitted → n.input ≡ m.input → n.output ≡ m.output → n.«record» ≡ m.«record» →
      SimulatesBelow words allowance (returning (memory_room m) allowance words g m tocome) bound g m (Stopped h ending function) n
  stopping tocome bound ending function h b e er ee ei eo ej =
      record {
        simulates =
            record {
              same = rw e (waiting-stop (memory_room m) allowance words g.frame m.frames m.values _ _ _);
              invariant = record { below = rw (er, eo) r.room.written.below; logged = rw (ee, ej) r.room.written.logged };
              room = rw (ei, eo, ej);
              beyond = λ old b. rw (ee, ej) b;
            };
        decreases = b;
      }

-- A SENTENCE BEGUN

module _ (frames : List ℕ) (k field place stored : ℕ) (there : HasFrame k frames) where
  -- the words stored one after the other
  abbrev First : List ℕ
  First = with_word k 0 0 frames

  abbrev Second : List ℕ
  Second = with_word k 1 field First

  abbrev Third : List ℕ
  Third = with_word k 2 place Second

  abbrev Fourth : List ℕ
  Fourth = with_word k 3 (field - place) Third

  abbrev Fifth : List ℕ
  Fifth = with_word k 4 stored Fourth

  abbrev Begun : List ℕ
  Begun = begun k field place stored frames

  pub begun-length : length Begun ≡ length frames
  begun-length = simp length-set

  pub begun-below : words_below k Begun ≡ words_below k frames
  begun-below =
      waiting_kept Fifth k 5 0 ∙ waiting_kept Fourth k 4 stored ∙ waiting_kept Third k 3 (field - place) ∙ waiting_kept Second k 2 place ∙
      waiting_kept First k 1 field ∙ waiting_kept frames k 0 0

  pub begun-counts : counts_in Begun ≡ counts_in frames
  begun-counts =
      counts-kept Fifth k 5 0 ∙ counts-kept Fourth k 4 stored ∙
      counts-kept Third k 3 (field - place) ∙ counts-kept Second k 2 place ∙
      counts-kept First k 1 field ∙ counts-kept frames k 0 0

  word-0 : frame_word k 0 Begun ≡ 0
  word-0 =
      word_kept Fifth k 5 0 0 (omega arith) ∙ word_kept Fourth k 4 0 stored (omega arith) ∙ word_kept Third k 3 0 (field - place) (omega arith) ∙
      word_kept Second k 2 0 place (omega arith) ∙ word_kept First k 1 0 field (omega arith) ∙ word_set frames k there 0 0 (omega arith)

  word-1 : frame_word k 1 Begun ≡ field
  word-1 =
      word_kept Fifth k 5 1 0 (omega arith) ∙ word_kept Fourth k 4 1 stored (omega arith) ∙ word_kept Third k 3 1 (field - place) (omega arith) ∙
      word_kept Second k 2 1 place (omega arith) ∙ word_set First k (simp length-set there) 1 field (omega arith)

  word-2 : frame_word k 2 Begun ≡ place
  word-2 =
      word_kept Fifth k 5 2 0 (omega arith) ∙ word_kept Fourth k 4 2 stored (omega arith) ∙ word_kept Third k 3 2 (field - place) (omega arith) ∙
      word_set Second k (simp length-set there) 2 place (omega arith)

  word-3 : frame_word k 3 Begun ≡ field - place
  word-3 =
      word_kept Fifth k 5 3 0 (omega arith) ∙ word_kept Fourth k 4 3 stored (omega arith) ∙
      word_set Third k (simp length-set there) 3 (field - place) (omega arith)

  word-4 : frame_word k 4 Begun ≡ stored
  word-4 = word_kept Fifth k 5 4 0 (omega arith) ∙ word_set Fourth k (simp length-set there) 4 stored (omega arith)

  word-5 : frame_word k 5 Begun ≡ 0
  word-5 = word_set Fifth k (simp length-set there) 5 0 (omega arith)

  pub begun-held : stored ≤ 16 → Held k Begun
  begun-held few =
      record { null = word-0; right = rw (word-1, word-2, word-3); stored = rw word-4 few; opened = rw word-5 (omega arith) }

  -- the first values of a frame are the first from its place on
  frame-values : (values : Bytes) → HasValues k values → stored ≤ 16 →
      take stored (drop (16 * k) (take (16 * k + 16) values)) ≡ take stored (drop (16 * k) values)
  frame-values values whole h =
      rw (
        take-add (16 * k) 16 values,
        drop_at (take (16 * k) values) (take 16 (drop (16 * k) values)) (16 * k) (length-take-le (16 * k) values (omega arith)),
      )
      (take-take stored 16 (drop (16 * k) values) h)

  begun-local : (values : Bytes) → HasValues k values → stored ≤ 16 →
      local_at k Begun values ≡ record { field = field; place = place; values = take stored (drop (16 * k) values); opened = [] }
  begun-local values whole h =
      rw (word-1, word-2, word-4, word-5, frame-values values whole h)
      (ap (λ rest. record { field = field; place = place; values = take stored (drop (16 * k) values); opened = rest })
      (past_end (take (24 * k + 24) (words_in Begun)) (24 * k + 24 - 0) (rw (length-take (24 * k + 24) (words_in Begun)) (omega arith))))

module _ (words : Words) (allowance place stores stored : ℕ) (g : Registers) (input output «record» : Bytes) (frames : List ℕ)
    (values values' : Bytes)
    (few : stored ≤ 16) where
  abbrev Before-start : Memory
  Before-start = memory input output «record» frames values

  -- the values of the sentence's stores
  abbrev Kept : Option Bytes
  Kept = stored_values (unpack_stores stored (drop stores words)) (take (g.q.0 - g.p.0) (drop g.p.0 input)) place

  pub starts-wrong : {w : Wrong} → Stores (16 * g.frame) stored (stores + stored) Kept values values' (Err w) →
      SimulatesSentence words allowance place stores stored g Before-start (Stopped g NoInstruction 0) (memory input output «record» frames values')
  starts-wrong s r =
      stopping words allowance g Before-start (memory input output «record» frames values') r _ _ NoInstruction 0 g (omega arith)
      (rw (← s.same)) refl refl refl refl refl

  -- the registers at a sentence's actions
  abbrev pub started_at : CodePlace → Registers
  started_at actions =
      record { p = g.p; q = g.p; r = g.r; frame = g.frame; at = actions; steps = g.steps; emitted = g.emitted; callee = 0 }

  pub starts-right : (actions : CodePlace) → length values' ≡ length values →
      Stores (16 * g.frame) stored (stores + stored) Kept values values' (Ok actions) →
      SimulatesSentence words allowance place stores stored g Before-start (Onward (started_at actions))
      (memory input output «record» (begun g.frame (g.q.0 - g.p.0) place stored frames) values')
  starts-right actions sized s r =
      let k = g.frame in
      let d = g.q.0 - g.p.0 in
      let frames' = begun k d place stored frames in
      let there : HasFrame k frames = r.room.frame.frame_room in
      let kept : words_below k frames' ≡ words_below k frames = begun-below frames k d place stored there in
      let counted : counts_in frames' ≡ counts_in frames = begun-counts frames k d place stored there in
      record {
        simulates =
            record {
              same =
                  rw (
                    ← s.same,
                    s.ends,
                    begun-local frames k d place stored there values' (rw sized (r.room.values k there)) few,
                    sub_self g.p.0,
                    counted,
                  )
                  (waiting-same (memory_room Before-start) allowance words frames frames' values values' k (sym kept) (sym s.below) _);
              invariant =
                  record {
                    ready =
                        record {
                          room =
                              record {
                                selection = record { ordered = omega arith; inside = omega (arith, r.room.selection) };
                                written = r.room.written;
                                frame = record { framed = r.room.frame.framed; frame_room = rw (begun-length frames k d place stored there) there };
                                values = rw (begun-length frames k d place stored there, sized) r.room.values;
                              };
                          paid = r.paid;
                          counts = λ i. rw counted (r.counts i);
                          waits = waits-same frames frames' k (sym kept) (length input) r.waits;
                        };
                    current = begun-held frames k d place stored there few;
                  };
              room = refl;
              beyond = λ old b. b;
            };
        decreases = rw (measure-same frames' frames k kept (length words)) (omega arith);
      }
