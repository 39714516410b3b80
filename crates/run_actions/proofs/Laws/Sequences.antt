-- BeginSeq and UseSeq on registers and cells do what the machine's do.
use Prim.Native.Nat.{ℕ, suc, ◌+◌, ◌*◌, ◌-◌, ◌≤◌, ◌<◌, min}
use native.Mathlib.Omega.{arith}
use mathlib.Core.Path.{◌≡◌, refl, sym, ◌∙◌}
use mathlib.Core.List.{List, ◌∷◌, ◌++◌}
use lib.ListN.{length, take, drop, take-append-drop, length-drop}
use lib.Seq.{take-set-lt, drop-set-lt, length-take-le, take-take, drop-drop}
use borrow.Author.Tests.{lt-ltb, le-ltb}
use Rattle.meaning.specs.Choice.{Bytes}
use Rattle.meaning.specs.Instructions.{begin_seq, use_seq}
use Rattle.meaning.specs.Machine.{with_opened}
use Rattle.run_actions.specs.declared.registers.Registers.{Registers}
use Rattle.answers.specs.declared.Ending.TheVariants.{NoInstruction, InFull}
use Rattle.run_actions.specs.declared.registers.Next.TheVariants.{Onward, Stopped}
use Rattle.run_actions.specs.States.{Memory, memory, frame_word, local_at, opened_at, counts_in, moved_to, ImplementsAction, HasFrame, words_in}
use Rattle.run_actions.specs.States.{with_word}
use Rattle.run_cells.specs.Moved.{moved, MovedSoFar}
use Rattle.run_cells.proofs.Laws.Moving.{byte-by-byte}
use Rattle.run_actions.proofs.Laws.Frames.{drop_min, take_min, drop-set-here, words-stored, stored-length, stored_there, words-there, word_set}
use Rattle.run_actions.proofs.Laws.Frames.{word_kept, opened_of, opened-count, opened-none, opened-next, held-past, held-count, waiting_kept}
use Rattle.run_actions.proofs.Laws.Frames.{counts-kept}
use Rattle.run_actions.proofs.Laws.Acting.{stops}

module _ (frames : List ℕ) (values : Bytes) (k : ℕ) (there : HasFrame k frames) where
  -- the number of open sequences stored anew
  local-count : (n : ℕ) → n ≤ 16 →
      local_at k (with_word k 5 n frames) values ≡ with_opened (opened_of frames k there n) (local_at k frames values)
  local-count n h =
      let low : 24 * k + 5 < 24 * k + 24 = omega arith in
      let apart : 24 * k + 5 < 24 * k + 24 - n = omega arith in
      rw (
        word_kept frames k 5 1 n (omega arith),
        word_kept frames k 5 2 n (omega arith),
        word_kept frames k 5 4 n (omega arith),
        word_set frames k there 5 n (omega arith),
        words-stored frames k 5 n,
        take-set-lt (24 * k + 24) (words_in frames) (24 * k + 5) n low,
        drop-set-lt (24 * k + 24 - n) (take (24 * k + 24) (words_in frames)) (24 * k + 5) n apart,
      )

  opened-more : (n r : ℕ) → n < 16 → (there' : HasFrame k (with_word k (23 - n) r frames)) →
      opened_of (with_word k (23 - n) r frames) k there' (n + 1) ≡ r ∷ opened_of frames k there n
  opened-more n r h there' =
      let here : 24 * k + 24 - (n + 1) ≡ 24 * k + (23 - n) = omega arith in
      let next : suc (24 * k + (23 - n)) ≡ 24 * k + 24 - n = omega arith in
      let low : 24 * k + (23 - n) < 24 * k + 24 = omega arith in
      let within : 24 * k + (23 - n) < length (take (24 * k + 24) (words_in frames)) =
      rw (length-take-le (24 * k + 24) (words_in frames) (words-there frames k there)) (omega arith) in
      rw (
        here,
        words-stored frames k (23 - n) r,
        take-set-lt (24 * k + 24) (words_in frames) (24 * k + (23 - n)) r low,
        drop-set-here (take (24 * k + 24) (words_in frames)) (24 * k + (23 - n)) r within,
        next,
      )

  -- a sequence opened at a cell of out
  local-opened : (n r : ℕ) → n < 16 → (there' : HasFrame k (with_word k (23 - n) r frames)) →
      with_opened (opened_of (with_word k (23 - n) r frames) k there' (n + 1)) (local_at k (with_word k (23 - n) r frames) values) ≡
      with_opened (r ∷ opened_of frames k there n) (local_at k frames values)
  local-opened n r h there' =
      rw (
        opened-more n r h there',
        word_kept frames k (23 - n) 1 r (omega arith),
        word_kept frames k (23 - n) 2 r (omega arith),
        word_kept frames k (23 - n) 4 r (omega arith),
      )

-- an argument that is moved begins as far before p as it is long
pub begins-before : (p to size : ℕ) → to ≡ p - size → size ≤ p → to + size ≡ p
begins-before p to size e h = omega arith

-- the selected cells, once the argument stands before them
selected-more : (p q r mark to : ℕ) → to + (r - min mark r) ≡ p → p ≤ q → (q - p) + (r - mark) ≡ q - to
selected-more p q r mark to begins order =
    let size : r - mark ≡ r - min mark r = omega arith in
    rw size (omega arith)

module _ (g : Registers) (m : Memory) (there : HasFrame g.frame m.frames) where
  -- the number of sequences that are open
  abbrev count : ℕ
  count = frame_word g.frame 5 m.frames

  -- BEGINSEQ

  pub begin-many : count ≤ 16 → 16 ≤ count → ImplementsAction begin_seq g.at.0 g m (Stopped g NoInstruction 0) m
  begin-many few h =
      stops g m _ _ NoInstruction (λ allowance code enter k. rw (opened-count m.frames g.frame there count (omega arith), le-ltb count 16 h))

  pub begin-kept : g.r.0 ≤ length m.output → count < 16 →
      ImplementsAction begin_seq g.at.0 g m (Onward g) (memory m.input m.output m.«record» (opened_at g.frame g.r.0 m.frames)
      m.values)
  begin-kept r≤out h =
      let frames₁ = with_word g.frame (23 - count) g.r.0 m.frames in
      let there₁ : HasFrame g.frame frames₁ = stored_there m.frames g.frame (23 - count) g.r.0 there in
      let counted : counts_in (with_word g.frame 5 (count + 1) frames₁) ≡ counts_in m.frames =
      counts-kept frames₁ g.frame 5 (count + 1) ∙ counts-kept m.frames g.frame (23 - count) g.r.0 in
      record {
        same = λ allowance code enter k.
            rw (
              opened-count m.frames g.frame there count (omega arith),
              lt-ltb count 16 h,
              length-take-le g.r.0 m.output r≤out,
              local-count frames₁ m.values g.frame there₁ (count + 1) (omega arith),
              local-opened m.frames m.values g.frame there count g.r.0 h there₁,
              counted,
            );
        preserves = record {
          invariant = λ f. record {
            room = record {
              selection = f.room.selection;
              written = f.room.written;
              frame = record { framed = f.room.frame.framed; frame_room = stored_there frames₁ g.frame 5 (count + 1) there₁ };
              values = rw (stored-length frames₁ g.frame 5 (count + 1), stored-length m.frames g.frame (23 - count) g.r.0)
                  f.room.values;
            };
            held = held-count frames₁ g.frame (count + 1) there₁ (omega arith)
                (held-past m.frames g.frame (23 - count) g.r.0 (omega arith) f.held);
          };
          frame = refl;
          place = refl;
          steps = refl;
          callee = refl;
          waiting = waiting_kept frames₁ g.frame 5 (count + 1) ∙ waiting_kept m.frames g.frame (23 - count) g.r.0;
          counts = counted;
          values = refl;
          beyond = λ old e. e;
        };
      }

  -- USESEQ

  -- the registers stay within what is lent
  pub record Bounded : Type 0 where
    pub p≤q : g.p.0 ≤ g.q.0
    pub q≤in : g.q.0 ≤ length m.input
    pub r≤out : g.r.0 ≤ length m.output
    pub few : count ≤ 16

  module _ (b : Bounded) where
    -- where the latest open sequence begins on out
    abbrev pub mark : ℕ
    mark = frame_word g.frame (24 - count) m.frames

    pub use-none : count ≡ 0 → ImplementsAction use_seq g.at.0 g m (Stopped g NoInstruction 0) m
    use-none e = stops g m _ _ NoInstruction (λ allowance code enter k. rw (e, opened-none m.frames g.frame there))

    pub use-full : (count ≡ 0 → ⊥) → g.p.0 < g.r.0 - min mark g.r.0 → ImplementsAction use_seq g.at.0 g m (Stopped g InFull 0) m
    use-full ne h =
        let full : length m.input < (g.r.0 - mark) + (length m.input - g.p.0) = omega arith in
        stops g m _ _ InFull (λ allowance code enter k.
        rw (
          opened-next m.frames g.frame there count (omega arith) (omega arith),
          length-drop mark (take g.r.0 m.output),
          length-take-le g.r.0 m.output b.r≤out,
          length-drop g.p.0 m.input,
          lt-ltb _ _ full,
        ))

    -- where the argument begins on out, and how long it is
    abbrev first : ℕ
    first = min mark g.r.0

    abbrev size : ℕ
    size = g.r.0 - first

    -- the argument leaves out, and stands just below p
    module _ (to : ℕ) (input : Bytes) (begins : to + size ≡ g.p.0)
        (cells : input ≡ moved size m.input g.p.0 m.output g.r.0) where
      abbrev pub after_use : Memory
      after_use = memory input m.output m.«record» (with_word g.frame 5 (count - 1) m.frames) m.values

      -- out up to r, cut where the sequence begins
      argument : drop mark (take g.r.0 m.output) ≡ drop first (take g.r.0 m.output)
      argument =
          rw (length-take-le g.r.0 m.output b.r≤out) at (sym (drop_min mark (take g.r.0 m.output)))

      kept : take mark (take g.r.0 m.output) ≡ take first m.output
      kept =
          sym (take_min mark (take g.r.0 m.output)) ∙
          rw (length-take-le g.r.0 m.output b.r≤out) (take-take first g.r.0 m.output (omega arith))

      -- all of its bytes are moved
      whole : MovedSoFar m.input g.p.0 m.output g.r.0 size input
      whole = rw cells (byte-by-byte b.r≤out (omega arith) size (omega arith) (omega (arith, begins)))

      below-p : drop to input ≡ drop first (take g.r.0 m.output) ++ drop g.p.0 m.input
      below-p =
          let start : g.p.0 - size ≡ to = omega (arith, begins) in
          let front : g.r.0 - size ≡ first = omega arith in
          let moved = rw (start, front) at whole.in_order in
          sym (take-append-drop size (drop to input)) ∙ rw (drop-drop size to input, begins, moved, whole.above)

      pub use-moved : (count ≡ 0 → ⊥) → length input ≡ length m.input →
          ImplementsAction use_seq g.at.0 g m (Onward (moved_to g to g.q.0 first)) after_use
      use-moved ne long =
          let free : (g.r.0 - mark) + (length m.input - g.p.0) ≤ length m.input = omega arith in
          let selected : (g.q.0 - g.p.0) + (g.r.0 - mark) ≡ g.q.0 - to =
          selected-more g.p.0 g.q.0 g.r.0 mark to begins b.p≤q in
          record {
            same = λ allowance code enter k.
                rw (
                  opened-next m.frames g.frame there count (omega arith) (omega arith),
                  length-drop mark (take g.r.0 m.output),
                  length-take-le g.r.0 m.output b.r≤out,
                  length-drop g.p.0 m.input,
                  le-ltb (length m.input) _ free,
                  local-count m.frames m.values g.frame there (count - 1) (omega arith),
                  counts-kept m.frames g.frame 5 (count - 1),
                  argument,
                  kept,
                  below-p,
                  selected,
                );
            preserves = record {
              invariant = λ f. record {
                room = record {
                  selection = record { ordered = omega (arith, begins); inside = rw long (omega arith) };
                  written = record { below = omega arith; logged = f.room.written.logged };
                  frame = record { framed = f.room.frame.framed; frame_room = stored_there m.frames g.frame 5 (count - 1) there };
                  values = rw (stored-length m.frames g.frame 5 (count - 1)) f.room.values;
                };
                held = held-count m.frames g.frame (count - 1) there (omega arith) f.held;
              };
              frame = refl;
              place = refl;
              steps = refl;
              callee = refl;
              waiting = waiting_kept m.frames g.frame 5 (count - 1);
              counts = counts-kept m.frames g.frame 5 (count - 1);
              values = refl;
              beyond = λ old e. e;
            };
          }
