-- The frames' words: what a store changes of a frame, and the sequences that a frame keeps open.
use Prim.Native.Nat.{ℕ, zero, suc, pred, ◌+◌, ◌*◌, ◌-◌, ◌≤◌, ◌<◌, min}
use native.Mathlib.Nat.{min-eq_left, min-eq_right}
use native.Mathlib.Decide.{dec_le, ℕ_discrete}
use native.Mathlib.Numerals.{add-one}
use native.Mathlib.Omega.{arith}
use mathlib.Core.Path.{◌≡◌, refl, sym, ◌∙◌}
use mathlib.Core.Bool.{Bool, true, false}
use mathlib.Core.List.{List, [], ◌∷◌}
use lib.Dec.{ltb}
use lib.ListN.{length, take, drop, get_or, set, length-drop, length-take, length-set, drop_of_length-le}
use lib.Seq.{get_or-set_same, get_or-set_other, get_or-take, drop-cons, take-set-le, take-set-lt, drop-set-lt, drop-set-add, set_out, take-suc}
use lib.Seq.{take-suc-set, set_split, drop_at, length-take-le, take_all, take-length, drop-length}
use borrow.Author.Tests.{ltb-true, ltb-false}
use Rattle.meaning.specs.Choice.{pick}
use Rattle.meaning.specs.Outcome.{max_counted, counted}
use Rattle.run_actions.specs.States.{HasFrame, words_in, frame_word, with_word, words_below, counts_in, counted_in, CountsWithin, Held}

-- LISTS

-- a place past the end counts as the end
module _ (n : ℕ) (l : List ℕ) where
  drop-least : Dec (n ≤ length l) → drop (min n (length l)) l ≡ drop n l
  drop-least (yes h) = rw (min-eq_left {n = n} {m = length l} h)
  drop-least (no h) =
      let past : length l ≤ n = omega arith in
      rw (min-eq_right {n = length l} {m = n} past, drop_of_length-le l {i = n} past) (drop-length l)

  take-least : Dec (n ≤ length l) → take (min n (length l)) l ≡ take n l
  take-least (yes h) = rw (min-eq_left {n = n} {m = length l} h)
  take-least (no h) =
      let past : length l ≤ n = omega arith in
      rw (min-eq_right {n = length l} {m = n} past, take_all n l past) (take-length l)

  pub drop_min : drop (min n (length l)) l ≡ drop n l
  drop_min = drop-least (dec_le n (length l))

  pub take_min : take (min n (length l)) l ≡ take n l
  take_min = take-least (dec_le n (length l))

-- what stands from a place on after a store there
pub drop-set-here : (l : List ℕ) (i v : ℕ) → i < length l → drop i (set l i v) ≡ v ∷ drop (suc i) l
drop-set-here l i v h = rw (set_split l i v h) (drop_at (take i l) (v ∷ drop (suc i) l) i (length-take-le i l (omega arith)))

-- A FRAME'S WORDS

-- a word stored is a word stored behind the counts
pub words-stored : (frames : List ℕ) (k i v : ℕ) → words_in (with_word k i v frames) ≡ set (words_in frames) (24 * k + i) v
words-stored frames k i v = drop-set-add max_counted frames (24 * k + i) v

pub stored-length : (frames : List ℕ) (k i v : ℕ) → length (with_word k i v frames) ≡ length frames
stored-length frames k i v = length-set frames (max_counted + (24 * k + i)) v

-- and leaves a frame where it is
pub stored_there : (frames : List ℕ) (k i v : ℕ) → HasFrame k frames → HasFrame k (with_word k i v frames)
stored_there frames k i v there = rw (stored-length frames k i v) there

module _ (frames : List ℕ) (k : ℕ) (there : HasFrame k frames) where
  pub words-there : 24 * k + 24 ≤ length (words_in frames)
  words-there = rw (length-drop max_counted frames) (omega arith)

  pub word_set : (i v : ℕ) → i < 24 → frame_word k i (with_word k i v frames) ≡ v
  word_set i v h = rw (words-stored frames k i v) (get_or-set_same (words_in frames) (24 * k + i) v 0 (omega (arith, words-there)))

  -- the sequences that are open, the latest first
  abbrev pub opened_of : ℕ → List ℕ
  opened_of n = drop (24 * k + 24 - n) (take (24 * k + 24) (words_in frames))

  pub opened-count : (n : ℕ) → n ≤ 24 → length (opened_of n) ≡ n
  opened-count n h = rw (length-drop, length-take-le (24 * k + 24) (words_in frames) words-there) (omega arith)

  pub opened-none : opened_of 0 ≡ []
  opened-none =
      drop_of_length-le (take (24 * k + 24) (words_in frames)) {i = 24 * k + 24 - 0}
      (rw (length-take-le (24 * k + 24) (words_in frames) words-there) (omega arith))

  pub opened-next : (n : ℕ) → 0 < n → n ≤ 24 → opened_of n ≡ frame_word k (24 - n) frames ∷ opened_of (n - 1)
  opened-next n h h' =
      let here : 24 * k + 24 - n ≡ 24 * k + (24 - n) = omega arith in
      let next : 24 * k + 24 - (n - 1) ≡ suc (24 * k + (24 - n)) = omega arith in
      let low : 24 * k + (24 - n) < 24 * k + 24 = omega arith in
      let within : 24 * k + (24 - n) < length (take (24 * k + 24) (words_in frames)) =
      rw (length-take-le (24 * k + 24) (words_in frames) words-there) (omega arith) in
      rw (
        here,
        next,
        drop-cons (take (24 * k + 24) (words_in frames)) (24 * k + (24 - n)) 0 within,
        get_or-take (24 * k + 24) (words_in frames) (24 * k + (24 - n)) 0 low,
      )

pub word_kept : (frames : List ℕ) (k i j v : ℕ) → (i ≡ j → ⊥) → frame_word k j (with_word k i v frames) ≡ frame_word k j frames
word_kept frames k i j v ne =
    rw (words-stored frames k i v) (get_or-set_other (words_in frames) (24 * k + i) (24 * k + j) v 0 (λ e. ne (omega arith)))

-- a store past a frame's counts leaves what holds of them
pub held-past : (frames : List ℕ) (k i v : ℕ) → 5 < i → Held k frames → Held k (with_word k i v frames)
held-past frames k i v h held =
    record {
      null = rw (word_kept frames k i 0 v (omega arith)) held.null;
      right = rw (word_kept frames k i 1 v (omega arith), word_kept frames k i 2 v (omega arith), word_kept frames k i 3 v (omega arith))
          held.right;
      stored = rw (word_kept frames k i 4 v (omega arith)) held.stored;
      opened = rw (word_kept frames k i 5 v (omega arith)) held.opened;
    }

-- and so does another count of open sequences
pub held-count : (frames : List ℕ) (k n : ℕ) → HasFrame k frames → n ≤ 16 → Held k frames → Held k (with_word k 5 n frames)
held-count frames k n there h held =
    record {
      null = rw (word_kept frames k 5 0 n (omega arith)) held.null;
      right = rw (word_kept frames k 5 1 n (omega arith), word_kept frames k 5 2 n (omega arith), word_kept frames k 5 3 n (omega arith))
          held.right;
      stored = rw (word_kept frames k 5 4 n (omega arith)) held.stored;
      opened = rw (word_set frames k there 5 n (omega arith)) h;
    }

-- frames that wait below are not touched
pub waiting_kept : (frames : List ℕ) (k i v : ℕ) → words_below k (with_word k i v frames) ≡ words_below k frames
waiting_kept frames k i v = rw (words-stored frames k i v) (take-set-le (24 * k) (words_in frames) (24 * k + i) v (omega arith))

-- nor are the counts before the frames
pub counts-kept : (frames : List ℕ) (k i v : ℕ) → counts_in (with_word k i v frames) ≡ counts_in frames
counts-kept frames k i v = take-set-le max_counted frames (max_counted + (24 * k + i)) v (omega arith)

-- COUNTS

-- a function that is counted has one application more
pub counts-counted : (frames : List ℕ) (number : ℕ) → 0 < number → counts_in (counted_in number frames) ≡ counted number (counts_in frames)
counts-counted frames zero h = absurd (omega arith)
counts-counted frames (suc i) h = by (ltb max_counted (suc i)) refl
  where
    by : (b : Bool) → ltb max_counted (suc i) ≡ b →
        counts_in (pick b frames (set frames i (suc (get_or frames i 0)))) ≡ set (counts_in frames) i (suc (get_or (counts_in frames) i 0))
    by true e = let past : max_counted ≤ i = omega (arith, ltb-true max_counted (suc i) e) in
        sym (set_out (counts_in frames) i (suc (get_or (counts_in frames) i 0)) (rw (length-take max_counted frames) (omega arith)))
    by false e = let few : i < max_counted = omega (arith, ltb-false max_counted (suc i) e) in
        rw (take-set-lt max_counted frames i (suc (get_or frames i 0)) few, get_or-take max_counted frames i 0 few)

-- no word of a frame is touched, and none is added
pub counted_words : (frames : List ℕ) (number : ℕ) → 0 < number → words_in (counted_in number frames) ≡ words_in frames
counted_words frames zero h = absurd (omega arith)
counted_words frames (suc i) h = by (ltb max_counted (suc i)) refl
  where
    by : (b : Bool) → ltb max_counted (suc i) ≡ b → words_in (pick b frames (set frames i (suc (get_or frames i 0)))) ≡ words_in frames
    by true e = refl
    by false e = drop-set-lt max_counted frames i (suc (get_or frames i 0)) (omega (arith, ltb-false max_counted (suc i) e))

pub counted-length : (frames : List ℕ) (number : ℕ) → length (counted_in number frames) ≡ length frames
counted-length frames number = by (ltb max_counted number)
  where
    by : (b : Bool) → length (pick b frames (set frames (pred number) (suc (get_or frames (pred number) 0)))) ≡ length frames
    by true = refl
    by false = length-set frames (pred number) (suc (get_or frames (pred number) 0))

-- a count is at most one more than before
pub counted-within : (frames : List ℕ) (number most : ℕ) → 0 < number → CountsWithin most frames → CountsWithin (suc most) (counted_in number frames)
counted-within frames zero most h within i = absurd (omega arith)
counted-within frames (suc n) most h within i = rw (counts-counted frames (suc n) h) (by (ℕ_discrete i n) (dec_le (length (counts_in frames)) n))
  where
    counts : List ℕ
    counts = counts_in frames

    by : Dec (i ≡ n) → Dec (length counts ≤ n) → get_or (set counts n (suc (get_or counts n 0))) i 0 ≤ suc most
    by (no e) d = rw (get_or-set_other counts n i (suc (get_or counts n 0)) 0 e) (omega (arith, within i))
    by (yes e) (no d) = rw (e, get_or-set_same counts n (suc (get_or counts n 0)) 0 (omega arith)) (omega (arith, within n))
    by (yes e) (yes d) = rw (set_out counts n (suc (get_or counts n 0)) d) (omega (arith, within i))

-- COPIES

-- one word more is copied
pub word_copied : (from to : List ℕ) (i v : ℕ) → i < length to → i < length from → v ≡ get_or from i 0 →
    take i to ≡ take i from → take (i + 1) (set to i v) ≡ take (i + 1) from
word_copied from to i v h h' e so_far = rw (add-one i, take-suc-set to i v h, so_far, e) (sym (take-suc from i 0 h'))

-- all counts are
pub counts_whole : (frames counts : List ℕ) (i : ℕ) → length counts ≡ max_counted → i ≡ max_counted → take i counts ≡ take i frames → counts ≡
    counts_in frames
counts_whole frames counts i sized e so_far = sym (take_all i counts (omega arith)) ∙ so_far ∙ rw e
