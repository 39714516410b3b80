-- One pass over the text: the bits after each byte, and the places that are decided by then.
use Prim.Native.Nat.{ℕ, zero, suc, ◌+◌, ◌-◌, ◌*◌, ◌/◌, ◌%◌, ◌^◌, ◌≤◌, ◌<◌}
use native.Mathlib.Nat.{pow-suc, not-suc-le-zero}
use native.Mathlib.Numerals.{add-one, sub-one}
use native.Mathlib.Omega.{arith}
use mathlib.Core.Path.{◌≡◌, refl, sym, ◌∙◌}
use mathlib.Core.Bool.{Bool, true, false}
use mathlib.Core.List.{[]}
use lib.Bits.{bit_and}
use lib.Dec.{leb}
use lib.ListN.{length, get_or, drop, length-drop}
use lib.Seq.{get_or-drop, drop-drop}
use lib.Pow.{pow_mono}
use borrow.Author.Tests.{leb-true, leb-false}
use Rattle.meaning.specs.Choice.{Bytes, starts_with}
use Rattle.meaning.specs.Matching.{Checked, checked, passed, failed, Found, found_at, found_none, settled, search}
use Rattle.run_finding.specs.Occurrences.{bit, backwards, occurrence_bits, leftmost_occurrence}
use Rattle.run_finding.proofs.Laws.Bits.{state_of, one_more_lem, shorter, whole, state-small, backwards-length}
use Rattle.run_finding.proofs.Laws.Standing.{stands, starts-short}

module _ (test : ℕ → Checked) (left place : ℕ) (some : 0 < left) where
  next_place : search test left place ≡ settled (test place) place (search test (left - 1) (place + 1))
  unfolding search
  next_place = by_left left some
    where
      by_left : (n : ℕ) → 0 < n → search test n place ≡ settled (test place) place (search test (n - 1) (place + 1))
      by_left zero h = absurd (not-suc-le-zero h)
      by_left (suc n) h = rw (sub-one, add-one)

  place-fails : test place ≡ failed → search test left place ≡ search test (left - 1) (place + 1)
  place-fails e = next_place ∙ rw e

  place-passes : test place ≡ passed → search test left place ≡ found_at place
  place-passes e = next_place ∙ rw e

module _ (string text : Bytes) (first : ℕ) where
  -- the bits after so many bytes from the first place on
  abbrev pub after : ℕ → ℕ
  after read = state_of (backwards string (length string)) (backwards (drop first text) read)

  -- the whole string ends there
  abbrev ended : ℕ → Bool
  ended read = starts_with (backwards string (length string)) (backwards (drop first text) read)

  pub none_read : after 0 ≡ 0
  unfolding state_of backwards starts_with
  none_read = nothing (length string)
    where
      nothing : (n : ℕ) → state_of (backwards string n) [] ≡ 0
      nothing zero = refl
      nothing (suc n) = rw (nothing n)

  module _ (k read : ℕ) (size : length string ≡ suc k) where
    shorter-bits : after read / 2 ≡ state_of (backwards string k) (backwards (drop first text) read)
    unfolding backwards
    shorter-bits = rw size (shorter (backwards string k) (get_or string k 0) (backwards (drop first text) read))

    byte_more : bit_and (state_of (backwards string k) (backwards (drop first text) read) + 2 ^ k)
        (occurrence_bits (backwards string (length string)) (get_or text (first + read) 0)) ≡
        after (read + 1)
    unfolding backwards
    byte_more =
        let x = get_or string k 0 in
        let xs = backwards string k in
        rw (size, add-one read, get_or-drop first text read 0)
        (rw (backwards-length string k) at (one_more_lem xs x (get_or text (first + read) 0) (backwards (drop first text) read)))

    module _ (state top : ℕ) (e : state ≡ after read) (e' : top ≡ 2 ^ k) where
      pub next-bits : (marked : ℕ) → marked ≡ occurrence_bits (backwards string (length string)) (get_or text (first + read) 0) →
          bit_and (state / 2 + top) marked ≡ after (read + 1)
      next-bits marked e'' = rw (e, e', e'', shorter-bits) byte_more

      pub bits_fit : length string ≤ 64 → state / 2 + top < 2 ^ 64
      bits_fit short =
          let half : state / 2 ≡ state_of (backwards string k) (backwards (drop first text) read) = rw e shorter-bits in
          let small : state_of (backwards string k) (backwards (drop first text) read) < 2 ^ k =
          rw (backwards-length string k) at (state-small (backwards string k) (backwards (drop first text) read)) in
          let most : 2 ^ suc k ≤ 2 ^ 64 = pow_mono {i = suc k} {j = 64} (omega arith) in
          let power : 2 ^ suc k ≡ 2 ^ k * 2 = pow-suc 2 k in
          omega arith

    pub last_bit : after read % 2 ≡ bit (ended read)
    unfolding backwards
    last_bit = rw size (whole (backwards string k) (get_or string k 0) (backwards (drop first text) read))

  abbrev test : ℕ → Checked
  test at = checked (starts_with string (drop at text))

  ended-short : (read : ℕ) → ended read ≡ true → length string ≤ read
  ended-short read e =
      rw (backwards-length string (length string), backwards-length (drop first text) read) at
      (starts-short (backwards string (length string)) (backwards (drop first text) read) e)

  -- the place that a byte decides
  decided : (q : ℕ) → first + q + length string ≤ length text → (b : Bool) → ended (q + length string) ≡ b →
      checked (starts_with string (drop (first + q) text)) ≡ checked b
  decided q h b e =
      let room : q + length string ≤ length (drop first text) = rw (length-drop first text) (omega arith) in
      rw (← (drop-drop q first text), ← (stands string (drop first text) q room), e)

  decides-on : (places q left from : ℕ) → q < places → first + q + length string ≤ length text → ended (q + length string) ≡ false →
      left ≡ places - q - 1 → from ≡ first + q + 1 → leftmost_occurrence string text (places - q) (first + q) ≡
      leftmost_occurrence string text left from
  decides-on places q left from h h' e e' e'' = rw (e', e'') (place-fails test (places - q) (first + q) (omega arith) (decided q h' false e))

  same-range : (places left from left' from' : ℕ) → left ≡ left' → from ≡ from' → leftmost_occurrence string text left from ≡
      leftmost_occurrence string text left' from'
  same-range places left from left' from' e e' = rw (e, e')

  -- the search over the places that so many bytes leave undecided
  abbrev pub undecided : ℕ → ℕ → Found
  undecided places read = leftmost_occurrence string text (places - (read + 1 - length string)) (first + (read + 1 - length string))

  module _ (places read : ℕ) (inside : first + read < length text) (more : read + 1 < places + length string) where
    again : length string ≤ read + 1 → read + 1 - length string + length string ≡ read + 1
    again h = omega arith

    -- the string doesn't end at the byte just read
    pub goes_on_lem : ended (read + 1) ≡ false → undecided places read ≡ undecided places (read + 1)
    goes_on_lem e = by_order (leb (length string) (read + 1)) refl
      where
        by_order : (b : Bool) → leb (length string) (read + 1) ≡ b → undecided places read ≡ undecided places (read + 1)
        by_order true h = decides-on places (read + 1 - length string) _ _ (omega (arith, leb-true (length string) (read + 1) h))
            (omega (arith, leb-true (length string) (read + 1) h))
            (rw (again (leb-true (length string) (read + 1) h)) e) (omega (arith, leb-true (length string) (read + 1) h))
            (omega (arith, leb-true (length string) (read + 1) h))
        by_order false h = same-range places _ _ _ _ (omega (arith, leb-false (length string) (read + 1) h))
            (omega (arith, leb-false (length string) (read + 1) h))

    -- it ends there
    pub ends-here : ended (read + 1) ≡ true → undecided places read ≡ found_at (first + (read + 1) - length string)
    ends-here e =
        let short = ended-short (read + 1) e in
        let found : first + (read + 1) - length string ≡ first + (read + 1 - length string) = omega arith in
        rw found (place-passes test (places - (read + 1 - length string)) (first + (read + 1 - length string)) (omega arith)
        (decided (read + 1 - length string) (omega arith) true (rw (again short) e)))

    pub ended-size : ended (read + 1) ≡ true → length string ≤ read + 1
    ended-size = ended-short (read + 1)

  -- before the first byte, and after the last that is read
  pub none-decided : (places : ℕ) → 1 ≤ length string → undecided places 0 ≡ leftmost_occurrence string text places first
  none-decided places h = same-range places _ _ _ _ (omega arith) (omega arith)

  pub all-decided : (places read : ℕ) → 1 ≤ length string → places + length string - 1 ≤ read → undecided places read ≡ found_none
  unfolding search
  all-decided places read h h' = no-places (places - (read + 1 - length string)) (first + (read + 1 - length string)) (omega arith)
    where
      no-places : (left from : ℕ) → left ≡ 0 → leftmost_occurrence string text left from ≡ found_none
      no-places left from e = rw e

  -- what bit 0 says
  pub odd-ended : (k read : ℕ) → length string ≡ suc k → after read % 2 ≡ 1 → ended read ≡ true
  odd-ended k read size e = by_end (ended read) (sym (last_bit k read size) ∙ e)
    where
      by_end : (b : Bool) → bit b ≡ 1 → b ≡ true
      by_end true h = refl
      by_end false h = absurd (omega arith)

  pub even-on : (k read : ℕ) → length string ≡ suc k → (after read % 2 ≡ 1 → ⊥) → ended read ≡ false
  even-on k read size ne = by_end (ended read) (λ e. ne (last_bit k read size ∙ e))
    where
      by_end : (b : Bool) → (bit b ≡ 1 → ⊥) → b ≡ false
      by_end true h = absurd (h refl)
      by_end false h = refl
