-- The search over a range of places.
use Prim.Native.Nat.{ℕ, zero, suc, ◌+◌, ◌-◌, ◌≤◌, ◌<◌}
use native.Mathlib.Nat.{not-suc-le-zero}
use native.Mathlib.Numerals.{add-one, sub-one}
use native.Mathlib.Omega.{arith}
use mathlib.Core.Path.{◌≡◌, refl, ◌∙◌}
use Rattle.std.specs.Prelude.{Option, Result, Ok, Err, IsErr}
use Rattle.meaning.specs.Matching.{Checked, passed, failed, found_at, found_none, found_wrong, settled, search}
use Rattle.run_code_places.specs.declared.Wrong.{Wrong}
use Rattle.run_searching.specs.Searches.{found_meant}

module _ (test : ℕ → Checked) where
  pub no-places : (left place : ℕ) → left ≤ 0 → search test left place ≡ found_none
  unfolding search
  no-places zero place h = refl
  no-places (suc n) place h = absurd (not-suc-le-zero h)

  pub next_place : (left place : ℕ) → 0 < left → search test left place ≡ settled (test place) place (search test (left - 1) (place + 1))
  unfolding search
  next_place zero place h = absurd (not-suc-le-zero h)
  next_place (suc n) place h = rw (sub-one, add-one)

  -- the same, counted up to the place after the last
  pub range_next : (last place : ℕ) → place < last →
      search test (last - place) place ≡ settled (test place) place (search test (last - (place + 1)) (place + 1))
  range_next last place h =
      let some : 0 < last - place = omega arith in
      let rest : last - (place + 1) ≡ last - place - 1 = omega arith in
      rw rest (next_place (last - place) place some)

-- a test that asks for what isn't there finds nothing
pub search_refused : (r : Result (Option ℕ) Wrong) → IsErr r → found_meant r ≡ found_wrong
search_refused (Ok place) e = let z : ◌≡◌ {A = ℕ} 0 1 = cc in absurd (omega arith)
search_refused (Err w) e = refl

-- tests that say the same at each place of a range find the same there
pub search-agree : (F G : ℕ → Checked) (n first : ℕ) → ((p : ℕ) → first ≤ p → p < first + n → F p ≡ G p) → search F n first ≡ search G n first
unfolding search
search-agree F G zero first e = refl
search-agree F G (suc n) first e =
    rw (e first (omega arith) (omega arith), search-agree F G n (suc first) (λ p h h'. e p (omega arith) (omega arith)))

module _ (F : ℕ → Checked) where
  pub search-none : (n first : ℕ) → ((p : ℕ) → first ≤ p → p < first + n → F p ≡ failed) → search F n first ≡ found_none
  unfolding search
  search-none zero first e = refl
  search-none (suc n) first e = rw (e first (omega arith) (omega arith)) (search-none n (suc first) (λ p h h'. e p (omega arith) (omega arith)))

  pub search-first : (n first : ℕ) → 0 < n → F first ≡ passed → search F n first ≡ found_at first
  unfolding search
  search-first zero first h e = absurd (omega arith)
  search-first (suc n) first h e = rw e

  -- places at which the tests fail are left out, at the end and at the beginning
  search-cut : (n k first : ℕ) → k ≤ n → ((p : ℕ) → first + k ≤ p → p < first + n → F p ≡ failed) → search F n first ≡ search F k first
  unfolding search
  search-cut n zero first h e = search-none n first (λ p a b. e p (omega arith) b)
  search-cut zero (suc k) first h e = absurd (omega arith)
  search-cut (suc n) (suc k) first h e = rw (search-cut n k (suc first) (omega arith) (λ p a b. e p (omega arith) (omega arith)))

  search-skip : (k n first : ℕ) → ((p : ℕ) → first ≤ p → p < first + k → F p ≡ failed) → search F (k + n) first ≡ search F n (first + k)
  unfolding search
  search-skip zero n first e = rw (from_zero n, from_start first)
    where
      from_zero : (n : ℕ) → 0 + n ≡ n
      from_zero n = omega arith

      from_start : (n : ℕ) → n + 0 ≡ n
      from_start n = omega arith
  search-skip (suc k) n first e =
      let more : suc k + n ≡ suc (k + n) = omega arith in
      let next : first + suc k ≡ suc first + k = omega arith in
      rw (more, next, e first (omega arith) (omega arith)) (search-skip k n (suc first) (λ p a b. e p (omega arith) (omega arith)))

  pub search-within : (n first m from : ℕ) → first ≤ from → from + m ≤ first + n →
      ((p : ℕ) → first ≤ p → p < from → F p ≡ failed) → ((p : ℕ) → from + m ≤ p → p < first + n → F p ≡ failed) →
      search F n first ≡ search F m from
  search-within n first m from h h' before after =
      let late : ℕ = from - first in
      let left : ℕ = n - late in
      let whole : late + left ≡ n = omega arith in
      let there : first + late ≡ from = omega arith in
      let skipped : search F n first ≡ search F left from =
      rw (whole, there) at (search-skip late left first (λ p a b. before p a (omega arith))) in
      skipped ∙ search-cut left m from (omega arith) (λ p a b. after p a (omega arith))
