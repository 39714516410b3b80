-- The tests that are kept and those to come: what they say, test by test, in a range that finds the same.
use Prim.Native.Nat.{ℕ, zero, suc, ◌+◌, ◌<◌, ◌≤◌}
use native.Mathlib.Nat.{le_of_suc-le-suc, not-suc-le-zero}
use native.Mathlib.Numerals.{add-one}
use native.Mathlib.Omega.{arith}
use mathlib.Core.Path.{◌≡◌, refl, ◌∙◌, sym}
use mathlib.Core.List.{List, [], ◌∷◌, ◌++◌}
use lib.ListN.{length, set}
use Rattle.meaning.specs.Matching.{Checked, passed, failed, wrong, where_passed, search, check, check_all}
use Rattle.meaning.specs.Instructions.{Test}
use Rattle.meaning.specs.Choice.{Bytes}
use Rattle.meaning.specs.Packing.{Words, test_of, unpack_tests}
use Rattle.run_checking.proofs.Laws.Testing.{passed-last}
use Rattle.run_narrowing.specs.Narrowed.{NeverWrong, Narrows}
use Rattle.run_searching.proofs.Laws.Places.{search-agree, search-within}

passed_then : (a b c : Checked) → where_passed a (where_passed b c) ≡ where_passed (where_passed a b) c
passed_then passed b c = refl
passed_then failed b c = refl
passed_then wrong b c = refl

-- a test put behind those that are kept
all_but_last : (tests : List Test) (t : Test) (field : Bytes) (place : ℕ) →
    check_all (tests ++ t ∷ []) field place ≡ where_passed (check_all tests field place) (check t field place)
unfolding check_all
all_but_last [] t field place = passed-last (check t field place)
all_but_last (u ∷ tests) t field place =
    rw (all_but_last tests t field place) (passed_then (check u field place) (check_all tests field place) (check t field place))

unpack-more : (words : Words) (n w : ℕ) → n < length words → unpack_tests (suc n) (set words n w) ≡ unpack_tests n words ++ test_of w ∷ []
unfolding unpack_tests
unpack-more [] n w h = absurd (not-suc-le-zero h)
unpack-more (v ∷ words) zero w h = refl
unpack-more (v ∷ words) (suc n) w h = rw (unpack-more words n w (le_of_suc-le-suc h))

pub kept_more : (words : Words) (n w : ℕ) (field : Bytes) (place : ℕ) → n < length words →
    check_all (unpack_tests (n + 1) (set words n w)) field place ≡
    where_passed (check_all (unpack_tests n words) field place) (check (test_of w) field place)
kept_more words n w field place h = rw (add-one n, unpack-more words n w h) (all_but_last (unpack_tests n words) (test_of w) field place)

then-failed : (a : Checked) → (a ≡ wrong → ⊥) → where_passed a failed ≡ failed
then-failed passed h = refl
then-failed failed h = refl
then-failed wrong h = absurd (h refl)

never-wrong : (a b : Checked) → (a ≡ wrong → ⊥) → (b ≡ wrong → ⊥) → where_passed a b ≡ wrong → ⊥
never-wrong passed b h h' e = h' e
never-wrong failed b h h' e = let z : ◌≡◌ {A = ℕ} 0 1 = cc in omega arith
never-wrong wrong b h h' e = h refl

-- All tests F are searched for in a range; the kept ones K, none of them wrong there, and those to come T say what F
-- says in a
-- range that finds the same.
pub record Reached (F K T : ℕ → Checked) (first₀ places₀ first places : ℕ) : Type 0 where
  pub same : search F places first ≡ search F places₀ first₀
  pub splits : (p : ℕ) → first ≤ p → p < first + places → F p ≡ where_passed (K p) (T p)
  pub sound : NeverWrong K first places
  pub inside : first + places ≤ first₀ + places₀

pub reached-first : (F K : ℕ → Checked) (first places : ℕ) → ((p : ℕ) → K p ≡ passed) → Reached F K F first places first places
reached-first F K first places e =
    record {
      same = refl;
      splits = λ p h h'. rw (e p);
      sound = λ p h h'. rw (e p) (λ e'. let z : ◌≡◌ {A = ℕ} 0 1 = cc in omega arith);
      inside = omega arith;
    }

module _ (F K T : ℕ → Checked) (first₀ places₀ first places : ℕ) (r : Reached F K T first₀ places₀ first places) where
  -- where none is left to come
  pub reached-last : ((p : ℕ) → T p ≡ passed) → search K places first ≡ search F places₀ first₀
  reached-last e =
      sym (search-agree F K places first (λ p h h'. rw (r.splits p h h', e p) (passed-last (K p)))) ∙ r.same

  module _ (c T' : ℕ → Checked) (next : (p : ℕ) → T p ≡ where_passed (c p) (T' p)) where
    pub reached-kept : (K' : ℕ → Checked) → ((p : ℕ) → K' p ≡ where_passed (K p) (c p)) → NeverWrong c first places →
        Reached F K' T' first₀ places₀ first places
    reached-kept K' e h =
        record {
          same = r.same;
          splits = λ p a b. rw (r.splits p a b, next p, e p) (passed_then (K p) (c p) (T' p));
          sound = λ p a b. rw (e p) (never-wrong (K p) (c p) (r.sound p a b) (h p a b));
          inside = r.inside;
        }

    pub reached-narrowed : (from among : ℕ) → Narrows c first places from among → Reached F K T' first₀ places₀ from among
    reached-narrowed from among n =
        record {
          same = sym (search-within F places first among from n.begins n.ends
              (λ p a b. fails p a (omega (arith, n.ends)) (n.before p a b)) (λ p a b. fails p (omega (arith, n.begins)) b (n.after p a b))) ∙
              r.same;
          splits = λ p a b. rw (r.splits p (omega (arith, n.begins)) (omega (arith, n.ends)), next p, n.passes p a b);
          sound = λ p a b. r.sound p (omega (arith, n.begins)) (omega (arith, n.ends));
          inside = omega (arith, n.ends, r.inside);
        }
      where
        fails : (p : ℕ) → first ≤ p → p < first + places → c p ≡ failed → F p ≡ failed
        fails p a b e = rw (r.splits p a b, next p, e) (then-failed (K p) (r.sound p a b))
