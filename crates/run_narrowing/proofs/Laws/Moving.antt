-- What a test says at one place and at another.
use Prim.Native.Nat.{ℕ, ◌+◌, ◌≤◌, ◌/◌, ◌%◌}
use native.Mathlib.Omega.{arith}
use mathlib.Core.Path.{◌≡◌, refl}
use mathlib.Core.Bool.{Bool, true, false}
use mathlib.Core.Option.{Option, none, some}
use lib.Dec.{leb, eqb}
use lib.ListN.{length}
use borrow.Author.Tests.{eqb-true, eqb-false, ne_eqb, leb-true, leb-false}
use Rattle.meaning.specs.Choice.{Bytes, pick, either, nth}
use Rattle.meaning.specs.Classes.{Class, in_class, same_truth}
use Rattle.meaning.specs.Instructions.{Site, from_start, from_end, from_place, Test, unknown_test}
use Rattle.meaning.specs.Matching.{cell_at, cells_before, checked, asked, wrong, check}
use Rattle.meaning.specs.Packing.{number_in, first_in, second_in, third_in, class_of, site_of}
use Rattle.meaning.specs.Packing.{look_of, compare_of, predicate_for, predicate_part_for, predicate_part_of, test_of}
use Rattle.run_narrowing.specs.Narrowed.{asks_place}
use Rattle.run_checking.specs.Checks.{last_test}
use Rattle.run_sites.proofs.Laws.Lists.{nth_in, nth-out}

-- A WORD'S TEST

-- what holds of each test that a word may be holds of its test
module _ (P : Test → Type 0) where
  picked : (b : Bool) (t u : Test) → P t → P u → P (pick b t u)
  picked true t u h h' = h
  picked false t u h h' = h'

  any-test : (w : ℕ) → let first = site_of (first_in w % 4) (second_in w) in
      P (look_of (site_of (first_in w) (second_in w)) (third_in w)) → P (compare_of first (site_of (first_in w / 4) (third_in w))) →
      P (predicate_for first (class_of (third_in w)) (eqb (first_in w / 4) 1)) → P (last_test w) → P (test_of w)
  any-test w h h' h'' h''' =
      let first = site_of (first_in w % 4) (second_in w) in
      let looked = look_of (site_of (first_in w) (second_in w)) (third_in w) in
      let compared = compare_of first (site_of (first_in w / 4) (third_in w)) in
      let asked = predicate_for first (class_of (third_in w)) (eqb (first_in w / 4) 1) in
      let fourth = pick (eqb (number_in w) 3) asked (last_test w) in
      picked (eqb (number_in w) 1) looked (pick (eqb (number_in w) 2) compared fourth) h
      (picked (eqb (number_in w) 2) compared fourth h' (picked (eqb (number_in w) 3) asked (last_test w) h'' h'''))

-- WHERE NO SITE IS COUNTED FROM THE PLACE

abbrev pub Apart : Option Site → Type 0
Apart none = Unit {0}
Apart (some (from_start k)) = Unit {0}
Apart (some (from_end k)) = Unit {0}
Apart (some (from_place k)) = ⊥

pub site-apart : (register k : ℕ) → (register ≡ 2 → ⊥) → Apart (site_of register k)
site-apart register k h = by_register (eqb register 0) (eqb register 1) (eqb register 2) (ne_eqb register 2 h)
  where
    by_register : (b b' b'' : Bool) → b'' ≡ false →
        Apart (pick b (some (from_start k)) (pick b' (some (from_end k)) (pick b'' (some (from_place k)) none)))
    by_register true b' b'' e = tt
    by_register false true b'' e = tt
    by_register false false b'' e = rw e tt

module _ (field : Bytes) (p q : ℕ) where
  abbrev Still : Test → Type 0
  Still t = check t field p ≡ check t field q

  cell-still : (s : Site) → Apart (some s) → cell_at s field p ≡ cell_at s field q
  cell-still (from_start k) h = refl
  cell-still (from_end k) h = refl
  cell-still (from_place k) h = absurd h

  pub before-still : (s : Site) → Apart (some s) → cells_before s (length field) p ≡ cells_before s (length field) q
  before-still (from_start k) h = refl
  before-still (from_end k) h = refl
  before-still (from_place k) h = absurd h

  look-still : (o : Option Site) (c : ℕ) → Apart o → Still (look_of o c)
  look-still none c h = refl
  look-still (some s) c h = rw (cell-still s h)

  compare-still : (o o' : Option Site) → Apart o → Apart o' → Still (compare_of o o')
  compare-still none o' h h' = refl
  compare-still (some s) none h h' = refl
  compare-still (some s) (some r) h h' = rw (cell-still s h, cell-still r h')

  predicate-still : (o : Option Site) (class : Option Class) (expected : Bool) → Apart o → Still (predicate_for o class expected)
  predicate-still none class expected h = refl
  predicate-still (some s) none expected h = refl
  predicate-still (some s) (some class) expected h = rw (cell-still s h)

  part-still : (o o' : Option Site) (class : Option Class) (expected : Bool) → Apart o → Apart o' → Still (predicate_part_for o o' class expected)
  part-still none o' class expected h h' = refl
  part-still (some s) none class expected h h' = refl
  part-still (some s) (some r) none expected h h' = refl
  part-still (some s) (some r) (some class) expected h h' = rw (before-still s h, before-still r h')

  neither : (a b : Bool) → either a b ≡ false → (a ≡ false) × (b ≡ false)
  neither true b e = let z : ◌≡◌ {A = ℕ} 0 1 = cc in absurd (omega arith)
  neither false b e = (refl, e)

  -- a test that asks for no place says the same at each
  pub still : (w : ℕ) → asks_place w ≡ false → Still (test_of w)
  still w e =
      let apart = neither (eqb (first_in w % 4) 2) (eqb (first_in w / 4 % 4) 2) e in
      let first = eqb-false (first_in w % 4) 2 apart.0 in
      let second = eqb-false (first_in w / 4 % 4) 2 apart.1 in
      let apart-first = site-apart (first_in w % 4) (second_in w) first in
      any-test Still w
      (look-still (site_of (first_in w) (second_in w)) (third_in w) (site-apart (first_in w) (second_in w) (λ h. first (omega arith))))
      (compare-still (site_of (first_in w % 4) (second_in w)) (site_of (first_in w / 4) (third_in w)) apart-first
      (site-apart (first_in w / 4) (third_in w) (λ h. second (omega arith))))
      (predicate-still (site_of (first_in w % 4) (second_in w)) (class_of (third_in w)) (eqb (first_in w / 4) 1) apart-first)
      (picked Still (eqb (number_in w) 20) (predicate_part_of (first_in w) (second_in w) (third_in w)) unknown_test
      (part-still (site_of (first_in w % 4) (second_in w)) (site_of (first_in w / 4 % 4) (third_in w))
      (class_of (first_in w / 32)) (eqb (first_in w / 16 % 2) 1) apart-first (site-apart (first_in w / 4 % 4) (third_in w) second)) refl)

-- a test that asks for the place, and not at its first site, asks for it at its second
pub second-asks : (w : ℕ) → asks_place w ≡ true → (first_in w % 4 ≡ 2 → ⊥) → first_in w / 4 % 4 ≡ 2
second-asks w e ne = eqb-true (first_in w / 4 % 4) 2 (rw (ne_eqb (first_in w % 4) 2 ne) at e)

-- WHERE A CELL IS NOT THERE

never-checked : (b : Bool) → checked b ≡ wrong → ⊥
never-checked true e = let z : ◌≡◌ {A = ℕ} 0 1 = cc in omega arith
never-checked false e = let z : ◌≡◌ {A = ℕ} 0 1 = cc in omega arith

nth-none : (l : Bytes) (i : ℕ) → nth i l ≡ none → length l ≤ i
nth-none l i e = by_order (leb (length l) i) refl
  where
    by_order : (b : Bool) → leb (length l) i ≡ b → length l ≤ i
    by_order true h = leb-true (length l) i h
    by_order false h =
        let there = nth_in l i (leb-false (length l) i h) in
        let z : ◌≡◌ {A = ℕ} 0 1 = cc in
        absurd (omega arith)

asked-nothing : (o : Option ℕ) → asked (λ b. wrong) o ≡ wrong
asked-nothing none = refl
asked-nothing (some b) = refl

one-wrong : (f : ℕ → Bool) (o o' : Option ℕ) → (o ≡ none → o' ≡ none) → asked (λ b. checked (f b)) o ≡ wrong → asked (λ b. checked (f b)) o' ≡ wrong
one-wrong f none o' h e = rw (h refl)
one-wrong f (some b) o' h e = absurd (never-checked (f b) e)

two-wrong : (f : ℕ → ℕ → Bool) (o r o' r' : Option ℕ) → (o ≡ none → o' ≡ none) → (r ≡ none → r' ≡ none) →
    asked (λ b. asked (λ a. checked (f b a)) r) o ≡ wrong → asked (λ b. asked (λ a. checked (f b a)) r') o' ≡ wrong
two-wrong f none r o' r' h h' e = rw (h refl)
two-wrong f (some b) none o' r' h h' e = rw (h' refl) (asked-nothing o')
two-wrong f (some b) (some a) o' r' h h' e = absurd (never-checked (f b a) e)

module _ (field : Bytes) (p q : ℕ) (order : p ≤ q) where
  abbrev WrongOn : Test → Type 0
  WrongOn t = check t field p ≡ wrong → check t field q ≡ wrong

  cell-on : (s : Site) → cell_at s field p ≡ none → cell_at s field q ≡ none
  cell-on (from_start k) e = e
  cell-on (from_end k) e = e
  cell-on (from_place k) e = nth-out field (q + k) (omega (arith, nth-none field (p + k) e))

  look-on : (o : Option Site) (c : ℕ) → WrongOn (look_of o c)
  look-on none c e = e
  look-on (some s) c e = one-wrong (λ b. eqb c b) (cell_at s field p) (cell_at s field q) (cell-on s) e

  compare-on : (o o' : Option Site) → WrongOn (compare_of o o')
  compare-on none o' e = e
  compare-on (some s) none e = e
  compare-on (some s) (some r) e =
      two-wrong eqb (cell_at s field p) (cell_at r field p) (cell_at s field q) (cell_at r field q) (cell-on s) (cell-on r) e

  predicate-on : (o : Option Site) (class : Option Class) (expected : Bool) → WrongOn (predicate_for o class expected)
  predicate-on none class expected e = e
  predicate-on (some s) none expected e = e
  predicate-on (some s) (some class) expected e =
      one-wrong (λ b. same_truth expected (in_class class b)) (cell_at s field p) (cell_at s field q) (cell-on s) e

  -- a test on cells that finds one missing finds it missing at every place further on
  pub wrong-on : (w : ℕ) → (number_in w ≡ 20 → ⊥) → WrongOn (test_of w)
  wrong-on w ne =
      any-test WrongOn w (look-on (site_of (first_in w) (second_in w)) (third_in w))
      (compare-on (site_of (first_in w % 4) (second_in w)) (site_of (first_in w / 4) (third_in w)))
      (predicate-on (site_of (first_in w % 4) (second_in w)) (class_of (third_in w)) (eqb (first_in w / 4) 1))
      (rw (ne_eqb (number_in w) 20 ne) (λ e. refl))
