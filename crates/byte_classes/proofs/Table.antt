-- The class table's rule at each entry and for each test, from one test over the whole table that antt computes.
use mathlib.Core.Path.{◌≡◌, refl, sym, ◌∙◌}
use mathlib.Core.Bool.{Bool, true, false}
use mathlib.Core.List.{List, [], ◌∷◌}
use Prim.Native.Nat.{ℕ, zero, suc, ◌+◌, ◌/◌, ◌%◌, ◌^◌, ◌<◌, ◌≤◌}
use native.Mathlib.Nat.{add-zero, zero-add, add-suc, suc-add, le_of_suc-le-suc, not-suc-le-zero}
use native.Mathlib.Omega.{arith}
use lib.Dec.{T, ltb, eqb}
use lib.ListN.{length, get_or, replicate}
use borrow.Author.Tests.{le-ltb, ne_eqb, ltb-true, ltb-false}
use Rattle.meaning.specs.Choice.{both}
use Rattle.meaning.specs.Classes.{same_truth, in_class, class_number}
use Rattle.meaning.proofs.Laws.Passing.{both_left, both_right}
use Rattle.byte_classes.specs.Classed.{class_meant}
use Rattle.byte_classes.specs.declared.Class.{Class}
use Rattle.byte_classes.specs.declared.Class.TheVariants.{Digit, Upper, Lower, Letter, Blank}
use Rattle.byte_classes.specs.Tests.{test_count, class_test, bit_of, Answers}

same-eq : (a b : Bool) → T (same_truth a b) → a ≡ b
same-eq true true t = refl
same-eq true false t = absurd t
same-eq false true t = absurd t
same-eq false false t = refl

-- the test passes at each entry and its place, counted from i
abbrev every_entry : (ℕ → ℕ → Bool) → ℕ → List ℕ → Bool
every_entry f i [] = true
every_entry f i (x ∷ xs) = both (f i x) (every_entry f (suc i) xs)

entry_from : (f : ℕ → ℕ → Bool) (xs : List ℕ) (i : ℕ) → T (every_entry f i xs) → (k : ℕ) → k < length xs → T (f (i + k) (get_or xs k 0))
entry_from f [] i t k h = absurd (not-suc-le-zero h)
entry_from f (x ∷ xs) i t zero h = rw add-zero (both_left (f i x) (every_entry f (suc i) xs) t)
entry_from f (x ∷ xs) i t (suc k) h =
    rw (add-suc, ← (suc-add i k))
    (entry_from f xs (suc i) (both_right (f i x) (every_entry f (suc i) xs) t) k (le_of_suc-le-suc h))

entry : (f : ℕ → ℕ → Bool) (xs : List ℕ) → T (every_entry f 0 xs) → (k : ℕ) → k < length xs → T (f k (get_or xs k 0))
entry f xs t k h = rw zero-add at (entry_from f xs 0 t k h)

-- an entry answers each of the tests as the definition does
abbrev answers : ℕ → ℕ → Bool
answers b x = every_entry (λ class y. same_truth (bit_of class x) (class_test class b)) 0 (replicate test_count 0)

abbrev pub sound : List ℕ → Bool
sound xs = every_entry answers 0 xs

-- there are no tests but those
module _ (class : ℕ) (h : test_count ≤ class) where
  apart : (k : ℕ) → k < test_count → eqb class k ≡ false
  apart k low = ne_eqb class k (omega arith)

  no_test : (b : ℕ) → class_test class b ≡ false
  no_test b =
      simp (
        apart 0 (omega arith),
        apart 1 (omega arith),
        apart 2 (omega arith),
        apart 3 (omega arith),
        apart 4 (omega arith),
      )

  no_bit : (x : ℕ) → bit_of class x ≡ false
  unfolding bit_of
  no_bit x = rw (le-ltb class test_count h)

module _ (xs : List ℕ) (class b : ℕ) (t : sound xs ≡ true) (h : b < length xs) where
  classed_by : (low : Bool) → ltb class test_count ≡ low → bit_of class (get_or xs b 0) ≡ class_test class b
  classed_by true e =
      same-eq _ _
      (entry (λ k y. same_truth (bit_of k (get_or xs b 0)) (class_test k b)) (replicate test_count 0) (entry answers xs (rw t tt) b h) class
      (ltb-true class test_count e))
  classed_by false e =
      no_bit class (ltb-false class test_count e) (get_or xs b 0) ∙ sym (no_test class (ltb-false class test_count e) b)

  pub classed : bit_of class (get_or xs b 0) ≡ class_test class b
  classed = classed_by (ltb class test_count) refl

pub answering : (xs : List ℕ) → sound xs ≡ true → length xs ≡ 256 → Answers xs
answering xs t e = record { each = λ class b h. classed xs class b t (rw e h) }

-- a class's bit of a byte's entry
pub classed_bit : (class : Class) {xs : List ℕ} → Answers xs → (b : ℕ) → b < 256 →
    eqb (get_or xs b 0 / 2 ^ class_number (class_meant class) % 2) 1 ≡ in_class (class_meant class) b
unfolding bit_of
classed_bit Digit a b h = a.each 0 b h
classed_bit Upper a b h = a.each 1 b h
classed_bit Lower a b h = a.each 2 b h
classed_bit Letter a b h = a.each 3 b h
classed_bit Blank a b h = a.each 4 b h
