-- The tests of a sentence's head, which no place changes.
use Prim.Native.Nat.{ℕ, ◌+◌, ◌<◌, ◌%◌, ◌-◌}
use mathlib.Core.Path.{◌≡◌, sym}
use mathlib.Core.Bool.{Bool, true, false}
use lib.Dec.{eqb}
use lib.ListN.{length, get_or}
use borrow.Author.Tests.{ne_eqb, eq-eqb}
use Rattle.meaning.specs.Choice.{Bytes}
use Rattle.meaning.specs.Matching.{checked, check, failed}
use Rattle.meaning.specs.Packing.{second_in, third_in, test_of, Words}
use Rattle.run_sites.proofs.Laws.Lists.{nth_in}
use Rattle.run_checking.proofs.Laws.Cells.{look-from}
use Rattle.run_checking.proofs.Laws.Testing.{testing, next-test}

-- a Look at a cell counted from p that is there says the same at each place
head-says : (w : ℕ) (field : Bytes) (b : Bool) → w % 65536 ≡ 1 → second_in w < length field → b ≡ eqb (third_in w) (get_or field (second_in w) 0) →
    (place : ℕ) → check (test_of w) field place ≡ checked b
head-says w field b h there e place = rw (look-from w 0 h, nth_in field (second_in w) there, e)

-- a Look counted from p, as the next test: it passes, and those after it say what is said; or it fails, whatever they
-- say
module _ (field : Bytes) (words : Words) (at left offset : ℕ) (some : 0 < left) (there : at < length words) (number : get_or words at 0 % 65536 ≡ 1)
    (e : offset ≡ second_in (get_or words at 0)) (inside : offset < length field) where
  pub head-passes : get_or field offset 0 ≡ third_in (get_or words at 0) → (place : ℕ) →
      testing field place words at left ≡ testing field place words (at + 1) (left - 1)
  head-passes same place =
      rw (
        next-test field place words at left some there,
        head-says (get_or words at 0) field true number (rw e at inside) (sym (eq-eqb _ _ (sym (rw e at same)))) place,
      )

  pub head-fails : (get_or field offset 0 ≡ third_in (get_or words at 0) → ⊥) → (place : ℕ) → testing field place words at left ≡ failed
  head-fails other place =
      rw (
        next-test field place words at left some there,
        head-says (get_or words at 0) field false number (rw e at inside) (sym (ne_eqb _ _ (λ same. (rw e at other) (sym same)))) place,
      )
