-- What a Look says at every place up to the last, and what the Looks that begin a sentence's tests say.
use Prim.Native.Nat.{ℕ, ◌+◌, ◌-◌, ◌≤◌, ◌<◌, ◌%◌}
use native.Mathlib.Omega.{arith}
use mathlib.Core.Path.{◌≡◌, refl}
use mathlib.Core.Bool.{Bool, true, false}
use lib.Dec.{eqb}
use lib.ListN.{length, get_or}
use borrow.Author.Tests.{ne_eqb, eq-eqb, le-leb}
use Rattle.meaning.specs.Choice.{Bytes, nth}
use Rattle.meaning.specs.Matching.{Checked, passed, failed, wrong, asked, checked, where_passed, check}
use Rattle.meaning.specs.Packing.{Words, second_in, third_in, test_of}
use Rattle.run_sites.proofs.Laws.Lists.{nth_in}
use Rattle.run_checking.proofs.Laws.Cells.{look-from}
use Rattle.run_checking.proofs.Laws.Testing.{testing, next-test}

-- A CELL

-- the byte of a cell is the one that is asked for
abbrev pub cell_says : ℕ → Bytes → ℕ → Checked
cell_says byte field index = asked (λ b. checked (eqb byte b)) (nth index field)

passed-right : {c : Checked} → c ≡ passed → c ≡ wrong → ⊥
passed-right e e' = let z : ◌≡◌ {A = ℕ} 0 1 = cc in omega arith

pub cell-right : (byte : ℕ) (field : Bytes) (index : ℕ) → index < length field → get_or field index 0 ≡ byte → cell_says byte field index ≡ wrong → ⊥
cell-right byte field index there same = passed-right (rw (nth_in field index there, same, eq-eqb byte byte refl))

pub cell-fails : (byte : ℕ) (field : Bytes) (index : ℕ) → index < length field → (get_or field index 0 ≡ byte → ⊥) →
    cell_says byte field index ≡ failed
cell-fails byte field index there other = rw (nth_in field index there, ne_eqb byte (get_or field index 0) (λ e. other (rw e)))

-- A LOOK

module _ (field : Bytes) (w place : ℕ) where
  pub look-start : w % 65536 ≡ 1 → check (test_of w) field place ≡ cell_says (third_in w) field (second_in w)
  look-start h = rw (look-from w 0 h)

  pub look-end : w % 65536 ≡ 257 → second_in w ≤ length field →
      check (test_of w) field place ≡ cell_says (third_in w) field (length field - second_in w)
  look-end h inside = rw (look-from w 1 h, le-leb (second_in w) (length field) inside)

  -- a cell that is there is compared
  compared : (b : Bool) → checked b ≡ wrong → ⊥
  compared true e = let z : ◌≡◌ {A = ℕ} 0 1 = cc in omega arith
  compared false e = let z : ◌≡◌ {A = ℕ} 0 1 = cc in omega arith

  pub look-place : w % 65536 ≡ 513 → place + second_in w < length field → check (test_of w) field place ≡ wrong → ⊥
  look-place h inside = rw (look-from w 2 h, nth_in field (place + second_in w) inside)
      (compared (eqb (third_in w) (get_or field (place + second_in w) 0)))

-- THE TESTS

then-failed : (c later : Checked) → (c ≡ wrong → ⊥) → later ≡ failed → where_passed c later ≡ failed
then-failed passed later h e = e
then-failed failed later h e = refl
then-failed wrong later h e = absurd (h refl)

module _ (field : Bytes) (place : ℕ) (words : Words) (at left : ℕ) (some : 0 < left) (there : at < length words) where
  -- a test that is right, with those after it failing
  pub fails-after : (check (test_of (get_or words at 0)) field place ≡ wrong → ⊥) → testing field place words (at + 1) (left - 1) ≡ failed →
      testing field place words at left ≡ failed
  fails-after right e =
      rw (next-test field place words at left some there)
      (then-failed (check (test_of (get_or words at 0)) field place) (testing field place words (at + 1) (left - 1)) right e)

  -- a test that fails
  pub fails-here : check (test_of (get_or words at 0)) field place ≡ failed → testing field place words at left ≡ failed
  fails-here e = rw (next-test field place words at left some there, e)
