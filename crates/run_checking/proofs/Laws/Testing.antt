-- A sentence's tests, read off the code words.
use Prim.Native.Nat.{ℕ, zero, suc, ◌+◌, ◌-◌, ◌≤◌, ◌<◌}
use native.Mathlib.Nat.{not-suc-le-zero}
use native.Mathlib.Numerals.{sub-one}
use native.Mathlib.Omega.{arith}
use mathlib.Core.Path.{◌≡◌, refl}
use lib.ListN.{length, get_or, drop}
use mathlib.Core.Bool.{Bool}
use Rattle.std.specs.Prelude.{Result, Ok, Err, IsErr}
use Rattle.meaning.specs.Choice.{Bytes}
use Rattle.meaning.specs.Matching.{Checked, passed, failed, wrong, where_passed, check, check_all}
use Rattle.meaning.specs.Packing.{Words, test_of, unpack_tests}
use Rattle.meaning.proofs.Laws.Remaining.{at_place, past_end}
use Rattle.run_code_places.specs.declared.Wrong.{Wrong}
use Rattle.run_checking.specs.Checks.{checked_meant}

module _ (field : Bytes) (place : ℕ) where
  -- all of so many tests from a place of the code on
  abbrev pub testing : Words → ℕ → ℕ → Checked
  testing words at left = check_all (unpack_tests left (drop at words)) field place

  pub no-tests : (words : Words) (at left : ℕ) → left ≤ 0 → testing words at left ≡ passed
  unfolding check_all unpack_tests
  no-tests words at zero h = refl
  no-tests words at (suc n) h = absurd (not-suc-le-zero h)

  pub tests-run-out : (words : Words) (at left : ℕ) → 0 < left → length words ≤ at → testing words at left ≡ wrong
  unfolding check_all unpack_tests
  tests-run-out words at zero h e = absurd (not-suc-le-zero h)
  tests-run-out words at (suc n) h e = rw (past_end words at e)

  pub next-test : (words : Words) (at left : ℕ) → 0 < left → at < length words →
      testing words at left ≡ where_passed (check (test_of (get_or words at 0)) field place) (testing words (at + 1) (left - 1))
  unfolding check_all unpack_tests
  next-test words at zero h e = absurd (not-suc-le-zero h)
  next-test words at (suc n) h e = rw (at_place words at e, sub-one)

pub passed-last : (c : Checked) → where_passed c passed ≡ c
passed-last passed = refl
passed-last failed = refl
passed-last wrong = refl

-- one test is all of them
pub one-test : (field : Bytes) (words : Words) (at : ℕ) → at < length words → (place : ℕ) →
    testing field place words at 1 ≡ check (test_of (get_or words at 0)) field place
one-test field words at h place =
    rw (next-test field place words at 1 (omega arith) h, no-tests field place words (at + 1) 0 (omega arith))
    (passed-last (check (test_of (get_or words at 0)) field place))

-- a test that asks for what isn't there is wrong
pub refused : (r : Result Bool Wrong) → IsErr r → checked_meant r ≡ wrong
refused (Ok passes) e = let z : ◌≡◌ {A = ℕ} 0 1 = cc in absurd (omega arith)
refused (Err w) e = refl
