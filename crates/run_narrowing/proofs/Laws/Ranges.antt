-- What one test says at a range of places: by a search at one place, or by what it says at one of them.
use Prim.Native.Nat.{ℕ, ◌+◌, ◌-◌, ◌<◌, ◌≤◌}
use native.Mathlib.Omega.{arith}
use mathlib.Core.Path.{◌≡◌, ◌∙◌}
use lib.ListN.{length, get_or, drop}
use Rattle.meaning.specs.Matching.{Checked, passed, failed, wrong, found_at, found_none, search, check, check_all, Found, found_wrong, settled}
use Rattle.meaning.specs.Choice.{Bytes}
use Rattle.meaning.specs.Packing.{Words, test_of, unpack_tests}
use Rattle.run_checking.proofs.Laws.Testing.{one-test}
use Rattle.run_narrowing.specs.Narrowed.{NeverWrong, Narrows}

-- what one test says, told by a search at one place
abbrev pub checked_of : Found → Checked
checked_of (found_at place) = passed
checked_of found_none = failed
checked_of found_wrong = wrong

pub one-said : (field : Bytes) (words : Words) (at place : ℕ) (f : Found) → at < length words →
    f ≡ search (check_all (unpack_tests 1 (drop at words)) field) 1 place → checked_of f ≡ check (test_of (get_or words at 0)) field place
unfolding search
one-said field words at place f h e = by-test (check (test_of (get_or words at 0)) field place) (e ∙ rw (one-test field words at h place))
  where
    by-test : (c : Checked) → f ≡ settled c place found_none → checked_of f ≡ c
    by-test passed e' = rw e'
    by-test failed e' = rw e'
    by-test wrong e' = rw e'

module _ (c : ℕ → Checked) (first places : ℕ) where
  -- a test that is only wrong where it is wrong at the last place
  pub right-before : let last = first + (places - 1) in ((p : ℕ) → p ≤ last → c p ≡ wrong → c last ≡ wrong) → (c last ≡ wrong → ⊥) →
      NeverWrong c first places
  right-before on right p h h' e = right (on p (omega arith) e)

  -- a test that no place changes
  module _ (still : (p : ℕ) → c p ≡ c first) where
    pub passes-all : c first ≡ passed → Narrows c first places first places
    passes-all e =
        record {
          begins = omega arith;
          ends = omega arith;
          passes = λ p h h'. still p ∙ e;
          before = λ p h h'. absurd (omega arith);
          after = λ p h h'. absurd (omega arith);
        }

    pub fails-all : c first ≡ failed → Narrows c first places first 0
    fails-all e =
        record {
          begins = omega arith;
          ends = omega arith;
          passes = λ p h h'. absurd (omega arith);
          before = λ p h h'. absurd (omega arith);
          after = λ p h h'. still p ∙ e;
        }
