-- What is left of a search once a sentence's head, and then its tests one by one, have been tested.
use Rattle.std.specs.Prelude.{ℕ, ◌+◌, ◌≤◌, ◌≡◌, drop, Option, Some, None}
use Rattle.meaning.specs.Choice.{Bytes}
use Rattle.meaning.specs.Matching.{Checked, failed, check_all, search}
use Rattle.meaning.specs.Packing.{Words, unpack_tests}
use Rattle.run_code_places.specs.declared.CodePlace.{CodePlace}
use Rattle.run_placing.specs.declared.Settled.{Settled}

-- the tests that are left say what all say, at each place; or all fail at each
abbrev pub HeadsSay : Option (CodePlace × ℕ) → Words → Bytes → (ℕ → Checked) → Type 0
HeadsSay (Some rest) words field test =
    (place : ℕ) → test place ≡ check_all (unpack_tests rest.1 (drop rest.0.0 words)) field place
HeadsSay None words field test = (place : ℕ) → test place ≡ failed

-- what is left to search for finds what all the tests find
pub record Finds (kept : Words) (field : Bytes) (test : ℕ → Checked) (places first from among size : ℕ) : Type 0 where
  pub same : search (check_all (unpack_tests size kept) field) among from ≡ search test places first
  pub inside : from + among ≤ first + places

abbrev pub Settles : Option Settled → Words → Bytes → (ℕ → Checked) → ℕ → ℕ → Type 0
Settles None kept field test places first = Unit {0}
Settles (Some settled) kept field test places first =
    Finds kept field test places first settled.among.first settled.among.count settled.kept
