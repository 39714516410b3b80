-- The facts about `sift` that the check is told: a test that is not wrong at the last place is wrong at none, and one
-- that asks for no place says the same at all.
use Prim.Native.Nat.{ℕ, ◌+◌, ◌-◌, ◌<◌}
use native.Mathlib.Omega.{arith}
use mathlib.Core.Path.{◌≡◌, sym, ◌∙◌}
use mathlib.Core.Bool.{false}
use lib.ListN.{length, get_or, drop}
use Rattle.meaning.specs.Choice.{Bytes}
use Rattle.meaning.specs.Matching.{check, check_all, wrong, Found}
use Rattle.meaning.specs.Matching.{search as searched}
use Rattle.meaning.specs.Packing.{Words, number_in, test_of, unpack_tests}
use Rattle.std.specs.Prelude.{Option, Some, None}
use Rattle.run_searching.specs.Searches.{place_meant}
use Rattle.run_narrowing.specs.Narrowed.{asks_place, NeverWrong}
use Rattle.run_narrowing.proofs.Laws.Ranges.{checked_of, one-said, right-before, passes-all, fails-all}
use Rattle.run_narrowing.proofs.Laws.Moving.{still, wrong-on}
use Rattle.run_narrowing.proofs.sift.Goals as goal

module _ (field : Bytes) (code : Words) (at : ℕ) (there : at < length code) where
  abbrev word : ℕ
  word = get_or code at 0

  -- what a search at one place finds
  abbrev finds : ℕ → Found
  finds place = searched (check_all (unpack_tests 1 (drop at code)) field) 1 place

  -- it isn't wrong at the last place, so at none
  kept : (first places : ℕ) (r : Found) → (number_in word ≡ 20 → ⊥) → r ≡ finds (first + (places - 1)) → (checked_of r ≡ wrong → ⊥) →
      NeverWrong (check (test_of word) field) first places
  kept first places r other found right =
      let last = first + (places - 1) in
      let says = one-said field code at last r there found in
      right-before _ _ _ (λ p h. wrong-on field p last h word other) (λ h. right (says ∙ h))

  -- it says the same at all places
  same : (first : ℕ) (r : Found) → r ≡ finds first → check (test_of word) field first ≡ checked_of r
  same first r found = sym (one-said field code at first r there found)

  fixed : (first : ℕ) → asks_place word ≡ false → (p : ℕ) → check (test_of word) field p ≡ check (test_of word) field first
  fixed first e p = still field p first word e

-- a search that isn't refused finds a place or none
found_right : (place : Option ℕ) → checked_of (place_meant place) ≡ wrong → ⊥
found_right (Some at) e = let z : ◌≡◌ {A = ℕ} 0 1 = cc in omega arith
found_right None e = let z : ◌≡◌ {A = ℕ} 0 1 = cc in omega arith

pub returns-in-Ok-Some : goal.returns-in-Ok-Some
returns-in-Ok-Some c =
    let a = c.args in
    passes-all _ _ _ (fixed a.field.now a.code.now a.at c.requires.at_in_bounds a.first (sym c.if-not-asks_place.ensures))
    (same a.field.now a.code.now a.at c.requires.at_in_bounds a.first _ (rw c.in-Ok-Some.field-0-is at c.in-Ok-Some.ensures))

pub returns-in-Ok-None : goal.returns-in-Ok-None
returns-in-Ok-None c =
    let a = c.args in
    fails-all _ _ _ (fixed a.field.now a.code.now a.at c.requires.at_in_bounds a.first (sym c.if-not-asks_place.ensures))
    (same a.field.now a.code.now a.at c.requires.at_in_bounds a.first _ (rw c.in-Ok-None.field-0-is at c.in-Ok-None.ensures))

pub returns-in-Ok : goal.returns-in-Ok
returns-in-Ok c =
    let a = c.args in
    kept a.field.now a.code.now a.at c.requires.at_in_bounds a.first a.places _ (rw c.number.ensures at c.if-number-eq-PREDICATE_PART.false)
    c.in-Ok.ensures (found_right c.in-Ok.field-0)
