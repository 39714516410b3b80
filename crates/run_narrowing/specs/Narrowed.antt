-- What a test says at a range of places.
use Rattle.std.specs.Prelude.{Option, Some, None}
use Rattle.std.specs.Prelude.{ℕ, ◌+◌, ◌-◌, ◌≤◌, ◌<◌, ◌/◌, ◌%◌, ◌≡◌, Bool, eqb}
use Rattle.meaning.specs.Choice.{pick, either}
use Rattle.meaning.specs.Matching.{Checked, passed, failed, wrong}
use Rattle.meaning.specs.Packing.{first_in, from_place_number, registers}
use Rattle.run_narrowing.specs.declared.Sifted.{Sifted}
use Rattle.run_narrowing.specs.declared.Sifted.TheVariants.{Kept, Among}
use Rattle.run_code_places.specs.declared.Places.{Places}

-- a test's word may ask for cells counted from the middle template's place: one of its two registers is 2
abbrev pub asks_place : ℕ → Bool
asks_place w =
    either (eqb (first_in w % registers) from_place_number)
    (eqb (first_in w / registers % registers) from_place_number)

-- a test can't be wrong at any place of the range
abbrev pub NeverWrong : (ℕ → Checked) → ℕ → ℕ → Type 0
NeverWrong test first places = (at : ℕ) → first ≤ at → at < first + places → test at ≡ wrong → ⊥

-- it passes at the places of a narrower range and fails at the others
pub record Narrows (test : ℕ → Checked) (first places from among : ℕ) : Type 0 where
  pub begins : first ≤ from
  pub ends : from + among ≤ first + places
  pub passes : (at : ℕ) → from ≤ at → at < from + among → test at ≡ passed
  pub before : (at : ℕ) → first ≤ at → at < from → test at ≡ failed
  pub after : (at : ℕ) → from + among ≤ at → at < first + places → test at ≡ failed

-- the places of a range before a turn, or those from it on
abbrev pub part_of : Bool → ℕ → ℕ → ℕ → Places
part_of early first places turn =
    pick early (record { first = first; count = turn }) (record { first = first + turn; count = places - turn })

-- the narrower range, where it is known
abbrev pub NarrowsTo : Option Places → (ℕ → Checked) → ℕ → ℕ → Type 0
NarrowsTo None test first places = Unit {0}
NarrowsTo (Some among) test first places = Narrows test first places among.first among.count

abbrev pub Sifts : Option Sifted → (ℕ → Checked) → ℕ → ℕ → Type 0
Sifts None test first places = Unit {0}
Sifts (Some Kept) test first places = NeverWrong test first places
Sifts (Some (Among among)) test first places = Narrows test first places among.first among.count
