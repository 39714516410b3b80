-- What a search finds, in the terms of meaning's Matching, and the tests that look for a string.
use Rattle.std.specs.Prelude.{ℕ, suc, ◌+◌, ◌≤◌, ◌<◌, ◌%◌, ◌≡◌, Bool, true, false, List, [], ◌∷◌, length, take, get_or}
use Rattle.std.specs.Prelude.{Option, Some, None, Result, Ok, Err}
use Rattle.meaning.specs.Choice.{Bytes}
use Rattle.meaning.specs.Instructions.{from_place, Test, look}
use Rattle.meaning.specs.Matching.{Found, found_at, found_none, found_wrong}
use Rattle.meaning.specs.Packing.{Words, code_word, second_in, look_number, from_place_number}
use Rattle.code_numbers.specs.Numbers.{operand}
use Rattle.run_code_places.specs.declared.Wrong.{Wrong}
use Rattle.run_finding.specs.Occurrences.{Occurrence}

-- the place that was found, if there is one
abbrev pub place_meant : Option ℕ → Found
place_meant (Some at) = found_at at
place_meant None = found_none

abbrev pub found_meant : Result (Option ℕ) Wrong → Found
found_meant (Ok place) = place_meant place
found_meant (Err refused) = found_wrong

-- so many places from the first on end no further past a field of a length than an operand can say
abbrev pub PlacesWithin : ℕ → ℕ → ℕ → Type 0
PlacesWithin first places whole = first + places ≤ whole + operand

-- ONE LOOK

-- the only test is a Look from the middle template's place, by the number and the first operand of its word, and it
-- finds a cell in a whole of a length at each place before `past`
pub record OneLook (words : Words) (at count past whole : ℕ) : Type 0 where
  pub one : count ≡ 1
  pub there : at < length words
  pub look : get_or words at 0 % code_word 0 0 1 0 ≡ code_word look_number from_place_number 0 0
  pub inside : past + second_in (get_or words at 0) ≤ whole

abbrev pub LooksOnce : Bool → Words → ℕ → ℕ → ℕ → ℕ → Type 0
LooksOnce true words at count past whole = OneLook words at count past whole
LooksOnce false words at count past whole = Unit {0}

-- A STRING

-- a string's bytes are looked for one after another
unfoldable pub looks : ℕ → Bytes → List Test
looks offset [] = []
looks offset (c ∷ cs) = look (from_place offset) c ∷ looks (suc offset) cs

pub record Spelled (offset : ℕ) (string : Bytes) (tests : List Test) : Type 0 where
  pub same : tests ≡ looks offset string
  pub near : offset < operand

abbrev pub Spells : Option ℕ → Bytes → List Test → ℕ → Type 0
Spells (Some offset) string tests count = Spelled offset (take count string) tests
Spells None string tests count = Unit {0}

abbrev pub Occurs : Occurrence → Found → Type 0
Occurs (Ok place) found = place_meant place ≡ found
Occurs (Err refused) found = Unit {0}
