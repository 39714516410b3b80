-- How the machine chooses a sentence for a field: 000 section 3.1, 01 'Machine': "With two e-variables the tests begin
-- at the middle template's leftmost place, and a failed test leads to its next place to the right. Where none is left,
-- or with fewer e-variables, a failed test leads to the next sentence, and after the last sentence to 11".
use Rattle.std.specs.Prelude.{ℕ, zero, suc, ◌+◌, ◌-◌, Bool, true, false, List, [], ◌∷◌, leb, eqb, length, take, drop}
use Rattle.std.proofs.Math.Option.{Option, none, some}
use Rattle.meaning.specs.Choice.{Bytes, pick, both, guard, every, nth}
use Rattle.meaning.specs.Classes.{in_class, same_truth}
use Rattle.meaning.specs.Instructions.{Site, from_start, from_end, from_place, Test, look, compare, predicate}
use Rattle.meaning.specs.Instructions.{predicate_part, unknown_test, Store, store, unknown_store, Action, Metric}
use Rattle.meaning.specs.Instructions.{exactly, ends, middle, Sentences, no_more, sentence, unknown_sentence}

-- the byte at a site of a field, the place of the middle template being counted from p; none where the field has no
-- such cell
abbrev pub cell_at : Site → Bytes → ℕ → Option ℕ
cell_at (from_start k) field place = nth k field
cell_at (from_end k) field place = guard (leb k (length field)) (nth (length field - k) field)
cell_at (from_place k) field place = nth (place + k) field

-- how many cells of a field of a length lie before a site; none where the site would lie before p
abbrev pub cells_before : Site → ℕ → ℕ → Option ℕ
cells_before (from_start k) whole place = some k
cells_before (from_end k) whole place = guard (leb k whole) (some (whole - k))
cells_before (from_place k) whole place = some (place + k)

-- the cells after so many and before so many of a field; none where the first number is above the second, or the second
-- above the field's length
abbrev pub cut : Option ℕ → Option ℕ → Bytes → Option Bytes
cut none to field = none
cut (some from) none field = none
cut (some from) (some to) field =
    guard (both (leb from to) (leb to (length field))) (some (take (to - from) (drop from field)))

abbrev pub cells_between : Site → Site → Bytes → ℕ → Option Bytes
cells_between s r field place = cut (cells_before s (length field) place) (cells_before r (length field) place) field

-- a test passes, fails, or asks for something that isn't there
pub data Checked : Type 0 where
  passed failed wrong : Checked

abbrev pub checked : Bool → Checked
checked true = passed
checked false = failed

abbrev pub asked : {A : Type 0} → (A → Checked) → Option A → Checked
asked f none = wrong
asked f (some b) = f b

abbrev pub check : Test → Bytes → ℕ → Checked
check (look s c) field place = asked (λ b. checked (eqb c b)) (cell_at s field place)
check (compare s r) field place =
    asked (λ b. asked (λ a. checked (eqb b a)) (cell_at r field place)) (cell_at s field place)
check (predicate s class expected) field place =
    asked (λ b. checked (same_truth expected (in_class class b))) (cell_at s field place)
check (predicate_part s r class expected) field place =
    asked (λ piece. checked (same_truth expected (every (in_class class) piece))) (cells_between s r field place)
check unknown_test field place = wrong

abbrev pub where_passed : Checked → Checked → Checked
where_passed passed later = later
where_passed failed later = failed
where_passed wrong later = wrong

unfoldable pub check_all : List Test → Bytes → ℕ → Checked
check_all [] field place = passed
check_all (t ∷ ts) field place = let later = check_all ts field place in where_passed (check t field place) later

-- where the middle template lies; without one, place 0
pub data Found : Type 0 where
  found_at : ℕ → Found
  found_none : Found
  found_wrong : Found

abbrev pub settled : Checked → ℕ → Found → Found
settled passed place later = found_at place
settled failed place later = later
settled wrong place later = found_wrong

-- the leftmost of so many places from here at which all tests pass
unfoldable pub search : (ℕ → Checked) → ℕ → ℕ → Found
search test zero place = found_none
search test (suc n) place = let later = search test n (suc place) in settled (test place) place later

-- how many places there are to try, for a field of a length, and the first of them. 000's prose has i < q - tail - med,
-- its program i <= q - tail - med; 01: "at most holds"
abbrev pub places_of : Metric → ℕ → ℕ
places_of (exactly n) whole = pick (eqb whole n) 1 0
places_of (ends head tail) whole = pick (leb (head + tail) whole) 1 0
places_of (middle head med tail) whole = suc whole - (head + med + tail)

abbrev pub first_place : Metric → ℕ
first_place (exactly n) = 0
first_place (ends head tail) = 0
first_place (middle head med tail) = head

abbrev pub find_place : Metric → List Test → Bytes → Found
find_place metric tests field = search (check_all tests field) (places_of metric (length field)) (first_place metric)

-- "Store of each different s-variable"
abbrev pub kept : Option ℕ → Option Bytes → Option Bytes
kept none later = none
kept (some b) none = none
kept (some b) (some values) = some (b ∷ values)

abbrev pub stored_cell : Store → Bytes → ℕ → Option ℕ
stored_cell (store s) field at = cell_at s field at
stored_cell unknown_store field at = none

unfoldable pub stored_values : List Store → Bytes → ℕ → Option Bytes
stored_values [] field at = some []
stored_values (s ∷ ss) field at = kept (stored_cell s field at) (stored_values ss field at)

-- the sentence chosen for a field, as where its middle template lies, its stores and its actions; or none, with the
-- number of the function that recovers this one; or words that are no sentence
pub data Choice : Type 0 where
  chosen : ℕ → List Store → List Action → Choice
  chosen_none : ℕ → Choice
  chosen_wrong : Choice

abbrev pub choice_of : Found → List Store → List Action → Choice → Choice
choice_of (found_at at) stores actions later = chosen at stores actions
choice_of found_none stores actions later = later
choice_of found_wrong stores actions later = chosen_wrong

unfoldable pub choose_from : Sentences → Bytes → Choice
choose_from (no_more r) field = chosen_none r
choose_from unknown_sentence field = chosen_wrong
choose_from (sentence metric tests stores actions more) field =
    let later = choose_from more field in
    choice_of (find_place metric tests field) stores actions later
