-- What matching's answers mean, in the terms of meaning's Matching.
use Rattle.std.specs.Prelude.{ℕ, ◌+◌, ◌≤◌, ◌≡◌, leb, drop, Option as Maybe, Some, None, Result, Ok, Err}
use Rattle.std.proofs.Math.Option.{Option, none, some}
use Rattle.meaning.specs.Choice.{Bytes, pick}
use Rattle.meaning.specs.Instructions.{Metric}
use Rattle.meaning.specs.Matching.{Found, found_wrong, chosen, chosen_none, chosen_wrong, find_place, places_of}
use Rattle.meaning.specs.Matching.{first_place}
use Rattle.meaning.specs.Matching.{Choice as Choosing}
use Rattle.meaning.specs.Packing.{Words, tests_in, stores_in, max_stored, unpack_tests, unpack_stores, unpack_actions}
use Rattle.run_code_places.specs.declared.Places.{Places}
use Rattle.run_code_places.specs.declared.Wrong.{Wrong}
use Rattle.run_matching.specs.declared.Choice.{Choice}
use Rattle.run_matching.specs.declared.Choice.TheVariants.{Sentence, Nothing}

-- the places that a sentence's first word leaves for a field of a length
abbrev pub places_for : Option Metric → ℕ → Maybe Places
places_for none whole = None
places_for (some metric) whole = Some (record { first = first_place metric; count = places_of metric whole })

-- where the middle template of one sentence lies, given what its two first words say and the words after them
abbrev pub tried : Option Metric → ℕ → Words → Bytes → Found
tried none v ws field = found_wrong
tried (some metric) v ws field =
    let found = find_place metric (unpack_tests (tests_in v) ws) field in
    pick (leb (stores_in v) max_stored) found found_wrong

abbrev pub choice_meant : Words → Result Choice Wrong → Choosing
choice_meant words (Ok (Sentence at stores stored)) =
    chosen at (unpack_stores stored (drop stores.0 words)) (unpack_actions 0 (drop (stores.0 + stored) words))
choice_meant words (Ok (Nothing recoverer)) = chosen_none recoverer
choice_meant words (Err refused) = chosen_wrong

-- an application stores no more values than a frame holds
abbrev pub FewStored : Result Choice Wrong → Type 0
FewStored (Ok (Sentence at stores stored)) = stored ≤ max_stored
FewStored (Ok (Nothing recoverer)) = Unit {0}
FewStored (Err refused) = Unit {0}

-- a choice as it is meant, with few values to store
pub record Chooses (words : Words) (choice : Result Choice Wrong) (choosing : Choosing) : Type 0 where
  pub same : choice_meant words choice ≡ choosing
  pub few : FewStored choice
