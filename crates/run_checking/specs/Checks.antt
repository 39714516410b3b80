-- What a test's answer means, in the terms of meaning's Matching.
use Rattle.std.specs.Prelude.{ℕ, eqb, Bool, Result, Ok, Err}
use Rattle.meaning.specs.Choice.{pick}
use Rattle.meaning.specs.Instructions.{Test, unknown_test}
use Rattle.meaning.specs.Matching.{Checked, checked, wrong}
use Rattle.meaning.specs.Packing.{number_in, first_in, second_in, third_in, predicate_part_of, predicate_part_number}
use Rattle.run_code_places.specs.declared.Wrong.{Wrong}

abbrev pub checked_meant : Result Bool Wrong → Checked
checked_meant (Ok passes) = checked passes
checked_meant (Err refused) = wrong

-- the test of a word that is no Look, Compare or Predicate on a cell
abbrev pub last_test : ℕ → Test
last_test w =
    pick (eqb (number_in w) predicate_part_number) (predicate_part_of (first_in w) (second_in w) (third_in w))
    unknown_test
