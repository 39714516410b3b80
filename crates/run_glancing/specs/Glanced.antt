-- What a glance tells, in the terms of meaning's Matching.
use Rattle.std.specs.Prelude.{ℕ, ◌+◌, ◌≤◌, ◌≡◌, Bool, true, false, [], ◌∷◌, length, get_or}
use Rattle.meaning.specs.Instructions.{whole, go}
use Rattle.meaning.specs.Matching.{Checked, failed, wrong, Choice, chosen, chosen_none}
use Rattle.meaning.specs.Packing.{Words, code_word, counts_word, ends_number, go_number, whole_number, actions_end}
use Rattle.code_numbers.specs.Numbers.{sentence_head}
use Rattle.run_glancing.specs.declared.Seen.{Seen}
use Rattle.run_glancing.specs.declared.Seen.TheVariants.{Nothing, Dropped, Perhaps}
use Rattle.run_glancing.specs.declared.Glimpse.{Glimpse}
use Rattle.run_glancing.specs.declared.Glimpse.TheVariants.{Fails, Right, Unknown}

-- what is told of a test at a place
abbrev pub Told : Glimpse → Checked → Type 0
Told Fails test = test ≡ failed
Told Right test = test ≡ wrong → ⊥
Told Unknown test = Unit {0}

-- what is claimed where a test says so
abbrev pub Where : Bool → Type 0 → Type 0
Where true claim = claim
Where false claim = Unit {0}

-- the words of a sentence `e1 =` from a place on
pub record Drops (words : Words) (at : ℕ) : Type 0 where
  pub there : at + (sentence_head + 2) ≤ length words
  pub lengths : get_or words at 0 ≡ code_word ends_number 0 0 0
  pub counts : get_or words (at + 1) 0 ≡ counts_word 0 0 2
  pub passes : get_or words (at + sentence_head) 0 ≡ code_word go_number whole_number 0 0
  pub ends : get_or words (at + (sentence_head + 1)) 0 ≡ actions_end

-- the sentence that is chosen stores nothing, passes over its field and ends
pub record Drop (choice : Choice) : Type 0 where
  pub same : choice ≡ chosen 0 [] (go (record { register = whole; add = 0; back = 0 }) ∷ [])

abbrev pub Glances : Seen → Choice → Type 0
Glances Nothing choice = choice ≡ chosen_none 0
Glances Dropped choice = Drop choice
Glances Perhaps choice = Unit {0}
