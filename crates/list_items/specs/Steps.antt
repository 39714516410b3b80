-- What each item but a character adds to the listing, and how the listing stands after it.
use Rattle.std.specs.Prelude.{ℕ, ◌/◌, ◌%◌, [], ◌∷◌, ◌++◌, eqb}
use Rattle.meaning.specs.Choice.{Bytes, pick}
use Rattle.meaning.specs.Classes.{class_name, digit, upper, lower, alphabetic, blank}
use Rattle.tape_layout.specs.Tape.{class_count, condition_truth, condition_part, condition_size}
use Rattle.list_strings.specs.declared.State.{State}
use Rattle.list_strings.specs.declared.State.TheVariants.{Condition}
use Rattle.list_strings.specs.Steps.{Step, step, is_quoted, gap}

-- what ends the item before another one
abbrev pub ending : State → Bytes
ending s = pick (is_quoted s) (39 ∷ []) []

abbrev pub separator : State → Bytes
separator s = ending s ++ gap s

-- the bytes of the longest predicate's name, IsLetter
abbrev pub longest_predicate : ℕ
longest_predicate = 8

-- a class's name by its number
abbrev pub class_text : ℕ → Bytes
class_text class =
    pick (eqb class 0) (class_name digit)
    (pick (eqb class 1) (class_name upper)
    (pick (eqb class 2) (class_name lower)
    (pick (eqb class 3) (class_name alphabetic)
    (class_name blank))))

-- the letter of a condition's variable after a blank, and a condition's truth value, by their bits on the tape
abbrev pub letter_text : ℕ → Bytes
letter_text bit = pick (eqb bit 1) (32 ∷ 101 ∷ []) (32 ∷ 115 ∷ [])

abbrev pub truth_text : ℕ → ℕ
truth_text bit = pick (eqb bit 1) 84 70

-- , <Predicate s or , <Predicate e
abbrev pub condition_opening : State → ℕ → ℕ → Bytes
condition_opening s class kind = ending s ++ (44 ∷ 32 ∷ 60 ∷ []) ++ class_text class ++ letter_text kind

abbrev pub condition_step : State → ℕ → Step
condition_step s carried =
    step (condition_opening s (carried % class_count) (carried / condition_part % 2))
    (Condition (carried / condition_size) (truth_text (carried / condition_truth % 2)))

-- a byte after the blank between items
abbrev pub parted_step : State → ℕ → State → Step
parted_step s b after = step (separator s ++ b ∷ []) after

-- bytes right after an item
abbrev pub ended_step : State → Bytes → State → Step
ended_step s bytes after = step (ending s ++ bytes) after
