-- How many bytes a piece of an item takes at most.
use Prim.Native.Nat.{ℕ, ◌≤◌}
use native.Mathlib.Omega.{arith}
use mathlib.Core.List.{[], ◌∷◌}
use lib.Dec.{eqb}
use lib.ListN.{length, length-append}
use Rattle.meaning.specs.Choice.{Bytes, pick}
use Rattle.meaning.specs.Classes.{class_name, digit, upper, lower, alphabetic, blank}
use Rattle.list_strings.specs.declared.State.{State}
use Rattle.list_strings.specs.Steps.{is_quoted}
use Rattle.list_strings.proofs.Sizes.{pick-size, gap-size}
use Rattle.list_items.specs.Steps.{ending, separator, longest_predicate, class_text, letter_text}

pub ending-size : (s : State) → length (ending s) ≤ 1
ending-size s = pick-size (is_quoted s) (39 ∷ []) [] (omega arith) (omega arith)

pub parting-size : (s : State) → length (separator s) ≤ 2
parting-size s = rw length-append (omega (arith, ending-size s, gap-size s))

pub letter-size : (bit : ℕ) → length (letter_text bit) ≤ 2
letter-size bit = pick-size (eqb bit 1) (32 ∷ 101 ∷ []) (32 ∷ 115 ∷ []) (omega arith) (omega arith)

pub class-size : (class : ℕ) → length (class_text class) ≤ longest_predicate
class-size class = named
  where
    four : Bytes
    four = pick (eqb class 3) (class_name alphabetic) (class_name blank)

    three : Bytes
    three = pick (eqb class 2) (class_name lower) four

    two : Bytes
    two = pick (eqb class 1) (class_name upper) three

    named : length (pick (eqb class 0) (class_name digit) two) ≤ longest_predicate
    named =
        pick-size (eqb class 0) (class_name digit) two (omega arith)
        (pick-size (eqb class 1) (class_name upper) three (omega arith)
        (pick-size (eqb class 2) (class_name lower) four (omega arith)
        (pick-size (eqb class 3) (class_name alphabetic) (class_name blank) (omega arith) (omega arith))))
