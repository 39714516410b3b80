-- The tapes of 01's tables, and of one with conditions on both kinds of variable, are read as those tables.
use mathlib.Core.Path.{◌≡◌, refl}
use mathlib.Core.Bool.{true, false}
use mathlib.Core.List.{List, [], ◌∷◌}
use Rattle.meaning.specs.Classes.{digit, blank}
use Rattle.meaning.specs.Tree.{symbol, letter, part, of_symbol, of_part, end, Table}
use Rattle.tape_layout.specs.Tape.{tape, pattern_tape, conditions_tape, expression_tape, sentences_tape}
use Rattle.meaning.proofs.Rows.Tables.{x1, x2, function, table_z, table_r, table_h, table_k, table_p, table_m}
use Rattle.code_sentences.specs.Trees.{tree_of, sentences_on_tape, functions_on_tape}
use Rattle.code_patterns.specs.Scans.{pattern_on_tape, conditions_on_tape}
use Rattle.code_expressions.specs.Levels.{levels_in}

-- F { s1 e2, <IsDigit s1>: 'T', <IsBlank e2>: 'F', <IsDigit e2>: 'T' = }
abbrev table_f : Table
table_f =
    function (70 ∷ [])
    (record {
      pattern = letter (symbol x1) ∷ part x2 ∷ [];
      conditions =
          record { predicate = digit; subject = of_symbol x1; expected = true }
          ∷ record { predicate = blank; subject = of_part x2; expected = false }
          ∷ record { predicate = digit; subject = of_part x2; expected = true }
          ∷ [];
      expression = end;
    } ∷ []) ∷ []

abbrev Back : List Table → Type 0
Back [] = Unit {0}
Back (t ∷ ts) = (tree_of (tape t) ≡ t) × Back ts

pub back : Back (table_z ∷ table_r ∷ table_h ∷ table_k ∷ table_p ∷ table_m ∷ table_f ∷ [])
unfolding tape pattern_tape conditions_tape expression_tape sentences_tape pattern_on_tape conditions_on_tape levels_in sentences_on_tape
    functions_on_tape
back = (refl, (refl, (refl, (refl, (refl, (refl, (refl, tt)))))))
