-- The tape of a table that has every kind of word.
use mathlib.Core.Path.{◌≡◌, refl}
use mathlib.Core.Bool.{Bool, true, false}
use mathlib.Core.List.{[], ◌∷◌}
use Rattle.meaning.specs.Classes.{Class, digit, upper, blank}
use Rattle.meaning.specs.Tree.{character, symbol, letter, part, Subject, of_symbol, of_part, Condition, end, then_character, then_symbol, then_part}
use Rattle.meaning.specs.Tree.{then_call, Table}
use Rattle.tape_layout.specs.Tape.{pattern_tape, conditions_tape, expression_tape, sentences_tape, tape}
use Rattle.meaning.proofs.Rows.Tables.{x1, plain, function}

abbrev asks : Class → Subject → Bool → Condition
asks class v truth = record { predicate = class; subject = v; expected = truth }

-- `F { 'a' s1 ebc, <IsDigit s1>: 'T', <IsBlank s1>: 'F', <IsUpper ebc>: 'T' = 'x' <Gh s1> ebc; = } G { = }`, the call's name at place 50
abbrev table : Table
table =
    function (70 ∷ [])
    (record {
      pattern = letter (character 97) ∷ letter (symbol x1) ∷ part (98 ∷ 99 ∷ []) ∷ [];
      conditions = asks digit (of_symbol x1) true ∷ asks blank (of_symbol x1) false ∷ asks upper (of_part (98 ∷ 99 ∷ [])) true ∷ [];
      expression = then_character 120 (then_call 50 (71 ∷ 104 ∷ []) (then_symbol x1 end) (then_part (98 ∷ 99 ∷ []) end));
    } ∷
    plain [] end ∷ []) ∷
    function (71 ∷ []) (plain [] end ∷ []) ∷ []

-- a word is 256 times its kind, and what it carries
pub taped : tape table ≡
    -- the name of the function
    2049 ∷ 70 ∷
    -- the pattern
    97 ∷ 257 ∷ 49 ∷ 514 ∷ 98 ∷ 99 ∷
    -- the conditions: an identifier of one byte, 'T' and the class 0; 'F' and the class 4; an e-variable of two bytes, 'T' and the class 1
    793 ∷ 49 ∷ 792 ∷ 49 ∷ 824 ∷ 98 ∷ 99 ∷
    -- `=` and the expression: a call of kind 9 + 50, with its `>`
    1024 ∷ 120 ∷ 15106 ∷ 71 ∷ 104 ∷ 257 ∷ 49 ∷ 1280 ∷ 514 ∷ 98 ∷ 99 ∷
    -- the next sentence, and the end of the function
    1536 ∷ 1024 ∷ 1792 ∷
    2049 ∷ 71 ∷ 1024 ∷ 1792 ∷ []
unfolding pattern_tape conditions_tape expression_tape sentences_tape tape
taped = refl
