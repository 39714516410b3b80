-- A table that is allowed and has something of everything: two e-variables, conditions on both kinds of variable and of both truth values, equal
-- s-variables, nested calls, an emission and tail calls.
-- So the hypothesis of the agreement can be met, and the agreement says something of such a table.
use mathlib.Core.Path.{◌≡◌, refl}
use mathlib.Core.Bool.{true, false}
use mathlib.Core.List.{[], ◌∷◌}
use lib.Dec.{T}
use Rattle.meaning.specs.Choice.{Bytes, Name}
use Rattle.meaning.specs.Classes.{digit, upper}
use Rattle.meaning.specs.Tree.{of_symbol, of_part, symbol, letter, part, end, then_character, then_symbol, then_part, then_call, Table}
use Rattle.meaning.specs.Allowed.{allowed}
use Rattle.meaning.specs.Outcome.{max_counted, Result}
use Rattle.meaning.specs.Rewriting.{rewrite}
use Rattle.meaning.specs.Runs.{run_endless}
use Rattle.meaning.specs.Leaving.{padded}
use Rattle.meaning.specs.Translation.{translate}
use Rattle.meaning.proofs.Rows.Tables.{x1, x2, x3, all1, plain, function, emit_name}
use Rattle.meaning.proofs.Rows.Computing.{computing}
use Rattle.meaning_agreeing.proofs.Agreement.Agree.{agree-result}

abbrev name_f : Name
name_f = 70 ∷ []

abbrev name_g : Name
name_g = 71 ∷ []

-- `F { e1 s2 e3, <IsDigit s2>: 'T', <IsUpper e3>: 'F' = <EmitA s2> <G <G e1> s2 e3>; e1 = e1 }
-- G { s1 e2 s1 e3, <IsUpper s1>: 'F' = e2 '|' <G e3>; e1 = e1 }`
abbrev pub table : Table
table =
    function name_f
    (record {
      pattern = part x1 ∷ letter (symbol x2) ∷ part x3 ∷ [];
      conditions =
          record { predicate = digit; subject = of_symbol x2; expected = true } ∷
          record { predicate = upper; subject = of_part x3; expected = false } ∷ [];
      expression =
          then_call 54 (emit_name 65) (then_symbol x2 end)
          (then_call 65 name_g (then_call 68 name_g (then_part x1 end) (then_symbol x2 (then_part x3 end))) end);
    } ∷
    plain all1 (then_part x1 end) ∷ []) ∷
    function name_g
    (record {
      pattern = letter (symbol x1) ∷ part x2 ∷ letter (symbol x1) ∷ part x3 ∷ [];
      conditions = record { predicate = upper; subject = of_symbol x1; expected = false } ∷ [];
      expression = then_part x2 (then_character 124 (then_call 137 name_g (then_part x3 end) end));
    } ∷
    plain all1 (then_part x1 end) ∷ []) ∷ []

pub table-allowed : T (allowed table)
unfolding computing
table-allowed = tt

-- `aba7aa` gives `b|7aa` in 4 steps and emits `EmitA 7`
abbrev text : Bytes
text = 97 ∷ 98 ∷ 97 ∷ 55 ∷ 97 ∷ 97 ∷ []

abbrev outcome : Result
outcome =
    record {
      answer = 0;
      function = 0;
      steps = 4;
      counts = padded (1 ∷ 3 ∷ []) max_counted;
      text = 98 ∷ 124 ∷ 55 ∷ 97 ∷ 97 ∷ [];
      emissions = 69 ∷ 109 ∷ 105 ∷ 116 ∷ 65 ∷ 32 ∷ 55 ∷ 10 ∷ [];
    }

pub rewriting : rewrite table 1 text 100 ≡ outcome
unfolding computing
rewriting = refl

-- by the agreement, and not by computing it
pub running : run_endless (translate table) 1 text 100 ≡ outcome
running = rw (agree-result table table-allowed 1 text 100) rewriting
