-- The trees of 01's 'Runs to hold on to'.
use Prim.Native.Nat.{ℕ}
use mathlib.Core.Bool.{true}
use mathlib.Core.List.{List, [], ◌∷◌}
use Rattle.meaning.specs.Choice.{Name}
use Rattle.meaning.specs.Classes.{digit}
use Rattle.meaning.specs.Tree.{of_symbol, character, symbol, Element, letter, part, Expression, end, then_character, then_symbol, then_part}
use Rattle.meaning.specs.Tree.{then_call, Sentence, Function, Table}

abbrev pub x1 : Name
x1 = 49 ∷ []

abbrev pub x2 : Name
x2 = 50 ∷ []

abbrev pub x3 : Name
x3 = 51 ∷ []

-- e1
abbrev pub all1 : List Element
all1 = part x1 ∷ []

-- a sentence without conditions
abbrev pub plain : List Element → Expression → Sentence
plain p e = record { pattern = p; conditions = []; expression = e }

abbrev pub function : Name → List Sentence → Function
function n ss = record { name = n; sentences = ss }

-- Z `F { '0' e1 = <F e1>; e1 = e1 }`
abbrev pub table_z : Table
table_z =
    function (70 ∷ [])
    (plain (letter (character 48) ∷ all1) (then_call 14 (70 ∷ []) (then_part x1 end) end) ∷
    plain all1 (then_part x1 end) ∷ []) ∷ []

-- R `G { s1 e2 = <G e2> s1; = }`
abbrev pub table_r : Table
table_r =
    function (71 ∷ [])
    (plain (letter (symbol x1) ∷ part x2 ∷ []) (then_call 13 (71 ∷ []) (then_part x2 end) (then_symbol x1 end)) ∷
    plain [] end ∷ []) ∷ []

-- `H { e1 s2 e3, <IsDigit s2>: 'T' = s2 }`
abbrev pub table_h : Table
table_h =
    function (72 ∷ [])
    (record {
      pattern = part x1 ∷ letter (symbol x2) ∷ part x3 ∷ [];
      conditions = record { predicate = digit; subject = of_symbol x2; expected = true } ∷ [];
      expression = then_symbol x2 end;
    } ∷ []) ∷ []

-- `K { s1 e2 s1 e3 = e2 '|' e3 }`
abbrev pub table_k : Table
table_k =
    function (75 ∷ [])
    (plain (letter (symbol x1) ∷ part x2 ∷ letter (symbol x1) ∷ part x3 ∷ [])
    (then_part x2 (then_character 124 (then_part x3 end))) ∷ []) ∷ []

-- `P { e1 = <Q 'ab' e1> } Q { e1 = e1 }`
abbrev pub table_p : Table
table_p =
    function (80 ∷ [])
    (plain all1 (then_call 10 (81 ∷ []) (then_character 97 (then_character 98 (then_part x1 end))) end) ∷ []) ∷
    function (81 ∷ []) (plain all1 (then_part x1 end) ∷ []) ∷ []

abbrev pub emit_name : ℕ → Name
emit_name last = 69 ∷ 109 ∷ 105 ∷ 116 ∷ last ∷ []

-- `M { e1 = <EmitA <N e1>> <EmitB 'x'> } N { e1 = <EmitC e1> 'y' }`
abbrev pub table_m : Table
table_m =
    function (77 ∷ [])
    (plain all1
    (then_call 10 (emit_name 65) (then_call 17 (78 ∷ []) (then_part x1 end) end)
    (then_call 25 (emit_name 66) (then_character 120 end) end)) ∷ []) ∷
    function (78 ∷ []) (plain all1 (then_call 48 (emit_name 67) (then_part x1 end) (then_character 121 end)) ∷ []) ∷ []
