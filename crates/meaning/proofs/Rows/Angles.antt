-- Worked rows of angle calls: 02, T-08, and the borders of an angle, each with its neighbour.
use Prim.Native.String.{String}
use mathlib.Core.Path.{◌≡◌, refl}
use mathlib.Core.Bool.{true, false}
use mathlib.Core.List.{List, [], ◌∷◌, ◌++◌, map}
use Rattle.meaning.specs.Choice.{Bytes}
use Rattle.meaning.specs.Angles.{Operation, plus, minus, operation, Angled, sum, not_angles, out_of_range, angled}
use Rattle.meaning.specs.Tree.{character, Element, letter, Expression, end, then_character, then_part, then_call, Table}
use Rattle.meaning.specs.Names.{operation_name, as_emission, as_angles, as_function, calling_of, recover_prefix}
use Rattle.meaning.specs.Outcome.{Result}
use Rattle.meaning.proofs.Rows.Tables.{x1, all1, plain, function, emit_name}
use Rattle.meaning.proofs.Rows.Starred.{Row, AllHold, ample, cells, most, result, same, short}
use Rattle.meaning.proofs.Rows.Read.{bytes, row, hold}
use Rattle.meaning.proofs.Rows.Computing.{computing}

-- SUMS AND DIFFERENCES

record Worked : Type 0 where
  operation : Operation
  argument : String
  result : Angled

abbrev gives : Operation → String → String → Worked
gives op argument given = record { operation = op; argument = argument; result = sum (bytes given) }

abbrev badly : Operation → String → Worked
badly op argument = record { operation = op; argument = argument; result = not_angles }

abbrev beyond : Operation → String → Worked
beyond op argument = record { operation = op; argument = argument; result = out_of_range }

abbrev worked_rows : List Worked
worked_rows =
    gives plus "-0:30 0:45" "0:15" ∷
    beyond plus "359:59 0:01" ∷
    gives plus "12:30 2:45" "15:15" ∷
    gives minus "12:30 2:45" "9:45" ∷
    gives minus "0:00 0:30" "-0:30" ∷
    -- the range's ends, either way
    gives plus "359:58 0:01" "359:59" ∷
    gives minus "-359:59 0:00" "-359:59" ∷
    beyond minus "-359:59 0:01" ∷
    gives minus "-359:59 -359:59" "0:00" ∷
    -- leading zeros and a zero below zero are fine in an argument
    gives plus "007:05 000:00" "7:05" ∷
    gives plus "-0:00 -0:00" "0:00" ∷
    gives minus "0:00 0:00" "0:00" ∷
    gives plus "100:00 0:00" "100:00" ∷
    gives plus "99:59 0:00" "99:59" ∷
    gives plus "9:59 0:01" "10:00" ∷
    -- what is no angle
    badly plus "+1:00 0:00" ∷
    badly plus "0001:00 0:00" ∷
    badly plus ":00 0:00" ∷
    badly plus "360:00 0:00" ∷
    badly plus "1:5 0:00" ∷
    badly plus "1:005 0:00" ∷
    badly plus "1:60 0:00" ∷
    badly plus "--1:00 0:00" ∷
    badly plus "1-:00 0:00" ∷
    badly plus "1:00: 0:00" ∷
    -- two blanks, a tab, a blank before or after, one angle, three, none
    badly plus "1:00  0:00" ∷
    badly plus "1:00\t0:00" ∷
    badly plus " 1:00 0:00" ∷
    badly plus "1:00 0:00 " ∷
    badly plus "1:00" ∷
    badly plus "1:00 " ∷
    badly plus "1:00 0:00 0:00" ∷
    badly plus "" ∷
    -- 21 only of two angles
    badly plus "359:59 0:1" ∷ []

worked-hold : map (λ (r : Worked). angled r.operation (bytes r.argument)) worked_rows ≡ map (λ (r : Worked). r.result) worked_rows
unfolding computing
worked-hold = refl

-- TABLES

abbrev characters : Bytes → Expression → Expression
characters [] e = e
characters (b ∷ bs) e = then_character b (characters bs e)

abbrev calls : Operation → Expression → Expression → Expression
calls op a e = then_call 0 (operation_name op) a e

-- `F { .. = .. }`
abbrev table : List Element → Expression → Table
table p e = function (70 ∷ []) (plain p e ∷ []) ∷ []

-- `F { e1 = <DmAdd e1> }`
abbrev adding : Table
adding = table all1 (calls plus (then_part x1 end) end)

-- `F { = <DmAdd '0:00 0:00'> }`, and with `'abc'` for a pattern
abbrev zeros : List Element → Table
zeros p = table p (calls plus (characters (bytes "0:00 0:00") end) end)

abbrev pattern : List Element
pattern = letter (character 97) ∷ letter (character 98) ∷ letter (character 99) ∷ []

-- `F { = <DmAdd <DmAdd '0:10 0:20'> ' ' <DmSub '1:00 0:30'>> 'z' }`
abbrev nested : Table
nested =
    table []
    (calls plus
    (calls plus (characters (bytes "0:10 0:20") end) (then_character 32 (calls minus (characters (bytes "1:00 0:30") end) end)))
    (then_character 122 end))

-- `F { = <EmitA 'z'> 'k' <DmAdd 'x'> }`
abbrev emitting : Table
emitting = table [] (then_call 0 (emit_name 65) (then_character 122 end) (then_character 107 (calls plus (then_character 120 end) end)))

-- `RecoverF { e1 = 'r' } RecoverDmAdd { e1 = 'r' }`
abbrev recovering : Table
recovering = map (λ n. function (recover_prefix ++ n) (plain all1 (then_character 114 end) ∷ [])) ((70 ∷ []) ∷ operation_name plus ∷ [])

abbrev zero : Result
zero = result 0 0 1 (1 ∷ []) (bytes "0:00") []

abbrev rows : List Row
rows =
    same adding (bytes "-0:30 0:45") most ample (result 0 0 1 (1 ∷ []) (bytes "0:15") []) ∷
    same adding (bytes "359:59 0:01") most ample (result 21 0 1 (1 ∷ []) [] []) ∷
    same adding (bytes "x") most ample (result 20 0 1 (1 ∷ []) [] []) ∷
    -- it is no step: one is enough for three calls, and it needs no frame
    same nested [] 1 (record { in_cells = 1000; out_cells = 1000; record_bytes = 0; frames = 1 }) (result 0 0 1 (1 ∷ []) (bytes "1:00z") []) ∷
    -- what was emitted and counted before it stays
    same emitting [] most ample (result 20 0 1 (1 ∷ []) [] (bytes "EmitA z\n")) ∷
    -- 20 is not recovered
    same (adding ++ recovering) (bytes "x") most ample (result 20 0 1 (1 ∷ []) [] []) ∷
    -- the argument goes over out and in like any other
    same (zeros []) [] most (cells 9 9) zero ∷
    short (zeros []) [] (cells 9 8) zero (result 14 0 1 (1 ∷ []) [] []) ∷
    short (zeros []) [] (cells 8 9) zero (result 13 0 1 (1 ∷ []) [] []) ∷
    short adding (bytes "x") (cells 1 0) (result 20 0 1 (1 ∷ []) [] []) (result 14 0 1 (1 ∷ []) [] []) ∷
    -- as last item it is no tail call: the rest of the field is passed after it
    same (zeros pattern) (bytes "abc") most (cells 12 9) zero ∷
    short (zeros pattern) (bytes "abc") (cells 11 9) zero (result 13 0 1 (1 ∷ []) [] []) ∷ []

rows-hold : AllHold rows
unfolding computing
rows-hold = refl

-- NAMES

spelled : map operation_name (plus ∷ minus ∷ []) ≡ map bytes ("DmAdd" ∷ "DmSub" ∷ [])
spelled = refl

operations : map operation (false ∷ true ∷ []) ≡ plus ∷ minus ∷ []
operations = refl

callings :
    map (λ (s : String). calling_of (bytes s)) ("DmAdd" ∷ "DmSub" ∷ "DmAd" ∷ "DmAdd2" ∷ "dmadd" ∷ "EmitDmAdd" ∷ [])
    ≡ as_angles plus ∷ as_angles minus ∷ as_function ∷ as_function ∷ as_function ∷ as_emission ∷ []
unfolding computing
callings = refl

names-hold :
    hold
    (row (bytes "F{e1=<DmAdd e1><DmSub e1>}") 7 22
    ∷ row (bytes "F{e1=<DmAdd e1><DmSub>}") 0 0
    ∷ row (bytes "DmAdd{=}") 5 0
    ∷ row (bytes "F{=}DmSub{=}") 5 4
    ∷ row (bytes "F{s1,<DmAdd s1>:'T'=}") 5 6
    ∷ row (bytes "F{=<DmAdd2>}") 8 4
    ∷ row (bytes "F{=<dmadd>}") 8 4
    ∷ row (bytes "DmAdd2{=}dmadd{=}RecoverDmAdd{=}") 0 0 ∷ [])
    ≡ true
unfolding hold
names-hold = refl
