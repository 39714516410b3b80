-- Worked rows at the edges of 01: the allowance, the length, the middle place, full stacks, a full record, the frames, and what comes before what.
use Prim.Native.Nat.{ℕ}
use mathlib.Core.Path.{refl}
use mathlib.Core.Bool.{Bool, true, false}
use mathlib.Core.List.{List, [], ◌∷◌}
use lib.ListN.{take}
use Rattle.meaning.specs.Choice.{Bytes}
use Rattle.meaning.specs.Classes.{Class, digit, blank}
use Rattle.meaning.specs.Tree.{character, symbol, Element, letter, part, of_symbol, Expression, end, then_character, then_symbol, then_part}
use Rattle.meaning.specs.Tree.{then_call, Sentence, Table}
use Rattle.meaning.specs.Outcome.{Result}
use Rattle.meaning.specs.Runs.{Room}
use Rattle.meaning.proofs.Rows.Tables.{x1, x2, all1, plain, function, table_z, table_r, table_p, table_m}
use Rattle.meaning.proofs.Rows.Starred.{Row, AllHold, ample, cells, most, result, same, short, sixty, abc, lines}
use Rattle.meaning.proofs.Rows.Computing.{computing}

-- TABLES

-- `B { e1 'b' e2 'c' = e1 '|' e2 }`
abbrev table_b : Table
table_b =
    function (66 ∷ [])
    (plain (part x1 ∷ letter (character 98) ∷ part x2 ∷ letter (character 99) ∷ [])
    (then_part x1 (then_character 124 (then_part x2 end))) ∷ []) ∷ []

-- `X { e1 = 'x' e1 }`
abbrev table_x : Table
table_x = function (88 ∷ []) (plain all1 (then_character 120 (then_part x1 end)) ∷ []) ∷ []

-- `U { s1 = <V> s1 } V { = }`
abbrev table_u : Table
table_u =
    function (85 ∷ []) (plain (letter (symbol x1) ∷ []) (then_call 10 (86 ∷ []) end (then_symbol x1 end)) ∷ []) ∷
    function (86 ∷ []) (plain [] end ∷ []) ∷ []

-- `W { = <Emit> }`
abbrev table_w : Table
table_w = function (87 ∷ []) (plain [] (then_call 7 (69 ∷ 109 ∷ 105 ∷ 116 ∷ []) end end) ∷ []) ∷ []

-- `F { e1 = <G e1> 'k' } G { 'x' = }`
abbrev table_v : Table
table_v =
    function (70 ∷ []) (plain all1 (then_call 10 (71 ∷ []) (then_part x1 end) (then_character 107 end)) ∷ []) ∷
    function (71 ∷ []) (plain (letter (character 120) ∷ []) end ∷ []) ∷ []

-- `F { e1 = <G 'a'> } G { e1 = e1 }`
abbrev table_d : Table
table_d =
    function (70 ∷ []) (plain all1 (then_call 10 (71 ∷ []) (then_character 97 end) end) ∷ []) ∷
    function (71 ∷ []) (plain all1 (then_part x1 end) ∷ []) ∷ []

-- a sentence with one condition, on s1
abbrev asking : Class → Bool → List Element → Expression → Sentence
asking class expected p e =
    record { pattern = p; conditions = record { predicate = class; subject = of_symbol x1; expected = expected } ∷ []; expression = e }

-- `N { s1, <IsDigit s1>: 'F' = s1 }`
abbrev table_n : Table
table_n = function (78 ∷ []) (asking digit false (letter (symbol x1) ∷ []) (then_symbol x1 end) ∷ []) ∷ []

-- `F { s1 e2, <IsBlank s1>: 'T' = <F e2>; e1 = e1 }`
abbrev blanks_passed : Table
blanks_passed =
    function (70 ∷ [])
    (asking blank true (letter (symbol x1) ∷ part x2 ∷ []) (then_call 30 (70 ∷ []) (then_part x2 end) end) ∷
    plain all1 (then_part x1 end) ∷ []) ∷ []

-- `F { s1, <IsBlank s1>: 'F' = 'n'; s1 = 'b' }`
abbrev blank_or_not : Table
blank_or_not =
    function (70 ∷ [])
    (asking blank false (letter (symbol x1) ∷ []) (then_character 110 end) ∷ plain (letter (symbol x1) ∷ []) (then_character 98 end) ∷ []) ∷ []

-- ROOMS AND ROWS

-- the line of an emission of nothing, named Emit
abbrev nothing : Bytes
nothing = 69 ∷ 109 ∷ 105 ∷ 116 ∷ 32 ∷ 10 ∷ []

-- so many bytes of the record, and ample else
abbrev recording : ℕ → Room
recording bytes = record { in_cells = 1000; out_cells = 1000; record_bytes = bytes; frames = 256 }

-- so many frames, and ample else
abbrev pub framed : ℕ → Room
framed n = record { in_cells = 1000; out_cells = 1000; record_bytes = 1000; frames = n }

-- with so many steps, a row whose code stops for want of room where rewriting says something else
abbrev sooner : Table → Bytes → ℕ → Room → Result → Result → Row
sooner table text allowance room r stopped =
    record { table = table; text = text; allowance = allowance; room = room; rewritten = r; ran = stopped }

abbrev edges : List Row
edges =
    -- THE ALLOWANCE
    -- with no steps the start itself is past the allowance
    same table_z sixty 0 ample (result 12 0 0 [] [] []) ∷
    -- and with the largest allowance that there is
    same table_z sixty 4294967295 ample (result 0 0 3 (3 ∷ []) (54 ∷ 48 ∷ []) []) ∷
    -- an emission is no step: it is done after the last one
    same table_m (113 ∷ []) 2 ample (result 0 0 2 (1 ∷ 1 ∷ []) [] lines) ∷
    -- the application past the allowance comes before the emission that waits for it
    same table_m (113 ∷ []) 1 ample (result 12 0 1 (1 ∷ []) [] []) ∷
    -- the failed application counts, of the function that it is of
    same table_v (113 ∷ []) most ample (result 11 2 2 (1 ∷ 1 ∷ []) [] []) ∷
    -- THE LENGTH
    -- a pattern without an e-variable fits no longer and no shorter text
    same table_u (97 ∷ 98 ∷ []) most ample (result 11 1 1 (1 ∷ []) [] []) ∷
    same table_u [] most ample (result 11 1 1 (1 ∷ []) [] []) ∷
    -- THE MIDDLE PLACE
    -- it may touch the end template, and the start of the field
    same table_b abc most ample (result 0 0 1 (1 ∷ []) (97 ∷ 124 ∷ []) []) ∷
    same table_b (98 ∷ 99 ∷ []) most ample (result 0 0 1 (1 ∷ []) (124 ∷ []) []) ∷
    -- CONDITIONS
    -- what a condition with 'F' asks is that the byte is not of the class
    same table_n (47 ∷ []) most ample (result 0 0 1 (1 ∷ []) (47 ∷ []) []) ∷
    same table_n (48 ∷ []) most ample (result 11 1 1 (1 ∷ []) [] []) ∷
    -- BLANKS
    -- both line ends are blank, as blank and tab are, and the vertical tab is not
    same blanks_passed (10 ∷ 13 ∷ 11 ∷ 120 ∷ []) most ample (result 0 0 3 (3 ∷ []) (11 ∷ 120 ∷ []) []) ∷
    same blanks_passed (32 ∷ 9 ∷ 120 ∷ []) most ample (result 0 0 3 (3 ∷ []) (120 ∷ []) []) ∷
    same blank_or_not (13 ∷ []) most ample (result 0 0 1 (1 ∷ []) (98 ∷ []) []) ∷
    same blank_or_not (11 ∷ []) most ample (result 0 0 1 (1 ∷ []) (110 ∷ []) []) ∷
    -- FULL STACKS
    -- an empty part is no fault where out is full
    same table_x [] most (cells 0 1) (result 0 0 1 (1 ∷ []) (120 ∷ []) []) ∷
    same table_z [] most (cells 0 0) (result 0 0 1 (1 ∷ []) [] []) ∷
    -- an empty argument is no fault where in is full
    same table_u (97 ∷ []) most (cells 1 1) (result 0 0 2 (1 ∷ 1 ∷ []) (97 ∷ []) []) ∷
    -- what a tail call doesn't pass on is dropped before its argument is moved
    same table_d (120 ∷ []) most (cells 1 1) (result 0 0 2 (1 ∷ 1 ∷ []) (97 ∷ []) []) ∷
    -- THE FRAMES
    -- as many frames as there are calls one inside another, the start's among them
    same table_r (97 ∷ []) most (framed 2) (result 0 0 2 (2 ∷ []) (97 ∷ []) []) ∷
    short table_r (97 ∷ []) (framed 1) (result 0 0 2 (2 ∷ []) (97 ∷ []) []) (result 15 0 1 (1 ∷ []) [] []) ∷
    -- 12 comes before 15
    same table_r (97 ∷ []) 1 (framed 1) (result 12 0 1 (1 ∷ []) [] []) ∷
    -- of several needs that are passed the first is answered, with the steps from before it
    short table_r abc (framed 1) (result 0 0 4 (4 ∷ []) (99 ∷ 98 ∷ 97 ∷ []) []) (result 15 0 1 (1 ∷ []) [] []) ∷
    -- WHAT COMES FIRST
    -- the argument is written and moved before the call, so that 14 or 13 can come where rewriting says 12
    sooner table_p (99 ∷ []) 1 (cells 1000 1) (result 12 0 1 (1 ∷ []) [] []) (result 14 0 1 (1 ∷ []) [] []) ∷
    sooner table_p (99 ∷ []) 1 (cells 2 1000) (result 12 0 1 (1 ∷ []) [] []) (result 13 0 1 (1 ∷ []) [] []) ∷
    -- THE RECORD
    -- three lines of eight bytes fit 24
    same table_m (113 ∷ []) most (recording 24) (result 0 0 2 (1 ∷ 1 ∷ []) [] lines) ∷
    -- where one byte is missing, nothing of the line is written
    short table_m (113 ∷ []) (recording 23) (result 0 0 2 (1 ∷ 1 ∷ []) [] lines) (result 16 0 2 (1 ∷ 1 ∷ []) [] (take 16 lines)) ∷
    -- an emission of nothing needs its name and two bytes
    same table_w [] most (recording 6) (result 0 0 1 (1 ∷ []) [] nothing) ∷
    short table_w [] (recording 5) (result 0 0 1 (1 ∷ []) [] nothing) (result 16 0 1 (1 ∷ []) [] []) ∷ []

pub edges-hold : AllHold edges
unfolding computing
edges-hold = refl
