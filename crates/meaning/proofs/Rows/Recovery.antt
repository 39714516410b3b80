-- Worked rows of recovery: 02, T-04.
use mathlib.Core.Path.{◌≡◌, refl}
use mathlib.Core.List.{List, [], ◌∷◌, ◌++◌, map}
use Rattle.meaning.specs.Choice.{Bytes, Name}
use Rattle.meaning.specs.Tree.{character, letter, Expression, end, then_character, then_part, then_call, Function, Table}
use Rattle.meaning.specs.Names.{recover_prefix, recoverer_of}
use Rattle.meaning.specs.Rewriting.{recoverer_at, rewrite}
use Rattle.meaning.specs.Runs.{run_endless}
use Rattle.meaning.specs.Translation.{translate}
use Rattle.meaning.proofs.Rows.Tables.{x1, all1, plain, function}
use Rattle.meaning.proofs.Rows.Starred.{Row, AllHold, ample, cells, most, result, same, short}
use Rattle.meaning.proofs.Rows.Edges.{framed}
use Rattle.meaning.proofs.Rows.Read.{bytes}
use Rattle.meaning.proofs.Rows.Computing.{computing}

abbrev name_x : Name
name_x = 88 ∷ []

abbrev name_y : Name
name_y = 89 ∷ []

abbrev recovers : Name → Name
recovers n = recover_prefix ++ n

-- `e1` and `'r' e1`
abbrev given : Expression
given = then_part x1 end

abbrev marked : Expression
marked = then_character 114 given

-- N `{ e1 = E }`
abbrev taking : Name → Expression → Function
taking n e = function n (plain all1 e ∷ [])

-- N `{ 'a' = }`, and N `{ 'c' = }`
abbrev only_a : Name → Function
only_a n = function n (plain (letter (character 97) ∷ []) end ∷ [])

abbrev only_c : Name → Function
only_c n = function n (plain (letter (character 99) ∷ []) end ∷ [])

-- `F { e1 = <N e1> E }`
abbrev calling : Name → Expression → Function
calling n e = taking (70 ∷ []) (then_call 0 n given e)

abbrev k : Expression
k = then_character 107 end

-- `X { 'a' = } RecoverX { e1 = 'r' e1 }`
abbrev pub table_x : Table
table_x = only_a name_x ∷ taking (recovers name_x) marked ∷ []

-- the text
abbrev b : Bytes
b = 98 ∷ []

abbrev rb : Bytes
rb = 114 ∷ 98 ∷ []

abbrev recoveries : List Row
recoveries =
    -- A STEP OF ITS OWN
    same table_x b most (cells 1 2) (result 0 0 2 (1 ∷ 1 ∷ []) rb []) ∷
    same table_x (97 ∷ []) most ample (result 0 0 1 (1 ∷ []) [] []) ∷
    -- X's failed application was the last that the allowance holds
    same table_x b 1 ample (result 12 0 1 (1 ∷ []) [] []) ∷
    -- "Answer 11 remains for the rest and names the function that failed last"
    same (only_a name_x ∷ only_c (recovers name_x) ∷ []) b most ample (result 11 2 2 (1 ∷ 1 ∷ []) [] []) ∷
    -- only X's own failure is recovered
    same (taking name_x (then_call 0 name_y given k) ∷ taking (recovers name_x) marked ∷ only_a name_y ∷ []) b most ample
    (result 11 3 2 (1 ∷ 0 ∷ 1 ∷ []) [] []) ∷
    -- WHICH NAMES
    -- Recovery, Recover and RecoverX have none, whatever is declared
    same (only_a (recovers (121 ∷ [])) ∷ taking (recovers (recovers (121 ∷ []))) marked ∷ []) b most ample
    (result 11 1 1 (1 ∷ []) [] []) ∷
    same (only_a (recovers []) ∷ taking (recovers (recovers [])) marked ∷ []) b most ample (result 11 1 1 (1 ∷ []) [] []) ∷
    same (only_a name_x ∷ only_c (recovers name_x) ∷ taking (recovers (recovers name_x)) marked ∷ []) b most ample
    (result 11 2 2 (1 ∷ 1 ∷ []) [] []) ∷
    -- RecoverX is applied like any function: as the start, and called
    same (taking (recovers name_x) marked ∷ only_a name_x ∷ []) b most ample (result 0 0 1 (1 ∷ []) rb []) ∷
    same (calling (recovers name_x) end ∷ table_x) b most ample (result 0 0 2 (1 ∷ 0 ∷ 1 ∷ []) rb []) ∷
    -- `recoverX` recovers nothing
    same (only_a name_x ∷ taking (114 ∷ 101 ∷ 99 ∷ 111 ∷ 118 ∷ 101 ∷ 114 ∷ name_x) marked ∷ []) b most ample
    (result 11 1 1 (1 ∷ []) [] []) ∷
    -- THE FRAME
    -- the start and a tail call with one frame; RecoverX may stand before X
    same table_x b most (framed 1) (result 0 0 2 (1 ∷ 1 ∷ []) rb []) ∷
    same (calling name_x end ∷ taking (recovers name_x) marked ∷ only_a name_x ∷ []) b most (framed 1)
    (result 0 0 3 (1 ∷ 1 ∷ 1 ∷ []) rb []) ∷
    -- any other call adds its own frame, and recovery none
    same (calling name_x k ∷ table_x) b most (framed 2) (result 0 0 3 (1 ∷ 1 ∷ 1 ∷ []) (114 ∷ 98 ∷ 107 ∷ []) []) ∷
    short (calling name_x k ∷ table_x) b (framed 1) (result 0 0 3 (1 ∷ 1 ∷ 1 ∷ []) (114 ∷ 98 ∷ 107 ∷ []) [])
    (result 15 0 1 (1 ∷ []) [] []) ∷
    -- X AGAIN
    -- `X { 'a' = } RecoverX { e1 = <X e1> }`
    same (only_a name_x ∷ taking (recovers name_x) (then_call 0 name_x given end) ∷ []) b 5 (framed 1)
    (result 12 0 5 (3 ∷ 2 ∷ []) [] []) ∷
    -- `X { 'a' = } RecoverX { e1 = <X 'a'> }`
    same (only_a name_x ∷ taking (recovers name_x) (then_call 0 name_x (then_character 97 end) end) ∷ []) b most (framed 1)
    (result 0 0 3 (2 ∷ 1 ∷ []) [] []) ∷ []

-- among X, RecoverX, Recover, RecoverRecover and RecoverRecoverX, X alone has a function that recovers it
abbrev names : List Name
names = name_x ∷ recovers name_x ∷ recovers [] ∷ recovers (recovers []) ∷ recovers (recovers name_x) ∷ []

recoverers : map (recoverer_of (map only_a names)) names ≡ 2 ∷ 0 ∷ 0 ∷ 0 ∷ 0 ∷ []
unfolding computing
recoverers = refl

-- functions are numbered from 1: number 0 has no sentence that fits, and no function that recovers it
from-number-zero : map (λ start. rewrite table_x start (97 ∷ []) most) (0 ∷ 1 ∷ []) ≡
    result 11 0 1 [] [] [] ∷ result 0 0 1 (1 ∷ []) [] [] ∷ []
unfolding computing
from-number-zero = refl

code-from-number-zero : map (λ start. run_endless (translate table_x) start (97 ∷ []) most) (0 ∷ 1 ∷ []) ≡
    result 11 0 1 [] [] [] ∷ result 0 0 1 (1 ∷ []) [] [] ∷ []
unfolding computing
code-from-number-zero = refl

unrecovered : map (recoverer_at table_x) (0 ∷ 1 ∷ 2 ∷ []) ≡ 0 ∷ 2 ∷ 0 ∷ []
unfolding computing
unrecovered = refl

prefix : recover_prefix ≡ bytes "Recover"
prefix = refl

pub recoveries-hold : AllHold recoveries
unfolding computing
recoveries-hold = refl
