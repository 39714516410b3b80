-- Worked rows of endings that stay where they are: 02, T-07. Runs with the cells that they need and with one cell of out fewer, the earlier code with
-- the same cells, and tables whose code is the earlier one.
use mathlib.Core.Path.{◌≡◌, refl}
use mathlib.Core.List.{List, [], ◌∷◌, map}
use Rattle.meaning.specs.Choice.{Bytes}
use Rattle.meaning.specs.Tree.{character, symbol, Element, letter, part, Expression, end, then_character, then_part, then_call, Table}
use Rattle.meaning.specs.Outcome.{Result}
use Rattle.meaning.specs.Runs.{run_lent}
use Rattle.meaning.specs.Translation.{translate}
use Rattle.meaning.specs.Earlier.{earlier_items, earlier_sentences, earlier_translation}
use Rattle.meaning.proofs.Rows.Tables.{x1, x2, all1, plain, function, emit_name, table_z}
use Rattle.meaning.proofs.Rows.Starred.{Row, AllHold, cells, most, result, same, short, sixty}
use Rattle.meaning.proofs.Rows.Computing.{computing}

-- TABLES

-- `F {` a pattern `=` an expression `} G { e1 = }`
abbrev with_g : List Element → Expression → Table
with_g p e = function (70 ∷ []) (plain p e ∷ []) ∷ function (71 ∷ []) (plain all1 end ∷ []) ∷ []

-- `<G` an argument `>`, and what comes after it
abbrev call_g : Expression → Expression → Expression
call_g a e = then_call 0 (71 ∷ []) a e

abbrev given : Expression
given = then_part x1 end

-- `e1 'b' e2`
abbrev round-b : List Element
round-b = part x1 ∷ letter (character 98) ∷ part x2 ∷ []

-- `F { e1 = <G e1> }`
abbrev alone : Table
alone = with_g all1 (call_g given end)

-- `F { e1 'b' e2 = <G e1 'x' e2> }`
abbrev second : Table
second = with_g round-b (call_g (then_part x1 (then_character 120 (then_part x2 end))) end)

-- `F { e1 = 'x' <G e1> }`
abbrev after-item : Table
after-item = with_g all1 (then_character 120 (call_g given end))

-- `F { s1 e2 = <G 'abc' e2> }`
abbrev longer : Table
longer =
    with_g (letter (symbol x1) ∷ part x2 ∷ []) (call_g (then_character 97 (then_character 98 (then_character 99 (then_part x2 end)))) end)

-- ROWS

abbrev ab : Bytes
ab = 97 ∷ 98 ∷ []

abbrev abcd : Bytes
abcd = 97 ∷ 98 ∷ 99 ∷ 100 ∷ []

-- F and G were applied, and this is the text
abbrev gives : Bytes → Result
gives text = result 0 0 2 (1 ∷ 1 ∷ []) text []

-- out had no cell in the first application
abbrev out_full : Result
out_full = result 14 0 1 (1 ∷ []) [] []

abbrev sixty_left : Result
sixty_left = result 0 0 3 (3 ∷ []) (54 ∷ 48 ∷ []) []

abbrev endings : List Row
endings =
    -- "Z on `0060` then needs 2 cells of out, not 3"
    same table_z sixty most (cells 4 2) sixty_left ∷
    short table_z sixty (cells 4 1) sixty_left (result 14 0 3 (3 ∷ []) [] []) ∷
    -- nothing goes to out
    same alone ab most (cells 2 0) (gives []) ∷
    -- only the items before it do
    same second abcd most (cells 4 2) (gives []) ∷
    short second abcd (cells 4 1) (gives []) out_full ∷
    same after-item ab most (cells 2 1) (gives (120 ∷ [])) ∷
    short after-item ab (cells 2 0) (gives (120 ∷ [])) out_full ∷
    -- another room may be passed first
    short longer (120 ∷ 121 ∷ 122 ∷ []) (cells 4 3) (gives []) (result 13 0 1 (1 ∷ []) [] []) ∷ []

endings-hold : AllHold endings
unfolding computing
endings-hold = refl

-- the earlier code has no cell of out for the part
earlier-endings :
    map (λ (r : Row). run_lent r.room (earlier_translation r.table) 1 r.text r.allowance) endings
    ≡ out_full ∷ out_full ∷ out_full ∷ out_full ∷ out_full ∷ out_full ∷ out_full ∷ out_full ∷ []
unfolding computing earlier_items earlier_sentences
earlier-endings = refl

-- THE EARLIER CODE

abbrev unchanged : List Table
unchanged =
    -- a template after the part: `F { 'a' e1 'd' = <G 'xy' e1> }`
    with_g (letter (character 97) ∷ part x1 ∷ letter (character 100) ∷ []) (call_g (then_character 120 (then_character 121 given)) end) ∷
    -- an item after it: `F { e1 = <G e1 'xy'> }`
    with_g all1 (call_g (then_part x1 (then_character 120 (then_character 121 end))) end) ∷
    -- the first of two: `F { e1 'b' e2 = <G e1> }`
    with_g round-b (call_g given end) ∷
    -- inside a call that ends the argument: `F { e1 = <G <G e1>> }`
    with_g all1 (call_g (call_g given end) end) ∷
    -- no tail call: `F { e1 = <G e1> 'x' }`
    with_g all1 (call_g given (then_character 120 end)) ∷
    -- an emission: `F { e1 = <EmitA e1> }`
    with_g all1 (then_call 0 (emit_name 65) given end) ∷ []

as_before : map translate unchanged ≡ map earlier_translation unchanged
unfolding computing earlier_items earlier_sentences
as_before = refl
