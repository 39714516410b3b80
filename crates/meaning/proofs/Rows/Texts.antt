-- The tables of 01's 'Runs to hold on to' are what their texts are read as, each as 01 prints it; and what the same tree means.
use Prim.Native.Nat.{ℕ}
use Prim.Native.String.{String}
use mathlib.Core.Path.{◌≡◌, refl}
use mathlib.Core.List.{List, [], ◌∷◌, map}
use Rattle.meaning.specs.Tree.{symbol, letter, part, end, then_character, then_symbol, then_part, then_call, Table, unplaced, unplaced_table}
use Rattle.meaning.specs.Reading.{read, accepted}
use Rattle.meaning.proofs.Rows.Read.{bytes, hold}
use Rattle.meaning.proofs.Rows.Tables.{x1, x2, plain, function, table_z, table_r, table_h, table_k, table_p, table_m}

pub record Row : Type 0 where
  pub text : String
  pub table : Table

abbrev pub reads : String → Table → Row
reads text table = record { text = text; table = table }

abbrev pub rows : List Row
rows =
    reads "F { '0' e1 = <F e1>; e1 = e1 }" table_z
    ∷ reads "G { s1 e2 = <G e2> s1; = }" table_r
    ∷ reads "H { e1 s2 e3, <IsDigit s2>: 'T' = s2 }" table_h
    ∷ reads "K { s1 e2 s1 e3 = e2 '|' e3 }" table_k
    ∷ reads "P { e1 = <Q 'ab' e1> } Q { e1 = e1 }" table_p
    ∷ reads "M { e1 = <EmitA <N e1>> <EmitB 'x'> } N { e1 = <EmitC e1> 'y' }" table_m
    ∷ []

pub texts-read : map (λ (r : Row). read (bytes r.text)) rows ≡ map (λ (r : Row). accepted r.table) rows
unfolding hold
texts-read = refl

-- `F { s1 e2 = 'x' <F s1 <G>> e2 <F> }`, with three places
abbrev called : ℕ → ℕ → ℕ → Table
called first second third =
    function (70 ∷ [])
    (plain (letter (symbol x1) ∷ part x2 ∷ [])
    (then_character 120
    (then_call first (70 ∷ []) (then_symbol x1 (then_call second (71 ∷ []) end end)) (then_part x2 (then_call third (70 ∷ []) end end))))
    ∷ [])
    ∷ []

-- the same tree means equal but for the places of called names
same-but-places : unplaced_table (called 18 24 32) ≡ called 0 0 0
unfolding unplaced
same-but-places = refl
