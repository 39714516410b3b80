-- Packed code, word by word: the example of docs/CODE.md, and four more tables with the instructions that it lacks.
use mathlib.Core.Path.{◌≡◌, refl}
use mathlib.Core.List.{[], ◌∷◌, map}
use Rattle.meaning.specs.Tree.{Table}
use Rattle.meaning.specs.Translation.{translate}
use Rattle.meaning.specs.Packing.{Words, pack}
use Rattle.meaning.proofs.Rows.Tables.{table_z, table_r, table_h, table_k, table_m}
use Rattle.meaning.proofs.Rows.Recovery.{table_x}
use Rattle.meaning.proofs.Rows.Computing.{computing}

-- R `G { s1 e2 = <G e2> s1; = }`
abbrev pub words_r : Words
words_r =
    1 ∷ 2 ∷
    273 ∷ 721152 ∷ 4 ∷ 10 ∷ 65541 ∷ 16777478 ∷ 7 ∷ 11 ∷ 6 ∷ 268 ∷ 9 ∷ 5 ∷ 15 ∷
    16 ∷ 131072 ∷ 261 ∷ 15 ∷
    19 ∷ []

-- Z `F { '0' e1 = <F e1>; e1 = e1 }`, with a tail call
abbrev words_z : Words
words_z =
    1 ∷ 2 ∷
    273 ∷ 458753 ∷ 805306369 ∷ 10 ∷ 65541 ∷ 11 ∷ 16777478 ∷ 269 ∷ 15 ∷
    17 ∷ 327680 ∷ 5 ∷ 262 ∷ 7 ∷ 5 ∷ 15 ∷
    19 ∷ []

-- `H { e1 s2 e3, <IsDigit s2>: 'T' = s2 }`
abbrev words_h : Words
words_h = 1 ∷ 2 ∷ 65554 ∷ 327937 ∷ 1539 ∷ 516 ∷ 9 ∷ 261 ∷ 15 ∷ 19 ∷ []

-- `K { s1 e2 s1 e3 = e2 '|' e3 }`
abbrev words_k : Words
words_k =
    1 ∷ 2 ∷ 65810 ∷ 721153 ∷ 2050 ∷ 4 ∷ 65541 ∷ 16777734 ∷ 7 ∷ 31752 ∷ 65541 ∷ 16777990 ∷ 7 ∷ 5 ∷ 15 ∷ 19 ∷ []

-- `M { e1 = <EmitA <N e1>> <EmitB 'x'> } N { e1 = <EmitC e1> 'y' }`
abbrev words_m : Words
words_m =
    2 ∷ 3 ∷ 34 ∷
    17 ∷ 1835008 ∷ 10 ∷ 10 ∷ 5 ∷ 262 ∷ 7 ∷ 11 ∷ 6 ∷ 524 ∷ 11 ∷ 6 ∷ 1294 ∷ 69 ∷ 109 ∷ 105 ∷ 116 ∷ 65 ∷
    10 ∷ 30728 ∷ 11 ∷ 6 ∷ 1294 ∷ 69 ∷ 109 ∷ 105 ∷ 116 ∷ 66 ∷ 5 ∷ 15 ∷ 19 ∷
    17 ∷ 983040 ∷ 10 ∷ 5 ∷ 262 ∷ 7 ∷ 11 ∷ 6 ∷ 1294 ∷ 69 ∷ 109 ∷ 105 ∷ 116 ∷ 67 ∷ 30984 ∷ 5 ∷ 15 ∷ 19 ∷ []

-- `X { 'a' = } RecoverX { e1 = 'r' e1 }`: the word that ends X has the number 2
abbrev words_x : Words
words_x =
    2 ∷ 3 ∷ 9 ∷
    272 ∷ 196609 ∷ 1627389953 ∷ 261 ∷ 15 ∷ 531 ∷
    17 ∷ 393216 ∷ 29192 ∷ 5 ∷ 262 ∷ 7 ∷ 5 ∷ 15 ∷ 19 ∷ []

pub packed : map (λ (t : Table). pack (translate t)) (table_r ∷ table_z ∷ table_h ∷ table_k ∷ table_m ∷ table_x ∷ [])
    ≡ words_r ∷ words_z ∷ words_h ∷ words_k ∷ words_m ∷ words_x ∷ []
unfolding computing
packed = refl
