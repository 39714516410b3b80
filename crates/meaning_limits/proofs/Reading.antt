-- Worked rows of reading at the limits of a table: its bytes, its sentences, its functions.
use Prim.Native.Nat.{ℕ, zero, suc}
use mathlib.Core.Path.{◌≡◌, refl}
use mathlib.Core.Bool.{true}
use mathlib.Core.List.{[], ◌∷◌, ◌++◌}
use Rattle.meaning.specs.Choice.{Bytes}
use Rattle.meaning.specs.Listing.{decimal}
use Rattle.meaning.proofs.Rows.Read.{bytes, again, row, hold}

-- so many functions with different names, A and the numbers from one on
abbrev many_functions : ℕ → ℕ → Bytes
many_functions zero i = []
many_functions (suc n) i = 65 ∷ (decimal i ++ (bytes "{=}" ++ many_functions n (suc i)))

-- limits stand at the token that passes them
counts :
    hold
    (row (bytes "F{" ++ (again 512 "=;" ++ bytes "}")) 0 0
    ∷ row (bytes "F{" ++ (again 512 "=;" ++ bytes "=}")) 4 1026
    ∷ row (bytes "F{" ++ (again 512 "=;" ++ bytes ";}")) 3 1026
    ∷ row (bytes "F{" ++ (again 512 "=;" ++ bytes "x=}")) 3 1026
    ∷ row (bytes "F{" ++ (again 512 "=;" ++ bytes "'a")) 2 1026
    ∷ row (bytes "F{" ++ (again 256 "=;" ++ (bytes "}G{" ++ (again 256 "=;" ++ bytes "}")))) 0 0
    ∷ row (bytes "F{" ++ (again 256 "=;" ++ (bytes "}G{" ++ (again 256 "=;" ++ bytes ",}")))) 4 1029
    ∷ row (many_functions 64 0) 0 0
    ∷ row (many_functions 64 0 ++ bytes "A") 4 374
    ∷ row (many_functions 64 0 ++ bytes "{") 3 374
    ∷ [])
    ≡ true
unfolding hold
counts = refl

-- "table over 32,768 bytes; place 0"
longest : hold (row (again 32768 " ") 0 0 ∷ row (again 32769 " ") 1 0 ∷ row (again 32769 "'") 1 0 ∷ []) ≡ true
unfolding hold
longest = refl
