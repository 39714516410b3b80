-- A move worked out: the argument 11 12 13 stands on out, with r behind it, and goes to below the sixth cell of in.
use Prim.Native.Nat.{ℕ}
use mathlib.Core.Path.{◌≡◌, refl}
use mathlib.Core.List.{[], ◌∷◌}
use Rattle.meaning.specs.Choice.{Bytes}
use Rattle.run_cells.specs.Moved.{moved}

abbrev after : ℕ → Bytes
after k = moved k (1 ∷ 2 ∷ 3 ∷ 4 ∷ 5 ∷ 6 ∷ 7 ∷ []) 5 (10 ∷ 11 ∷ 12 ∷ 13 ∷ 14 ∷ []) 4

-- in, after none of its bytes and after each of them
pub each-byte :
    after 0 ∷ after 1 ∷ after 2 ∷ after 3 ∷ [] ≡
    (1 ∷ 2 ∷ 3 ∷ 4 ∷ 5 ∷ 6 ∷ 7 ∷ []) ∷
    (1 ∷ 2 ∷ 3 ∷ 4 ∷ 13 ∷ 6 ∷ 7 ∷ []) ∷
    (1 ∷ 2 ∷ 3 ∷ 12 ∷ 13 ∷ 6 ∷ 7 ∷ []) ∷
    (1 ∷ 2 ∷ 11 ∷ 12 ∷ 13 ∷ 6 ∷ 7 ∷ []) ∷ []
each-byte = refl
