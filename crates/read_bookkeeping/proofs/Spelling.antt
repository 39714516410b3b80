-- Names compared as slices are, byte by byte.
use mathlib.Core.Path.{◌≡◌, refl}
use mathlib.Core.Bool.{Bool, true, false, ◌&&◌}
use mathlib.Core.List.{[], ◌∷◌}
use lib.Dec.{eqb}
use Rattle.std.specs.Prelude.{nat_eq}
use Rattle.std.specs.Cmp.Lexicographic.{pointwise}
use Rattle.meaning.specs.Choice.{Bytes, both, same_bytes}

pub spelled : (xs ys : Bytes) → pointwise nat_eq xs ys ≡ same_bytes xs ys
unfolding same_bytes
spelled [] [] = refl
spelled [] (y ∷ ys) = refl
spelled (x ∷ xs) [] = refl
spelled (x ∷ xs) (y ∷ ys) = chosen (eqb x y) (spelled xs ys)
  where
    chosen : (first : Bool) → pointwise nat_eq xs ys ≡ same_bytes xs ys → (first && pointwise nat_eq xs ys) ≡ both first (same_bytes xs ys)
    chosen true e = e
    chosen false e = refl
