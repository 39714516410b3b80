-- Elements of lists: `nth` beside `get_or`.
use Prim.Native.Nat.{ℕ, zero, suc, ◌≤◌, ◌<◌}
use native.Mathlib.Nat.{le_of_suc-le-suc, not-suc-le-zero}
use native.Mathlib.Omega.{arith}
use mathlib.Core.Path.{◌≡◌, refl, sym}
use mathlib.Core.List.{List, [], ◌∷◌}
use mathlib.Core.Option.{none, some}
use lib.ListN.{length, get_or}
use denote.Ref.{Bor}
use Rattle.std.specs.Option.{option_copied}
use Rattle.std.specs.Prelude.{Option as Maybe, Some, None}
use Rattle.std.specs.Slice.{IsItemAt}
use Rattle.run_code_places.specs.Options.{option_meant}
use Rattle.meaning.specs.Choice.{nth}

pub nth_in : (l : List ℕ) (i : ℕ) → i < length l → nth i l ≡ some (get_or l i 0)
unfolding nth
nth_in [] i h = absurd (not-suc-le-zero h)
nth_in (x ∷ l) zero h = refl
nth_in (x ∷ l) (suc i) h = nth_in l i (le_of_suc-le-suc h)

pub nth-out : (l : List ℕ) (i : ℕ) → length l ≤ i → nth i l ≡ none
unfolding nth
nth-out [] i h = refl
nth-out (x ∷ l) zero h = absurd (not-suc-le-zero h)
nth-out (x ∷ l) (suc i) h = nth-out l i (le_of_suc-le-suc h)

-- the element that a slice lends
pub item_found : (l : List ℕ) (i : ℕ) (r : Maybe (Bor ℕ)) → IsItemAt l i r → option_meant (option_copied r) ≡ nth i l
item_found l i None h = sym (nth-out l i h.3)
item_found l i (Some x) h = rw (h.4 (omega arith) 0) (sym (nth_in l i h.3.0))
