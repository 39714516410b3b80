-- A list from a place on.
use Prim.Native.Nat.{ℕ, ◌+◌, ◌≤◌, ◌<◌}
use native.Mathlib.Numerals.{add-one}
use mathlib.Core.Path.{◌≡◌}
use mathlib.Core.List.{List, [], ◌∷◌}
use lib.ListN.{length, get_or, drop, drop_of_length-le}
use lib.Seq.{drop-cons}

-- it is the element there, and the list from the next place on
pub at_place : (l : List ℕ) (i : ℕ) → i < length l → drop i l ≡ get_or l i 0 ∷ drop (i + 1) l
at_place l i h = rw (add-one, drop-cons l i 0)

pub past_end : (l : List ℕ) (i : ℕ) → length l ≤ i → drop i l ≡ []
past_end l i h = drop_of_length-le l h
