-- Worked rows of words that no table's tape has. The word 2817 opens a call of a name of one byte at place 2, 1280 closes one.
use Prim.Native.Nat.{ℕ}
use mathlib.Core.Path.{◌≡◌, refl}
use mathlib.Core.List.{List, [], ◌∷◌, map}
use Rattle.meaning.specs.Choice.{same_bytes, starts_with}
use Rattle.std.specs.Prelude.{Option, None, Some}
use Rattle.tape_flatness.specs.Scanned.{scanned_calls, nested_call}

pub record Row : Type 0 where
  pub words : List ℕ
  pub found : Option ℕ

abbrev row : List ℕ → Option ℕ → Row
row words found = record { words = words; found = found }

abbrev rows : List Row
rows =
    row [] None ∷
    -- an item follows a call, of each kind; a condition, `=`, `>`, `;`, `}` and a function's word are none
    row (2817 ∷ 70 ∷ 1280 ∷ 767 ∷ []) (Some 2) ∷
    row (2817 ∷ 70 ∷ 1280 ∷ 768 ∷ []) None ∷
    row (2817 ∷ 70 ∷ 1280 ∷ 2303 ∷ []) None ∷
    row (2817 ∷ 70 ∷ 1280 ∷ 2304 ∷ []) (Some 2) ∷
    -- no other word closes a call
    row (2817 ∷ 70 ∷ 1281 ∷ 120 ∷ []) None ∷
    -- a call that is never closed, and one closed with none open
    row (2817 ∷ 70 ∷ 2560 ∷ []) (Some 1) ∷
    row (1280 ∷ 120 ∷ 2817 ∷ 70 ∷ 1280 ∷ 120 ∷ []) (Some 2) ∷
    -- words of a name neither open nor close a call
    row (2818 ∷ 1280 ∷ 2560 ∷ 1280 ∷ []) None ∷
    row (2818 ∷ 1280 ∷ 2560 ∷ 1280 ∷ 120 ∷ []) (Some 2) ∷
    -- a name that runs past the last word; its first four bytes make an emission
    row (2817 ∷ 70 ∷ 2309 ∷ 69 ∷ 109 ∷ 105 ∷ 116 ∷ []) None ∷
    row (2817 ∷ 70 ∷ 2309 ∷ 69 ∷ 109 ∷ 105 ∷ []) (Some 0) ∷
    -- DmAdd, DmSub, and a name that goes on after it
    row (2817 ∷ 70 ∷ 2309 ∷ 68 ∷ 109 ∷ 65 ∷ 100 ∷ 100 ∷ []) None ∷
    row (2817 ∷ 70 ∷ 2309 ∷ 68 ∷ 109 ∷ 83 ∷ 117 ∷ 98 ∷ []) None ∷
    row (2817 ∷ 70 ∷ 2310 ∷ 68 ∷ 109 ∷ 65 ∷ 100 ∷ 100 ∷ 50 ∷ []) (Some 0) ∷
    -- the leftmost, whichever is found first
    row (2561 ∷ 70 ∷ 2817 ∷ 71 ∷ 1280 ∷ 1280 ∷ 120 ∷ []) (Some 1) ∷
    row (2817 ∷ 70 ∷ 2561 ∷ 71 ∷ 1280 ∷ 1280 ∷ 120 ∷ []) (Some 1) ∷ []

pub scanned-rows : map (λ (r : Row). nested_call r.words) rows ≡ map (λ (r : Row). r.found) rows
unfolding scanned_calls same_bytes starts_with
scanned-rows = refl
