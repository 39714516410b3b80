-- Worked rows of answers.
use mathlib.Core.Path.{◌≡◌, refl}
use mathlib.Core.Bool.{true, false}
use mathlib.Core.List.{[], ◌∷◌, map}
use Rattle.answers.specs.Numbers.{is_refusal}

-- 1 to 8 and 17 are answered without a run
pub refusals : map is_refusal (0 ∷ 1 ∷ 8 ∷ 9 ∷ 16 ∷ 17 ∷ 18 ∷ []) ≡ false ∷ true ∷ true ∷ false ∷ false ∷ true ∷ false ∷ []
refusals = refl
