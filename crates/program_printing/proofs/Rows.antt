-- Worked rows of what is printed.
use mathlib.Core.Path.{◌≡◌, refl}
use mathlib.Core.List.{[], ◌∷◌, ◌++◌}
use Rattle.program_printing.specs.Texts.{numeral_of, numeral, refusal_text, result_text, profile_lines, profile_text}

pub numerals : (numeral 0 ≡ 48 ∷ []) × (numeral 10 ≡ 49 ∷ 48 ∷ []) × (numeral 100000 ≡ 49 ∷ 48 ∷ 48 ∷ 48 ∷ 48 ∷ 48 ∷ [])
unfolding numeral_of
numerals = (refl, refl, refl)

-- `F{e1 '' e2=}`: "6 8" and a line end
pub refusal-row : refusal_text 6 8 ≡ 54 ∷ 32 ∷ 56 ∷ 10 ∷ []
unfolding numeral_of
refusal-row = refl

-- "R on `abc` prints `0 0 4` and `cba`"; "R on `abc` adds `1 G 4` and `total 4`"
pub result_row : result_text 0 0 4 [] (99 ∷ 98 ∷ 97 ∷ []) ++ profile_text ((71 ∷ []) ∷ []) (4 ∷ 0 ∷ []) 4 ≡
    48 ∷ 32 ∷ 48 ∷ 32 ∷ 52 ∷ 10 ∷ 99 ∷ 98 ∷ 97 ∷ 10 ∷
    49 ∷ 32 ∷ 71 ∷ 32 ∷ 52 ∷ 10 ∷
    116 ∷ 111 ∷ 116 ∷ 97 ∷ 108 ∷ 32 ∷ 52 ∷ 10 ∷ []
unfolding numeral_of profile_lines
result_row = refl

-- the emissions come before the result
pub emissions-row : result_text 11 2 3 (69 ∷ 32 ∷ 10 ∷ []) [] ≡ 49 ∷ 49 ∷ 32 ∷ 50 ∷ 32 ∷ 51 ∷ 10 ∷ 69 ∷ 32 ∷ 10 ∷ 10 ∷ []
unfolding numeral_of
emissions-row = refl

-- functions in the order of the table, each with its own count; one that is never applied has 0
pub profile-row : profile_text ((70 ∷ []) ∷ (71 ∷ []) ∷ []) (2 ∷ 0 ∷ 0 ∷ []) 2 ≡
    49 ∷ 32 ∷ 70 ∷ 32 ∷ 50 ∷ 10 ∷ 50 ∷ 32 ∷ 71 ∷ 32 ∷ 48 ∷ 10 ∷ 116 ∷ 111 ∷ 116 ∷ 97 ∷ 108 ∷ 32 ∷ 50 ∷ 10 ∷ []
unfolding numeral_of profile_lines
profile-row = refl
