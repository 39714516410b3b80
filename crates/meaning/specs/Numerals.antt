-- Decimal numbers as bytes.
use Rattle.std.specs.Prelude.{ℕ, ◌+◌, ◌*◌, ◌-◌, ◌/◌, ◌%◌, [], ◌∷◌, ltb}
use Rattle.meaning.specs.Choice.{Bytes, pick}
use Rattle.meaning.specs.Ascii.{digit_zero}

-- the digits of a number below 1,000, with no leading zeros
abbrev pub decimal : ℕ → Bytes
decimal c =
    pick (ltb c 10) ((digit_zero + c) ∷ [])
    (pick (ltb c 100) ((digit_zero + c / 10) ∷ (digit_zero + c % 10) ∷ [])
    ((digit_zero + c / 100) ∷ (digit_zero + c / 10 % 10) ∷ (digit_zero + c % 10) ∷ []))

-- the two digits of a number below 100
abbrev pub two_digits : ℕ → Bytes
two_digits n = (digit_zero + n / 10) ∷ (digit_zero + n % 10) ∷ []

-- the number that digits stand for, read on from what the digits before them gave
unfoldable pub numeral_from : ℕ → Bytes → ℕ
numeral_from n [] = n
numeral_from n (b ∷ bs) = numeral_from (10 * n + (b - digit_zero)) bs
