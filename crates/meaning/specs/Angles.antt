-- Degrees and minutes: 02, T-08. "The argument is two angles with one byte 32 between. An angle is an optional `-`, one
-- to three degree digits up to 359, `:`, two minute digits 00 to 59. The result is the exact sum or difference (first
-- less second) in minutes, written as an angle without leading zeros in the degrees and never as `-0:00`."
use Rattle.std.specs.Prelude.{ℕ, suc, ◌+◌, ◌*◌, ◌/◌, ◌%◌, Bool, true, false, [], ◌∷◌, ◌++◌, leb, eqb, ℤ, pos, negsuc, neg_ℤ, nat_abs, ◌+ℤ◌, ◌-ℤ◌}
use Rattle.std.specs.Prelude.{length}
use Rattle.std.proofs.Math.Option.{Option, none, some}
use Rattle.meaning.specs.Choice.{Bytes, pick, both, guard, every}
use Rattle.meaning.specs.Ascii.{space, hyphen, colon}
use Rattle.meaning.specs.Classes.{in_class, digit, within}
use Rattle.meaning.specs.Numerals.{decimal, two_digits, numeral_from}

-- DmAdd and DmSub
pub data Operation : Type 0 where
  plus minus : Operation

-- an operation by whether it subtracts
abbrev pub operation : Bool → Operation
operation false = plus
operation true = minus

-- "degree digits up to 359", "minute digits 00 to 59"
abbrev pub max_degrees : ℕ
max_degrees = 359

abbrev pub last_minute : ℕ
last_minute = 59

abbrev pub minutes_in_degree : ℕ
minutes_in_degree = 60

-- READING

-- the bytes before the first of a value, and those after it; where there is none, all are before it and nothing after
unfoldable pub cut_before : ℕ → Bytes → Bytes
cut_before b [] = []
cut_before b (c ∷ cs) = pick (eqb c b) [] (c ∷ cut_before b cs)

unfoldable pub cut_after : ℕ → Bytes → Bytes
cut_after b [] = []
cut_after b (c ∷ cs) = pick (eqb c b) cs (cut_after b cs)

-- a number of so many digits, from the first count to the second, and up to the greatest
abbrev pub numeral_in : ℕ → ℕ → ℕ → Bytes → Option ℕ
numeral_in least most greatest ds =
    guard (both (within least most (length ds)) (both (every (in_class digit) ds) (leb (numeral_from 0 ds) greatest)))
    (some (numeral_from 0 ds))

abbrev pub minutes_of : Option ℕ → Option ℕ → Option ℕ
minutes_of (some d) (some m) = some (minutes_in_degree * d + m)
minutes_of (some d) none = none
minutes_of none m = none

-- degrees and minutes in minutes
abbrev pub size_in : Bytes → Option ℕ
size_in text =
    minutes_of (numeral_in 1 3 max_degrees (cut_before colon text)) (numeral_in 2 2 last_minute (cut_after colon text))

abbrev pub signed : Bool → ℕ → ℤ
signed true n = neg_ℤ (pos n)
signed false n = pos n

abbrev pub with_sign : Bool → Option ℕ → Option ℤ
with_sign below none = none
with_sign below (some n) = some (signed below n)

abbrev pub angle_in : Bytes → Option ℤ
angle_in [] = none
angle_in (b ∷ text) = pick (eqb b hyphen) (with_sign true (size_in text)) (with_sign false (size_in (b ∷ text)))

-- WRITING

abbrev pub size_text : ℕ → Bytes
size_text n = decimal (n / minutes_in_degree) ++ colon ∷ two_digits (n % minutes_in_degree)

abbrev pub angle_text : ℤ → Bytes
angle_text (pos n) = size_text n
angle_text (negsuc n) = hyphen ∷ size_text (suc n)

-- THE CALL

-- what a call comes to: a text, or one of two faults
pub data Angled : Type 0 where
  sum : Bytes → Angled
  not_angles out_of_range : Angled

abbrev pub worked : Operation → ℤ → ℤ → ℤ
worked plus x y = x +ℤ y
worked minus x y = x -ℤ y

-- 359:59
abbrev pub max_minutes : ℕ
max_minutes = minutes_in_degree * max_degrees + last_minute

-- "result beyond 359:59 either way"
abbrev pub in_range : ℤ → Angled
in_range x = pick (leb (nat_abs x) max_minutes) (sum (angle_text x)) out_of_range

abbrev pub angled_of : Operation → Option ℤ → Option ℤ → Angled
angled_of op (some x) (some y) = in_range (worked op x y)
angled_of op (some x) none = not_angles
angled_of op none y = not_angles

-- the two angles stand on both sides of the first byte 32
abbrev pub angled : Operation → Bytes → Angled
angled op text = angled_of op (angle_in (cut_before space text)) (angle_in (cut_after space text))
