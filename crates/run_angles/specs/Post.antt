-- What the functions on angles hand back, against meaning's definitions.
use Rattle.std.specs.Prelude.{ℕ, zero, suc, ◌+◌, ◌*◌, ◌≤◌, ◌≡◌, Bool, true, false, [], ◌∷◌, ℤ, ◌+ℤ◌, length, take, drop}
use Rattle.std.specs.Prelude.{Option, Some, None, Result, Ok, Err}
use Rattle.std.proofs.Math.Option.{Option as Maybe, none, some}
use Rattle.meaning.specs.Choice.{Bytes}
use Rattle.meaning.specs.Angles.{Operation, cut_before, cut_after, signed, angle_in, Angled as Meant, sum, not_angles}
use Rattle.meaning.specs.Angles.{out_of_range, worked, max_minutes}
use Rattle.meaning.specs.Leaving.{over}
use Rattle.run_angles.specs.declared.Minutes.{Minutes}
use Rattle.run_angles.specs.declared.AngleFault.{AngleFault}
use Rattle.run_angles.specs.declared.AngleFault.TheVariants.{NotAngles, OutOfRange}

-- a text cut at a place: before it stands no such byte, and there stands one or the text ends
pub record Cut (byte : ℕ) (text : Bytes) (at : ℕ) : Type 0 where
  pub within : at ≤ length text
  pub before : cut_before byte text ≡ take at text
  pub after : cut_after byte text ≡ drop (at + 1) text

abbrev pub number_read : Maybe ℕ → Option ℕ
number_read none = None
number_read (some n) = Some n

abbrev pub value_of : Option Minutes → Maybe ℤ
value_of (Some m) = some (signed m.below m.size)
value_of None = none

abbrev pub size_of : Option Minutes → ℕ
size_of (Some m) = m.size
size_of None = 0

-- the angle that a text is
pub record AngleFound (text : Bytes) (r : Option Minutes) : Type 0 where
  pub value : value_of r ≡ angle_in text
  pub low : size_of r ≤ max_minutes

-- the sum of two values
pub record Total (first second r : Minutes) : Type 0 where
  pub value : signed r.below r.size ≡ signed first.below first.size +ℤ signed second.below second.size
  pub low : r.size ≤ 2 * max_minutes

-- their sum or difference
pub record Worked (op : Operation) (first second r : Minutes) : Type 0 where
  pub value : signed r.below r.size ≡ worked op (signed first.below first.size) (signed second.below second.size)
  pub low : r.size ≤ 2 * max_minutes

-- the most digits of an angle's degrees
abbrev pub degree_digits : ℕ
degree_digits = 3

-- a sign is written only below zero
abbrev pub dash : ℕ
dash = 45

abbrev pub sign_text : Bool → ℕ → Bytes
sign_text below zero = []
sign_text false (suc n) = []
sign_text true (suc n) = dash ∷ []

-- what a call hands back, and what it leaves in the lent bytes
pub record Left : Type 0 where
  pub answer : Result ℕ AngleFault
  pub result : Bytes

abbrev pub left_with : Result ℕ AngleFault → Bytes → Left
left_with answer result = record { answer = answer; result = result }

abbrev pub leaves : Meant → Bytes → Left
leaves (sum text) old = left_with (Ok (length text)) (over text old)
leaves not_angles old = left_with (Err NotAngles) old
leaves out_of_range old = left_with (Err OutOfRange) old
