-- A refusal's number is never that of an accepted text.
use mathlib.Core.Path.{◌≡◌, refl}
use mathlib.Core.Bool.{false}
use lib.Dec.{eqb}
use Rattle.answers.specs.declared.Refusal.{Refusal}
use Rattle.answers.specs.declared.Refusal.TheVariants.{TableTooLong, MalformedToken, NotAllowedHere, OverLimit}
use Rattle.answers.specs.declared.Refusal.TheVariants.{WrongName, WrongPatternVariable, WrongLaterVariable}
use Rattle.answers.specs.declared.Refusal.TheVariants.{UndeclaredName, BufferTooShort, NotTailCall}
use Rattle.answers.specs.Numbers.{refusal_number}

pub not-accepted : (refusal : Refusal) → eqb (refusal_number refusal) 0 ≡ false
not-accepted TableTooLong = refl
not-accepted MalformedToken = refl
not-accepted NotAllowedHere = refl
not-accepted OverLimit = refl
not-accepted WrongName = refl
not-accepted WrongPatternVariable = refl
not-accepted WrongLaterVariable = refl
not-accepted UndeclaredName = refl
not-accepted BufferTooShort = refl
not-accepted NotTailCall = refl
