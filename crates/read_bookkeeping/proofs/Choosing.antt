-- Small laws of tests and choices.
use Prim.Native.Nat.{ℕ, suc}
use mathlib.Core.Path.{◌≡◌, refl}
use mathlib.Core.Bool.{Bool, true, false, not}
use native.Mathlib.Omega.{arith}
use mathlib.Core.List.{List, [], ◌∷◌, ◌++◌}
use lib.Dec.{T}
use Rattle.meaning.specs.Choice.{pick, both, every}
use Rattle.meaning.proofs.Laws.Passing.{both-pass}
use Rattle.meaning_accepting.proofs.Reading.Lists.{every_append as every-both}
use Rattle.meaning.specs.Reading.{fault_unless}
use Rattle.meaning_accepting.proofs.Reading.Basics.{passed}

pub every_append : {A : Type 0} (f : A → Bool) (xs ys : List A) → T (every f xs) → T (every f ys) → T (every f (xs ++ ys))
every_append f xs ys p q = rw (every-both f xs ys) (both-pass (every f xs) (every f ys) p q)

pub every_one : {A : Type 0} (f : A → Bool) (x : A) → T (f x) → T (every f (x ∷ []))
unfolding every
every_one f x p = both-pass (f x) true p tt

pub both_true : (b : Bool) → b ≡ both b true
both_true true = refl
both_true false = refl

pub both_false : (b : Bool) {c : Bool} → false ≡ c → false ≡ both b c
both_false true e = e
both_false false e = refl

-- an answer where a test holds, and where it doesn't
pub fault-if : (wrong : Bool) (number : ℕ) → pick wrong number 0 ≡ fault_unless (not wrong) number 0
fault-if true number = refl
fault-if false number = refl

pub fault-if-not : (right : Bool) (number : ℕ) → pick (not right) number 0 ≡ fault_unless right number 0
fault-if-not true number = refl
fault-if-not false number = refl

-- what was not refused was not wrong
pub not-refused : (wrong : Bool) (number : ℕ) → 0 ≡ pick wrong (suc number) 0 → wrong ≡ false
not-refused true number e = absurd (omega (arith, e))
not-refused false number e = refl

-- a test that has no fault passed
pub no-fault : (b : Bool) (number later : ℕ) → fault_unless b (suc number) later ≡ 0 → (b ≡ true) × (later ≡ 0)
no-fault b number later e = passed b (suc number) later (omega arith) e
