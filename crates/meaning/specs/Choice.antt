-- Choosing between values by a test, and finding a value by its name: the small functions that every other definition
-- is written with. Each test stands as the argument of a function by cases, so that a proof can split on it.
use Rattle.std.specs.Prelude.{ℕ, zero, suc, Bool, true, false, List, [], ◌∷◌, eqb}
use Rattle.std.proofs.Math.Option.{Option, none, some}

-- bytes of a text, of a name or of an identifier
abbrev pub Bytes : Type 0
Bytes = List ℕ

abbrev pub Name : Type 0
Name = Bytes

-- the first value where the test passes, else the second
abbrev pub pick {ℓ} : {A : Type ℓ} → Bool → A → A → A
pick true a b = a
pick false a b = b

abbrev pub both : Bool → Bool → Bool
both true b = b
both false b = false

abbrev pub either : Bool → Bool → Bool
either true b = true
either false b = b

-- a choice that only counts where the test passes
abbrev pub guard {ℓ} : {A : Type ℓ} → Bool → Option A → Option A
guard true o = o
guard false o = none

-- the first choice, or the second where there is no first
abbrev pub or_else {ℓ} : {A : Type ℓ} → Option A → Option A → Option A
or_else (some a) o = some a
or_else none o = o

abbrev pub is_some {ℓ} : {A : Type ℓ} → Option A → Bool
is_some (some a) = true
is_some none = false

-- every element passes
unfoldable pub every {ℓ} : {A : Type ℓ} → (A → Bool) → List A → Bool
every f [] = true
every f (x ∷ xs) = both (f x) (every f xs)

unfoldable pub same_bytes : Bytes → Bytes → Bool
same_bytes [] [] = true
same_bytes [] (y ∷ ys) = false
same_bytes (x ∷ xs) [] = false
same_bytes (x ∷ xs) (y ∷ ys) = both (eqb x y) (same_bytes xs ys)

-- the first name's bytes begin the second
unfoldable pub starts_with : Bytes → Bytes → Bool
starts_with [] ys = true
starts_with (x ∷ xs) [] = false
starts_with (x ∷ xs) (y ∷ ys) = both (eqb x y) (starts_with xs ys)

-- a value under a name
pub record Named (A : Type 0) : Type 0 where
  pub name : Name
  pub value : A

-- the value under the first such name
unfoldable pub lookup : {A : Type 0} → Name → List (Named A) → Option A
lookup n [] = none
lookup n (x ∷ xs) = let later = lookup n xs in pick (same_bytes n x.name) (some x.value) later

-- the element at a place counted from 0, if there is one
unfoldable pub nth {ℓ} : {A : Type ℓ} → ℕ → List A → Option A
nth i [] = none
nth zero (x ∷ xs) = some x
nth (suc i) (x ∷ xs) = nth i xs

-- the element with a number, counted from 1: number 0 is no element's
abbrev pub numbered {ℓ} : {A : Type ℓ} → ℕ → List A → Option A
numbered zero xs = none
numbered (suc i) xs = nth i xs
