-- What a test that passed says of its parts.
use mathlib.Core.Path.{◌≡◌, refl}
use mathlib.Core.Bool.{Bool, true, false}
use mathlib.Core.List.{List, [], ◌∷◌}
use lib.Dec.{T}
use Rattle.meaning.specs.Choice.{both, either, every}

pub both_left : (a b : Bool) → T (both a b) → T a
both_left true b t = tt
both_left false b t = t

pub both_right : (a b : Bool) → T (both a b) → T b
both_right true b t = t
both_right false b t = absurd t

pub both-pass : (a b : Bool) → T a → T b → T (both a b)
both-pass true b t u = u
both-pass false b t u = t

pub passed : (a : Bool) → T a → a ≡ true
passed true t = refl
passed false t = absurd t

pub every-head {ℓ} : {A : Type ℓ} (f : A → Bool) (x : A) (xs : List A) → T (every f (x ∷ xs)) → T (f x)
unfolding every
every-head f x xs t = both_left (f x) (every f xs) t

pub every-tail {ℓ} : {A : Type ℓ} (f : A → Bool) (x : A) (xs : List A) → T (every f (x ∷ xs)) → T (every f xs)
unfolding every
every-tail f x xs t = both_right (f x) (every f xs) t

pub either-cases {ℓ} : {X : Type ℓ} (a b : Bool) → (T a → X) → (T b → X) → T (either a b) → X
either-cases true b f g t = f t
either-cases false b f g t = g t

pub every-weaken {ℓ} : {A : Type ℓ} (f g : A → Bool) → ((x : A) → T (f x) → T (g x)) → (xs : List A) → T (every f xs) → T (every g xs)
unfolding every
every-weaken f g h [] t = tt
every-weaken f g h (x ∷ xs) t =
    both-pass (g x) (every g xs) (h x (both_left (f x) (every f xs) t))
    (every-weaken f g h xs (both_right (f x) (every f xs) t))
