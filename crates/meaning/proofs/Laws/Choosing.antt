-- Laws of tests and choices, and of finding a value by its name.
use Prim.Native.Nat.{ℕ, zero, suc}
use mathlib.Core.Path.{◌≡◌, refl, sym, ap}
use mathlib.Core.Bool.{Bool, true, false, not}
use mathlib.Core.List.{List, [], ◌∷◌, ◌++◌, map}
use mathlib.Core.Option.{Option, none, some, none-ne-some, some-injective}
use native.Mathlib.Omega.{arith}
use borrow.Author.Tests.{eqb-true, eq-eqb}
use lib.Dec.{T, eqb}
use Rattle.meaning.specs.Choice.{Bytes, Name, pick, both, either, every, guard, nth, or_else, is_some, Named, same_bytes, lookup}
use Rattle.meaning.specs.Allowed.{member, distinct, where_some}
pub use Rattle.meaning.proofs.Laws.Passing.{both_left, both_right, passed as passed-true}

pub not-both : {b : Bool} → b ≡ true → b ≡ false → ⊥
not-both p q = let z : ◌≡◌ {A = ℕ} 0 1 = cc in omega arith

pub some-none : {A : Type 0} {o : Option A} {a : A} → o ≡ some a → o ≡ none → ⊥
some-none p q = let z : ◌≡◌ {A = ℕ} 0 1 = cc in omega arith

pub no-cons : {A : Type 0} {B : Type 0} {x : A} {xs : List A} → ◌≡◌ {A = List A} [] (x ∷ xs) → B
no-cons e = let z : ◌≡◌ {A = ℕ} 0 1 = cc in absurd (omega arith)

pub is_false : (b : Bool) → (b ≡ true → ⊥) → b ≡ false
is_false true h = absurd (h refl)
is_false false h = refl

pub either_second : (a : Bool) {b : Bool} → b ≡ true → either a b ≡ true
either_second true h = refl
either_second false h = h

pub both-parts : (a b : Bool) → both a b ≡ true → (a ≡ true) × (b ≡ true)
both-parts true b h = (refl, h)
both-parts false b h = absurd (not-both h refl)

pub guard-some : {A : Type 0} {a : A} (b : Bool) (o : Option A) → guard b o ≡ some a → (b ≡ true) × (o ≡ some a)
guard-some true o h = (refl, h)
guard-some false o h = absurd (some-none h refl)

-- what holds of both holds of the one that a test picks
pub of_either : {A : Type 0} (P : A → Type 0) (b : Bool) (x y : A) → P x → P y → P (pick b x y)
of_either P true x y p q = p
of_either P false x y p q = q

-- a choice that there is
pub record Given {A : Type 0} (o : Option A) : Type 0 where
  pub value : A
  pub is : o ≡ some value

pub given-some : {A : Type 0} (o : Option A) → is_some o ≡ true → Given o
given-some none e = absurd (not-both e refl)
given-some (some a) e = record { value = a; is = refl }

-- two choices of which the second rests on the first
pub record Both {A B : Type 0} (o : Option A) (k : A → Option B) (b : B) : Type 0 where
  pub middle : A
  pub first : o ≡ some middle
  pub second : k middle ≡ some b

pub both_some : {A B : Type 0} (o : Option A) (k : A → Option B) {b : B} → where_some o k ≡ some b → Both o k b
both_some none k e = absurd (some-none e refl)
both_some (some a) k e = record { middle = a; first = refl; second = e }

pub same-itself : (x : Bytes) → same_bytes x x ≡ true
unfolding same_bytes
same-itself [] = refl
same-itself (b ∷ x) = rw (eq-eqb b b refl) (same-itself x)

pub same_bytes_lem : (x y : Bytes) → same_bytes x y ≡ true → x ≡ y
unfolding same_bytes
same_bytes_lem [] [] h = refl
same_bytes_lem [] (c ∷ y) h = absurd (not-both h refl)
same_bytes_lem (b ∷ x) [] h = absurd (not-both h refl)
same_bytes_lem (b ∷ x) (c ∷ y) h =
    let t = both-parts (eqb b c) (same_bytes x y) h in
    cc (eqb-true b c t.0, same_bytes_lem x y t.1)

-- what is bound behind counts only where nothing is bound before
pub lookup-append : {A : Type 0} (x : Name) (known more : List (Named A)) → lookup x (known ++ more) ≡ or_else (lookup x known) (lookup x more)
unfolding lookup
lookup-append x [] more = refl
lookup-append x (n ∷ known) more = go (same_bytes x n.name) (lookup-append x known more)
  where
    go : (b : Bool) → lookup x (known ++ more) ≡ or_else (lookup x known) (lookup x more) →
        pick b (some n.value) (lookup x (known ++ more)) ≡ or_else (pick b (some n.value) (lookup x known)) (lookup x more)
    go true later = refl
    go false later = later

pub lookup-one : {A : Type 0} (x : Name) (v : A) → lookup x (record { name = x; value = v } ∷ []) ≡ some v
unfolding lookup
lookup-one x v = rw (same-itself x)

-- the names that are bound
abbrev pub names_in : {A : Type 0} → List (Named A) → List Name
names_in known = map (λ n. n.name) known

pub names-append : {A : Type 0} (known : List (Named A)) (n : Named A) → names_in (known ++ n ∷ []) ≡ names_in known ++ n.name ∷ []
names-append [] n = refl
names-append (k ∷ known) n = ap (λ l. k.name ∷ l) (names-append known n)

pub member-bound : {A : Type 0} (x : Name) (known : List (Named A)) → member x (names_in known) ≡ is_some (lookup x known)
unfolding lookup member
member-bound x [] = refl
member-bound x (n ∷ known) = go (same_bytes x n.name) (member-bound x known)
  where
    go : (b : Bool) → member x (names_in known) ≡ is_some (lookup x known) →
        either b (member x (names_in known)) ≡ is_some (pick b (some n.value) (lookup x known))
    go true later = refl
    go false later = later

-- the last of more different names are different
pub distinct-second : (xs ys : List Name) → distinct (xs ++ ys) ≡ true → distinct ys ≡ true
unfolding distinct
distinct-second [] ys h = h
distinct-second (x ∷ xs) ys h = distinct-second xs ys (both-parts (not (member x (xs ++ ys))) (distinct (xs ++ ys)) h).1

pub true-passed : (b : Bool) → b ≡ true → T b
true-passed b e = rw e tt

pub both-pair : (a b : Bool) → T (both a b) → T a × T b
both-pair a b t = (both_left a b t, both_right a b t)

-- what comes after a choice counts only by what it gives
pub where-same : {A B : Type 0} (o : Option A) (f g : A → Option B) → ((a : A) → f a ≡ g a) → where_some o f ≡ where_some o g
where-same none f g h = refl
where-same (some a) f g h = h a

pub where-none : {A B : Type 0} (o : Option A) (f : A → Option B) → ((a : A) → f a ≡ none) → where_some o f ≡ none
where-none none f h = refl
where-none (some a) f h = h a

pub where-last : {A : Type 0} (o : Option A) → where_some o (λ a. some a) ≡ o
where-last none = refl
where-last (some a) = refl

pub where-again : {A B C : Type 0} (o : Option A) (f : A → Option B) (g : B → Option C) → where_some (where_some o f) g ≡
    where_some o (λ a. where_some (f a) g)
where-again none f g = refl
where-again (some a) f g = refl

-- what gives nothing from nothing may come after the choice or inside it
pub where-strict : {A B C : Type 0} (F : Option B → Option C) (o : Option A) (f : A → Option B) → F none ≡ none → where_some o (λ a. F (f a)) ≡
    F (where_some o f)
where-strict F none f e = sym e
where-strict F (some a) f e = refl

-- what holds of every element holds of each
pub every-nth {ℓ} : {A : Type ℓ} (p : A → Bool) (xs : List A) (i : ℕ) (x : A) → T (every p xs) → nth i xs ≡ some x → T (p x)
unfolding every nth
every-nth p [] i x t e = absurd (none-ne-some x e)
every-nth p (y ∷ ys) zero x t e = rw (some-injective y x e) at (both_left (p y) (every p ys) t)
every-nth p (y ∷ ys) (suc i) x t e = every-nth p ys i x (both_right (p y) (every p ys) t) e
