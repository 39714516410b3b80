-- Laws of lists of names: equal bytes, membership and difference.
use mathlib.Core.Path.{◌≡◌, refl, sym, ap, ◌∙◌, subst}
use mathlib.Core.Bool.{Bool, true, false, not}
use mathlib.Core.List.{List, [], ◌∷◌, ◌++◌}
use borrow.Author.Tests.{not-true}
use Rattle.meaning.specs.Choice.{Bytes, Name, both, either, every, same_bytes}
use Rattle.meaning.specs.Allowed.{member, distinct}
use Rattle.meaning.proofs.Laws.Choosing.{same_bytes_lem, same-itself}
use Rattle.meaning_accepting.proofs.Reading.Basics.{both_left, both_right, both_true, impossible}

pub both-assoc : (a b c : Bool) → both (both a b) c ≡ both a (both b c)
both-assoc true b c = refl
both-assoc false b c = refl

pub every_append : {A : Type 0} (f : A → Bool) (xs ys : List A) → every f (xs ++ ys) ≡ both (every f xs) (every f ys)
unfolding every
every_append f [] ys = refl
every_append f (x ∷ xs) ys = rw (every_append f xs ys) (sym (both-assoc (f x) (every f xs) (every f ys)))

-- EQUAL BYTES

-- two tests agree where each leads to the other
pub agree : (a b : Bool) → (a ≡ true → b ≡ true) → (b ≡ true → a ≡ true) → a ≡ b
agree true true f g = refl
agree true false f g = sym (f refl)
agree false true f g = g refl
agree false false f g = refl

pub same-either-way : (x y : Bytes) → same_bytes x y ≡ same_bytes y x
same-either-way x y =
    agree (same_bytes x y) (same_bytes y x)
    (λ e. subst (λ z. same_bytes z x ≡ true) (same_bytes_lem x y e) (same-itself x))
    (λ e. subst (λ z. same_bytes z y ≡ true) (same_bytes_lem y x e) (same-itself y))

-- MEMBERSHIP

pub either-assoc : (a b c : Bool) → either (either a b) c ≡ either a (either b c)
either-assoc true b c = refl
either-assoc false b c = refl

pub either-false : (a : Bool) → either a false ≡ a
either-false true = refl
either-false false = refl

pub member-append : (x : Name) (xs ys : List Name) → member x (xs ++ ys) ≡ either (member x xs) (member x ys)
unfolding member
member-append x [] ys = refl
member-append x (y ∷ xs) ys = rw (member-append x xs ys) (sym (either-assoc (same_bytes x y) (member x xs) (member x ys)))

pub member-one : (x y : Name) → member x (y ∷ []) ≡ same_bytes x y
unfolding member
member-one x y = either-false (same_bytes x y)

pub either-left-false : (a b : Bool) → either a b ≡ false → a ≡ false
either-left-false true b e = impossible (sym e)
either-left-false false b e = refl

pub either-right-false : (a b : Bool) → either a b ≡ false → b ≡ false
either-right-false true b e = impossible (sym e)
either-right-false false b e = e

-- what holds for every name holds for a member
pub member-every : (f : Name → Bool) (x : Name) (xs : List Name) → every f xs ≡ true → member x xs ≡ true → f x ≡ true
unfolding member every
member-every f x [] h m = impossible m
member-every f x (y ∷ xs) h m = go (same_bytes x y) refl m (member-every f x xs (both_right (f y) (every f xs) h))
  where
    go : (b : Bool) → same_bytes x y ≡ b → either b (member x xs) ≡ true → (member x xs ≡ true → f x ≡ true) → f x ≡ true
    go true same m later = rw (same_bytes_lem x y same) (both_left (f y) (every f xs) h)
    go false same m later = later m

-- DIFFERENT NAMES

snoc-tests : (m s d k : Bool) → both (not (either m s)) (both d (not k)) ≡ both (both (not m) d) (not (either s k))
snoc-tests true s d k = refl
snoc-tests false true true k = refl
snoc-tests false true false k = refl
snoc-tests false false d k = refl

-- a name put after different ones
pub distinct-after : (x : Name) (xs : List Name) → distinct (xs ++ x ∷ []) ≡ both (distinct xs) (not (member x xs))
unfolding member distinct
distinct-after x [] = refl
distinct-after x (y ∷ xs) =
    rw (member-append y xs (x ∷ []), member-one y x, same-either-way y x, distinct-after x xs)
    (snoc-tests (member y xs) (same_bytes x y) (distinct xs) (member x xs))

pub both-comm : (a b : Bool) → both a b ≡ both b a
both-comm true true = refl
both-comm true false = refl
both-comm false true = refl
both-comm false false = refl

-- a new name put between different ones
pub distinct-between : (x : Name) (xs ys : List Name) → member x xs ≡ false
    → distinct ((xs ++ x ∷ []) ++ ys) ≡ both (distinct (xs ++ ys)) (not (member x ys))
unfolding member distinct
distinct-between x [] ys new = both-comm (not (member x ys)) (distinct ys)
distinct-between x (y ∷ xs) ys new =
    let other : same_bytes x y ≡ false = either-left-false (same_bytes x y) (member x xs) new in
    rw (
      distinct-between x xs ys (either-right-false (same_bytes x y) (member x xs) new),
      member-append y (xs ++ x ∷ []) ys,
      member-append y xs (x ∷ []),
      member-one y x,
      same-either-way y x,
      other,
      either-false (member y xs),
      member-append y xs ys,
    )
    (sym (both-assoc (not (either (member y xs) (member y ys))) (distinct (xs ++ ys)) (not (member x ys))))

-- a name that isn't among more names is among none of them
outside-both : (x : Name) (xs ys : List Name) → not (member x (xs ++ ys)) ≡ true → either (member x xs) (member x ys) ≡ false
outside-both x xs ys n = sym (member-append x xs ys) ∙ not-true (member x (xs ++ ys)) n

-- of different names one that stands on the left doesn't stand on the right
pub distinct_apart : (x : Name) (xs ys : List Name) → distinct (xs ++ ys) ≡ true → member x xs ≡ true → member x ys ≡ false
unfolding member distinct
distinct_apart x [] ys d m = impossible m
distinct_apart x (y ∷ xs) ys d m =
    go (same_bytes x y) refl m (distinct_apart x xs ys (both_right (not (member y (xs ++ ys))) (distinct (xs ++ ys)) d))
  where
    go : (b : Bool) → same_bytes x y ≡ b → either b (member x xs) ≡ true → (member x xs ≡ true → member x ys ≡ false) → member x ys ≡ false
    go true same m later =
        rw (same_bytes_lem x y same)
        (either-right-false (member y xs) (member y ys) (outside-both y xs ys (both_left (not (member y (xs ++ ys))) (distinct (xs ++ ys)) d)))
    go false same m later = later m

-- the first of more different names are different
pub distinct-first : (xs ys : List Name) → distinct (xs ++ ys) ≡ true → distinct xs ≡ true
unfolding member distinct
distinct-first [] ys d = refl
distinct-first (x ∷ xs) ys d =
    both_true
    (ap not (either-left-false (member x xs) (member x ys) (outside-both x xs ys (both_left (not (member x (xs ++ ys))) (distinct (xs ++ ys)) d))))
    (distinct-first xs ys (both_right (not (member x (xs ++ ys))) (distinct (xs ++ ys)) d))
