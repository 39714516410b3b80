-- The leftmost of some calls, whatever their order.
use Prim.Native.Nat.{ℕ, zero, suc}
use native.Mathlib.Omega.{arith}
use mathlib.Core.Path.{◌≡◌, refl, sym, ◌∙◌, ap}
use mathlib.Core.List.{List, [], ◌∷◌, ◌++◌}
use mathlib.Core.Option.{Option, none, some}
use Rattle.meaning.specs.Flat.{lesser, leftmost}
use Rattle.tape_flatness.specs.Scanned.{placed, place_of, earlier}

pub earlier-nothing : (a : ℕ) → earlier a 0 ≡ a
earlier-nothing zero = refl
earlier-nothing (suc a) = refl

pub earlier-either-way : (a b : ℕ) → earlier a b ≡ earlier b a
earlier-either-way zero b = sym (earlier-nothing b)
earlier-either-way (suc a) zero = refl
earlier-either-way (suc a) (suc b) = ap suc (omega arith)

pub earlier-assoc : (a b c : ℕ) → earlier (earlier a b) c ≡ earlier a (earlier b c)
earlier-assoc zero b c = refl
earlier-assoc (suc a) zero c = refl
earlier-assoc (suc a) (suc b) zero = refl
earlier-assoc (suc a) (suc b) (suc c) = ap suc (omega arith)

-- a place as the scan tells it
abbrev pub told : Option ℕ → ℕ
told none = 0
told (some place) = suc place

pub told-placed : (o : Option ℕ) → place_of (told o) ≡ placed o
told-placed none = refl
told-placed (some place) = refl

-- calls that are found one after another
abbrev pub found_in : List ℕ → ℕ
found_in ns = told (leftmost ns)

pub found_first : (n : ℕ) (ns : List ℕ) → found_in (n ∷ ns) ≡ earlier (suc n) (found_in ns)
unfolding leftmost
found_first n ns = by (leftmost ns)
  where
    by : (o : Option ℕ) → suc (lesser n o) ≡ earlier (suc n) (told o)
    by none = refl
    by (some m) = refl

pub found-append : (xs ys : List ℕ) → found_in (xs ++ ys) ≡ earlier (found_in xs) (found_in ys)
unfolding leftmost
found-append [] ys = refl
found-append (x ∷ xs) ys =
    found_first x (xs ++ ys)
    ∙ ap (earlier (suc x)) (found-append xs ys)
    ∙ sym (earlier-assoc (suc x) (found_in xs) (found_in ys))
    ∙ ap (λ (c : ℕ). earlier c (found_in ys)) (sym (found_first x xs))

-- first some, then others, with what was known before
pub found-then : (xs ys : List ℕ) (o : ℕ) → earlier (found_in ys) (earlier (found_in xs) o) ≡ earlier (found_in (xs ++ ys)) o
found-then xs ys o =
    sym (earlier-assoc (found_in ys) (found_in xs) o)
    ∙ ap (λ (c : ℕ). earlier c o) (earlier-either-way (found_in ys) (found_in xs) ∙ sym (found-append xs ys))
