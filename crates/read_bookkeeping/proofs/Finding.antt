-- Finding a name among others.
use Prim.Native.Nat.{ℕ, suc, ◌+◌, ◌≤◌, ◌<◌}
use mathlib.Core.Path.{◌≡◌, refl, sym, ◌∙◌, ap}
use mathlib.Core.Bool.{Bool, true, false}
use mathlib.Core.List.{List, [], ◌∷◌}
use mathlib.Core.Option as Math
use native.Mathlib.Omega.{arith}
use lib.ListN.{length, get_or, drop, drop_of_length-le}
use lib.Seq.{drop-cons}
use Rattle.std.specs.Prelude.{Option, Some, None, option_map, is_some}
use Rattle.meaning.specs.Choice.{Bytes, Name, pick, either, same_bytes}
use Rattle.meaning.specs.Allowed.{member, coming_after}
use Rattle.read_tokens.specs.View.{span_text}
use Rattle.read_tokens.specs.declared.Span.{Span}
use Rattle.read_bookkeeping.specs.Tables.{names_in, place_in}

-- the search from the start is that from here
abbrev pub further : ℕ → Option ℕ → Option ℕ
further i None = None
further i (Some n) = Some (i + n)

abbrev pub Finding : Bytes → List Span → Name → ℕ → Type 0
Finding text names x i = place_in x (names_in text names) ≡ further i (place_in x (names_in text (drop i names)))

further-none : (o : Option ℕ) → o ≡ further 0 o
further-none None = refl
further-none (Some n) = ap Some (omega arith)

further-suc : (i : ℕ) (o : Option ℕ) → further i (option_map suc o) ≡ further (i + 1) o
further-suc i None = refl
further-suc i (Some n) = ap Some (omega arith)

pub find-starts : (text : Bytes) (names : List Span) (x : Name) → Finding text names x 0
find-starts text names x = further-none _

module _ (text : Bytes) (names : List Span) (x : Name) (i : ℕ) (f : Finding text names x i) where
  pub find-ends : length names ≤ i → None ≡ place_in x (names_in text names)
  unfolding place_in
  find-ends h = sym (rw (drop_of_length-le names h) at f)

  -- this name is the one, or the search goes on after it
  abbrev pub FindOn : Bool → Type 0
  FindOn true = Some i ≡ place_in x (names_in text names)
  FindOn false = Finding text names x (i + 1)

  pub find-on : (d : Span) → i < length names → (is : Bool) → is ≡ same_bytes x (span_text text (get_or names i d)) → FindOn is
  unfolding place_in
  find-on d h is s = turned is s
    where
      here : place_in x (names_in text names)
          ≡ further i (pick (same_bytes x (span_text text (get_or names i d))) (Some 0)
          (option_map suc (place_in x (names_in text (drop (suc i) names)))))
      here = f ∙ rw (drop-cons names i d h)

      turned : (is' : Bool) → is' ≡ same_bytes x (span_text text (get_or names i d)) → FindOn is'
      turned true s' = sym (here ∙ rw (← s') (ap Some (omega arith)))
      turned false s' =
          let u : suc i ≡ i + 1 = omega arith in
          here ∙ rw (← s', ← u) (further-suc i (place_in x (names_in text (drop (suc i) names))) ∙ rw u)

-- WHAT A PLACE SAYS

pub place_member : (x : Name) (ys : List Name) → is_some (place_in x ys) ≡ member x ys
unfolding place_in member
place_member x [] = refl
place_member x (y ∷ ys) = chosen (same_bytes x y) (place_in x ys) (place_member x ys)
  where
    chosen : (is : Bool) (o : Option ℕ) → is_some o ≡ member x ys → is_some (pick is (Some 0) (option_map suc o)) ≡ either is (member x ys)
    chosen true o e = refl
    chosen false None e = e
    chosen false (Some n) e = e

-- those after the place of the first
abbrev pub those_after : List Name → Option ℕ → Math.Option (List Name)
those_after ys None = Math.none
those_after ys (Some n) = Math.some (drop (suc n) ys)

pub place_coming : (x : Name) (ys : List Name) → coming_after x ys ≡ those_after ys (place_in x ys)
unfolding place_in coming_after
place_coming x [] = refl
place_coming x (y ∷ ys) = chosen (same_bytes x y) (place_in x ys) (place_coming x ys)
  where
    chosen : (is : Bool) (o : Option ℕ) → coming_after x ys ≡ those_after ys o
        → pick is (Math.some ys) (coming_after x ys) ≡ those_after (y ∷ ys) (pick is (Some 0) (option_map suc o))
    chosen true o e = refl
    chosen false None e = e
    chosen false (Some n) e = e
