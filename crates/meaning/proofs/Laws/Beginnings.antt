-- Names of different lengths, and beginnings of names.
use Prim.Native.Nat.{ℕ, suc, ◌<◌}
use native.Mathlib.Omega.{arith}
use mathlib.Core.Path.{◌≡◌, refl, sym, ap, ap₂, ◌∙◌}
use mathlib.Core.Bool.{Bool, true, false}
use mathlib.Core.List.{[], ◌∷◌}
use lib.Dec.{eqb}
use lib.ListN.{length}
use borrow.Author.Tests.{eq-eqb, ne_eqb, eqb-true, eqb-false}
use Rattle.meaning.specs.Choice.{Name, both, same_bytes, starts_with}

both-none : (t : Bool) → both t false ≡ false
both-none true = refl
both-none false = refl

pub lengths_differ : (x y : Name) → (length x ≡ length y → ⊥) → same_bytes x y ≡ false
unfolding same_bytes
lengths_differ [] [] h = absurd (h refl)
lengths_differ [] (y ∷ ys) h = refl
lengths_differ (x ∷ xs) [] h = refl
lengths_differ (x ∷ xs) (y ∷ ys) h = rw (lengths_differ xs ys (λ e. h (ap suc e))) (both-none (eqb x y))

-- a word that is longer begins no name
pub starts-short : (p x : Name) → length x < length p → starts_with p x ≡ false
unfolding starts_with
starts-short [] x h = absurd (omega arith)
starts-short (a ∷ p) [] h = refl
starts-short (a ∷ p) (b ∷ x) h = rw (starts-short p x (omega arith)) (both-none (eqb a b))

-- a word of the name's own length begins it where it is the name
pub starts-same : (p x : Name) → length x ≡ length p → starts_with p x ≡ same_bytes x p
unfolding starts_with same_bytes
starts-same [] [] e = refl
starts-same [] (b ∷ x) e = absurd (omega arith)
starts-same (a ∷ p) [] e = absurd (omega arith)
starts-same (a ∷ p) (b ∷ x) e = ap₂ both (turned a b (eqb a b) refl) (starts-same p x (omega arith))
  where
    turned : (a b : ℕ) (is : Bool) → eqb a b ≡ is → eqb a b ≡ eqb b a
    turned a b true q = q ∙ sym (eq-eqb b a (sym (eqb-true a b q)))
    turned a b false q = q ∙ sym (ne_eqb b a (λ k. eqb-false a b q (sym k)))
