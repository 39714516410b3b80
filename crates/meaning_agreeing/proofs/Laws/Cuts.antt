-- The cuts of a text in two that the matcher tries for an e-variable: it finds the first that succeeds.
use Prim.Native.Nat.{ℕ, suc, ◌≤◌}
use native.Mathlib.Omega.{arith}
use mathlib.Core.Path.{◌≡◌, refl, ap, ◌∙◌}
use mathlib.Core.List.{[], ◌∷◌, ◌++◌, append_assoc, append-nil}
use mathlib.Core.Option.{Option, none, some}
use lib.ListN.{length}
use Rattle.meaning.specs.Choice.{Bytes, or_else}
use Rattle.meaning.specs.Rewriting.{shortest}
use Rattle.meaning.proofs.Laws.Choosing.{some-none, Given}

-- the first cut that succeeds: no other that succeeds has a shorter front
pub record Cut {A : Type 0} (k : Bytes → Bytes → Option A) (taken rest : Bytes) (a : A) : Type 0 where
  pub front : Bytes
  pub back : Bytes
  pub whole : rest ≡ front ++ back
  pub found : k (taken ++ front) back ≡ some a
  pub least : (other after : Bytes) (b : A) → rest ≡ other ++ after → k (taken ++ other) after ≡ some b → length front ≤ length other

cut-here : {A : Type 0} (k : Bytes → Bytes → Option A) (taken rest : Bytes) (a : A) → k taken rest ≡ some a → Cut k taken rest a
cut-here k taken rest a h =
    record { front = []; back = rest; whole = refl; found = rw (append-nil taken) h; least = λ other after b e g. omega arith }

cut_later : {A : Type 0} (k : Bytes → Bytes → Option A) (taken : Bytes) (b : ℕ) (rest : Bytes) (a : A) → k taken (b ∷ rest) ≡ none →
    Cut k (taken ++ b ∷ []) rest a → Cut k taken (b ∷ rest) a
cut_later k taken b rest a h c =
    record {
      front = b ∷ c.front;
      back = c.back;
      whole = ap (λ l. b ∷ l) c.whole;
      found = rw append_assoc at c.found;
      least = least;
    }
  where
    least : (other after : Bytes) (v : _) → b ∷ rest ≡ other ++ after → k (taken ++ other) after ≡ some v → suc (length c.front) ≤ length other
    least [] after v e g =
        let here : k taken (b ∷ rest) ≡ some v = cc (append-nil taken) in
        absurd (some-none here h)
    least (o ∷ other) after v e g =
        let tail : rest ≡ other ++ after = cc in
        let later : k ((taken ++ b ∷ []) ++ other) after ≡ some v = cc (append_assoc taken (b ∷ []) other) in
        omega (arith, c.least other after v tail later)

pub shortest-cut : {A : Type 0} (k : Bytes → Bytes → Option A) (taken rest : Bytes) (a : A) → shortest k taken rest ≡ some a → Cut k taken rest a
unfolding shortest
shortest-cut k taken [] a h = cut-here k taken [] a h
shortest-cut k taken (b ∷ rest) a h = go (k taken (b ∷ rest)) refl h (shortest-cut k (taken ++ b ∷ []) rest a)
  where
    go : (o : Option _) → k taken (b ∷ rest) ≡ o → or_else o (shortest k (taken ++ b ∷ []) rest) ≡ some a →
        (shortest k (taken ++ b ∷ []) rest ≡ some a → Cut k (taken ++ b ∷ []) rest a) → Cut k taken (b ∷ rest) a
    go (some v) e h later = cut-here k taken (b ∷ rest) a (e ∙ h)
    go none e h later = cut_later k taken b rest a e (later h)

or_else-first : {A : Type 0} (o later : Option A) (a : A) → o ≡ some a → Given (or_else o later)
or_else-first o later a h = rw h (record { value = a; is = refl })

or_else-second : {A : Type 0} (o later : Option A) → Given later → Given (or_else o later)
or_else-second (some v) later g = record { value = v; is = refl }
or_else-second none later g = g

-- where a cut succeeds, a first one is found
pub shortest-given : {A : Type 0} (k : Bytes → Bytes → Option A) (taken front back : Bytes) (a : A) → k (taken ++ front) back ≡ some a →
    Given (shortest k taken (front ++ back))
unfolding shortest
shortest-given k taken [] [] a h = record { value = a; is = rw append-nil at h }
shortest-given k taken [] (b ∷ back) a h = or_else-first (k taken (b ∷ back)) _ a (rw append-nil at h)
shortest-given k taken (b ∷ front) back a h =
    or_else-second (k taken (b ∷ (front ++ back))) _ (shortest-given k (taken ++ b ∷ []) front back a (rw append_assoc h))
