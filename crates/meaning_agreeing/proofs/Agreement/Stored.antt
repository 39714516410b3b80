-- The stored values: an s-variable's number leads to the byte that the match gave it.
use Prim.Native.Nat.{ℕ, suc, ◌+◌}
use native.Mathlib.Nat.{zero-add}
use native.Mathlib.Omega.{arith}
use mathlib.Core.Path.{◌≡◌, refl}
use mathlib.Core.Bool.{Bool, true, false}
use mathlib.Core.List.{List, ◌∷◌, map}
use mathlib.Core.Option.{some, none-ne-some}
use lib.Dec.{T}
use Rattle.meaning.specs.Choice.{Bytes, Name, Named, pick, same_bytes, lookup, nth}
use Rattle.meaning.specs.Allowed.{member}
use Rattle.meaning.specs.Instructions.{Site, Store, store}
use Rattle.meaning.specs.Matching.{stored_values}
use Rattle.meaning.specs.Translation.{value_from}
use Rattle.meaning.proofs.Laws.Choosing.{names_in}
use Rattle.meaning_agreeing.proofs.Agreement.Standing.{Valued}
use Rattle.meaning_agreeing.proofs.Agreement.Templates.{Known, nothing, knows, shown}
use Rattle.meaning_agreeing.proofs.Agreement.Layout.{bindings, locals}

abbrev pub values_of : List (Named ℕ) → Bytes
values_of known = map (λ k. k.value) known

abbrev pub stores_at : List (Named Site) → List Store
stores_at sites = map (λ s. store s.value) sites

-- a variable's number, counted on from `from`, and the value of that number
pub record Numbered (from count : ℕ) (values : Bytes) (b : ℕ) : Type 0 where
  pub number : ℕ
  pub counted : count ≡ from + number
  pub there : nth number values ≡ some b

module _ (field : Bytes) (place : ℕ) where
  pub stored-known : {sites : List (Named Site)} {known : List (Named ℕ)} → Known field place sites known →
      stored_values (stores_at sites) field place ≡ some (values_of known)
  unfolding stored_values
  stored-known nothing = refl
  stored-known (knows e k) = rw (e, stored-known k)

  numbered : {sites : List (Named Site)} {known : List (Named ℕ)} → Known field place sites known → (from : ℕ) (x : Name) (b : ℕ) → lookup x known ≡
      some b →
      Numbered from (value_from from x sites) (values_of known) b
  unfolding lookup value_from nth
  numbered nothing from x b e = absurd (none-ne-some b e)
  numbered (knows {x = y} {s} {b = c} {sites} {known} cell k) from x b e = here (same_bytes x y) e (λ f. numbered k (suc from) x b f)
    where
      here : (q : Bool) → pick q (some c) (lookup x known) ≡ some b →
          (lookup x known ≡ some b → Numbered (suc from) (value_from (suc from) x sites) (values_of known) b) →
          Numbered from (pick q from (value_from (suc from) x sites)) (c ∷ values_of known) b
      here true f later = record { number = 0; counted = omega arith; there = f }
      here false f later = let r = later f in record { number = suc r.number; counted = omega arith; there = r.there }

  pub valued : {sites : List (Named Site)} {known : List (Named ℕ)} → Known field place sites known →
      (size : ℕ) (parts : List (Named Bytes)) (x : Name) →
      T (member x (names_in sites)) →
      Valued sites (bindings known parts) (locals size place (values_of known)) x
  valued k size parts x m =
      let f = shown field place k x m in
      let n = numbered k 0 x f.found.byte f.found.there in
      record { byte = f.found.byte; taken = f.found.there; stored = rw (n.counted, zero-add) n.there }
