-- The function table: what makes it sound, and what sound code unpacks to.
use Prim.Native.Nat.{ℕ, suc, ◌+◌, ◌-◌, ◌≤◌, ◌<◌}
use native.Mathlib.Nat.{sub-zero}
use native.Mathlib.Omega.{arith}
use mathlib.Core.Path.{◌≡◌, refl, ◌∙◌}
use Rattle.std.specs.List.{list_all}
use mathlib.Core.Bool.{Bool, true, false}
use mathlib.Core.List.{[], ◌∷◌}
use mathlib.Core.Option.{none, some}
use lib.Dec.{leb, ltb}
use lib.ListN.{length, get_or, take, drop}
use borrow.Author.Tests.{lt-ltb, le-ltb, ltb-true, leb-true, leb-false}
use Rattle.meaning.specs.Choice.{pick, both, every}
use Rattle.meaning.specs.Packing.{Words, unpack}
use Rattle.run_applications.specs.Waiting.{count_in, sound_in, functions_in}
use Rattle.run_actions.proofs.Laws.Naming.{listed}

module _ (code : Words) where
  abbrev Inside : ℕ → Bool
  Inside at = ltb at (length code)

  pub sound-short : length code ≤ count_in code → false ≡ sound_in code
  sound-short h = rw (le-ltb (count_in code) (length code) h)

  pub sound-all : {n : ℕ} (r : Bool) → count_in code < length code → n ≡ count_in code → r ≡ list_all Inside (take n (drop 1 code)) →
      r ≡ sound_in code
  sound-all r counted e all =
      rw (lt-ltb (count_in code) (length code) counted) (all ∙ rw e (listed Inside (take (count_in code) (drop 1 code))))

-- code unpacks to the functions of its table, where that is sound
less-suc : (a n : ℕ) → ltb a (suc n) ≡ leb a n
less-suc a n = by (leb a n) refl
  where
    by : (b : Bool) → leb a n ≡ b → ltb a (suc n) ≡ b
    by true e = lt-ltb a (suc n) (omega (arith, leb-true a n e))
    by false e = le-ltb a (suc n) (omega (arith, leb-false a n e))

pub unpacked : (words : Words) → unpack words ≡ pick (sound_in words) (some (functions_in words)) none
unpacked [] = refl
unpacked (count ∷ rest) = rw (less-suc count (length rest))

pub sound-counted : (words : Words) → sound_in words ≡ true → count_in words < length words
sound-counted words e = by (ltb (count_in words) (length words)) refl
  where
    by : (b : Bool) → ltb (count_in words) (length words) ≡ b → count_in words < length words
    by true f = ltb-true (count_in words) (length words) f
    by false f = let z : false ≡ true = rw f at e in let n : ◌≡◌ {A = ℕ} 0 1 = cc in absurd (omega arith)
