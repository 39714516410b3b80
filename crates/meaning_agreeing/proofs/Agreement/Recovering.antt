-- 02, T-04: "A function whose own name begins with Recover has none". So the function that recovers another is recovered by none, and one application
-- of an allowed table's code tries the sentences of at most two functions.
use Prim.Native.Nat.{ℕ, zero, suc, ◌+◌, ◌≤◌}
use native.Mathlib.Omega.{arith}
use mathlib.Core.Path.{◌≡◌, refl}
use mathlib.Core.Bool.{Bool, true, false}
use mathlib.Core.List.{[], ◌∷◌, ◌++◌}
use mathlib.Core.Option.{Option, none, some}
use lib.Dec.{T}
use Rattle.meaning.specs.Choice.{Bytes, Name, pick, same_bytes, starts_with, nth, numbered}
use Rattle.meaning.specs.Tree.{Function, Table}
use Rattle.meaning.specs.Names.{number_from, number_of, recover_prefix, is_recovering}
use Rattle.meaning.specs.Rewriting.{Fit, choose, function_at, recoverer_for, recoverer_at}
use Rattle.meaning.specs.Allowed.{allowed}
use Rattle.meaning.specs.Matching.{Choice, chosen, chosen_none, chosen_wrong, choose_from}
use Rattle.meaning.specs.Machine.{code_at}
use Rattle.meaning.specs.Translation.{translate}
use Rattle.meaning.proofs.Laws.Choosing.{same_bytes_lem}
use Rattle.meaning_agreeing.proofs.Agreement.Facts.{facts}
use Rattle.meaning_agreeing.proofs.Agreement.Sentences.{Chosen, nowhere, here, chosen-alike, code-at}

number-later : (count : ℕ) (fs : Table) (n : Name) (m : ℕ) → number_from count fs n ≡ suc m → count ≤ m
unfolding number_from
number-later count [] n m e = absurd (omega arith)
number-later count (f ∷ fs) n m e = by (same_bytes n f.name) (number-later (suc count) fs n m) e
  where
    by : (b : Bool) → (number_from (suc count) fs n ≡ suc m → suc count ≤ m) → pick b (suc count) (number_from (suc count) fs n) ≡ suc m → count ≤ m
    by true later e = omega arith
    by false later e = omega (arith, later e)

-- there is a function, and it has the name
abbrev HasName : Name → Option Function → Type 0
HasName n none = ⊥
HasName n (some f) = same_bytes n f.name ≡ true

-- a name's number is that of a function with this name
number-named : (count : ℕ) (fs : Table) (n : Name) (k : ℕ) → number_from count fs n ≡ suc (count + k) → HasName n (nth k fs)
unfolding number_from nth
number-named count [] n k e = absurd (omega arith)
number-named count (f ∷ fs) n k e = by (same_bytes n f.name) refl k (number-named (suc count) fs n) e
  where
    by : (b : Bool) → same_bytes n f.name ≡ b → (k : ℕ) → ((k : ℕ) → number_from (suc count) fs n ≡ suc (suc count + k) → HasName n (nth k fs)) →
        pick b (suc count) (number_from (suc count) fs n) ≡ suc (count + k) → HasName n (nth k (f ∷ fs))
    by true same zero later e = same
    by true same (suc k) later e = absurd (omega arith)
    by false same zero later e = absurd (omega (arith, number-later (suc count) fs n (count + 0) e))
    by false same (suc k) later e = later k (omega arith)

recover-begins : (n : Name) → is_recovering (recover_prefix ++ n) ≡ true
unfolding starts_with
recover-begins n = refl

unrecovered : (table : Table) (n : Name) (o : Option Function) → HasName (recover_prefix ++ n) o → recoverer_for table o ≡ 0
unrecovered table n none h = absurd h
unrecovered table n (some f) h = rw (← same_bytes_lem (recover_prefix ++ n) f.name h, recover-begins n)

-- the function that recovers another is recovered by none
pub recoverer-last : (table : Table) (f r : ℕ) → recoverer_at table f ≡ suc r → recoverer_at table (suc r) ≡ 0
recoverer-last table f r e = found (numbered f table) e
  where
    picked : (n : Name) (b : Bool) → pick b 0 (number_of table (recover_prefix ++ n)) ≡ suc r → recoverer_for table (nth r table) ≡ 0
    picked n true e = absurd (omega arith)
    picked n false e =
        let number : number_from 0 table (recover_prefix ++ n) ≡ suc r = e in
        unrecovered table n (nth r table) (number-named 0 table (recover_prefix ++ n) r (omega arith))

    found : (o : Option Function) → recoverer_for table o ≡ suc r → recoverer_for table (nth r table) ≡ 0
    found none e = absurd (omega arith)
    found (some g) e = picked g.name (is_recovering g.name) e

-- the function that is tried next, 0 for none
abbrev pub tried_next : Choice → ℕ
tried_next (chosen at stores actions) = 0
tried_next (chosen_none r) = r
tried_next chosen_wrong = 0

module _ (table : Table) (ok : T (allowed table)) where
  tried-recovers : (field : Bytes) (r k : ℕ) {c : Choice} {fit : Option Fit} → Chosen table field r c fit → tried_next c ≡ suc k → r ≡ suc k
  tried-recovers field r k nowhere e = e
  tried-recovers field r k (here a fits) e = absurd (omega arith)

  tried-none : (field : Bytes) (r : ℕ) {c : Choice} {fit : Option Fit} → Chosen table field r c fit → r ≡ 0 → tried_next c ≡ 0
  tried-none field r nowhere e = e
  tried-none field r (here a fits) e = refl

  -- what the machine's code does for a function's field, and what it does for the field where no sentence of the function fits
  same-choice : (f : ℕ) (field : Bytes) →
      Chosen table field (recoverer_at table f) (choose_from (code_at (translate table) f) field) (choose (function_at table f) field)
  same-choice f field = rw (code-at table f) (chosen-alike table field (recoverer_at table f) (facts table ok f))

  -- where one application comes to a second function, it comes to no third
  pub recovered-once : (f r : ℕ) (field : Bytes) → tried_next (choose_from (code_at (translate table) f) field) ≡ suc r →
      tried_next (choose_from (code_at (translate table) (suc r)) field) ≡ 0
  recovered-once f r field e =
      let first : recoverer_at table f ≡ suc r = tried-recovers field (recoverer_at table f) r (same-choice f field) e in
      tried-none field (recoverer_at table (suc r)) (same-choice (suc r) field) (recoverer-last table f r first)
