-- The computed faults of tokens are their faults, and the first is the lowest: it is the number that the sums come to.
use Prim.Native.Nat.{ℕ, suc, ◌≤◌}
use mathlib.Core.Path.{◌≡◌, refl, sym, ap, ◌∙◌, subst}
use mathlib.Core.Logic.{◌↔◌}
use mathlib.Core.Bool.{Bool, true, false}
use mathlib.Core.List.{List, [], ◌∷◌}
use native.Mathlib.Omega.{arith}
use lib.Dec.{leb}
use Rattle.meaning.specs.Choice.{both}
use Rattle.meaning.specs.Answers.{not_allowed_here}
use Rattle.meaning.specs.Allowed.{max_conditions}
use Rattle.meaning.specs.Tokens.{Placed}
use Rattle.meaning.specs.Reading.{fault_unless}
use Rattle.meaning.proofs.Laws.Choosing.{not-both, is_false, no-cons}
use Rattle.meaning_accepting.proofs.Reading.Lists.{both-assoc}
use Rattle.meaning_refusing.specs.Faults.{Viable, well_formed, Quota, within_limits, right_names, right_pattern, right_later, Fault, not_formed}
use Rattle.meaning_refusing.specs.Faults.{not_viable, not_within, not_named, not_pattern, not_later}
use Rattle.meaning_refusing.proofs.Stages.{start, going, going-failed, run, viable-runs}
use Rattle.meaning_refusing.proofs.Computed.{or_else_fault, viable, faults_of}
use Rattle.meaning_refusing.proofs.Completing.{runs-viable}
use Rattle.meaning_refusing.proofs.Sums.{tally, number, table_limits, pattern_limits, item_limits, declared_right, predicates_right, calls_right}
use Rattle.meaning_refusing.proofs.Sums.{pattern_right, symbols_right, parts_known, middle_right, parts_right}
use Rattle.meaning_refusing.proofs.Agreeing.{sum_of, tally-sum}

-- LISTS OF NUMBERS

pub data Among (n : ℕ) : List ℕ → Type 0 where
  here : {ns : List ℕ} → Among n (n ∷ ns)
  later : {m : ℕ} {ns : List ℕ} → Among n ns → Among n (m ∷ ns)

beyond : {n : ℕ} {ns : List ℕ} (m : ℕ) (b : Bool) → Among n ns → Among n (or_else_fault b m ns)
beyond m true a = a
beyond m false a = later a

each : (P : ℕ → Type 0) {ns : List ℕ} (m : ℕ) (b : Bool) → (b ≡ false → P m) → ((n : ℕ) → Among n ns → P n)
    → (n : ℕ) → Among n (or_else_fault b m ns) → P n
each P m true f g n a = g n a
each P m false f g n here = f refl
each P m false f g n (later a) = g n a

some-among : {A : Type 0} {n : ℕ} {ns : List ℕ} → Among n ns → ns ≡ [] → A
some-among here e = no-cons (sym e)
some-among (later a) e = no-cons (sym e)

none-among : (P : ℕ → Type 0) (n : ℕ) → Among n [] → P n
none-among P n a = some-among a refl

-- the first, or 0
abbrev first_of : List ℕ → ℕ
first_of [] = 0
first_of (n ∷ ns) = n

first-among : (ns : List ℕ) {n : ℕ} → first_of ns ≡ suc n → Among (suc n) ns
first-among [] e = absurd (omega arith)
first-among (m ∷ ns) e = subst (λ z. Among z (m ∷ ns)) e here

-- the first is the lowest, and no lower than a number
record LowestFrom (least : ℕ) (ns : List ℕ) (n : ℕ) : Type 0 where
  low : least ≤ first_of ns
  high : first_of ns ≤ n

lowest-or : (m : ℕ) (b : Bool) {ns : List ℕ} → ((n : ℕ) → Among n ns → LowestFrom (suc m) ns n) → (n : ℕ) → Among n (or_else_fault b m ns)
    → LowestFrom m (or_else_fault b m ns) n
lowest-or m true h n a = let w = (h n a).low in record { low = omega arith; high = (h n a).high }
lowest-or m false h n here = record { low = omega arith; high = omega arith }
lowest-or m false h n (later a) = let w = (h n a).low in let v = (h n a).high in record { low = omega arith; high = omega arith }

first-or : (b : Bool) (n : ℕ) (ns : List ℕ) → first_of (or_else_fault b n ns) ≡ fault_unless b n (first_of ns)
first-or true n ns = refl
first-or false n ns = refl

-- THE FAULTS

module _ (ts : List Placed) where
  pub viable-there : viable ts ≡ true → Viable ts
  viable-there e = runs-viable ts (λ f. not-both e (ap going f))

  viable-not : viable ts ≡ false → Viable ts → ⊥
  viable-not e v = viable-runs ts v (going-failed (run start ts) e)

module _ (quota : Quota) (ts : List Placed) where
  faults-are : (n : ℕ) → Among n (faults_of quota ts) → Fault quota ts n
  faults-are =
      each (Fault quota ts) 2 (well_formed ts) not_formed
      (each (Fault quota ts) 3 (viable ts) (λ e. not_viable (viable-not ts e))
      (each (Fault quota ts) 4 (within_limits quota ts) not_within
      (each (Fault quota ts) 5 (right_names ts) not_named
      (each (Fault quota ts) 6 (right_pattern ts) not_pattern
      (each (Fault quota ts) 7 (right_later ts) not_later (none-among (Fault quota ts)))))))

  faults-all : {n : ℕ} → Fault quota ts n → Among n (faults_of quota ts)
  faults-all (not_formed e) = rw e here
  faults-all (not_viable h) = beyond 2 (well_formed ts) (rw (is_false (viable ts) (λ e. h (viable-there ts e))) here)
  faults-all (not_within e) = beyond 2 (well_formed ts) (beyond 3 (viable ts) (rw e here))
  faults-all (not_named e) = beyond 2 (well_formed ts) (beyond 3 (viable ts) (beyond 4 (within_limits quota ts) (rw e here)))
  faults-all (not_pattern e) =
      beyond 2 (well_formed ts) (beyond 3 (viable ts) (beyond 4 (within_limits quota ts) (beyond 5 (right_names ts) (rw e here))))
  faults-all (not_later e) =
      beyond 2 (well_formed ts)
      (beyond 3 (viable ts) (beyond 4 (within_limits quota ts) (beyond 5 (right_names ts) (beyond 6 (right_pattern ts) (rw e here)))))

  -- the faults are the numbers that are computed
  pub decided : (n : ℕ) → Fault quota ts n ↔ Among n (faults_of quota ts)
  decided n = (faults-all, faults-are n)

  first-lowest : (n : ℕ) → Among n (faults_of quota ts) → LowestFrom 2 (faults_of quota ts) n
  first-lowest =
      lowest-or 2 (well_formed ts)
      (lowest-or 3 (viable ts)
      (lowest-or 4 (within_limits quota ts)
      (lowest-or 5 (right_names ts) (lowest-or 6 (right_pattern ts) (lowest-or 7 (right_later ts) (none-among (LowestFrom 8 [])))))))

  -- THE NUMBER

  -- the tests of the sums are the tests of the faults
  same-limits : within_limits quota ts
      ≡ both (sum_of ts).short
      (both (table_limits quota (sum_of ts).names (sum_of ts).begun)
      (both (pattern_limits (sum_of ts).sentence.pattern)
      (both (leb (sum_of ts).sentence.commas max_conditions)
      (item_limits (sum_of ts).sentence.items (sum_of ts).sentence.opens (sum_of ts).sentence.closes))))
  unfolding table_limits pattern_limits item_limits
  same-limits = simp both-assoc

  same_names : right_names ts
      ≡ both (declared_right (sum_of ts).names) (both (predicates_right (sum_of ts).sentence.predicates) (calls_right (sum_of ts).sentence.calls))
  unfolding declared_right predicates_right calls_right
  same_names = simp both-assoc

  same-pattern : right_pattern ts ≡ pattern_right (sum_of ts).sentence.pattern
  unfolding pattern_right
  same-pattern = refl

  same-later : right_later ts
      ≡ both (middle_right (sum_of ts).sentence.pattern (sum_of ts).sentence.middle)
      (both (symbols_right (sum_of ts).sentence.pattern (sum_of ts).sentence.items)
      (parts_right (sum_of ts).sentence.pattern (sum_of ts).sentence.items))
  unfolding symbols_right parts_known middle_right parts_right
  same-later = simp both-assoc

  number-first : number quota (tally ts) ≡ first_of (faults_of quota ts)
  number-first =
      rw (
        tally-sum ts,
        ← same-limits,
        ← same_names,
        ← same-pattern,
        ← same-later,
        first-or (well_formed ts),
        first-or (viable ts),
        first-or (within_limits quota ts),
        first-or (right_names ts),
        first-or (right_pattern ts),
        first-or (right_later ts),
      )

  -- the number is a fault's, and no fault has a lower one
  pub number-fault : (n : ℕ) → number quota (tally ts) ≡ suc n → Fault quota ts (suc n)
  number-fault n e = faults-are (suc n) (first-among (faults_of quota ts) (sym number-first ∙ e))

  pub record Bounds (n : ℕ) : Type 0 where
    pub low : 2 ≤ number quota (tally ts)
    pub high : number quota (tally ts) ≤ n

  pub fault-bounds : {n : ℕ} → Fault quota ts n → Bounds n
  fault-bounds {n} f =
      let l = first-lowest n (faults-all f) in
      record { low = rw number-first l.low; high = rw number-first l.high }

  -- where 3 is no fault the tokens are viable
  pub viable-unless : (Fault quota ts not_allowed_here → ⊥) → Viable ts
  viable-unless h = by (viable ts) refl
    where
      by : (b : Bool) → viable ts ≡ b → Viable ts
      by true e = viable-there ts e
      by false e = absurd (h (not_viable (viable-not ts e)))
