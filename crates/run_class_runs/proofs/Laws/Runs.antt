-- The first byte of a part that doesn't pass a test, and the last.
use Prim.Native.Nat.{ℕ, ◌+◌, ◌-◌, ◌≤◌, ◌<◌, zero, suc}
use native.Mathlib.Omega.{arith}
use native.Mathlib.Nat.{le_of_suc-le-suc, not-suc-le-zero}
use mathlib.Core.Path.{◌≡◌, refl, sym, ◌∙◌}
use mathlib.Core.Bool.{Bool, true, false}
use mathlib.Core.List.{[], ◌∷◌, ◌++◌}
use lib.Dec.{leb}
use lib.ListN.{length, get_or, take, drop}
use lib.Seq.{take-suc, take-length, drop-drop}
use borrow.Author.Tests.{le-leb, leb-true, leb-false}
use Rattle.meaning.specs.Choice.{Bytes, both, every}
use Rattle.meaning.proofs.Laws.Remaining.{at_place, past_end}
use Rattle.run_class_runs.specs.Runs.{Leads, Trails}

module _ (f : ℕ → Bool) (l : Bytes) (i : ℕ) where
  pub every-past : length l ≤ i → every f (drop i l) ≡ true
  unfolding every
  every-past h = rw (past_end l i h)

  pub every-on : (b : Bool) → i < length l → b ≡ f (get_or l i 0) → every f (drop i l) ≡ both b (every f (drop (i + 1) l))
  unfolding every
  every-on b h e = rw (at_place l i h, e)

-- THE FIRST BYTE THAT DOESN'T PASS

module _ (f : ℕ → Bool) where
  both-true-last : (a : Bool) → both a true ≡ a
  both-true-last true = refl
  both-true-last false = refl

  both-all : (a b c : Bool) → both a (both b c) ≡ both (both a b) c
  both-all true b c = refl
  both-all false b c = refl

  every_append : (xs ys : Bytes) → every f (xs ++ ys) ≡ both (every f xs) (every f ys)
  unfolding every
  every_append [] ys = refl
  every_append (x ∷ xs) ys = rw (every_append xs ys) (both-all (f x) (every f xs) (every f ys))

  pub no_bytes : (l : Bytes) → every f (take 0 l) ≡ true
  unfolding every
  no_bytes l = refl

  -- one byte more
  every-next : (l : Bytes) (n : ℕ) → n < length l → every f (take (suc n) l) ≡ both (every f (take n l)) (f (get_or l n 0))
  unfolding every
  every-next l n h = rw (take-suc l n 0 h, every_append (take n l) (get_or l n 0 ∷ []), both-true-last (f (get_or l n 0)))

  -- where the bytes so far pass, fewer pass
  fewer : (l : Bytes) (n k : ℕ) → k ≤ n → every f (take n l) ≡ true → every f (take k l) ≡ true
  unfolding every
  fewer l n zero h e = refl
  fewer l zero (suc k) h e = absurd (not-suc-le-zero h)
  fewer [] (suc n) (suc k) h e = refl
  fewer (x ∷ l) (suc n) (suc k) h e = by_first (f x) (λ e'. fewer l n k (le_of_suc-le-suc h) e') e
    where
      by_first : (b : Bool) → (every f (take n l) ≡ true → every f (take k l) ≡ true) → both b (every f (take n l)) ≡ true →
          both b (every f (take k l)) ≡ true
      by_first true less e' = less e'
      by_first false less e' = e'

  -- where they don't all pass, neither do more
  more : (l : Bytes) (n k : ℕ) → n ≤ k → every f (take n l) ≡ false → every f (take k l) ≡ false
  more l n k h e = by_all (every f (take k l)) refl
    where
      by_all : (b : Bool) → every f (take k l) ≡ b → b ≡ false
      by_all true e' = sym (fewer l k n h e') ∙ e
      by_all false e' = refl

  pub leads-here : (l : Bytes) (n : ℕ) → n < length l → every f (take n l) ≡ true → f (get_or l n 0) ≡ false → Leads f l n
  leads-here l n h e e' =
      record {
        each = λ k inside. by_order k (leb k n) refl;
        inside = omega arith;
      }
    where
      by_order : (k : ℕ) (b : Bool) → leb k n ≡ b → every f (take k l) ≡ b
      by_order k true o = fewer l n k (leb-true k n o) e
      by_order k false o = more l (suc n) k (omega (arith, leb-false k n o)) (every-next l n h ∙ rw (e, e'))

  pub leads-all : (l : Bytes) (n : ℕ) → n ≡ length l → every f (take n l) ≡ true → Leads f l n
  leads-all l n same e =
      record { each = λ k inside. fewer l n k (omega arith) e ∙ sym (le-leb k n (omega arith)); inside = omega arith }

  pub leads-on : (l : Bytes) (n : ℕ) → n < length l → every f (take n l) ≡ true → f (get_or l n 0) ≡ true → every f (take (n + 1) l) ≡ true
  leads-on l n h e e' = let next : n + 1 ≡ suc n = omega arith in rw next (every-next l n h ∙ rw (e, e'))

  pub leads-every : (l : Bytes) (n : ℕ) → Leads f l n → leb (length l) n ≡ every f l
  leads-every l n leads = sym (rw (take-length l) at (leads.each (length l) (omega arith)))

  -- THE LAST BYTE THAT DOESN'T PASS

  fewer-left : (l : Bytes) (k : ℕ) → every f l ≡ true → every f (drop k l) ≡ true
  unfolding every
  fewer-left l zero e = e
  fewer-left [] (suc k) e = refl
  fewer-left (x ∷ l) (suc k) e = by_first (f x) (λ e'. fewer-left l k e') e
    where
      by_first : (b : Bool) → (every f l ≡ true → every f (drop k l) ≡ true) → both b (every f l) ≡ true → every f (drop k l) ≡ true
      by_first true less e' = less e'
      by_first false less e' = let z : ◌≡◌ {A = ℕ} 0 1 = cc in absurd (omega arith)

  later : (l : Bytes) (n k : ℕ) → n ≤ k → every f (drop n l) ≡ true → every f (drop k l) ≡ true
  later l n k h e =
      let whole : n + (k - n) ≡ k = omega arith in
      rw whole at (rw (drop-drop (k - n) n l) at (fewer-left (drop n l) (k - n) e))

  pub trails-here : (l : Bytes) (n : ℕ) → 0 < n → n ≤ length l → every f (drop n l) ≡ true → f (get_or l (n - 1) 0) ≡ false → Trails f l n
  trails-here l n h h' e e' = record { each = λ k inside. by_order k (leb n k) refl }
    where
      outside : every f (drop (n - 1) l) ≡ false
      outside = every-on f l (n - 1) false (omega arith) (sym e')

      by_all : (k : ℕ) → k < n → (b : Bool) → every f (drop k l) ≡ b → b ≡ false
      by_all k less true a = sym (later l k (n - 1) (omega arith) a) ∙ outside
      by_all k less false a = refl

      by_order : (k : ℕ) (b : Bool) → leb n k ≡ b → every f (drop k l) ≡ b
      by_order k true o = later l n k (leb-true n k o) e
      by_order k false o = by_all k (leb-false n k o) (every f (drop k l)) refl

  pub trails-all : (l : Bytes) (n : ℕ) → n ≡ 0 → every f (drop n l) ≡ true → Trails f l n
  trails-all l n first e = record { each = λ k inside. later l n k (omega arith) e ∙ sym (le-leb n k (omega arith)) }

  pub trails-on : (l : Bytes) (n : ℕ) → 0 < n → n ≤ length l → every f (drop n l) ≡ true → f (get_or l (n - 1) 0) ≡ true →
      every f (drop (n - 1) l) ≡ true
  trails-on l n h h' e e' =
      let next : n - 1 + 1 ≡ n = omega arith in
      every-on f l (n - 1) true (omega arith) (sym e') ∙ rw next e
