-- A sum of two signed numbers by sums and differences of their sizes.
use Prim.Native.Nat.{ℕ, zero, suc, ◌+◌, ◌-◌, ◌≤◌, ◌<◌}
use native.Mathlib.Omega.{arith}
use mathlib.Core.Path.{◌≡◌, refl, sym, ap}
use mathlib.Core.Bool.{Bool, true, false, not, cond, beq}
use lib.Dec.{ltb}
use lib.IntN.{pos, negsuc, neg_ℤ, ◌+ℤ◌, +ℤ_idl, +ℤ_idr}
use borrow.Author.Tests.{lt-ltb, le-ltb, ltb-false, ltb-true}
use Rattle.meaning.specs.Angles.{signed, max_minutes}
use Rattle.run_angles.specs.Post.{Total}
use Rattle.run_angles.specs.declared.Minutes.{Minutes}

-- of one side of zero
same-side : (b : Bool) (x y : ℕ) → signed b (x + y) ≡ signed b x +ℤ signed b y
same-side false x y = refl
same-side true zero y = let e : zero + y ≡ y = omega arith in rw e (sym (+ℤ_idl (neg_ℤ (pos y))))
same-side true (suc x) zero = let e : suc x + zero ≡ suc x = omega arith in rw e (sym (+ℤ_idr (negsuc x)))
same-side true (suc x) (suc y) = let e : suc x + suc y ≡ suc (suc (x + y)) = omega arith in rw e

-- of both sides, the second being greater
second_more : (b : Bool) (x y : ℕ) → x < y → signed (not b) (y - x) ≡ signed b x +ℤ signed (not b) y
second_more false x zero h = absurd (omega arith)
second_more false x (suc y) h = let e : suc y - x ≡ suc (suc y - suc x) = omega arith in rw (lt-ltb x (suc y) h, e)
second_more true zero y h = let e : y - zero ≡ zero + y = omega arith in ap pos e
second_more true (suc x) y h = let l : suc x ≤ y = omega arith in rw (le-ltb y (suc x) l)

-- and not being greater
first_more : (b : Bool) (x y : ℕ) → y ≤ x → signed b (x - y) ≡ signed b x +ℤ signed (not b) y
first_more false x zero h = let e : x - zero ≡ x + zero = omega arith in ap pos e
first_more false x (suc y) h = rw (le-ltb x (suc y) h)
first_more true zero y h = let e : zero - y ≡ 0 = omega arith in let z : zero + y ≡ 0 = omega arith in rw (e, z)
first_more true (suc x) y h = by-test (ltb y (suc x)) refl
  where
    by-test : (t : Bool) → ltb y (suc x) ≡ t → neg_ℤ (pos (suc x - y)) ≡ cond t (negsuc (suc x - suc y)) (pos (y - suc x))
    by-test true q = let l = ltb-true y (suc x) q in let e : suc x - y ≡ suc (suc x - suc y) = omega arith in rw e
    by-test false q =
        let l = ltb-false y (suc x) q in
        let e : suc x - y ≡ 0 = omega arith in
        let z : y - suc x ≡ 0 = omega arith in
        rw (e, z)

alike : (b c : Bool) → beq b c ≡ true → c ≡ b
alike true true e = refl
alike true false e = e
alike false true e = sym e
alike false false e = refl

differ : (b c : Bool) → beq b c ≡ false → c ≡ not b
differ true true e = e
differ true false e = refl
differ false true e = refl
differ false false e = sym e

module _ {first second : Minutes} (fits : (first.size ≤ max_minutes) × (second.size ≤ max_minutes)) where
  pub total-same : beq first.below second.below ≡ true → Total first second (record { below = first.below; size = first.size + second.size })
  total-same e = record { value = rw (alike first.below second.below e) (same-side first.below first.size second.size); low = omega arith }

  pub total-second : beq first.below second.below ≡ false → first.size < second.size
      → Total first second (record { below = second.below; size = second.size - first.size })
  total-second e h = record { value = rw (differ first.below second.below e) (second_more first.below first.size second.size h); low = omega arith }

  pub total_first : beq first.below second.below ≡ false → second.size ≤ first.size
      → Total first second (record { below = first.below; size = first.size - second.size })
  total_first e h = record { value = rw (differ first.below second.below e) (first_more first.below first.size second.size h); low = omega arith }
