-- Words stored apart: two runs that do not meet, a word that is patched later, and a part of what is lent.
use Prim.Native.Nat.{ℕ, suc, ◌+◌, ◌-◌, ◌≤◌, ◌<◌, min}
use native.Mathlib.Numerals.{add-one}
use native.Mathlib.Omega.{arith}
use native.Mathlib.Decide.{dec_le}
use native.Mathlib.Nat.{lt_of_not-le}
use mathlib.Core.Path.{◌≡◌, refl, sym, ap, ap₂, ◌∙◌}
use mathlib.Core.List.{List, [], ◌∷◌, ◌++◌, append-nil}
use lib.ListN.{length, take, drop, set, length-drop, take-append-drop, drop_of_length-le}
use lib.Seq.{sets, length-sets, set-set, set_comm, set_out, take_all, take-set-le, drop-set-add}
use Rattle.code_words.specs.Writing.{Wrote}
use Rattle.code_words.specs.declared.CodeWriter.{CodeWriter}
use Rattle.code_words.specs.Writer.{Written, Patched}

-- TWO RUNS THAT DO NOT MEET

set_before : (l : List ℕ) (i v j : ℕ) (ys : List ℕ) → i < j → set (sets l j ys) i v ≡ sets (set l i v) j ys
set_before l i v j [] h = refl
set_before l i v j (y ∷ ys) h =
    set_before (set l j y) i v (suc j) ys (omega arith) ∙ ap (λ (r : List ℕ). sets r (suc j) ys) (set_comm l j i y v (λ e. omega arith))

pub sets-comm : (l : List ℕ) (i : ℕ) (xs : List ℕ) (j : ℕ) (ys : List ℕ) → i + length xs ≤ j → sets (sets l i xs) j ys ≡ sets (sets l j ys) i xs
sets-comm l i [] j ys h = refl
sets-comm l i (x ∷ xs) j ys h =
    sets-comm (set l i x) (suc i) xs j ys (omega arith) ∙ ap (λ (r : List ℕ). sets r (suc i) xs) (sym (set_before l i x j ys (omega arith)))

-- two words, of which the second is patched once what follows is written
pub wrote-patched : {a b c d f : List ℕ} {i j k m : ℕ} {x y z : ℕ} {words : List ℕ}
    → Wrote a i (x ∷ []) b j → Wrote b j (z ∷ []) c k → Wrote c k words d m → f ≡ sets d j (y ∷ []) → Wrote a i (x ∷ y ∷ words) f m
wrote-patched {a} {b} {c} {i = i} {j} {x = x} {y} {z} {words} v u w p =
    let e : j ≡ suc i = omega (arith, v.next) in
    let g : suc j ≡ suc (suc i) = omega arith in
    record {
      left = p ∙ ap (λ (r : List ℕ). set r j y) w.left ∙ set_before c j y _ words (omega (arith, u.next))
          ∙ rw (u.left, set-set, u.next, add-one, v.left, e);
      next = omega (arith, v.next, u.next, w.next);
    }

pub written-patched : {a b c d f : CodeWriter} {x y z : ℕ} {words : List ℕ}
    → Written a (x ∷ []) b → Written b (z ∷ []) c → Written c words d → Patched d b.at y f → Written a (x ∷ y ∷ words) f
written-patched v u w p =
    record {
      same = p.same ∙ w.same ∙ u.same ∙ v.same;
      put = rw p.stays (wrote-patched v.put u.put w.put p.cells);
    }

-- A PART OF WHAT IS LENT

sets-out : (l : List ℕ) (i : ℕ) (xs : List ℕ) → length l ≤ i → sets l i xs ≡ l
sets-out l i [] h = refl
sets-out l i (x ∷ xs) h = rw (set_out l i x h) (sets-out l (suc i) xs (omega arith))

take-sets : (n : ℕ) (l : List ℕ) (i : ℕ) (xs : List ℕ) → take n (sets l (n + i) xs) ≡ take n l
take-sets n l i [] = refl
take-sets n l i (x ∷ xs) =
    let e : suc (n + i) ≡ n + suc i = omega arith in
    rw e (take-sets n (set l (n + i) x) (suc i) xs ∙ take-set-le n l (n + i) x (omega arith))

drop-sets : (n : ℕ) (l : List ℕ) (i : ℕ) (xs : List ℕ) → drop n (sets l (n + i) xs) ≡ sets (drop n l) i xs
drop-sets n l i [] = refl
drop-sets n l i (x ∷ xs) =
    let e : suc (n + i) ≡ n + suc i = omega arith in
    rw e (drop-sets n (set l (n + i) x) (suc i) xs ∙ ap (λ (r : List ℕ). sets r (suc i) xs) (drop-set-add n l i x))

sets-part : (n : ℕ) (l : List ℕ) (i : ℕ) (xs : List ℕ) → take n l ++ sets (drop n l) i xs ≡ sets l (n + i) xs
sets-part n l i xs = rw (← (take-sets n l i xs), ← (drop-sets n l i xs)) (take-append-drop n (sets l (n + i) xs))

-- what is lent from a place on, and how it comes back
abbrev pub lent_from : List ℕ → ℕ → List ℕ
lent_from l n = take (length l - n) (drop n l)

abbrev pub back_from : List ℕ → ℕ → List ℕ → List ℕ
back_from l n part = take n l ++ (part ++ drop (length l - n) (drop n l))

-- past the end nothing is written, wherever that is
sets-min : (l : List ℕ) (a i : ℕ) (xs : List ℕ) → sets l (min a (length l) + i) xs ≡ sets l (a + i) xs
sets-min l a i xs = elim (dec_le a (length l)) [ yes h ↦ inside h | no h ↦ outside (lt_of_not-le h) ]
  where
    inside : a ≤ length l → sets l (min a (length l) + i) xs ≡ sets l (a + i) xs
    inside h =
        let e : min a (length l) ≡ a = omega arith in
        rw e

    outside : length l < a → sets l (min a (length l) + i) xs ≡ sets l (a + i) xs
    outside h = sets-out l (min a (length l) + i) xs (omega arith) ∙ sym (sets-out l (a + i) xs (omega arith))

-- two runs that are written into the part from the place `a` on, or into none where the list ends before it
pub sets-lent : (l : List ℕ) (a n i j : ℕ) (xs ys part : List ℕ) → n ≡ min a (length l) → part ≡ sets (sets (lent_from l n) i xs) j ys
    → back_from l n part ≡ sets (sets l (a + i) xs) (a + j) ys
sets-lent l a n i j xs ys part e h =
    let fits : n ≤ length l = omega arith in
    let lent : lent_from l n ≡ drop n l = take_all (length l - n) (drop n l) (omega (arith, length-drop n l)) in
    let past : drop (length l - n) (drop n l) ≡ [] = drop_of_length-le (drop n l) {i = length l - n} (omega (arith, length-drop n l)) in
    let same : length (sets l (a + i) xs) ≡ length l = length-sets l (a + i) xs in
    rw (past, append-nil part) (ap (λ (r : List ℕ). take n l ++ r) (h ∙ ap (λ (r : List ℕ). sets (sets r i xs) j ys) lent)
    ∙ ap₂ (λ (r s : List ℕ). r ++ sets s j ys) (sym (take-sets n l i xs)) (sym (drop-sets n l i xs))
    ∙ sets-part n (sets l (n + i) xs) j ys
    ∙ rw (e, sets-min l a i xs, ← same) (sets-min (sets l (a + i) xs) a j ys))
