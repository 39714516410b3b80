-- Words stored one after another: in two runs, and what is left of those still to be stored.
use Prim.Native.Nat.{ℕ}
use native.Mathlib.Omega.{arith}
use mathlib.Core.Path.{◌≡◌, refl, ◌∙◌}
use mathlib.Core.List.{List, [], ◌++◌}
use lib.ListN.{length-append}
use Rattle.meaning.proofs.Laws.Storing.{sets-append}
use Rattle.code_words.specs.Writing.{Wrote, Same}

pub same_refl : (code : List ℕ) (at : ℕ) (words : List ℕ) → Same code at words code at words
same_refl code at words = record { left = refl; next = refl }

pub same-trans : {a b c : List ℕ} {i j k : ℕ} {x y z : List ℕ} → Same a i x b j y → Same b j y c k z → Same a i x c k z
same-trans s t = record { left = t.left ∙ s.left; next = t.next ∙ s.next }

-- the same words by another name
pub same-words : {a b : List ℕ} {i j : ℕ} {x y z : List ℕ} → Same a i x b j y → y ≡ z → Same a i x b j z
same-words s e = rw e at s

-- what was written need not be written any more
pub same-wrote : {a b c : List ℕ} {i j k : ℕ} {x words : List ℕ} (rest : List ℕ)
    → Same a i x b j (words ++ rest) → Wrote b j words c k → Same a i x c k rest
same-wrote {b = b} {j = j} {words = words} rest s w =
    record {
      left = rw (w.left, w.next) (sets-append b j words rest ∙ s.left);
      next = rw w.next (omega (arith, s.next, length-append words rest));
    }

pub same_end : {a b : List ℕ} {i j : ℕ} {x : List ℕ} → Same a i x b j [] → Wrote a i x b j
same_end s = record { left = s.left; next = omega (arith, s.next) }

-- one run of words and then another
pub wrote-more : {a b c : List ℕ} {i j k : ℕ} {x y : List ℕ} → Wrote a i x b j → Wrote b j y c k → Wrote a i (x ++ y) c k
wrote-more {a} {i = i} {x = x} {y = y} v w =
    record {
      left = w.left ∙ rw (v.left, v.next) (sets-append a i x y);
      next = rw (w.next, v.next, length-append) (omega arith);
    }
