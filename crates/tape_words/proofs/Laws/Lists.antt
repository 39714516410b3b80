-- Lists by place: parts word by word, and how long a part is.
use Prim.Native.Nat.{ℕ, zero, suc, ◌+◌, ◌-◌, ◌≤◌, ◌<◌, min}
use native.Mathlib.Omega.{arith}
use mathlib.Core.Path.{◌≡◌, refl, ap, ◌∙◌}
use mathlib.Core.List.{List, [], ◌∷◌}
use lib.ListN.{length, take, drop, get_or, length-take, length-drop}
use lib.Seq.{get_or-drop}
use Rattle.meaning.proofs.Laws.Remaining.{at_place}
use borrow.Author.Tests.{eq-eqb, ne_eqb, le-leb, lt-leb, lt-ltb, le-ltb}

-- a test of two numbers, by what is known of them
pub ruleset tests = (eq-eqb, ne_eqb, le-leb, lt-leb, lt-ltb, le-ltb)

pub reached : (n from : ℕ) (ws : List ℕ) → length (take n (drop from ws)) ≡ min n (length ws - from)
reached n from ws = simp (length-take, length-drop)

pub part_length : (n from : ℕ) (ws : List ℕ) → from + n ≤ length ws → length (take n (drop from ws)) ≡ n
part_length n from ws h = rw reached (omega arith)

-- what is left of the first n elements, from the k-th on
abbrev pub front_from : List ℕ → ℕ → ℕ → List ℕ
front_from l n k = take (n - k) (drop k l)

pub front-whole : (l : List ℕ) (n : ℕ) → front_from l n 0 ≡ take n l
front-whole l n =
    let a : n - 0 ≡ n = omega arith in
    rw a

pub front-cons : (l : List ℕ) (n k : ℕ) → k < n → n ≤ length l → front_from l n k ≡ get_or l k 0 ∷ front_from l n (k + 1)
front-cons l n k h m =
    let a : n - k ≡ suc (n - (k + 1)) = omega arith in
    rw (a, at_place l k (omega arith))

pub front-none : (l : List ℕ) (n k : ℕ) → n ≤ k → front_from l n k ≡ []
front-none l n k h =
    let a : n - k ≡ 0 = omega arith in
    rw a

-- the same of n words from a place on
abbrev pub part_from : List ℕ → ℕ → ℕ → ℕ → List ℕ
part_from ws from = front_from (drop from ws)

pub part-cons : (ws : List ℕ) (from n i : ℕ) → i < n → from + n ≤ length ws
    → part_from ws from n i ≡ get_or ws (from + i) 0 ∷ part_from ws from n (i + 1)
part-cons ws from n i h k = front-cons (drop from ws) n i h (rw length-drop (omega arith)) ∙ rw get_or-drop

pub take_again : (n : ℕ) (l : List ℕ) → take (length (take n l)) l ≡ take n l
take_again zero l = refl
take_again (suc n) [] = refl
take_again (suc n) (x ∷ l) = ap (λ (r : List ℕ). x ∷ r) (take_again n l)

pub drop-again : (n : ℕ) (l : List ℕ) → drop (length (take n l)) l ≡ drop n l
drop-again zero l = refl
drop-again (suc n) [] = refl
drop-again (suc n) (x ∷ l) = drop-again n l
