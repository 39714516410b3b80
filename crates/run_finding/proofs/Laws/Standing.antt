-- A string that stands in a text, read from its end.
use Prim.Native.Nat.{ℕ, zero, suc, ◌+◌, ◌≤◌, ◌<◌}
use native.Mathlib.Nat.{not-suc-le-zero, le_of_suc-le-suc}
use native.Mathlib.Omega.{arith}
use mathlib.Core.Path.{◌≡◌, refl}
use mathlib.Core.Bool.{Bool, true, false}
use mathlib.Core.List.{[], ◌∷◌, ◌++◌}
use lib.Dec.{eqb}
use lib.ListN.{length, get_or, take, drop, length-drop}
use lib.Seq.{take-suc, take-length, length-take-le, get_or-drop}
use Rattle.meaning.specs.Choice.{Bytes, both, starts_with}
use Rattle.run_finding.specs.Occurrences.{backwards}

both-swap : (a b c : Bool) → both a (both b c) ≡ both b (both a c)
both-swap true b c = refl
both-swap false true c = refl
both-swap false false c = refl

starts_more : (xs : Bytes) (x : ℕ) (ys : Bytes) → length xs < length ys →
    starts_with (xs ++ x ∷ []) ys ≡ both (eqb x (get_or ys (length xs) 0)) (starts_with xs ys)
unfolding starts_with
starts_more xs x [] h = absurd (not-suc-le-zero h)
starts_more [] x (y ∷ ys) h = refl
starts_more (u ∷ xs) x (y ∷ ys) h =
    rw (starts_more xs x ys (le_of_suc-le-suc h)) (both-swap (eqb u y) (eqb x (get_or ys (length xs) 0)) (starts_with xs ys))

-- the first n bytes of the string stand at a place of the text where, read backwards, they stand before the place n
-- further
stands-back : (string text : Bytes) (q n : ℕ) → n ≤ length string → q + n ≤ length text →
    starts_with (backwards string n) (backwards text (q + n)) ≡ starts_with (take n string) (drop q text)
unfolding starts_with backwards
stands-back string text q zero h h' = refl
stands-back string text q (suc n) h h' =
    let next : q + suc n ≡ suc (q + n) = omega arith in
    let size : length (take n string) ≡ n = length-take-le n string (omega arith) in
    let room : length (take n string) < length (drop q text) = rw (size, length-drop q text) (omega arith) in
    rw (
      next,
      take-suc string n 0 h,
      starts_more (take n string) (get_or string n 0) (drop q text) room,
      size,
      get_or-drop q text n 0,
      stands-back string text q n (omega arith) (omega arith),
    )

pub stands : (string text : Bytes) (q : ℕ) → q + length string ≤ length text →
    starts_with (backwards string (length string)) (backwards text (q + length string)) ≡ starts_with string (drop q text)
stands string text q h = rw (take-length string) at (stands-back string text q (length string) (omega arith) h)

-- what starts a list is no longer than it
pub starts-short : (xs ys : Bytes) → starts_with xs ys ≡ true → length xs ≤ length ys
unfolding starts_with
starts-short [] ys e = omega arith
starts-short (x ∷ xs) [] e = let z : ◌≡◌ {A = ℕ} 0 1 = cc in absurd (omega arith)
starts-short (x ∷ xs) (y ∷ ys) e = by_first (eqb x y) (λ h. starts-short xs ys h) e
  where
    by_first : (b : Bool) → (starts_with xs ys ≡ true → length xs ≤ length ys) → both b (starts_with xs ys) ≡ true → suc (length xs) ≤ suc (length ys)
    by_first true short h = omega (arith, short h)
    by_first false short h = let z : ◌≡◌ {A = ℕ} 0 1 = cc in absurd (omega arith)
