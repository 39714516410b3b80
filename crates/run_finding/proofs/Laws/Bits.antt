-- The bits of all beginnings of a string that end at the byte just read, and what one byte more makes of them.
use Prim.Native.Nat.{ℕ, zero, suc, ◌+◌, ◌*◌, ◌/◌, ◌%◌, ◌^◌, ◌≤◌, ◌<◌, min}
use native.Mathlib.Nat.{pow-suc}
use native.Mathlib.Omega.{arith}
use mathlib.Core.Path.{◌≡◌, refl, ◌∙◌}
use mathlib.Core.Bool.{Bool, true, false}
use mathlib.Core.List.{[], ◌∷◌}
use lib.Bits.{bit_and, and_step}
use lib.Dec.{eqb}
use lib.ListN.{length}
use Rattle.meaning.specs.Choice.{Bytes, both, starts_with}
use Rattle.run_finding.specs.Occurrences.{bit, backwards, occurrence_bits}

-- which beginnings of the string end here: the string and what was read both stand backwards
unfoldable pub state_of : Bytes → Bytes → ℕ
state_of [] past = 0
state_of (x ∷ xs) past = state_of xs past * 2 + bit (starts_with (x ∷ xs) past)

bit-small : (b : Bool) → bit b ≤ 1
bit-small true = omega arith
bit-small false = omega arith

least-bit : (a b : Bool) → min (bit a) (bit b) ≡ bit (both b a)
least-bit true true = refl
least-bit true false = refl
least-bit false true = refl
least-bit false false = refl

-- two numbers that end in a bit, taken bit by bit
and-bits : (u v : ℕ) (a b : Bool) → bit_and (u * 2 + bit a) (v * 2 + bit b) ≡ bit_and u v * 2 + bit (both b a)
and-bits u v a b =
    let small = bit-small a in
    let small' = bit-small b in
    let half : (u * 2 + bit a) / 2 ≡ u = omega arith in
    let half' : (v * 2 + bit b) / 2 ≡ v = omega arith in
    let odd : (u * 2 + bit a) % 2 ≡ bit a = omega arith in
    let odd' : (v * 2 + bit b) % 2 ≡ bit b = omega arith in
    and_step (u * 2 + bit a) (v * 2 + bit b) ∙ rw (half, half', odd, odd', least-bit a b)

pub one_more_lem : (xs : Bytes) (x c : ℕ) (past : Bytes) →
    bit_and (state_of xs past + 2 ^ length xs) (occurrence_bits (x ∷ xs) c) ≡ state_of (x ∷ xs) (c ∷ past)
unfolding state_of occurrence_bits starts_with
one_more_lem [] x c past = and-bits 0 0 true (eqb x c)
one_more_lem (y ∷ ys) x c past =
    let s = starts_with (y ∷ ys) past in
    let power : 2 ^ suc (length ys) ≡ 2 ^ length ys * 2 = pow-suc 2 (length ys) in
    let shifted : state_of ys past * 2 + bit s + 2 ^ suc (length ys) ≡ (state_of ys past + 2 ^ length ys) * 2 + bit s = rw power (omega arith) in
    rw (shifted, and-bits (state_of ys past + 2 ^ length ys) (occurrence_bits (y ∷ ys) c) s (eqb x c), one_more_lem ys y c past)

-- the bits of the beginnings that are shorter
pub shorter : (xs : Bytes) (x : ℕ) (past : Bytes) → state_of (x ∷ xs) past / 2 ≡ state_of xs past
unfolding state_of
shorter xs x past = let small = bit-small (starts_with (x ∷ xs) past) in omega arith

-- bit 0 is the whole string
pub whole : (xs : Bytes) (x : ℕ) (past : Bytes) → state_of (x ∷ xs) past % 2 ≡ bit (starts_with (x ∷ xs) past)
unfolding state_of
whole xs x past = let small = bit-small (starts_with (x ∷ xs) past) in omega arith

pub state-small : (xs past : Bytes) → state_of xs past < 2 ^ length xs
unfolding state_of
state-small [] past = omega arith
state-small (x ∷ xs) past =
    let power : 2 ^ suc (length xs) ≡ 2 ^ length xs * 2 = pow-suc 2 (length xs) in
    let small = bit-small (starts_with (x ∷ xs) past) in
    rw power (omega (arith, state-small xs past))

pub places-small : (xs : Bytes) (c : ℕ) → occurrence_bits xs c < 2 ^ length xs
unfolding occurrence_bits
places-small [] c = omega arith
places-small (x ∷ xs) c =
    let power : 2 ^ suc (length xs) ≡ 2 ^ length xs * 2 = pow-suc 2 (length xs) in
    let small = bit-small (eqb x c) in
    rw power (omega (arith, places-small xs c))

pub backwards-length : (l : Bytes) (n : ℕ) → length (backwards l n) ≡ n
unfolding backwards
backwards-length l zero = refl
backwards-length l (suc n) = rw (backwards-length l n)
