-- The fewest digits of a number are its numeral.
use Prim.Native.Nat.{ℕ, zero, suc, ◌+◌, ◌*◌, ◌-◌, ◌/◌, ◌%◌, ◌^◌, ◌≤◌, ◌<◌}
use native.Mathlib.Omega.{arith}
use native.Mathlib.Nat.{pow-suc, one-le-pow, pow-le-pow_right}
use mathlib.Core.Path.{◌≡◌, refl}
use mathlib.Core.Bool.{Bool, true, false}
use lib.Dec.{leb}
use mir.Val.{Fits}
use mir.Syntax.{w64}
use borrow.Author.Tests.{lt-ltb, le-ltb, leb-true, leb-false}
use Rattle.io.specs.Digits.{hex_digit_ascii, last_digits, IsDigitCount}
use Rattle.program_printing.specs.Texts.{numeral_of, numeral}

glyph-digit : (n : ℕ) → hex_digit_ascii (n % 10) ≡ 48 + n % 10
glyph-digit n = rw (lt-ltb (n % 10) 10 (omega arith))

-- a number of one digit more than k, and not fewer
digits-numeral : (more k n : ℕ) → k < more → n < 10 ^ suc k → (0 < k → 10 ^ k ≤ n) → last_digits 10 (suc k) n ≡ numeral_of more n
unfolding numeral_of
digits-numeral zero k n short below above = absurd (omega arith)
digits-numeral (suc more) zero n short below above = rw (lt-ltb n 10 below, glyph-digit n)
digits-numeral (suc more) (suc k) n short below above =
    let low : 10 ^ k * 10 ≤ n = rw pow-suc at (above (omega arith)) in
    let high : n < 10 ^ suc k * 10 = rw (pow-suc 10 (suc k)) at below in
    let some = one-le-pow k 10 (omega arith) in
    let large : 10 ≤ n = omega arith in
    rw (le-ltb n 10 large, glyph-digit n, digits-numeral more k (n / 10) (omega arith) (omega arith) (λ h. omega arith))

below_power : (k : ℕ) → k < 10 ^ k
below_power zero = omega arith
below_power (suc k) = rw pow-suc (omega (arith, below_power k))

pub fewest-numeral : (k n : ℕ) → IsDigitCount 10 1 n k → last_digits 10 k n ≡ numeral n
fewest-numeral zero n f = absurd (omega (arith, f.0))
fewest-numeral (suc zero) n f = digits-numeral (suc n) zero n (omega arith) f.1 (λ h. absurd (omega arith))
fewest-numeral (suc (suc k)) n f =
    let less : suc (suc k) - 1 ≡ suc k = omega arith in
    let above : 10 ^ suc k ≤ n = rw less at (f.2 (omega arith)) in
    digits-numeral (suc n) (suc k) n (omega (arith, below_power (suc k))) f.1 (λ h. above)

-- a number of 64 bits has no more than 20 digits
pub fewest_short : (k n : ℕ) → IsDigitCount 10 1 n k → Fits w64 n → k ≤ 20
fewest_short k n f fits = by (leb k 20) refl
  where
    by : (b : Bool) → leb k 20 ≡ b → k ≤ 20
    by true e = leb-true k 20 e
    by false e =
        let long = leb-false k 20 e in
        let more : 20 ≤ k - 1 = omega arith in
        absurd (omega (arith, f.2 (omega arith), pow-le-pow_right {n = 10} (omega arith) more))
