-- The table of a string's places, made byte by byte of the string.
use Prim.Native.Nat.{ℕ, suc, ◌+◌, ◌-◌, ◌*◌, ◌/◌, ◌^◌, ◌≤◌, ◌<◌}
use native.Mathlib.Nat.{pow-suc, mul_assoc, mul_comm, add-mul, zero-mul, one-mul, mul-one, add-zero}
use native.Mathlib.Numerals.{add-one}
use native.Mathlib.Omega.{arith}
use mathlib.Core.Path.{◌≡◌, refl, sym, ◌∙◌}
use mathlib.Core.Bool.{Bool, true, false}
use mathlib.Core.List.{List}
use lib.Dec.{eqb}
use lib.ListN.{length, get_or, set, replicate, length-set, length-replicate, get_or-replicate}
use lib.Seq.{get_or-set_same, get_or-set_other}
use lib.Pow.{pow_mono, shl_lt}
use borrow.Author.Tests.{eqb-true, eqb-false}
use Rattle.meaning.specs.Choice.{Bytes, pick}
use Rattle.run_finding.specs.Occurrences.{bit, backwards, occurrence_bits, Marks}
use Rattle.run_finding.proofs.Laws.Bits.{places-small, backwards-length}

-- the table after some bytes of the string: the bits of those to come are still 0
pub record Marked (string marks : List ℕ) (unit at : ℕ) : Type 0 where
  pub size : length marks ≡ 256
  pub each : (c : ℕ) → c < 256 → get_or marks c 0 ≡ occurrence_bits (backwards string at) c * 2 ^ (length string - at)
  pub unit-is : unit ≡ 2 ^ (length string - at) / 2

half-power : (n : ℕ) → 2 ^ suc n / 2 ≡ 2 ^ n
half-power n = let power : 2 ^ suc n ≡ 2 ^ n * 2 = pow-suc 2 n in rw power (omega arith)

pub marked-first : (string marks : List ℕ) (unit : ℕ) → 1 ≤ length string → marks ≡ replicate 256 0 → unit ≡ 2 ^ (length string - 1) →
    Marked string marks unit 0
unfolding occurrence_bits backwards
marked-first string marks unit h e e' =
    let whole : length string - 0 ≡ suc (length string - 1) = omega arith in
    record {
      size = rw e (length-replicate {A = ℕ} 256 0);
      each = λ c below. rw (e, zero-mul (2 ^ (length string - 0))) (get_or-replicate 256 c 0 0 below);
      unit-is = rw (whole, half-power (length string - 1)) e';
    }

one-bit-more : (m p : ℕ) (b : Bool) → (m * 2 + bit b) * p ≡ m * (p * 2) + pick b p 0
one-bit-more m p b =
    add-mul (m * 2) (bit b) p ∙ rw (mul_assoc m 2 p, mul_comm 2 p) (by_bit b)
  where
    by_bit : (b : Bool) → m * (p * 2) + bit b * p ≡ m * (p * 2) + pick b p 0
    by_bit true = rw (one-mul p)
    by_bit false = rw (zero-mul p)

next-byte : (string : Bytes) (at c : ℕ) → occurrence_bits (backwards string (at + 1)) c ≡
    occurrence_bits (backwards string at) c * 2 + bit (eqb (get_or string at 0) c)
unfolding occurrence_bits backwards
next-byte string at c = rw (add-one at)

module _ (string marks : List ℕ) (unit at : ℕ) (m : Marked string marks unit at) (h : at < length string) where
  abbrev byte : ℕ
  byte = get_or string at 0

  abbrev left : ℕ
  left = length string - (at + 1)

  -- what stands in the table, with the bit of this byte
  grown : (c : ℕ) → c < 256 → get_or marks c 0 + pick (eqb byte c) (2 ^ left) 0 ≡ occurrence_bits (backwards string (at + 1)) c * 2 ^ left
  grown c below =
      let more : length string - at ≡ suc left = omega arith in
      rw (m.each c below, more, pow-suc 2 left, next-byte string at c)
      (sym (one-bit-more (occurrence_bits (backwards string at) c) (2 ^ left) (eqb byte c)))

  unit-here : unit ≡ 2 ^ left
  unit-here = let more : length string - at ≡ suc left = omega arith in m.unit-is ∙ rw more (half-power left)

  same_byte : (b : ℕ) → eqb b b ≡ true
  same_byte b = by-test (eqb b b) refl
    where
      by-test : (t : Bool) → eqb b b ≡ t → t ≡ true
      by-test true e = refl
      by-test false e = absurd (eqb-false b b e refl)

  pub mark-fits : length string ≤ 64 → byte < 256 → get_or marks byte 0 + unit < 2 ^ 64
  mark-fits short below =
      let value : get_or marks byte 0 + unit ≡ occurrence_bits (backwards string (at + 1)) byte * 2 ^ left =
      rw (unit-here, ← (rw (same_byte byte) at (grown byte below))) in
      let small : occurrence_bits (backwards string (at + 1)) byte < 2 ^ (at + 1) =
      rw (backwards-length string (at + 1)) at (places-small (backwards string (at + 1)) byte) in
      let whole : at + 1 + left ≡ length string = omega arith in
      let bound : occurrence_bits (backwards string (at + 1)) byte * 2 ^ left < 2 ^ length string = rw whole at (shl_lt (at + 1) left small) in
      rw value (omega (arith, bound, pow_mono {i = length string} {j = 64} short))

  pub marked_next : byte < 256 → Marked string (set marks byte (get_or marks byte 0 + unit)) (unit / 2) (at + 1)
  marked_next below =
      record {
        size = length-set marks byte (get_or marks byte 0 + unit) ∙ m.size;
        each = λ c inside. by_byte c inside (eqb byte c) refl;
        unit-is = rw unit-here;
      }
    where
      by_byte : (c : ℕ) → c < 256 → (t : Bool) → eqb byte c ≡ t →
          get_or (set marks byte (get_or marks byte 0 + unit)) c 0 ≡ occurrence_bits (backwards string (at + 1)) c * 2 ^ left
      by_byte c inside true e =
          let here : byte ≡ c = eqb-true byte c e in
          rw (← here, get_or-set_same marks byte (get_or marks byte 0 + unit) 0 (omega (arith, m.size)), unit-here)
          (rw (same_byte byte) at (grown byte below))
      by_byte c inside false e =
          rw (get_or-set_other marks byte c (get_or marks byte 0 + unit) 0 (λ same. eqb-false byte c e (sym same)))
          (sym (add-zero (get_or marks c 0)) ∙ (rw e at (grown c inside)))

-- the whole string
pub marked-last : (string marks : List ℕ) (unit at : ℕ) → Marked string marks unit at → length string ≤ at → at ≤ length string → Marks string marks
marked-last string marks unit at m h h' =
    let whole : at ≡ length string = omega arith in
    let none : length string - length string ≡ 0 = omega arith in
    record { each = λ c below. rw (whole, none, mul-one (occurrence_bits (backwards string (length string)) c)) at (m.each c below) }
