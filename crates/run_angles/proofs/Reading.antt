-- Looking along a text for a byte, and reading a number's digits: what is left from here gives what the whole gives.
use Prim.Native.Nat.{ℕ, zero, suc, ◌+◌, ◌*◌, ◌-◌, ◌^◌, ◌≤◌, ◌<◌}
use native.Mathlib.Omega.{arith}
use native.Mathlib.Numerals.{add-one}
use mathlib.Core.Path.{◌≡◌, refl, sym, ◌∙◌}
use mathlib.Core.Bool.{Bool, true, false}
use mathlib.Core.List.{◌++◌, append-nil, append_assoc}
use mathlib.Core.Option.{some}
use lib.Dec.{leb}
use Rattle.std.proofs.Common.{Some, None}
use lib.ListN.{length, take, drop, get_or, drop_of_length-le}
use lib.Seq.{drop-cons, take-suc}
use borrow.Author.Tests.{le-leb, lt-leb, eq-eqb, ne_eqb}
use Rattle.meaning.specs.Choice.{Bytes, pick, both, guard, every}
use Rattle.meaning.specs.Classes.{in_class, digit, within}
use Rattle.meaning.specs.Numerals.{numeral_from}
use Rattle.meaning.specs.Angles.{cut_before, cut_after, numeral_in}
use Rattle.run_angles.specs.Post.{Cut, number_read}

-- THE FIRST BYTE OF A VALUE

pub record Seeks (byte : ℕ) (text : Bytes) (at : ℕ) : Type 0 where
  pub within : at ≤ length text
  pub before : cut_before byte text ≡ take at text ++ cut_before byte (drop at text)
  pub after : cut_after byte text ≡ cut_after byte (drop at text)

pub seek-start : {byte : ℕ} {text : Bytes} → Seeks byte text 0
seek-start = record { within = omega arith; before = refl; after = refl }

module _ {byte : ℕ} {text : Bytes} {at : ℕ} (s : Seeks byte text at) where
  pub seek-on : at < length text → (get_or text at 0 ≡ byte → ⊥) → Seeks byte text (at + 1)
  unfolding cut_before cut_after
  seek-on h other =
      let e = ne_eqb (get_or text at 0) byte other in
      record {
        within = omega arith;
        before = s.before ∙ rw (add-one, drop-cons text at 0 h, e, take-suc text at 0 h) (sym (append_assoc (take at text) _ _));
        after = s.after ∙ rw (add-one, drop-cons text at 0 h, e);
      }

  pub seek_found : at < length text → get_or text at 0 ≡ byte → Cut byte text at
  unfolding cut_before cut_after
  seek_found h same =
      let e = eq-eqb (get_or text at 0) byte same in
      record {
        within = s.within;
        before = s.before ∙ rw (drop-cons text at 0 h, e) (append-nil (take at text));
        after = s.after ∙ rw (add-one, drop-cons text at 0 h, e);
      }

  pub seek-end : length text ≤ at → Cut byte text at
  unfolding cut_before cut_after
  seek-end h =
      record {
        within = s.within;
        before = s.before ∙ rw (drop_of_length-le text h) (append-nil (take at text));
        after = s.after ∙ rw (drop_of_length-le text h, drop_of_length-le text (past h));
      }
    where
      past : length text ≤ at → length text ≤ at + 1
      past h = omega arith

-- A NUMBER'S DIGITS

pub record Reads (text : Bytes) (value at : ℕ) : Type 0 where
  pub within : at ≤ length text
  pub low : value < 10 ^ at
  pub digits : every (in_class digit) text ≡ every (in_class digit) (drop at text)
  pub number : numeral_from 0 text ≡ numeral_from value (drop at text)

pub read-start : {text : Bytes} → Reads text 0 0
read-start = record { within = omega arith; low = omega arith; digits = refl; number = refl }

-- before the third digit the value is small
small : (at : ℕ) → at ≤ 2 → 10 ^ at ≤ 100
small zero h = omega arith
small (suc zero) h = omega arith
small (suc (suc zero)) h = omega arith
small (suc (suc (suc at))) h = absurd (omega arith)

pub read_low : {text : Bytes} {value at : ℕ} → Reads text value at → at ≤ 2 → value < 100
read_low {text} {value} {at} s h = omega (arith, small at h, s.low)

-- a test that fails, after another
after-false : (t : Bool) → both t false ≡ false
after-false true = refl
after-false false = refl

pub read-on : {text : Bytes} {value at : ℕ} → Reads text value at → at < length text → 48 ≤ get_or text at 0 → get_or text at 0 ≤ 57 →
    Reads text (10 * value + (get_or text at 0 - 48)) (at + 1)
unfolding every numeral_from
read-on {text} {value} {at} s h low high =
    record {
      within = omega arith;
      low = rw add-one (omega (arith, s.low));
      digits = s.digits ∙ rw (add-one, drop-cons text at 0 h, le-leb 48 (get_or text at 0) low, le-leb (get_or text at 0) 57 high);
      number = s.number ∙ rw (add-one, drop-cons text at 0 h);
    }

module _ (least most greatest : ℕ) (text : Bytes) where
  pub too_few : length text < least → None ≡ number_read (numeral_in least most greatest text)
  too_few h = rw (lt-leb least (length text) h)

  pub too_many : most < length text → None ≡ number_read (numeral_in least most greatest text)
  too_many h = rw (lt-leb (length text) most h, after-false (leb least (length text)))

  module _ {value at : ℕ} (s : Reads text value at) where
    module _ (h : at < length text) where
      read-not : in_class digit (get_or text at 0) ≡ false → None ≡ number_read (numeral_in least most greatest text)
      unfolding every
      read-not e = rw (s.digits, drop-cons text at 0 h, e, after-false (within least most (length text)))

      pub read_under : get_or text at 0 < 48 → None ≡ number_read (numeral_in least most greatest text)
      read_under b = read-not (rw (lt-leb 48 (get_or text at 0) b))

      pub read-over : 57 < get_or text at 0 → None ≡ number_read (numeral_in least most greatest text)
      read-over b = read-not (rw (lt-leb (get_or text at 0) 57 b, after-false (leb 48 (get_or text at 0))))

    module _ (l : least ≤ length text) (m : length text ≤ most) (h : length text ≤ at) where
      ended : (b : Bool) → leb value greatest ≡ b → pick b (Some value) None ≡ number_read (numeral_in least most greatest text)
      unfolding every numeral_from
      ended b e =
          rw (le-leb least (length text) l, le-leb (length text) most m, s.digits, s.number, drop_of_length-le text h, e) (by-test b)
        where
          by-test : (b : Bool) → pick b (Some value) None ≡ number_read (guard b (some value))
          by-test true = refl
          by-test false = refl

      pub read_past : greatest < value → None ≡ number_read (numeral_in least most greatest text)
      read_past b = ended false (lt-leb value greatest b)

      pub read_done : value ≤ greatest → Some value ≡ number_read (numeral_in least most greatest text)
      read_done b = ended true (le-leb value greatest b)
