-- One word: its four bytes are read back, and with them the instruction that was packed into it.
use mathlib.Core.Path.{◌≡◌, refl}
use mathlib.Core.Bool.{Bool, true, false}
use mathlib.Core.Option.{some}
use Prim.Native.Nat.{ℕ, ◌+◌, ◌*◌, ◌/◌, ◌%◌, ◌<◌}
use native.Mathlib.Omega.{arith}
use lib.Dec.{eqb}
use Rattle.meaning.specs.Angles.{Operation, plus, minus}
use Rattle.meaning.specs.Classes.{Class, digit, upper, lower, alphabetic, blank, class_number}
use Rattle.meaning.specs.Instructions.{Site, from_start, from_end, from_place, look, compare, predicate, predicate_part, store, Length, null, whole}
use Rattle.meaning.specs.Instructions.{left, right}
use Rattle.meaning.specs.Packing.{code_word, number_in, first_in, second_in, third_in, site_register, site_offset, site_of, length_number, length_of}
use Rattle.meaning.specs.Packing.{class_of, truth_bit, operation_number, operation_of, part_operand, test_of, store_of}

-- THE FOUR BYTES

-- what a word holds
pub record Holds (w n a b c : ℕ) : Type 0 where
  pub number : number_in w ≡ n
  pub first : first_in w ≡ a
  pub second : second_in w ≡ b
  pub third : third_in w ≡ c

module _ (n a b c : ℕ) (hn : n < 256) (ha : a < 256) (hb : b < 256) (hc : c < 256) where
  pub word_holds : Holds (code_word n a b c) n a b c
  word_holds = omega arith

-- REGISTERS, CLASSES AND TRUTH VALUES

pub site-back : (s : Site) → site_of (site_register s) (site_offset s) ≡ some s
site-back (from_start k) = refl
site-back (from_end k) = refl
site-back (from_place k) = refl

pub register-below : (s : Site) → site_register s < 4
register-below (from_start k) = omega arith
register-below (from_end k) = omega arith
register-below (from_place k) = omega arith

pub length_back : (r : Length) → length_of (length_number r) ≡ some r
length_back null = refl
length_back whole = refl
length_back left = refl
length_back right = refl

pub length-below : (r : Length) → length_number r < 256
length-below null = omega arith
length-below whole = omega arith
length-below left = omega arith
length-below right = omega arith

-- what holds of each class holds of all
pub by-class : (P : Class → Type 0) → P digit → P upper → P lower → P alphabetic → P blank → (k : Class) → P k
by-class P d u l a b digit = d
by-class P d u l a b upper = u
by-class P d u l a b lower = l
by-class P d u l a b alphabetic = a
by-class P d u l a b blank = b

class_back : (k : Class) → class_of (class_number k) ≡ some k
class_back = by-class (λ k. class_of (class_number k) ≡ some k) refl refl refl refl refl

pub class-below : (k : Class) → class_number k < 5
class-below = by-class (λ k. class_number k < 5) (omega arith) (omega arith) (omega arith) (omega arith) (omega arith)

truth-back : (e : Bool) → eqb (truth_bit e) 1 ≡ e
truth-back true = refl
truth-back false = refl

pub truth-below : (e : Bool) → truth_bit e < 2
truth-below true = omega arith
truth-below false = omega arith

pub operation-back : (op : Operation) → operation_of (operation_number op) ≡ some op
operation-back plus = refl
operation-back minus = refl

pub operation-below : (op : Operation) → operation_number op < 256
operation-below plus = omega arith
operation-below minus = omega arith

-- two registers, or a register and a truth value, in one byte
low_part : (s : Site) (m : ℕ) → (site_register s + 4 * m) % 4 ≡ site_register s
low_part s m = omega (arith, register-below s)

high_part : (s : Site) (m : ℕ) → (site_register s + 4 * m) / 4 ≡ m
high_part s m = omega (arith, register-below s)

-- two registers, a truth value and a class in one byte
module _ (s r : Site) (k : Class) (e : Bool) where
  operand-from : part_operand s r k e % 4 ≡ site_register s
  operand-from = omega (arith, register-below s)

  operand-to : part_operand s r k e / 4 % 4 ≡ site_register r
  operand-to = omega (arith, register-below s, register-below r)

  operand-truth : part_operand s r k e / 16 % 2 ≡ truth_bit e
  operand-truth = omega (arith, register-below s, register-below r, truth-below e)

  operand-class : part_operand s r k e / 32 ≡ class_number k
  operand-class = omega (arith, register-below s, register-below r, truth-below e)

-- THE INSTRUCTION THAT A WORD HOLDS

module _ (w : ℕ) (s : Site) where
  pub look-held : (c : ℕ) → Holds w 1 (site_register s) (site_offset s) c → test_of w ≡ look s c
  look-held c h = rw (h.number, h.first, h.second, h.third, site-back s)

  pub compare-held : (r : Site) → Holds w 2 (site_register s + 4 * site_register r) (site_offset s) (site_offset r) → test_of w ≡ compare s r
  compare-held r h = rw (h.number, h.first, h.second, h.third, low_part s, high_part s, site-back s, site-back r)

  pub predicate-held : (k : Class) (e : Bool) → Holds w 3 (site_register s + 4 * truth_bit e) (site_offset s) (class_number k) → test_of w ≡
      predicate s k e
  predicate-held k e h =
      rw (h.number, h.first, h.second, h.third, low_part s, high_part s, site-back s, class_back k, truth-back e)

  pub predicate-part-held : (r : Site) (k : Class) (e : Bool) → Holds w 20 (part_operand s r k e) (site_offset s) (site_offset r)
      → test_of w ≡ predicate_part s r k e
  predicate-part-held r k e h =
      rw (
        h.number,
        h.first,
        h.second,
        h.third,
        operand-from s r k e,
        operand-to s r k e,
        operand-truth s r k e,
        operand-class s r k e,
        site-back s,
        site-back r,
        class_back k,
        truth-back e,
      )

  pub store-held : Holds w 4 (site_register s) (site_offset s) 0 → store_of w ≡ store s
  store-held h = rw (h.number, h.first, h.second, site-back s)

-- a called function's number stands above the instruction's
module _ (f : ℕ) where
  pub called-number : (n : ℕ) → n < 256 → number_in (n + 256 * f) ≡ n
  called-number n h = omega arith

  pub called-function : (n : ℕ) → n < 256 → (n + 256 * f) / 256 ≡ f
  called-function n h = omega arith
