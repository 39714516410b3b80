-- A class asked of a part at all places of a range: where its truth turns.
use Prim.Native.Nat.{ℕ, zero, suc, ◌+◌, ◌-◌, ◌≤◌, ◌<◌, ◌/◌, ◌%◌, min}
use native.Mathlib.Nat.{sub-zero, zero-sub}
use native.Mathlib.Omega.{arith}
use mathlib.Core.Path.{◌≡◌, refl, sym, ap, ◌∙◌}
use mathlib.Core.Bool.{Bool, true, false, not}
use mathlib.Core.List.{[], ◌∷◌}
use mathlib.Core.Option.{Option, none, some}
use lib.Dec.{leb, ltb, eqb}
use lib.ListN.{length, take, drop, length-drop}
use lib.Seq.{take-take, take-nil, drop-drop, length-take-le}
use borrow.Author.Tests.{le-leb, lt-ltb, le-ltb, leb-true, leb-false, ltb-true, ltb-false}
use Rattle.meaning.specs.Choice.{Bytes}
use Rattle.meaning.specs.Classes.{Class, in_class, same_truth}
use Rattle.meaning.specs.Instructions.{Site, from_place}
use Rattle.meaning.specs.Matching.{Checked, checked, check}
use Rattle.meaning.specs.Packing.{number_in, first_in, second_in, third_in, site_of, class_of, predicate_part_for, predicate_part_of, test_of}
use Rattle.std.specs.Prelude.{Some}
use Rattle.run_code_places.specs.declared.Places.{Places}
use Rattle.run_sites.specs.Sites.{site_before}
use Rattle.run_class_runs.specs.Runs.{Leads, Trails}
use Rattle.run_narrowing.specs.Narrowed.{part_of, NarrowsTo}
use Rattle.run_sites.proofs.Laws.Sites.{site-most}
use Rattle.run_checking.proofs.Laws.Parts.{part-told}
use Rattle.run_narrowing.proofs.Laws.Moving.{Apart, site-apart, before-still}

-- WHERE THE TRUTH TURNS

module _ (c : ℕ → Checked) (first places turn : ℕ) (h : turn ≤ places) where
  -- the condition passes before the turn and fails from it on, or the other way round
  pub turns : (early : Bool) → ((p : ℕ) → first ≤ p → p < first + places → c p ≡ checked (same_truth early (ltb (p - first) turn))) →
      NarrowsTo (Some (part_of early first places turn)) c first places
  turns true e =
      record {
        begins = omega arith;
        ends = omega arith;
        passes = λ p a b. e p a (omega arith) ∙ rw (lt-ltb (p - first) turn (omega arith));
        before = λ p a b. absurd (omega arith);
        after = λ p a b. e p (omega arith) b ∙ rw (le-ltb (p - first) turn (omega arith));
      }
  turns false e =
      record {
        begins = omega arith;
        ends = omega arith;
        passes = λ p a b. e p (omega arith) (omega arith) ∙ rw (le-ltb (p - first) turn (omega arith));
        before = λ p a b. e p a (omega arith) ∙ rw (lt-ltb (p - first) turn (omega arith));
        after = λ p a b. absurd (omega arith);
      }

same_test : (a b c d : ℕ) → (a ≤ b → c < d) → (c < d → a ≤ b) → leb a b ≡ ltb c d
same_test a b c d there back = by_order (leb a b) refl
  where
    by-second : (t : Bool) → ltb c d ≡ t → b < a → d ≤ c
    by-second true e h = let less = back (ltb-true c d e) in absurd (omega arith)
    by-second false e h = ltb-false c d e

    by_order : (t : Bool) → leb a b ≡ t → t ≡ ltb c d
    by_order true e = sym (lt-ltb c d (there (leb-true a b e)))
    by_order false e = sym (le-ltb c d (by-second (ltb c d) refl (leb-false a b e)))

other_test : (expected : Bool) (a b c d : ℕ) → (a ≤ b → d ≤ c) → (d ≤ c → a ≤ b) → same_truth expected (leb a b) ≡ same_truth (not expected) (ltb c d)
other_test expected a b c d there back = by_order (leb a b) refl
  where
    turned : (t e : Bool) → same_truth e t ≡ same_truth (not e) (not t)
    turned true true = refl
    turned true false = refl
    turned false true = refl
    turned false false = refl

    by-second : (t : Bool) → ltb c d ≡ t → b < a → c < d
    by-second true e h = ltb-true c d e
    by-second false e h = let less = back (ltb-false c d e) in absurd (omega arith)

    by_order : (t : Bool) → leb a b ≡ t → same_truth expected t ≡ same_truth (not expected) (ltb c d)
    by_order true e = rw (le-ltb c d (there (leb-true a b e))) (turned true expected)
    by_order false e = rw (lt-ltb c d (by-second (ltb c d) refl (leb-false a b e))) (turned false expected)

-- WHAT A CONDITION SAYS AT EACH PLACE

part-test : (w : ℕ) → number_in w ≡ 20 → test_of w ≡ predicate_part_of (first_in w) (second_in w) (third_in w)
part-test w e = rw e

drop-take : (n m : ℕ) (l : Bytes) → drop n (take m l) ≡ take (m - n) (drop n l)
drop-take zero m l = rw (sub-zero m)
drop-take (suc n) zero l = rw (zero-sub (suc n)) refl
drop-take (suc n) (suc m) [] = let e = take-nil {A = ℕ} (suc m - suc n) in sym e
drop-take (suc n) (suc m) (x ∷ l) = let same : suc m - suc n ≡ m - n = omega arith in rw same (drop-take n m l)

-- the numbers by themselves
index : (first places p : ℕ) → first ≤ p → p < first + places → p - first < places
index first places p h h' = omega arith

parts-length : (first k fixed p : ℕ) → fixed ≤ first + k → first ≤ p → p + k - fixed ≡ first + k - fixed + (p - first)
parts-length first k fixed p h h' = omega arith

before-turn : (d j lead places : ℕ) → j < places → leb (d + j) lead ≡ ltb j (min (lead + 1 - d) places)
before-turn d j lead places h = same_test (d + j) lead j (min (lead + 1 - d) places) (λ a. omega arith) (λ a. omega arith)

module _ (field : Bytes) (first places n k fixed : ℕ) (expected : Bool) (o : Option Site) (class : Class) (numbered : some class ≡ class_of n) (apart : Apart o)
    (e : some fixed ≡ site_before o (length field) first) where
  site-there : (p : ℕ) → some fixed ≡ site_before o (length field) p
  site-there p = e ∙ by-site o apart
    where
      by-site : (s : Option Site) → Apart s → site_before s (length field) first ≡ site_before s (length field) p
      by-site none a = refl
      by-site (some s) a = rw (before-still field first p s a)

  place-there : (p : ℕ) → p + k ≤ length field → some (p + k) ≡ site_before (some (from_place k)) (length field) p
  place-there p h = rw (le-leb (p + k) (length field) h)

  -- the part ends at the place
  module _ (lead : ℕ) (some-place : 0 < places) (begins : fixed ≤ first + k) (ends : first + k + (places - 1) ≤ length field)
      (l : Leads (in_class class) (take (first + k + (places - 1) - fixed) (drop fixed field)) lead) where
    pub first_says : (p : ℕ) → first ≤ p → p < first + places →
        check (predicate_part_for o (some (from_place k)) (class_of n) expected) field p ≡
        checked (same_truth expected (ltb (p - first) (min (lead + 1 - (first + k - fixed)) places)))
    first_says p h h' =
        let shorter : p + k - fixed ≤ first + k + (places - 1) - fixed = omega arith in
        let within : length (take (first + k + (places - 1) - fixed) (drop fixed field)) ≡ first + k + (places - 1) - fixed =
        length-take-le (first + k + (places - 1) - fixed) (drop fixed field) (rw (length-drop fixed field) (omega arith)) in
        let each = l.each (p + k - fixed) (rw within shorter) in
        part-told o (some (from_place k)) expected field p n class numbered fixed (p + k) (site-there p) (place-there p (omega arith)) (omega arith) ∙
        rw (← (take-take (p + k - fixed) (first + k + (places - 1) - fixed) (drop fixed field) shorter), each, parts-length first k fixed p begins h)
        (ap (λ (b : Bool). checked (same_truth expected b)) (before-turn (first + k - fixed) (p - first) lead places (index first places p h h')))

  -- it begins so far after the place
  module _ (trail : ℕ) (some-place : 0 < places) (ends : first + k + (places - 1) ≤ fixed)
      (l : Trails (in_class class) (take (fixed - (first + k)) (drop (first + k) field)) trail) where
    pub second-says : (p : ℕ) → first ≤ p → p < first + places →
        check (predicate_part_for (some (from_place k)) o (class_of n) expected) field p ≡
        checked (same_truth (not expected) (ltb (p - first) (min trail places)))
    second-says p h h' =
        let inside = site-most o (length field) first fixed e in
        let rest : fixed - (first + k) - (p - first) ≡ fixed - (p + k) = omega arith in
        let there : first + k + (p - first) ≡ p + k = omega arith in
        let within : length (take (fixed - (first + k)) (drop (first + k) field)) ≡ fixed - (first + k) =
        length-take-le (fixed - (first + k)) (drop (first + k) field) (rw (length-drop (first + k) field) (omega arith)) in
        let each = l.each (p - first) (rw within (omega arith)) in
        part-told (some (from_place k)) o expected field p n class numbered (p + k) fixed (place-there p (omega arith)) (site-there p) (omega arith) ∙
        rw (rw (drop-take (p - first) (fixed - (first + k)) (drop (first + k) field), drop-drop (p - first) (first + k) field, rest, there) at each)
        (ap checked (other_test expected trail (p - first) (p - first) (min trail places) (λ a. omega arith) (λ a. omega arith)))

-- BY THE WORD

module _ (field : Bytes) (w first places fixed : ℕ) (r : Places) (number : number_in w ≡ 20) (class : Class)
    (numbered : some class ≡ class_of (first_in w / 32)) (some-place : 0 < places) where
  pub first-sifted : (nearest lead turn : ℕ) (early : Bool) → first_in w / 4 % 4 ≡ 2 → (first_in w % 4 ≡ 2 → ⊥) →
      some fixed ≡ site_before (site_of (first_in w % 4) (second_in w)) (length field) first → nearest ≡ first + third_in w → fixed ≤ nearest →
      nearest + (places - 1) ≤ length field → Leads (in_class class) (take (nearest + (places - 1) - fixed) (drop fixed field)) lead →
      turn ≡ min (lead + 1 - (nearest - fixed)) places → early ≡ eqb (first_in w / 16 % 2) 1 →
      r ≡ part_of early first places turn → NarrowsTo (Some r) (check (test_of w) field) first places
  first-sifted nearest lead turn early register apart e near begins ends leads turned truth same =
      rw same (turns (check (test_of w) field) first places turn (rw turned (omega arith)) early says)
    where
      says : (p : ℕ) → first ≤ p → p < first + places → check (test_of w) field p ≡ checked (same_truth early (ltb (p - first) turn))
      says p h h' =
          rw (part-test w number, register, turned, truth, near)
          (first_says field first places (first_in w / 32) (third_in w) fixed (eqb (first_in w / 16 % 2) 1) (site_of (first_in w % 4) (second_in w))
          class numbered (site-apart (first_in w % 4) (second_in w) apart) e lead some-place (rw near at begins) (rw near at ends) (rw near at leads) p h h')

  pub second-sifted : (nearest trail turn : ℕ) (early : Bool) → first_in w % 4 ≡ 2 → (first_in w / 4 % 4 ≡ 2 → ⊥) →
      some fixed ≡ site_before (site_of (first_in w / 4 % 4) (third_in w)) (length field) first → nearest ≡ first + second_in w →
      nearest + (places - 1) ≤ fixed → Trails (in_class class) (take (fixed - nearest) (drop nearest field)) trail →
      turn ≡ min trail places → early ≡ not (eqb (first_in w / 16 % 2) 1) →
      r ≡ part_of early first places turn → NarrowsTo (Some r) (check (test_of w) field) first places
  second-sifted nearest trail turn early register apart e near ends trails turned truth same =
      rw same (turns (check (test_of w) field) first places turn (rw turned (omega arith)) early says)
    where
      says : (p : ℕ) → first ≤ p → p < first + places → check (test_of w) field p ≡ checked (same_truth early (ltb (p - first) turn))
      says p h h' =
          rw (part-test w number, register, turned, truth)
          (second-says field first places (first_in w / 32) (second_in w) fixed (eqb (first_in w / 16 % 2) 1)
          (site_of (first_in w / 4 % 4) (third_in w)) class numbered (site-apart (first_in w / 4 % 4) (third_in w) apart) e trail some-place (rw near at ends) (rw near at trails) p h h')
