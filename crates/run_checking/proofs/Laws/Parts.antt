-- The cells between two sites of a field, and what a Predicate over them says.
use Prim.Native.Nat.{ℕ, ◌-◌, ◌≤◌, ◌<◌}
use native.Mathlib.Omega.{arith}
use mathlib.Core.Path.{◌≡◌, refl}
use mathlib.Core.Bool.{Bool, true, false}
use mathlib.Core.Option.{Option, none, some}
use lib.Dec.{leb}
use lib.ListN.{length, take, drop}
use borrow.Author.Tests.{le-leb, lt-leb, leb-true, leb-false}
use Rattle.meaning.specs.Choice.{Bytes, both, guard, every}
use Rattle.meaning.specs.Classes.{Class, in_class, same_truth}
use Rattle.meaning.specs.Instructions.{Site}
use Rattle.meaning.specs.Matching.{cells_before, cut, Checked, checked, asked, check}
use Rattle.meaning.specs.Packing.{class_of, predicate_part_for}
use Rattle.run_sites.specs.Sites.{within_field, site_before}
use Rattle.run_sites.proofs.Laws.Sites.{site-most}

-- THE CELLS BETWEEN TWO SITES

module _ (field : Bytes) where
  pub cut-none : (a : Option ℕ) → cut a none field ≡ none
  cut-none none = refl
  cut-none (some n) = refl

  both-past : (b : Bool) (o : Option Bytes) → guard (both b false) o ≡ none
  both-past true o = refl
  both-past false o = refl

  crossed : (n m : ℕ) (b : Bool) → leb n m ≡ b → length field < n → both b (leb m (length field)) ≡ false
  crossed n m true p h = lt-leb m (length field) (omega (arith, leb-true n m p))
  crossed n m false p h = refl

  -- nothing is cut at a site past the field's end
  cut-within : (n m : ℕ) (b b' : Bool) → leb n (length field) ≡ b → leb m (length field) ≡ b' →
      cut (guard b (some n)) (guard b' (some m)) field ≡ cut (some n) (some m) field
  cut-within n m true true p q = refl
  cut-within n m true false p q = rw (q, both-past (leb n m))
  cut-within n m false b' p q = rw (crossed n m (leb n m) refl (leb-false n (length field) p))

  cut_inside : (a b : Option ℕ) → cut (within_field (length field) a) (within_field (length field) b) field ≡ cut a b field
  cut_inside none b = refl
  cut_inside (some n) none = cut-none (guard (leb n (length field)) (some n))
  cut_inside (some n) (some m) = cut-within n m (leb n (length field)) (leb m (length field)) refl refl

-- WHAT THE TEST SAYS

module _ (o o' : Option Site) (expected : Bool) (field : Bytes) (place : ℕ) where
  abbrev part : Option Bytes
  part = cut (site_before o (length field) place) (site_before o' (length field) place) field

  abbrev said : Option Class → Checked
  said class = check (predicate_part_for o o' class expected) field place

  part-asks : (class : Class) → said (some class) ≡ asked (λ piece. checked (same_truth expected (every (in_class class) piece))) part
  part-asks class = by-sites o o'
    where
      by-sites : (s r : Option Site) → check (predicate_part_for s r (some class) expected) field place ≡
          asked (λ piece. checked (same_truth expected (every (in_class class) piece)))
          (cut (site_before s (length field) place) (site_before r (length field) place) field)
      by-sites none r = refl
      by-sites (some s) none = rw (cut-none field (site_before (some s) (length field) place))
      by-sites (some s) (some r) = rw (cut_inside field (cells_before s (length field) place) (cells_before r (length field) place))

  -- both sites are inside the field, and the number is a class's
  module _ (n : ℕ) (class : Class) (numbered : some class ≡ class_of n) where
    module _ (from to : ℕ) (e : some from ≡ site_before o (length field) place) (e' : some to ≡ site_before o' (length field) place) where
      pub part-told : from ≤ to → said (class_of n) ≡ checked (same_truth expected (every (in_class class) (take (to - from) (drop from field))))
      part-told order =
          let last = site-most o' (length field) place to e' in
          rw (
            ← numbered,
            part-asks class,
            ← e,
            ← e',
            le-leb from to order,
            le-leb to (length field) last,
          )
