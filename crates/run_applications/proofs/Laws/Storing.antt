-- Laws of storing a sentence's values one after the other.
use Prim.Native.Nat.{ℕ, zero, suc, ◌+◌, ◌-◌, ◌≤◌, ◌<◌}
use mathlib.Core.Path.{◌≡◌, refl, sym, ap}
use mathlib.Core.List.{[], ◌∷◌, ◌++◌, append_assoc, append-nil}
use mathlib.Core.Option.{Option, none, some}
use native.Mathlib.Nat.{sub-zero, not-suc-le-zero}
use native.Mathlib.Numerals.{add-one}
use native.Mathlib.Omega.{arith}
use lib.ListN.{length, take, drop, set, get_or, length-set, length-drop, drop_of_length-le}
use lib.Seq.{drop-set-add, take-suc-set, take-set-le, drop-set-lt}
use Rattle.meaning.specs.Choice.{Bytes}
use Rattle.meaning.specs.Instructions.{Site}
use Rattle.meaning.specs.Matching.{kept, stored_cell, stored_values}
use Rattle.meaning.specs.Packing.{Words, store_at, store_of, unpack_stores}
use Rattle.std.specs.Prelude.{Ok, Err}
use Rattle.run_actions.specs.Spans.{wrong}
use Rattle.run_sites.specs.Sites.{site_cell}
use Rattle.run_applications.specs.Storing.{Stores}
use Rattle.meaning.proofs.Laws.Remaining.{at_place}

-- a store asks for the cell at its site
pub store_asks : (field : Bytes) (place : ℕ) (s : Option Site) → stored_cell (store_at s) field place ≡ site_cell s field place
store_asks field place none = refl
store_asks field place (some s) = refl

-- values that come after others
abbrev after : Bytes → Option Bytes → Option Bytes
after done none = none
after done (some values) = some (done ++ values)

after_none : (o : Option Bytes) → after [] o ≡ o
after_none none = refl
after_none (some values) = refl

after_one : (done : Bytes) (b : ℕ) (o : Option Bytes) → after done (kept (some b) o) ≡ after (done ++ b ∷ []) o
after_one done b none = refl
after_one done b (some values) = ap some (sym (append_assoc done (b ∷ []) values))

module _ (code : Words) (at : ℕ) (field : Bytes) (place : ℕ) where
  abbrev values-left : ℕ → Option Bytes
  values-left n = stored_values (unpack_stores n (drop at code)) field place

  left-none : (n : ℕ) → n ≤ 0 → values-left n ≡ some []
  unfolding stored_values unpack_stores
  left-none zero h = refl
  left-none (suc n) h = absurd (not-suc-le-zero h)

  left_cut : (n : ℕ) → 0 < n → length code ≤ at → values-left n ≡ none
  unfolding stored_values unpack_stores
  left_cut zero h out = absurd (not-suc-le-zero h)
  left_cut (suc n) h out = rw (drop_of_length-le code out)

  left-next : (n m : ℕ) → suc m ≡ n → at < length code →
      values-left n ≡ kept (stored_cell (store_of (get_or code at 0)) field place) (stored_values (unpack_stores m (drop (at + 1) code)) field place)
  unfolding stored_values unpack_stores
  left-next n m e there = rw (← e, at_place code at there)

module _ (code : Words) (field : Bytes) (place base count from : ℕ) (before : Bytes) where
  abbrev asked : Option Bytes
  asked = stored_values (unpack_stores count (drop from code)) field place

  -- so many values are stored, and the stores that are left come next
  pub record Storing (values : Bytes) (at i : ℕ) : Type 0 where
    pub within : i ≤ count
    pub reached : at ≡ from + i
    pub sized : length values ≡ length before
    pub rest : after (take i (drop base values)) (values-left code at field place (count - i)) ≡ asked
    pub below : take base values ≡ take base before
    pub above : drop (base + count) values ≡ drop (base + count) before

  pub storing-start : Storing before from 0
  storing-start =
      record {
        within = omega arith;
        reached = omega arith;
        sized = refl;
        rest = rw sub-zero (after_none asked);
        below = refl;
        above = refl;
      }

  module _ (values : Bytes) (at i : ℕ) (s : Storing values at i) where
    no-values : after (take i (drop base values)) none ≡ asked → Stores base count (from + count) asked before values (Err wrong)
    no-values e = record { same = e; ends = tt; below = s.below; above = s.above }

    pub storing-cut : i < count → length code ≤ at → Stores base count (from + count) asked before values (Err wrong)
    storing-cut more out = no-values (rw (left_cut code at field place (count - i) (omega arith) out) at s.rest)

    pub storing-wrong : i < count → at < length code → stored_cell (store_of (get_or code at 0)) field place ≡ none →
        Stores base count (from + count) asked before values (Err wrong)
    storing-wrong more there e =
        no-values (rw (left-next code at field place (count - i) (count - (i + 1)) (omega arith) there, e) at s.rest)

    pub storing-next : (b : ℕ) → i < count → base + count ≤ length before → at < length code →
        stored_cell (store_of (get_or code at 0)) field place ≡ some b → Storing (set values (base + i) b) (at + 1) (i + 1)
    storing-next b more fits there e =
        let low : i < length (drop base values) = rw (length-drop, s.sized) (omega arith) in
        record {
          within = omega arith;
          reached = omega arith;
          sized = rw length-set s.sized;
          rest =
              rw (drop-set-add, add-one i, take-suc-set, ← (add-one i), ← after_one)
              (rw (left-next code at field place (count - i) (count - (i + 1)) (omega arith) there, e) at s.rest);
          below = rw (take-set-le base values (base + i) b (omega arith)) s.below;
          above = rw (drop-set-lt (base + count) values (base + i) b (omega arith)) s.above;
        }

    pub storing-done : count ≤ i → Stores base count (from + count) asked before values (Ok (record { 0 = at }))
    storing-done over =
        let all : i ≡ count = omega arith in
        record {
          same = rw (left-none code at field place (count - i) (omega arith), all, append-nil) at s.rest;
          ends = omega arith;
          below = s.below;
          above = s.above;
        }
