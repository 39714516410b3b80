-- Tests that look for a string, and the search for it.
use Prim.Native.Nat.{ℕ, zero, suc, ◌+◌, ◌≤◌, ◌<◌, ◌%◌, ◌-◌}
use native.Mathlib.Omega.{arith}
use native.Mathlib.Nat.{le_of_suc-le-suc, not-suc-le-zero}
use native.Mathlib.Numerals.{add-one}
use mathlib.Core.Path.{◌≡◌, refl}
use mathlib.Core.Bool.{Bool, true, false}
use mathlib.Core.List.{List, [], ◌∷◌, ◌++◌}
use lib.Dec.{eqb, leb}
use lib.ListN.{length, get_or, take, drop, set}
use lib.Seq.{take-suc-set, drop-cons, length-take-le, get_or-drop}
use borrow.Author.Tests.{leb-true}
use Rattle.meaning.specs.Choice.{Bytes, pick, both, starts_with}
use Rattle.meaning.specs.Instructions.{from_place, look, Test}
use Rattle.meaning.specs.Matching.{checked, wrong, Checked, passed, failed, where_passed}
use Rattle.meaning.specs.Matching.{check_all, Found, found_at, found_none, found_wrong, settled, search}
use Rattle.meaning.specs.Packing.{second_in, third_in, test_of, Words, unpack_tests}
use Rattle.std.specs.Prelude.{Some, None, Ok, Err}
use Rattle.run_finding.specs.Occurrences.{leftmost_occurrence, suited, Occurrence, unsuited, occurrence, occurrence_of}
use Rattle.run_searching.specs.Searches.{looks, Spelled}
use Rattle.run_sites.proofs.Laws.Lists.{nth_in}
use Rattle.run_checking.proofs.Laws.Cells.{look-from}
use Rattle.run_searching.proofs.Laws.Places.{search-agree}

-- a Look counted from the middle template's place
pub look-there : (w n : ℕ) → w % 65536 ≡ 513 → second_in w ≡ n → test_of w ≡ look (from_place n) (third_in w)
look-there w n h e = rw (← e) (look-from w 2 h)

-- READ OFF THE WORDS

unpack-next : (words : Words) (n : ℕ) → n < length words → unpack_tests (suc n) words ≡ unpack_tests n words ++ test_of (get_or words n 0) ∷ []
unfolding unpack_tests
unpack-next [] n h = absurd (not-suc-le-zero h)
unpack-next (w ∷ words) zero h = refl
unpack-next (w ∷ words) (suc n) h = rw (unpack-next words n (le_of_suc-le-suc h))

looks-next : (offset : ℕ) (cs : Bytes) (c : ℕ) → looks offset (cs ++ c ∷ []) ≡ looks offset cs ++ look (from_place (offset + length cs)) c ∷ []
unfolding looks
looks-next offset [] c = let same : offset + 0 ≡ offset = omega arith in rw same
looks-next offset (d ∷ cs) c =
    let same : suc offset + length cs ≡ offset + suc (length cs) = omega arith in
    rw (looks-next (suc offset) cs c, same)

-- the tests so far look for the string so far
abbrev pub SpelledTo : Words → ℕ → ℕ → Bytes → ℕ → Type 0
SpelledTo words at offset string size = unpack_tests size (drop at words) ≡ looks offset (take size string)

pub spelled-first : (words : Words) (at offset : ℕ) (string : Bytes) → SpelledTo words at offset string 0
unfolding unpack_tests looks
spelled-first words at offset string = refl

pub spelled-next : (words : Words) (at offset : ℕ) (string : Bytes) (size c : ℕ) →
    SpelledTo words at offset string size → size < length string → size < length (drop at words) →
    test_of (get_or words (at + size) 0) ≡ look (from_place (offset + size)) c → SpelledTo words at offset (set string size c) (size + 1)
spelled-next words at offset string size c s h h' e =
    rw (
      add-one size,
      unpack-next (drop at words) size h',
      get_or-drop at words size 0,
      e,
      s,
      take-suc-set string size c h,
      looks-next offset (take size string) c,
      length-take-le size string (omega arith),
    )

-- WHAT THE TESTS SAY

both-checked : (a b : Bool) → where_passed (checked a) (checked b) ≡ checked (both a b)
both-checked true b = refl
both-checked false b = refl

looks-start : (field string : Bytes) (offset place : ℕ) → place + offset + length string ≤ length field →
    check_all (looks offset string) field place ≡ checked (starts_with string (drop (place + offset) field))
unfolding check_all looks starts_with
looks-start field [] offset place h = refl
looks-start field (c ∷ string) offset place h =
    let next : place + suc offset ≡ suc (place + offset) = omega arith in
    let b = get_or field (place + offset) 0 in
    rw (
      nth_in field (place + offset) (omega arith),
      drop-cons field (place + offset) 0 (omega arith),
      looks-start field string (suc offset) place (omega arith),
      next,
    ) (both-checked (eqb c b) (starts_with string (drop (suc (place + offset)) field)))

-- THE SEARCH, COUNTED FROM ANOTHER CELL

abbrev moved : ℕ → Found → Found
moved k (found_at at) = found_at (at + k)
moved k found_none = found_none
moved k found_wrong = found_wrong

search-moved : (F : ℕ → Checked) (k n first : ℕ) → search F n (first + k) ≡ moved k (search (λ p. F (p + k)) n first)
unfolding search
search-moved F k zero first = refl
search-moved F k (suc n) first =
    let next : suc (first + k) ≡ suc first + k = omega arith in
    rw (next, search-moved F k n (suc first)) (by-test (F (first + k)) (search (λ p. F (p + k)) n (suc first)))
  where
    by-test : (c : Checked) (later : Found) → settled c (first + k) (moved k later) ≡ moved k (settled c first later)
    by-test passed later = refl
    by-test failed later = refl
    by-test wrong later = refl

-- WHERE IT IS FOUND

record Suited (string field : Bytes) (places first : ℕ) : Type 0 where
  size : length string ≤ length field
  room : first + places ≤ length field - length string + 1

both_true : (a b : Bool) → both a b ≡ true → (a ≡ true) × (b ≡ true)
both_true true b e = (refl, e)
both_true false b e = let z : ◌≡◌ {A = ℕ} 0 1 = cc in absurd (omega arith)

module _ (string field : Bytes) (places first : ℕ) where
  is-suited : suited (length string) (length field) places first ≡ true → Suited string field places first
  is-suited e =
      let short = (both_true (leb 1 (length string)) _ e).1 in
      let inside = (both_true (leb (length string) 64) _ short).1 in
      let last = both_true (leb (length string) (length field)) _ inside in
      record {
        size = leb-true (length string) (length field) last.0;
        room = leb-true (first + places) (length field - length string + 1) last.1;
      }

  -- an occurrence that is looked for
  looked-for : (o : Occurrence) → o ≡ occurrence string field places first → (o ≡ Err unsuited → ⊥) →
      Suited string field places first × (o ≡ occurrence_of (leftmost_occurrence string field places first))
  looked-for o e ne = by-test (suited (length string) (length field) places first) refl e
    where
      by-test : (b : Bool) → suited (length string) (length field) places first ≡ b →
          o ≡ pick b (occurrence_of (leftmost_occurrence string field places first)) (Err unsuited) →
          Suited string field places first × (o ≡ occurrence_of (leftmost_occurrence string field places first))
      by-test true s h = (is-suited s, h)
      by-test false s h = absurd (ne h)

module _ (string field : Bytes) (places first offset : ℕ) where
  abbrev finding : Found
  finding = search (check_all (looks offset string) field) places first

  string-found : (o : Occurrence) → o ≡ occurrence string field places (first + offset) → (o ≡ Err unsuited → ⊥) →
      o ≡ occurrence_of (moved offset finding)
  string-found o e ne =
      let looked = looked-for string field places (first + offset) o e ne in
      let starts : ℕ → Checked = λ p. checked (starts_with string (drop p field)) in
      let same : finding ≡ search (λ p. starts (p + offset)) places first =
      search-agree (check_all (looks offset string) field) (λ p. starts (p + offset)) places first
      (λ p h h'. looks-start field string offset p (omega (arith, looked.0.size, looked.0.room))) in
      rw (same, ← (search-moved starts offset places first)) looked.1

  at_place : (f : Found) (q : ℕ) → Ok (Some q) ≡ occurrence_of (moved offset f) → found_at (q - offset) ≡ f
  at_place (found_at p) q e = let same : q ≡ p + offset = cc in let back : q - offset ≡ p = omega arith in rw back
  at_place found_none q e = let z : ◌≡◌ {A = ℕ} 0 1 = cc in absurd (omega arith)
  at_place found_wrong q e = let z : ◌≡◌ {A = ℕ} 0 1 = cc in absurd (omega arith)

  at_least : (f : Found) (q : ℕ) → Ok (Some q) ≡ occurrence_of (moved offset f) → offset ≤ q
  at_least (found_at p) q e = let same : q ≡ p + offset = cc in omega arith
  at_least found_none q e = let z : ◌≡◌ {A = ℕ} 0 1 = cc in absurd (omega arith)
  at_least found_wrong q e = let z : ◌≡◌ {A = ℕ} 0 1 = cc in absurd (omega arith)

  no_place : (f : Found) → Ok None ≡ occurrence_of (moved offset f) → found_none ≡ f
  no_place (found_at p) e = let z : ◌≡◌ {A = ℕ} 0 1 = cc in absurd (omega arith)
  no_place found_none e = refl
  no_place found_wrong e = let z : ◌≡◌ {A = ℕ} 0 1 = cc in absurd (omega arith)

  module _ (tests : List Test) (spelled : Spelled offset string tests) where
    pub string-at : (q : ℕ) → Ok (Some q) ≡ occurrence string field places (first + offset) →
        found_at (q - offset) ≡ search (check_all tests field) places first
    string-at q e = rw spelled.same (at_place finding q (string-found (Ok (Some q)) e (λ h. let z : ◌≡◌ {A = ℕ} 0 1 = cc in omega arith)))

    pub string-after : (q : ℕ) → Ok (Some q) ≡ occurrence string field places (first + offset) → offset ≤ q
    string-after q e = at_least finding q (string-found (Ok (Some q)) e (λ h. let z : ◌≡◌ {A = ℕ} 0 1 = cc in omega arith))

    pub string-nowhere : Ok None ≡ occurrence string field places (first + offset) → found_none ≡ search (check_all tests field) places first
    string-nowhere e = rw spelled.same (no_place finding (string-found (Ok None) e (λ h. let z : ◌≡◌ {A = ℕ} 0 1 = cc in omega arith)))
