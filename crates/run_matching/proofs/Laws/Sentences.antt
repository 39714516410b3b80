-- A function's sentences, read off the code words: what is chosen from a place on.
use Prim.Native.Nat.{ℕ, zero, suc, ◌+◌, ◌≤◌, ◌<◌, ◌-◌, ◌/◌}
use native.Mathlib.Omega.{arith}
use native.Mathlib.Nat.{add_assoc}
use mathlib.Core.Path.{◌≡◌, refl, ◌∙◌}
use mathlib.Core.Bool.{Bool, true, false}
use mathlib.Core.Option.{Option, none, some}
use mathlib.Core.List.{List, [], ◌∷◌}
use lib.Dec.{eqb, leb}
use lib.ListN.{length, get_or, drop}
use lib.Seq.{drop-drop}
use borrow.Author.Tests.{ne_eqb, le-leb, lt-leb, leb-true}
use Rattle.meaning.specs.Choice.{Bytes, pick}
use Rattle.meaning.specs.Packing.{number_in, first_in, metric_in, Words, tests_in, stores_in, body_in}
use Rattle.meaning.specs.Packing.{max_stored, sentences_end, unpack_tests, unpack_stores, unpack_actions, unpack_sentences, sentence_of}
use Rattle.meaning.specs.Instructions.{Metric, exactly, ends, middle, Sentences, sentence, unknown_sentence, Test, Store, Action}
use Rattle.meaning.specs.Matching.{Found, found_at, found_wrong, check_all, search}
use Rattle.meaning.specs.Matching.{Choice as Choosing}
use Rattle.run_matching.specs.declared.Choice.{Choice}
use Rattle.run_code_places.specs.declared.Wrong.{Wrong}
use Rattle.meaning.specs.Matching.{chosen_none, chosen_wrong, choice_of, choose_from, find_place, places_of, first_place}
use Rattle.meaning.proofs.Laws.Remaining.{at_place, past_end}
use Rattle.std.specs.Prelude.{Some, None, Result, Ok, Err, IsErr}
use Rattle.run_code_places.specs.declared.Places.{Places}
use Rattle.run_matching.specs.Matched.{places_for, tried, Chooses}
use Rattle.run_checking.proofs.Laws.Cells.{none_of}

-- a sentence's first word that is none
pub metric-unknown : (w : ℕ) → (number_in w ≡ 16 → ⊥) → (number_in w ≡ 17 → ⊥) → (number_in w ≡ 18 → ⊥) → metric_in w ≡ none
metric-unknown w = none_of (number_in w) 16 17 18 _ _ _ none

-- THE PLACES OF ONE SENTENCE

-- the head template is at most 255 cells long
abbrev ShortHead : Option Metric → Type 0
ShortHead none = Unit {0}
ShortHead (some m) = first_place m ≤ 255

short-head : (b b' b'' : Bool) (x y z : ℕ) → x ≤ 255 →
    ShortHead (pick b (some (exactly x)) (pick b' (some (ends x y)) (pick b'' (some (middle x y z)) none)))
short-head true b' b'' x y z h = omega arith
short-head false true b'' x y z h = omega arith
short-head false false true x y z h = h
short-head false false false x y z h = tt

one_at_most : (b : Bool) → pick b 1 0 ≤ 1
one_at_most true = omega arith
one_at_most false = omega arith

few-places : (m : Metric) (whole : ℕ) → first_place m ≤ 255 → first_place m + places_of m whole ≤ whole + 256
few-places (exactly n) whole h = omega (arith, one_at_most (eqb whole n))
few-places (ends head tail) whole h = omega (arith, one_at_most (leb (head + tail) whole))
few-places (middle head med tail) whole h = omega arith

few-from : (o : Option Metric) (whole : ℕ) (p : Places) → ShortHead o → Some p ≡ places_for o whole → p.first + p.count ≤ whole + 256
few-from none whole p h e = let z : ◌≡◌ {A = ℕ} 0 1 = cc in absurd (omega arith)
few-from (some m) whole p h e = let same : p ≡ record { first = first_place m; count = places_of m whole } = cc in rw same (few-places m whole h)

pub places-few : (w whole : ℕ) (p : Places) → Some p ≡ places_for (metric_in w) whole → p.first + p.count ≤ whole + 256
places-few w whole p e =
    few-from (metric_in w) whole p
    (short-head (eqb (number_in w) 16) (eqb (number_in w) 17) (eqb (number_in w) 18) (first_in w) _ _ (omega arith)) e

module _ (v : ℕ) (ws : Words) (field : Bytes) where
  pub tried-unknown : (o : Option Metric) (whole : ℕ) → None ≡ places_for o whole → tried o v ws field ≡ found_wrong
  tried-unknown none whole e = refl
  tried-unknown (some m) whole e = let z : ◌≡◌ {A = ℕ} 0 1 = cc in absurd (omega arith)

  pub tried-many : (o : Option Metric) → max_stored < stores_in v → tried o v ws field ≡ found_wrong
  tried-many none h = refl
  tried-many (some m) h = rw (lt-leb (stores_in v) max_stored h)

  pub tried-places : (o : Option Metric) (p : Places) → Some p ≡ places_for o (length field) → stores_in v ≤ max_stored →
      tried o v ws field ≡ search (check_all (unpack_tests (tests_in v) ws) field) p.count p.first
  tried-places none p e h = let z : ◌≡◌ {A = ℕ} 0 1 = cc in absurd (omega arith)
  tried-places (some m) p e h =
      let same : p ≡ record { first = first_place m; count = places_of m (length field) } = cc in
      rw (le-leb (stores_in v) max_stored h, same)

  few-picked : (b : Bool) (f : Found) (at : ℕ) → leb (stores_in v) max_stored ≡ b → found_at at ≡ pick b f found_wrong → stores_in v ≤ max_stored
  few-picked true f at p e = leb-true (stores_in v) max_stored p
  few-picked false f at p e = let z : ◌≡◌ {A = ℕ} 0 1 = cc in absurd (omega arith)

  -- a sentence that is chosen stores few values
  pub tried-few : (o : Option Metric) (at : ℕ) → found_at at ≡ tried o v ws field → stores_in v ≤ max_stored
  tried-few none at e = let z : ◌≡◌ {A = ℕ} 0 1 = cc in absurd (omega arith)
  tried-few (some m) at e = few-picked (leb (stores_in v) max_stored) _ at refl e

-- THE SENTENCES FROM A PLACE ON

skipped : (skip : ℕ) (ws : Words) → unpack_sentences skip ws ≡ unpack_sentences 0 (drop skip ws)
unfolding unpack_sentences
skipped zero [] = refl
skipped zero (w ∷ ws) = refl
skipped (suc skip) [] = refl
skipped (suc skip) (w ∷ ws) = skipped skip ws

module _ (words : Words) (field : Bytes) where
  -- the choice among the sentences from a place on
  abbrev pub choosing : ℕ → Choosing
  choosing at = choose_from (unpack_sentences 0 (drop at words)) field

  pub choosing-past : (at : ℕ) → length words ≤ at → choosing at ≡ chosen_wrong
  unfolding unpack_sentences choose_from
  choosing-past at h = rw (past_end words at h)

  pub choosing-end : (at : ℕ) → at < length words → number_in (get_or words at 0) ≡ sentences_end →
      choosing at ≡ chosen_none (get_or words at 0 / 256)
  unfolding unpack_sentences choose_from
  choosing-end at h e = rw (at_place words at h, e)

  pub choosing-cut : (at : ℕ) → at < length words → length words - at < 2 → (number_in (get_or words at 0) ≡ sentences_end → ⊥) →
      choosing at ≡ chosen_wrong
  unfolding unpack_sentences choose_from
  choosing-cut at h h' ne =
      let past : length words ≤ at + 1 = omega arith in
      rw (at_place words at h, past_end words (at + 1) past, ne_eqb _ sentences_end ne)

  chosen-picked : (b : Bool) (metric : Metric) (tests : List Test) (stores : List Store) (actions : List Action) (more : Sentences) →
      choose_from (pick b (sentence metric tests stores actions more) unknown_sentence) field ≡
      choice_of (pick b (find_place metric tests field) found_wrong) stores actions (choose_from more field)
  unfolding choose_from
  chosen-picked true metric tests stores actions more = refl
  chosen-picked false metric tests stores actions more = refl

  chosen_of : (o : Option Metric) (v : ℕ) (ws : Words) (more : Sentences) →
      choose_from (sentence_of o v ws more) field ≡
      choice_of (tried o v ws field) (unpack_stores (stores_in v) (drop (tests_in v) ws)) (unpack_actions 0 (drop (tests_in v + stores_in v) ws))
      (choose_from more field)
  unfolding choose_from
  chosen_of none v ws more = refl
  chosen_of (some m) v ws more = chosen-picked (leb (stores_in v) max_stored) m _ _ _ more

  -- what stands at a sentence's first word and after it
  begun : (at : ℕ) → 2 ≤ length words - at → (number_in (get_or words at 0) ≡ sentences_end → ⊥) →
      let v : ℕ = get_or words (at + 1) 0 in
      let ws : Words = drop (at + 2) words in
      choosing at ≡ choose_from (sentence_of (metric_in (get_or words at 0)) v ws (unpack_sentences (body_in v) ws)) field
  unfolding unpack_sentences
  begun at h ne =
      let first : at < length words = omega arith in
      let second : at + 1 < length words = omega arith in
      let next : at + 1 + 1 ≡ at + 2 = omega arith in
      rw (at_place words at first, at_place words (at + 1) second, next, ne_eqb _ sentences_end ne)

  pub choosing-next : (at : ℕ) → 2 ≤ length words - at → (number_in (get_or words at 0) ≡ sentences_end → ⊥) →
      let v : ℕ = get_or words (at + 1) 0 in
      let stores : ℕ = at + 2 + tests_in v in
      choosing at ≡
      choice_of (tried (metric_in (get_or words at 0)) v (drop (at + 2) words) field)
      (unpack_stores (stores_in v) (drop stores words)) (unpack_actions 0 (drop (stores + stores_in v) words))
      (choosing (at + (2 + body_in v)))
  choosing-next at h ne =
      let v = get_or words (at + 1) 0 in
      let ws = drop (at + 2) words in
      begun at h ne ∙ chosen_of (metric_in (get_or words at 0)) v ws (unpack_sentences (body_in v) ws) ∙
      rw (
        skipped (body_in v) ws,
        drop-drop (tests_in v) (at + 2) words,
        drop-drop (tests_in v + stores_in v) (at + 2) words,
        drop-drop (body_in v) (at + 2) words,
        ← (add_assoc (at + 2) (tests_in v) (stores_in v)),
        ← (add_assoc at 2 (body_in v)),
      )

-- a sentence that asks for what isn't there chooses none
pub chooses_refused : (words : Words) (r : Result Choice Wrong) (choosing : Choosing) → IsErr r → chosen_wrong ≡ choosing → Chooses words r choosing
chooses_refused words (Ok choice) choosing h e = let z : ◌≡◌ {A = ℕ} 0 1 = cc in absurd (omega arith)
chooses_refused words (Err w) choosing h e = record { same = e; few = tt }
