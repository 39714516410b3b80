-- Unpacking what was packed gives it back, whatever words follow.
use mathlib.Core.Path.{◌≡◌, refl, ap, ◌∙◌}
use mathlib.Core.Bool.{true, false}
use mathlib.Core.List.{List, [], ◌∷◌, ◌++◌, map, append_assoc}
use mathlib.Core.Option.{some}
use Prim.Native.Nat.{ℕ, suc, ◌+◌, ◌*◌, ◌/◌, ◌<◌, ◌≤◌}
use native.Mathlib.Omega.{arith}
use lib.Dec.{T, eqb, ltb}
use lib.ListN.{length, take, drop, length-append, length-map}
use lib.Seq.{take_at, drop_at, drop-drop}
use borrow.Author.Tests.{le-leb, lt-ltb}
use Rattle.meaning.specs.Choice.{every}
use Rattle.meaning.specs.Classes.{class_number}
use Rattle.meaning.specs.Allowed.{is_byte}
use Rattle.meaning.specs.Instructions.{Test, look, compare, predicate, predicate_part, unknown_test, Store, store, unknown_store, Span, Action, go}
use Rattle.meaning.specs.Instructions.{select, out, out_c, out_v, begin_seq, use_seq, call, tail_call, emission, compute, unknown_action, Metric}
use Rattle.meaning.specs.Instructions.{exactly, ends, middle, Sentences, no_more, sentence, Code}
use Rattle.meaning.specs.Packing.{Words, code_word, number_in, first_in, second_in, third_in, site_register, site_offset, length_number, length_of}
use Rattle.meaning.specs.Packing.{span_action, truth_bit, operation_number, part_operand, test_word, test_of, store_word, store_of, action_words}
use Rattle.meaning.specs.Packing.{action_of, actions_end, pack_actions, emission_of, unpack_actions, metric_word, metric_in, sentences_end, end_word}
use Rattle.meaning.specs.Packing.{body_words, counts_word, pack_sentences, tests_in, stores_in, body_in, unpack_tests, unpack_stores, max_stored}
use Rattle.meaning.specs.Packing.{body_of}
use Rattle.meaning.specs.Packing.{unpack_sentences, pack_functions, places_from, pack, functions_at, sound_table, unpack}
use Rattle.meaning.proofs.Laws.Passing.{passed}
use Rattle.meaning.proofs.Laws.Words.{word_holds, register-below, class-below, truth-below, operation-back, operation-below, length-below}
use Rattle.meaning.proofs.Laws.Words.{look-held, compare-held, predicate-held, predicate-part-held, store-held, length_back, called-number}
use Rattle.meaning.proofs.Laws.Words.{called-function}
use Rattle.meaning.proofs.Laws.Packable.{All, nil, cons, FitsTest, FitsStore, FitsSpan, FitsAction, FitsMetric, FitsSentence, FitsSentences}
use Rattle.meaning.proofs.Laws.Packable.{each_none, each_more, Packable}

-- TESTS AND STORES

test_back : (t : Test) → FitsTest t → test_of (test_word t) ≡ t
test_back (look s c) f =
    look-held _ s c (word_holds 1 (site_register s) (site_offset s) c (omega arith) (omega (arith, register-below s)) f.0 f.1)
test_back (compare s r) f = compare-held _ s r
    (word_holds 2 (site_register s + 4 * site_register r) (site_offset s) (site_offset r) (omega arith)
    (omega (arith, register-below s, register-below r)) f.0 f.1)
test_back (predicate s k e) f =
    predicate-held _ s k e (word_holds 3 (site_register s + 4 * truth_bit e) (site_offset s) (class_number k) (omega arith)
    (omega (arith, register-below s, truth-below e)) f (omega (arith, class-below k)))
test_back (predicate_part s r k e) f =
    predicate-part-held _ s r k e (word_holds 20 (part_operand s r k e) (site_offset s) (site_offset r) (omega arith)
    (omega (arith, register-below s, register-below r, truth-below e, class-below k)) f.0 f.1)
test_back unknown_test f = absurd f

store-back : (t : Store) → FitsStore t → store_of (store_word t) ≡ t
store-back (store s) f =
    store-held _ s (word_holds 4 (site_register s) (site_offset s) 0 (omega arith) (omega (arith, register-below s)) f (omega arith))
store-back unknown_store f = absurd f

-- so many words, each unpacked by itself
each_back : {A : Type 0} (Fits : A → Type 0) (packed : A → ℕ) (unpacked : ℕ → Words → List A) → ((ws : Words) → unpacked 0 ws ≡ []) →
    ((n : ℕ) (a : A) (ws : Words) → Fits a → unpacked (suc n) (packed a ∷ ws) ≡ a ∷ unpacked n ws) →
    {xs : List A} → All Fits xs → (rest : Words) → unpacked (length xs) (map packed xs ++ rest) ≡ xs
each_back Fits packed unpacked none one nil rest = none rest
each_back Fits packed unpacked none one (cons f fs) rest = one _ _ _ f ∙ rw (each_back Fits packed unpacked none one fs rest)

-- what passes over a word where there are words to skip passes over as many as it is to skip
skipped : {A : Type 0} (unpacked : ℕ → Words → A) → ((n w : ℕ) (ws : Words) → unpacked (suc n) (w ∷ ws) ≡ unpacked n ws) →
    (over ws : Words) → unpacked (length over) (over ++ ws) ≡ unpacked 0 ws
skipped unpacked one [] ws = refl
skipped unpacked one (w ∷ over) ws = one _ w _ ∙ skipped unpacked one over ws

-- ACTIONS

-- a word that holds an instruction of its own
module _ (n : ℕ) (named : eqb n 14 ≡ false) (ended : eqb n 15 ≡ false) where
  single : (w : ℕ) (ws : Words) (a : Action) → number_in w ≡ n → action_of w ≡ a → unpack_actions 0 (w ∷ ws) ≡ a ∷ unpack_actions 0 ws
  unfolding unpack_actions
  single w ws a number held = rw (held, number, named, ended)

  -- with a span, with a byte, and with a called function's number
  span-first : (instruction : Span → Action) → n < 256
      → ((w : ℕ) → number_in w ≡ n → action_of w ≡ span_action instruction (length_of (first_in w)) (second_in w) (third_in w))
      → (s : Span) (ws : Words) → FitsSpan s
      → unpack_actions 0 (code_word n (length_number s.register) s.add s.back ∷ ws) ≡ instruction s ∷ unpack_actions 0 ws
  span-first instruction small read s ws f =
      let holds = word_holds n (length_number s.register) s.add s.back small (length-below s.register) f.0 f.1 in
      single _ ws (instruction s) holds.number
      (read _ holds.number ∙ rw (holds.first, holds.second, holds.third, length_back s.register))

  byte-first : (instruction : ℕ → Action) → n < 256 → ((w : ℕ) → number_in w ≡ n → action_of w ≡ instruction (first_in w))
      → (b : ℕ) (ws : Words) → b < 256 → unpack_actions 0 (code_word n b 0 0 ∷ ws) ≡ instruction b ∷ unpack_actions 0 ws
  byte-first instruction small read b ws f =
      let holds = word_holds n b 0 0 small f (omega arith) (omega arith) in
      single _ ws (instruction b) holds.number (read _ holds.number ∙ rw holds.first)

  called-first : (instruction : ℕ → Action) → n < 256 → ((w : ℕ) → number_in w ≡ n → action_of w ≡ instruction (w / 256))
      → (f : ℕ) (ws : Words) → unpack_actions 0 ((n + 256 * f) ∷ ws) ≡ instruction f ∷ unpack_actions 0 ws
  called-first instruction small read f ws =
      single _ ws (instruction f) (called-number f n small) (read _ (called-number f n small) ∙ rw (called-function f n small))

name-skipped : (n ws : Words) → unpack_actions (length n) (n ++ ws) ≡ unpack_actions 0 ws
unfolding unpack_actions
name-skipped = skipped unpack_actions (λ n w ws. refl)

emission-back : (n ws : Words) → T (every is_byte n) → emission_of (length n) (n ++ ws) ≡ emission n
emission-back n ws h = rw (
  take_at n ws (length n) refl,
  passed (every is_byte n) h,
  length-append,
  le-leb (length n) (length n + length ws) (omega arith),
)

emission-first : (w : ℕ) (n ws : Words) → number_in w ≡ 14 → first_in w ≡ length n → T (every is_byte n) →
    unpack_actions 0 (w ∷ n ++ ws) ≡ emission n ∷ unpack_actions 0 ws
unfolding unpack_actions
emission-first w n ws number first bytes = rw (number, first, emission-back n ws bytes, name-skipped n ws)

actions-ended : (ws : Words) → unpack_actions 0 (actions_end ∷ ws) ≡ []
unfolding unpack_actions
actions-ended ws = refl

module _ (limit : ℕ) where
  action-first : (a : Action) (ws : Words) → FitsAction limit a → unpack_actions 0 (action_words a ++ ws) ≡ a ∷ unpack_actions 0 ws
  action-first (go s) ws f = span-first 5 refl refl go (omega arith) (λ w number. rw number) s ws f
  action-first (select s) ws f = span-first 6 refl refl select (omega arith) (λ w number. rw number) s ws f
  action-first out ws f = single 7 refl refl 7 ws out refl refl
  action-first (out_c c) ws f = byte-first 8 refl refl out_c (omega arith) (λ w number. rw number) c ws f
  action-first (out_v k) ws f = byte-first 9 refl refl out_v (omega arith) (λ w number. rw number) k ws f
  action-first begin_seq ws f = single 10 refl refl 10 ws begin_seq refl refl
  action-first use_seq ws f = single 11 refl refl 11 ws use_seq refl refl
  action-first (call n) ws f = called-first 12 refl refl call (omega arith) (λ w number. rw number) n ws
  action-first (tail_call n) ws f = called-first 13 refl refl tail_call (omega arith) (λ w number. rw number) n ws
  action-first (emission n) ws f =
      let holds = word_holds 14 (length n) 0 0 (omega arith) f.0 (omega arith) (omega arith) in
      emission-first _ n ws holds.number holds.first f.1
  action-first (compute op) ws f =
      let holds = word_holds 21 (operation_number op) 0 0 (omega arith) (operation-below op) (omega arith) (omega arith) in
      single 21 refl refl _ ws (compute op) holds.number (rw (holds.number, holds.first, operation-back op))
  action-first unknown_action ws f = absurd f

  actions-back : {actions : List Action} → All (FitsAction limit) actions → (rest : Words) → unpack_actions 0 (pack_actions actions ++ rest) ≡ actions
  unfolding pack_actions
  actions-back nil rest = actions-ended rest
  actions-back (cons {x = a} {xs = more} f fs) rest =
      rw append_assoc (action-first a (pack_actions more ++ rest) f ∙ ap (λ (l : List Action). a ∷ l) (actions-back fs rest))

-- SENTENCES

-- a sentence's first word
record Begins (w : ℕ) (metric : Metric) : Type 0 where
  held : metric_in w ≡ some metric
  goes_on : eqb (number_in w) sentences_end ≡ false

metric-back : (metric : Metric) → FitsMetric metric → Begins (metric_word metric) metric
metric-back (exactly n) f =
    let holds = word_holds 16 n 0 0 (omega arith) f (omega arith) (omega arith) in
    record { held = rw (holds.number, holds.first); goes_on = rw holds.number }
metric-back (ends h t) f =
    let holds = word_holds 17 h t 0 (omega arith) f.0 f.1 (omega arith) in
    record { held = rw (holds.number, holds.first, holds.second); goes_on = rw holds.number }
metric-back (middle h m t) f =
    let holds = word_holds 18 h m t (omega arith) f.0 f.1 f.2 in
    record { held = rw (holds.number, holds.first, holds.second, holds.third); goes_on = rw holds.number }

-- a sentence's second word
record Counts (v tests stores body : ℕ) : Type 0 where
  test_count : tests_in v ≡ tests
  store_count : stores_in v ≡ stores
  body_count : body_in v ≡ body

counts-back : (t s b : ℕ) → t < 256 → s ≤ max_stored → Counts (counts_word t s b) t s b
counts-back t s b ht hs = omega arith

body-skipped : (b ws : Words) → unpack_sentences (length b) (b ++ ws) ≡ unpack_sentences 0 ws
unfolding unpack_sentences
body-skipped = skipped unpack_sentences (λ n w ws. refl)

module _ (limit : ℕ) (metric : Metric) (tests : List Test) (stores : List Store) (actions : List Action)
    (f : FitsSentence limit metric tests stores actions) where
  stores-reached : (ws : Words) → drop (length tests) (body_words tests stores actions ++ ws) ≡ map store_word stores ++ (pack_actions actions ++ ws)
  stores-reached ws = rw append_assoc
      (rw append_assoc (drop_at (map test_word tests) (map store_word stores ++ (pack_actions actions ++ ws)) (length tests)
      (length-map tests test_word)))

  actions-reached : (ws : Words) → drop (length tests + length stores) (body_words tests stores actions ++ ws) ≡ pack_actions actions ++ ws
  actions-reached ws = rw (← (drop-drop (length stores) (length tests) (body_words tests stores actions ++ ws)), stores-reached ws)
      (drop_at (map store_word stores) (pack_actions actions ++ ws) (length stores) (length-map stores store_word))

  tests-first : (ws : Words) → unpack_tests (length tests) (body_words tests stores actions ++ ws) ≡ tests
  unfolding unpack_tests
  tests-first ws = rw append_assoc
      (each_back FitsTest test_word unpack_tests (λ ws. refl) (λ n t ws f. rw (test_back t f)) f.each_test
      ((map store_word stores ++ pack_actions actions) ++ ws))

  stores-first : (rest : Words) → unpack_stores (length stores) (map store_word stores ++ rest) ≡ stores
  unfolding unpack_stores
  stores-first = each_back FitsStore store_word unpack_stores (λ ws. refl) (λ n t ws f. rw (store-back t f)) f.each_store

  body_back : (v body : ℕ) (ws : Words) (more : Sentences) → Counts v (length tests) (length stores) body →
      body_of metric v (body_words tests stores actions ++ ws) more ≡ sentence metric tests stores actions more
  body_back v body ws more counts =
      rw (
        counts.test_count,
        counts.store_count,
        tests-first ws,
        stores-reached ws,
        actions-reached ws,
        stores-first (pack_actions actions ++ ws),
        actions-back limit f.each_action ws,
      )

  sentence-first : (w v : ℕ) (ws : Words) → Begins w metric → Counts v (length tests) (length stores) (length (body_words tests stores actions)) →
      unpack_sentences 0 (w ∷ v ∷ body_words tests stores actions ++ ws) ≡ sentence metric tests stores actions (unpack_sentences 0 ws)
  unfolding unpack_sentences
  sentence-first w v ws begins counts =
      rw (
        begins.goes_on,
        begins.held,
        counts.body_count,
        body-skipped (body_words tests stores actions) ws,
        body_back v _ ws
            (unpack_sentences 0 ws) counts,
        counts.store_count,
        le-leb _ _ f.few_stores,
      )

sentences-ended : (r : ℕ) (ws : Words) → unpack_sentences 0 (end_word r ∷ ws) ≡ no_more r
unfolding unpack_sentences
sentences-ended r ws =
    let number : number_in (end_word r) ≡ sentences_end = omega arith in
    let operand : end_word r / 256 ≡ r = omega arith in
    rw (number, operand)

pub sentences-back : (limit : ℕ) {s : Sentences} → FitsSentences limit s → (rest : Words) → unpack_sentences 0 (pack_sentences s ++ rest) ≡ s
unfolding pack_sentences
sentences-back limit (each_none {r} h) rest = sentences-ended r rest
sentences-back limit (each_more {metric} {tests} {stores} {actions} {more} f fs) rest =
    rw (append_assoc (body_words tests stores actions) (pack_sentences more) rest)
    (sentence-first limit metric tests stores actions f _ _ (pack_sentences more ++ rest) (metric-back metric f.lengths)
    (counts-back _ _ _ f.few_tests f.few_stores) ∙ ap (λ (s : Sentences). sentence metric tests stores actions s)
    (sentences-back limit fs rest))

-- THE WHOLE

-- a packed function has at least one word
packed-some : (limit : ℕ) {s : Sentences} → FitsSentences limit s → 0 < length (pack_sentences s)
unfolding pack_sentences
packed-some limit (each_none h) = omega arith
packed-some limit (each_more f fs) = omega arith

-- the functions from a place of some words on
module _ (limit : ℕ) (ws junk : Words) where
  places-below : (at : ℕ) {code : Code} → Packable limit code → at + length (pack_functions code) ≤ length ws →
      T (every (λ place. ltb place (length ws)) (places_from at code))
  unfolding places_from pack_functions every
  places-below at nil h = tt
  places-below at (cons {x = s} {xs = code} f fs) h =
      let sum = length-append (pack_sentences s) (pack_functions code) in
      let some = packed-some limit f in
      rw (lt-ltb at (length ws) (omega arith)) (places-below (at + length (pack_sentences s)) fs (omega arith))

  functions-back : (at : ℕ) {code : Code} → Packable limit code → drop at ws ≡ pack_functions code ++ junk →
      functions_at ws (places_from at code) ≡ code
  unfolding places_from pack_functions
  functions-back at nil h = refl
  functions-back at (cons {x = s} {xs = code} f fs) h =
      let here : drop at ws ≡ pack_sentences s ++ (pack_functions code ++ junk) = rw append_assoc at h in
      let there : drop (at + length (pack_sentences s)) ws ≡ pack_functions code ++ junk =
      rw (← (drop-drop (length (pack_sentences s)) at ws), here) (drop_at (pack_sentences s) (pack_functions code ++ junk) _ refl) in
      rw (here, sentences-back limit f (pack_functions code ++ junk), functions-back (at + length (pack_sentences s)) fs there)

pub places-length : (at : ℕ) (code : Code) → length (places_from at code) ≡ length code
unfolding places_from
places-length at [] = refl
places-length at (s ∷ code) = ap suc (places-length (at + length (pack_sentences s)) code)

module _ (limit : ℕ) (code : Code) (f : Packable limit code) (junk : Words) where
  abbrev places : Words
  places = places_from (suc (length code)) code

  table_taken : take (length code) ((places ++ pack_functions code) ++ junk) ≡ places
  table_taken = rw append_assoc (take_at places (pack_functions code ++ junk) (length code) (places-length (suc (length code)) code))

  functions-reached : drop (suc (length code)) (pack code ++ junk) ≡ pack_functions code ++ junk
  functions-reached = rw append_assoc (drop_at places (pack_functions code ++ junk) (length code) (places-length (suc (length code)) code))

  all_words : length ((places ++ pack_functions code) ++ junk) ≡ length code + length (pack_functions code) + length junk
  all_words = simp (length-append, places-length)

  table-sound : sound_table (pack code ++ junk) ((places ++ pack_functions code) ++ junk) (length code) ≡ true
  table-sound =
      let inside : length code ≤ length ((places ++ pack_functions code) ++ junk) = omega (arith, all_words) in
      rw (
        table_taken,
        le-leb _ _ inside,
        passed (every (λ at. ltb at (length (pack code ++ junk))) places)
            (places-below limit (pack code ++ junk) junk (suc (length code)) f (omega (arith, all_words))),
      )

  pub unpack-pack : unpack (pack code ++ junk) ≡ some code
  unpack-pack = rw (table-sound, table_taken, functions-back limit (pack code ++ junk) junk (suc (length code)) f functions-reached)
