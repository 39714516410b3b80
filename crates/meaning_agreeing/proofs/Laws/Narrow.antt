-- Every packed word is below 2 ^ 32.
use mathlib.Core.List.{List, [], ◌∷◌}
use Prim.Native.Nat.{ℕ, suc, ◌+◌, ◌*◌, ◌^◌, ◌<◌, ◌≤◌}
use native.Mathlib.Omega.{arith}
use lib.Dec.{T, ltb→lt}
use lib.ListN.{length, length-append}
use Rattle.meaning.specs.Choice.{Name, every}
use Rattle.meaning.specs.Tree.{Table}
use Rattle.meaning.specs.Allowed.{is_byte, allowed}
use Rattle.meaning.specs.Instructions.{Test, look, compare, predicate, predicate_part, unknown_test, Store, store, unknown_store, Span, Action, go}
use Rattle.meaning.specs.Instructions.{select, out, out_c, out_v, begin_seq, use_seq, call, tail_call, emission, compute, unknown_action, Metric}
use Rattle.meaning.specs.Instructions.{exactly}
use Rattle.meaning.specs.Instructions.{ends, middle, Sentences, Code}
use Rattle.meaning.specs.Translation.{translate}
use Rattle.meaning.specs.Packing.{code_word, operation_number, test_word, store_word, span_word, action_words, pack_actions, max_stored, metric_word}
use Rattle.meaning.specs.Packing.{counts_word, pack_sentences, pack_functions, places_from, pack}
use Rattle.meaning.proofs.Laws.Passing.{every-head, every-tail}
use Rattle.meaning.proofs.Laws.Words.{register-below, class-below, truth-below, operation-below, length-below}
use Rattle.meaning.proofs.Laws.Packable.{All, nil, cons, FitsTest, FitsStore, FitsSpan, FitsAction, FitsMetric, FitsSentences, each_none, each_more}
use Rattle.meaning.proofs.Laws.Packable.{Packable, all_append, all_map}
use Rattle.meaning_agreeing.proofs.Laws.Bounds.{functions-length, pack-length}
use Rattle.meaning_agreeing.proofs.Laws.Translated.{number_limit, translated-packable, translated-short}

abbrev pub Narrow : ℕ → Type 0
Narrow w = w < 2 ^ 32

test-narrow : (t : Test) → FitsTest t → Narrow (test_word t)
test-narrow (look s c) f = omega (arith, register-below s, f)
test-narrow (compare s r) f = omega (arith, register-below s, register-below r, f)
test-narrow (predicate s k e) f = omega (arith, register-below s, truth-below e, class-below k, f)
test-narrow (predicate_part s r k e) f = omega (arith, register-below s, register-below r, truth-below e, class-below k, f)
test-narrow unknown_test f = absurd f

store-narrow : (t : Store) → FitsStore t → Narrow (store_word t)
store-narrow (store s) f = omega (arith, register-below s, f)
store-narrow unknown_store f = absurd f

span-narrow : (n : ℕ) (s : Span) → n < 256 → FitsSpan s → Narrow (span_word n s)
span-narrow n s h f = omega (arith, length-below s.register, f)

bytes-narrow : (n : Name) → T (every is_byte n) → All Narrow n
bytes-narrow [] t = nil
bytes-narrow (b ∷ n) t = cons {x = b} (omega (arith, ltb→lt b 256 (every-head is_byte b n t))) (bytes-narrow n (every-tail is_byte b n t))

-- a word with one operand
operand-narrow : (n a : ℕ) → n < 256 → a < 256 → Narrow (code_word n a 0 0)
operand-narrow n a hn ha = omega arith

one : {w : ℕ} → Narrow w → All Narrow (w ∷ [])
one h = cons h nil

places-narrow : (at : ℕ) (code : Code) → at + length (pack_functions code) < 2 ^ 32 → All Narrow (places_from at code)
unfolding places_from pack_functions
places-narrow at [] h = nil
places-narrow at (s ∷ code) h =
    let sum = length-append (pack_sentences s) (pack_functions code) in
    cons {x = at} (omega arith) (places-narrow (at + length (pack_sentences s)) code (omega arith))

module _ (limit : ℕ) (low : limit ≤ 2 ^ 24) where
  called-narrow : (n f : ℕ) → n < 256 → f < limit → Narrow (n + 256 * f)
  called-narrow n f hn hf = omega arith

  action-narrow : (a : Action) → FitsAction limit a → All Narrow (action_words a)
  action-narrow (go s) f = one (span-narrow 5 s (omega arith) f)
  action-narrow (select s) f = one (span-narrow 6 s (omega arith) f)
  action-narrow out f = one (operand-narrow 7 0 (omega arith) (omega arith))
  action-narrow (out_c c) f = one (operand-narrow 8 c (omega arith) f)
  action-narrow (out_v k) f = one (operand-narrow 9 k (omega arith) f)
  action-narrow begin_seq f = one (operand-narrow 10 0 (omega arith) (omega arith))
  action-narrow use_seq f = one (operand-narrow 11 0 (omega arith) (omega arith))
  action-narrow (call n) f = one (called-narrow 12 n (omega arith) f)
  action-narrow (tail_call n) f = one (called-narrow 13 n (omega arith) f)
  action-narrow (emission n) f = cons (operand-narrow 14 (length n) (omega arith) f.0) (bytes-narrow n f.1)
  action-narrow (compute op) f = one (operand-narrow 21 (operation_number op) (omega arith) (operation-below op))
  action-narrow unknown_action f = absurd f

  actions-narrow : {actions : List Action} → All (FitsAction limit) actions → All Narrow (pack_actions actions)
  unfolding pack_actions
  actions-narrow nil = one (omega arith)
  actions-narrow (cons {x = a} f fs) = all_append (action-narrow a f) (actions-narrow fs)

  metric-narrow : (m : Metric) → FitsMetric m → Narrow (metric_word m)
  metric-narrow (exactly n) f = operand-narrow 16 n (omega arith) f
  metric-narrow (ends h t) f = omega (arith, f)
  metric-narrow (middle h m t) f = omega (arith, f)

  counts-narrow : (t s b : ℕ) → t < 256 → s ≤ max_stored → b < 65536 → Narrow (counts_word t s b)
  counts-narrow t s b ht hs hb = omega arith

  sentences-narrow : {s : Sentences} → FitsSentences limit s → All Narrow (pack_sentences s)
  unfolding pack_sentences
  sentences-narrow (each_none {r} h) = one (called-narrow 19 r (omega arith) h)
  sentences-narrow (each_more {metric} f fs) =
      cons (metric-narrow metric f.lengths)
      (cons (counts-narrow _ _ _ f.few_tests f.few_stores f.few_words)
      (all_append
      (all_append (all_map test_word test-narrow f.each_test)
      (all_append (all_map store_word store-narrow f.each_store) (actions-narrow f.each_action)))
      (sentences-narrow fs)))

  functions-narrow : {code : Code} → Packable limit code → All Narrow (pack_functions code)
  unfolding pack_functions
  functions-narrow nil = nil
  functions-narrow (cons f fs) = all_append (sentences-narrow f) (functions-narrow fs)

  pub pack-narrow : {code : Code} → Packable limit code → length (pack code) < 2 ^ 32 → All Narrow (pack code)
  pack-narrow {code} f h =
      let words = pack-length code in
      let sums = functions-length code in
      cons {x = length code} (omega arith) (all_append (places-narrow (suc (length code)) code (omega arith)) (functions-narrow f))

module _ (table : Table) (t : T (allowed table)) where
  pub translated-narrow : All Narrow (pack (translate table))
  translated-narrow =
      pack-narrow number_limit (omega arith) (translated-packable table t) (omega (arith, translated-short table t))
