-- Which code can be packed into words: every field fits its byte, and no instruction is one of those that stand for wrong words.
use Prim.Native.Nat.{ℕ, ◌<◌, ◌≤◌}
use mathlib.Core.List.{List, [], ◌∷◌, ◌++◌, map}
use lib.Dec.{T}
use lib.ListN.{length}
use Rattle.meaning.specs.Choice.{every}
use Rattle.meaning.specs.Allowed.{is_byte}
use Rattle.meaning.specs.Instructions.{Site, Test, look, compare, predicate, predicate_part, unknown_test, Store, store, unknown_store, Span}
use Rattle.meaning.specs.Instructions.{Action, go, select, out, out_c, out_v, begin_seq, use_seq, call, tail_call, emission, compute, unknown_action}
use Rattle.meaning.specs.Instructions.{Metric, exactly, ends, middle, Sentences, no_more, sentence, Code}
use Rattle.meaning.specs.Packing.{site_offset, body_words, max_stored}

-- every element has the property
pub data All {A : Type 0} (P : A → Type 0) : List A → Type 0 where
  nil : All P []
  cons : {x : A} {xs : List A} → P x → All P xs → All P (x ∷ xs)

abbrev pub FitsSite : Site → Type 0
FitsSite s = site_offset s < 256

abbrev pub FitsTest : Test → Type 0
FitsTest (look s c) = FitsSite s × (c < 256)
FitsTest (compare s r) = FitsSite s × FitsSite r
FitsTest (predicate s class expected) = FitsSite s
FitsTest (predicate_part s r class expected) = FitsSite s × FitsSite r
FitsTest unknown_test = ⊥

abbrev pub FitsStore : Store → Type 0
FitsStore (store s) = FitsSite s
FitsStore unknown_store = ⊥

abbrev pub FitsSpan : Span → Type 0
FitsSpan s = (s.add < 256) × (s.back < 256)

-- called functions have numbers below `limit`
abbrev pub FitsAction : ℕ → Action → Type 0
FitsAction limit (go s) = FitsSpan s
FitsAction limit (select s) = FitsSpan s
FitsAction limit out = Unit {0}
FitsAction limit (out_c c) = c < 256
FitsAction limit (out_v k) = k < 256
FitsAction limit begin_seq = Unit {0}
FitsAction limit use_seq = Unit {0}
FitsAction limit (call f) = f < limit
FitsAction limit (tail_call f) = f < limit
FitsAction limit (emission n) = (length n < 256) × T (every is_byte n)
FitsAction limit (compute op) = Unit {0}
FitsAction limit unknown_action = ⊥

abbrev pub FitsMetric : Metric → Type 0
FitsMetric (exactly n) = n < 256
FitsMetric (ends head tail) = (head < 256) × (tail < 256)
FitsMetric (middle head med tail) = (head < 256) × (med < 256) × (tail < 256)

pub record FitsSentence (limit : ℕ) (metric : Metric) (tests : List Test) (stores : List Store) (actions : List Action) : Type 0 where
  pub lengths : FitsMetric metric
  pub each_test : All FitsTest tests
  pub each_store : All FitsStore stores
  pub each_action : All (FitsAction limit) actions
  pub few_tests : length tests < 256
  pub few_stores : length stores ≤ max_stored
  pub few_words : length (body_words tests stores actions) < 65536

-- every sentence of a function has the property, and the number at its end another
pub data EachSentence (R : ℕ → Type 0) (P : Metric → List Test → List Store → List Action → Type 0) : Sentences → Type 0 where
  each_none : {r : ℕ} → R r → EachSentence R P (no_more r)
  each_more : {metric : Metric} {tests : List Test} {stores : List Store} {actions : List Action} {more : Sentences} →
      P metric tests stores actions → EachSentence R P more → EachSentence R P (sentence metric tests stores actions more)

abbrev pub FitsSentences : ℕ → Sentences → Type 0
FitsSentences limit s = EachSentence (λ r. r < limit) (FitsSentence limit) s

-- every action of a function has the property
abbrev pub EachAction : (Action → Type 0) → Sentences → Type 0
EachAction P s = EachSentence (λ r. Unit {0}) (λ metric tests stores actions. All P actions) s

abbrev pub Packable : ℕ → Code → Type 0
Packable limit code = All (FitsSentences limit) code

module _ {A : Type 0} {P : A → Type 0} where
  pub all_append : {xs ys : List A} → All P xs → All P ys → All P (xs ++ ys)
  all_append nil r = r
  all_append (cons p l) r = cons p (all_append l r)

  pub all_map : {B : Type 0} {Q : B → Type 0} (f : B → A) → ((b : B) → Q b → P (f b)) → {xs : List B} → All Q xs → All P (map f xs)
  all_map f h nil = nil
  all_map f h (cons q l) = cons (h _ q) (all_map f h l)
