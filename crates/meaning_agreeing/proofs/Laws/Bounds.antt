-- How many words code takes: 01 'Machine', "No instruction takes more than 8 words (an emission's name up to 24 besides), no function and no
-- sentence more than 8 further words, and the whole no more than 16 further".
use mathlib.Core.Path.{◌≡◌, refl}
use mathlib.Core.List.{List, [], ◌∷◌}
use Prim.Native.Nat.{ℕ, suc, ◌+◌, ◌*◌, ◌≤◌}
use native.Mathlib.Omega.{arith}
use lib.ListN.{length, length-append, length-map}
use Rattle.meaning.specs.Choice.{Name}
use Rattle.meaning.specs.Instructions.{Test, Store, Action, go, select, out, out_c, out_v, begin_seq, use_seq, call, tail_call, emission, compute}
use Rattle.meaning.specs.Instructions.{unknown_action, Sentences, no_more, sentence, unknown_sentence, Code}
use Rattle.meaning.specs.Packing.{action_words, pack_actions, body_words, pack_sentences, pack_functions, places_from, pack}
use Rattle.meaning.proofs.Laws.Packing.{places-length}

-- ONE INSTRUCTION

abbrev pub name_of : Action → Name
name_of (go s) = []
name_of (select s) = []
name_of out = []
name_of (out_c c) = []
name_of (out_v k) = []
name_of begin_seq = []
name_of use_seq = []
name_of (call f) = []
name_of (tail_call f) = []
name_of (emission n) = n
name_of (compute op) = []
name_of unknown_action = []

-- an action is one word, and an emission's name besides; a test and a store are one word each, `test_word` and `store_word`
pub action-length : (a : Action) → length (action_words a) ≡ 1 + length (name_of a)
action-length (go s) = refl
action-length (select s) = refl
action-length out = refl
action-length (out_c c) = refl
action-length (out_v k) = refl
action-length begin_seq = refl
action-length use_seq = refl
action-length (call f) = refl
action-length (tail_call f) = refl
action-length (emission n) = omega arith
action-length (compute op) = refl
action-length unknown_action = refl

unfoldable pub actions_length : List Action → ℕ
actions_length [] = 0
actions_length (a ∷ more) = length (action_words a) + actions_length more

-- A SENTENCE: two words before its instructions, and the end of its actions

pub actions-length : (actions : List Action) → length (pack_actions actions) ≡ 1 + actions_length actions
unfolding pack_actions actions_length
actions-length [] = refl
actions-length (a ∷ more) = omega (arith, length-append (action_words a) (pack_actions more), actions-length more)

pub body-length : (tests : List Test) (stores : List Store) (actions : List Action) →
    length (body_words tests stores actions) ≡ 1 + length tests + length stores + actions_length actions
body-length tests stores actions = simp (length-append, length-map, actions-length) (omega arith)

abbrev pub sentence_length : List Test → List Store → List Action → ℕ
sentence_length tests stores actions = 3 + length tests + length stores + actions_length actions

-- A FUNCTION: its place in the function table, and the end of its sentences

unfoldable pub sentences_length : Sentences → ℕ
sentences_length (no_more r) = 0
sentences_length (sentence metric tests stores actions more) = sentence_length tests stores actions + sentences_length more
sentences_length unknown_sentence = 0

-- words that are no sentence have no end
unfoldable pub end_length : Sentences → ℕ
end_length (no_more r) = 1
end_length (sentence metric tests stores actions more) = end_length more
end_length unknown_sentence = 0

pub sentences-length : (s : Sentences) → length (pack_sentences s) ≡ end_length s + sentences_length s
unfolding pack_sentences sentences_length end_length
sentences-length (no_more r) = refl
sentences-length (sentence metric tests stores actions more) =
    omega (arith, length-append (body_words tests stores actions) (pack_sentences more), body-length tests stores actions, sentences-length more)
sentences-length unknown_sentence = refl

pub end-length : (s : Sentences) → end_length s ≤ 1
unfolding end_length
end-length (no_more r) = omega arith
end-length (sentence metric tests stores actions more) = end-length more
end-length unknown_sentence = omega arith

-- THE WHOLE: the number of functions

unfoldable pub functions_length : Code → ℕ
functions_length [] = 0
functions_length (f ∷ fs) = 1 + end_length f + sentences_length f + functions_length fs

pub functions-length : (code : Code) → length code + length (pack_functions code) ≡ functions_length code
unfolding pack_functions functions_length
functions-length [] = refl
functions-length (f ∷ fs) =
    omega (arith, length-append (pack_sentences f) (pack_functions fs), sentences-length f, functions-length fs)

pub pack-length : (code : Code) → length (pack code) ≡ 1 + functions_length code
pack-length code =
    omega (
      arith,
      length-append (places_from (suc (length code)) code) (pack_functions code),
      places-length (suc (length code)) code,
      functions-length code,
    )

-- 01'S BOUND, for any code; that an emission's name has at most 24 bytes is in Translated

unfoldable pub actions_bound : List Action → ℕ
actions_bound [] = 0
actions_bound (a ∷ more) = 8 + length (name_of a) + actions_bound more

unfoldable pub sentences_bound : Sentences → ℕ
sentences_bound (no_more r) = 0
sentences_bound (sentence metric tests stores actions more) =
    8 + (8 * length tests + 8 * length stores + actions_bound actions) + sentences_bound more
sentences_bound unknown_sentence = 0

unfoldable pub functions_bound : Code → ℕ
functions_bound [] = 0
functions_bound (f ∷ fs) = 8 + sentences_bound f + functions_bound fs

actions-within : (actions : List Action) → actions_length actions ≤ actions_bound actions
unfolding actions_length actions_bound
actions-within [] = omega arith
actions-within (a ∷ more) = omega (arith, action-length a, actions-within more)

sentences-within : (s : Sentences) → sentences_length s ≤ sentences_bound s
unfolding sentences_length sentences_bound
sentences-within (no_more r) = omega arith
sentences-within (sentence metric tests stores actions more) = omega (arith, actions-within actions, sentences-within more)
sentences-within unknown_sentence = omega arith

functions-within : (code : Code) → functions_length code ≤ functions_bound code
unfolding functions_length functions_bound
functions-within [] = omega arith
functions-within (f ∷ fs) = omega (arith, end-length f, sentences-within f, functions-within fs)

pub within-bound : (code : Code) → length (pack code) ≤ 16 + functions_bound code
within-bound code = omega (arith, pack-length code, functions-within code)
