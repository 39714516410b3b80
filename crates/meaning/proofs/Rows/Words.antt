-- What any words are read as: every instruction by its number, with each register, length and class, and the numbers next to them that are none.
use mathlib.Core.Path.{◌≡◌, refl}
use mathlib.Core.Bool.{true, false}
use mathlib.Core.List.{[], ◌∷◌, map}
use mathlib.Core.Option.{none, some}
use Rattle.meaning.specs.Classes.{digit, upper, lower, alphabetic, blank}
use Rattle.meaning.specs.Angles.{plus, minus}
use Rattle.meaning.specs.Instructions.{from_start, from_end, from_place, look, compare, predicate, predicate_part, unknown_test, store, unknown_store}
use Rattle.meaning.specs.Instructions.{null, whole, left, right, go, select, out, out_c, out_v, begin_seq, use_seq, call, tail_call, emission}
use Rattle.meaning.specs.Instructions.{compute, unknown_action, exactly, ends, middle, no_more, sentence, unknown_sentence}
use Rattle.meaning.specs.Translation.{span}
use Rattle.meaning.specs.Packing.{code_word, test_of, store_of, unpack_actions, metric_in, counts_word, tests_in, stores_in}
use Rattle.meaning.specs.Packing.{body_in, unpack_sentences}
use Rattle.meaning.proofs.Rows.Computing.{computing}

looks :
    map test_of (code_word 0 0 0 0 ∷ code_word 1 0 5 97 ∷ code_word 1 1 5 97 ∷ code_word 1 2 5 255 ∷ code_word 1 3 5 97 ∷ code_word 4 0 5 97 ∷
    code_word 19 0 5 97 ∷ code_word 21 0 5 97 ∷ [])
    ≡ unknown_test ∷ look (from_start 5) 97 ∷ look (from_end 5) 97 ∷ look (from_place 5) 255 ∷ unknown_test ∷ unknown_test ∷ unknown_test ∷
    unknown_test ∷ []
looks = refl

-- the registers of both cells stand in one byte
compares : map test_of (code_word 2 0 5 6 ∷ code_word 2 6 5 6 ∷ code_word 2 9 5 6 ∷ code_word 2 3 5 6 ∷ code_word 2 12 5 6 ∷ []) ≡
    compare (from_start 5) (from_start 6) ∷ compare (from_place 5) (from_end 6) ∷ compare (from_end 5) (from_place 6) ∷ unknown_test ∷
    unknown_test ∷ []
compares = refl

-- a truth value is 1 for 'T', and anything else for 'F'
predicates : map test_of (code_word 3 4 5 0 ∷ code_word 3 1 5 1 ∷ code_word 3 6 5 2 ∷ code_word 3 8 5 3 ∷ code_word 3 0 5 4 ∷ code_word 3 0 5 5 ∷
    code_word 3 3 5 0 ∷ []) ≡
    predicate (from_start 5) digit true ∷ predicate (from_end 5) upper false ∷ predicate (from_place 5) lower true
    ∷ predicate (from_start 5) alphabetic false ∷ predicate (from_start 5) blank false ∷ unknown_test ∷ unknown_test ∷ []
predicates = refl

-- the registers of the part's start and end, the truth value and the class stand in one byte
parts :
    map test_of
    (code_word 20 16 5 6 ∷ code_word 20 38 5 6 ∷ code_word 20 89 5 6 ∷ code_word 20 97 5 6 ∷ code_word 20 154 5 6 ∷ code_word 20 3 5 6 ∷
    code_word 20 12 5 6 ∷ code_word 20 160 5 6 ∷ [])
    ≡ predicate_part (from_start 5) (from_start 6) digit true ∷ predicate_part (from_place 5) (from_end 6) upper false
    ∷ predicate_part (from_end 5) (from_place 6) lower true ∷ predicate_part (from_end 5) (from_start 6) alphabetic false
    ∷ predicate_part (from_place 5) (from_place 6) blank true ∷ unknown_test ∷ unknown_test ∷ unknown_test ∷ []
parts = refl

stores : map store_of (code_word 4 0 5 0 ∷ code_word 4 1 5 0 ∷ code_word 4 2 5 0 ∷ code_word 4 3 5 0 ∷ code_word 3 0 5 0 ∷ code_word 5 0 5 0 ∷ []) ≡
    store (from_start 5) ∷ store (from_end 5) ∷ store (from_place 5) ∷ unknown_store ∷ unknown_store ∷ unknown_store ∷ []
stores = refl

-- bytes of a word that an instruction doesn't use are not looked at; a called function's number stands in three
actions :
    unpack_actions 0
    (code_word 5 0 8 9 ∷ code_word 5 1 8 9 ∷ code_word 6 2 8 9 ∷ code_word 6 3 8 9 ∷ code_word 5 4 8 9 ∷
    code_word 7 1 1 1 ∷ code_word 8 97 1 1 ∷ code_word 9 15 1 1 ∷ code_word 10 1 1 1 ∷ code_word 11 1 1 1 ∷ code_word 12 3 2 1 ∷ code_word 13 1 0 0 ∷
    code_word 14 2 1 1 ∷ 65 ∷ 255 ∷ code_word 14 1 0 0 ∷ 256 ∷ code_word 21 0 1 1 ∷ 277 ∷ code_word 21 2 0 0 ∷ code_word 20 0 0 0 ∷
    code_word 22 0 0 0 ∷ code_word 4 0 0 0 ∷
    code_word 16 0 0 0 ∷ code_word 15 1 1 1 ∷ 7 ∷ [])
    ≡ go (span null 8 9) ∷ go (span whole 8 9) ∷ select (span left 8 9) ∷ select (span right 8 9) ∷ unknown_action
    ∷ out ∷ out_c 97 ∷ out_v 15 ∷ begin_seq ∷ use_seq ∷ call 66051 ∷ tail_call 1
    ∷ emission (65 ∷ 255 ∷ []) ∷ unknown_action ∷ compute plus ∷ compute minus ∷ unknown_action ∷ unknown_action ∷ unknown_action
    ∷ unknown_action ∷ unknown_action ∷ []
unfolding computing
actions = refl

-- words that run out are no instruction; a name's words may be the last
ends-without : map (unpack_actions 0) ([] ∷ (7 ∷ []) ∷ (code_word 14 1 0 0 ∷ 65 ∷ []) ∷ (code_word 14 1 0 0 ∷ []) ∷ []) ≡
    (unknown_action ∷ []) ∷ (out ∷ unknown_action ∷ []) ∷ (emission (65 ∷ []) ∷ unknown_action ∷ []) ∷ (unknown_action ∷ unknown_action ∷ []) ∷ []
unfolding computing
ends-without = refl

metrics : map metric_in (code_word 15 1 2 3 ∷ code_word 16 1 2 3 ∷ code_word 17 1 2 3 ∷ code_word 18 1 2 3 ∷ code_word 19 1 2 3 ∷ []) ≡
    none ∷ some (exactly 1) ∷ some (ends 1 2) ∷ some (middle 1 2 3) ∷ none ∷ []
metrics = refl

counts : map (λ v. tests_in v ∷ stores_in v ∷ body_in v ∷ []) (counts_word 255 16 1000 ∷ counts_word 0 0 0 ∷ []) ≡
    (255 ∷ 16 ∷ 1000 ∷ []) ∷ (0 ∷ 0 ∷ 0 ∷ []) ∷ []
counts = refl

-- a function ends with 19 and the number of the function that recovers it; where its words run out before, or are passed over, there is no sentence
sentences :
    map (unpack_sentences 0)
    ((19 ∷ []) ∷ (code_word 19 3 2 1 ∷ []) ∷ [] ∷ (code_word 16 1 0 0 ∷ []) ∷ (code_word 16 1 0 0 ∷ counts_word 0 0 1 ∷ 15 ∷ []) ∷
    (code_word 16 1 0 0 ∷ counts_word 0 0 2 ∷ 15 ∷ 19 ∷ []) ∷ (code_word 16 1 0 0 ∷ counts_word 0 0 1 ∷ 15 ∷ code_word 19 2 0 0 ∷ []) ∷ [])
    ≡ no_more 0 ∷ no_more 66051 ∷ unknown_sentence ∷ unknown_sentence ∷ sentence (exactly 1) [] [] [] unknown_sentence
    ∷ sentence (exactly 1) [] [] [] unknown_sentence ∷ sentence (exactly 1) [] [] [] (no_more 2) ∷ []
unfolding computing
sentences = refl
