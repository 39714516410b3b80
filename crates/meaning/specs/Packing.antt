-- Instructions as 32-bit words, and any words as instructions: docs/CODE.md. A word is four bytes: the instruction's
-- number and three operands. Every instruction is one word, but for an emission, whose name stands in the words after
-- it, a byte to a word.
use Rattle.std.specs.Prelude.{ℕ, zero, suc, ◌+◌, ◌*◌, ◌/◌, ◌%◌, Bool, true, false, List, [], ◌∷◌, ◌++◌, map, leb, ltb, eqb, length, take, drop}
use Rattle.std.proofs.Math.Option.{Option, none, some}
use Rattle.meaning.specs.Choice.{pick, both, every}
use Rattle.meaning.specs.Angles.{Operation, plus, minus}
use Rattle.meaning.specs.Classes.{Class, digit, upper, lower, alphabetic, blank, class_number}
use Rattle.meaning.specs.Classes.{digit_number, upper_number, lower_number, alphabetic_number, blank_number}
use Rattle.meaning.specs.Allowed.{max_symbols, is_byte}
use Rattle.meaning.specs.Instructions.{Site, from_start, from_end, from_place, Test, look, compare, predicate}
use Rattle.meaning.specs.Instructions.{predicate_part, unknown_test, Store, store, unknown_store, Length, null}
use Rattle.meaning.specs.Instructions.{whole, left, right, Span, Action, go, select, out, out_c, out_v, begin_seq}
use Rattle.meaning.specs.Instructions.{use_seq, call, tail_call, emission, compute, unknown_action, Metric, exactly}
use Rattle.meaning.specs.Instructions.{ends, middle, Sentences, no_more, sentence, unknown_sentence, Code}

abbrev pub Words : Type 0
Words = List ℕ

-- four bytes to a word, the first being the lowest
abbrev pub code_word : ℕ → ℕ → ℕ → ℕ → ℕ
code_word number a b c = number + 256 * (a + 256 * (b + 256 * c))

abbrev pub number_in : ℕ → ℕ
number_in w = w % 256

abbrev pub first_in : ℕ → ℕ
first_in w = w / 256 % 256

abbrev pub second_in : ℕ → ℕ
second_in w = w / 65536 % 256

abbrev pub third_in : ℕ → ℕ
third_in w = w / 16777216 % 256

-- NUMBERS, as docs/CODE.md has them and the crate code_numbers

-- tests, stores, actions, and a sentence's first word
abbrev pub look_number : ℕ
look_number = 1

abbrev pub compare_number : ℕ
compare_number = 2

abbrev pub predicate_number : ℕ
predicate_number = 3

abbrev pub store_number : ℕ
store_number = 4

abbrev pub go_number : ℕ
go_number = 5

abbrev pub select_number : ℕ
select_number = 6

abbrev pub out_number : ℕ
out_number = 7

abbrev pub out_c_number : ℕ
out_c_number = 8

abbrev pub out_v_number : ℕ
out_v_number = 9

abbrev pub begin_seq_number : ℕ
begin_seq_number = 10

abbrev pub use_seq_number : ℕ
use_seq_number = 11

abbrev pub call_number : ℕ
call_number = 12

abbrev pub tail_call_number : ℕ
tail_call_number = 13

abbrev pub emission_number : ℕ
emission_number = 14

abbrev pub exactly_number : ℕ
exactly_number = 16

abbrev pub ends_number : ℕ
ends_number = 17

abbrev pub middle_number : ℕ
middle_number = 18

abbrev pub predicate_part_number : ℕ
predicate_part_number = 20

abbrev pub compute_number : ℕ
compute_number = 21

-- registers; where one operand has two of them, one of the second counts `registers`
abbrev pub from_start_number : ℕ
from_start_number = 0

abbrev pub from_end_number : ℕ
from_end_number = 1

abbrev pub from_place_number : ℕ
from_place_number = 2

abbrev pub registers : ℕ
registers = 4

-- in the first operand of a Predicate over a part, after its two registers: the truth value and the class
abbrev pub part_truth : ℕ
part_truth = 16

abbrev pub part_class : ℕ
part_class = 32

-- lengths of the field, and operations on angles
abbrev pub null_number : ℕ
null_number = 0

abbrev pub whole_number : ℕ
whole_number = 1

abbrev pub left_number : ℕ
left_number = 2

abbrev pub right_number : ℕ
right_number = 3

abbrev pub plus_number : ℕ
plus_number = 0

abbrev pub minus_number : ℕ
minus_number = 1

-- REGISTERS AND TRUTH VALUES

abbrev pub site_register : Site → ℕ
site_register (from_start k) = from_start_number
site_register (from_end k) = from_end_number
site_register (from_place k) = from_place_number

abbrev pub site_offset : Site → ℕ
site_offset (from_start k) = k
site_offset (from_end k) = k
site_offset (from_place k) = k

abbrev pub site_of : ℕ → ℕ → Option Site
site_of register k =
    pick (eqb register from_start_number) (some (from_start k))
    (pick (eqb register from_end_number) (some (from_end k))
    (pick (eqb register from_place_number) (some (from_place k)) none))

abbrev pub length_number : Length → ℕ
length_number null = null_number
length_number whole = whole_number
length_number left = left_number
length_number right = right_number

abbrev pub length_of : ℕ → Option Length
length_of n =
    pick (eqb n null_number) (some null)
    (pick (eqb n whole_number) (some whole)
    (pick (eqb n left_number) (some left)
    (pick (eqb n right_number) (some right) none)))

abbrev pub class_of : ℕ → Option Class
class_of n =
    pick (eqb n digit_number) (some digit)
    (pick (eqb n upper_number) (some upper)
    (pick (eqb n lower_number) (some lower)
    (pick (eqb n alphabetic_number) (some alphabetic)
    (pick (eqb n blank_number) (some blank) none))))

abbrev pub truth_bit : Bool → ℕ
truth_bit true = 1
truth_bit false = 0

abbrev pub operation_number : Operation → ℕ
operation_number plus = plus_number
operation_number minus = minus_number

abbrev pub operation_of : ℕ → Option Operation
operation_of n = pick (eqb n plus_number) (some plus) (pick (eqb n minus_number) (some minus) none)

-- TESTS AND STORES

-- the first operand of a Predicate over a part: both registers, the truth value and the class, at most 154
abbrev pub part_operand : Site → Site → Class → Bool → ℕ
part_operand s r class expected =
    site_register s + registers * site_register r + part_truth * truth_bit expected + part_class * class_number class

abbrev pub test_word : Test → ℕ
test_word (look s c) = code_word look_number (site_register s) (site_offset s) c
test_word (compare s r) =
    code_word compare_number (site_register s + registers * site_register r) (site_offset s) (site_offset r)
test_word (predicate s class expected) =
    code_word predicate_number (site_register s + registers * truth_bit expected) (site_offset s) (class_number class)
test_word (predicate_part s r class expected) =
    code_word predicate_part_number (part_operand s r class expected) (site_offset s) (site_offset r)
test_word unknown_test = 0

abbrev pub look_of : Option Site → ℕ → Test
look_of none c = unknown_test
look_of (some s) c = look s c

abbrev pub compare_of : Option Site → Option Site → Test
compare_of none r = unknown_test
compare_of (some s) none = unknown_test
compare_of (some s) (some r) = compare s r

abbrev pub predicate_for : Option Site → Option Class → Bool → Test
predicate_for none class expected = unknown_test
predicate_for (some s) none expected = unknown_test
predicate_for (some s) (some class) expected = predicate s class expected

abbrev pub predicate_part_for : Option Site → Option Site → Option Class → Bool → Test
predicate_part_for none r class expected = unknown_test
predicate_part_for (some s) none class expected = unknown_test
predicate_part_for (some s) (some r) none expected = unknown_test
predicate_part_for (some s) (some r) (some class) expected = predicate_part s r class expected

abbrev pub predicate_part_of : ℕ → ℕ → ℕ → Test
predicate_part_of first from to =
    predicate_part_for (site_of (first % registers) from) (site_of (first / registers % registers) to)
    (class_of (first / part_class)) (eqb (first / part_truth % 2) 1)

abbrev pub test_of : ℕ → Test
test_of w =
    pick (eqb (number_in w) look_number) (look_of (site_of (first_in w) (second_in w)) (third_in w))
    (pick (eqb (number_in w) compare_number)
    (compare_of (site_of (first_in w % registers) (second_in w)) (site_of (first_in w / registers) (third_in w)))
    (pick (eqb (number_in w) predicate_number)
    (predicate_for (site_of (first_in w % registers) (second_in w)) (class_of (third_in w)) (eqb (first_in w / registers) 1))
    (pick (eqb (number_in w) predicate_part_number) (predicate_part_of (first_in w) (second_in w) (third_in w))
    unknown_test)))

abbrev pub store_word : Store → ℕ
store_word (store s) = code_word store_number (site_register s) (site_offset s) 0
store_word unknown_store = 0

abbrev pub store_at : Option Site → Store
store_at none = unknown_store
store_at (some s) = store s

abbrev pub store_of : ℕ → Store
store_of w = pick (eqb (number_in w) store_number) (store_at (site_of (first_in w) (second_in w))) unknown_store

-- ACTIONS

abbrev pub span_word : ℕ → Span → ℕ
span_word number s = code_word number (length_number s.register) s.add s.back

-- an action's words; a called function's number stands in all three operands
abbrev pub action_words : Action → Words
action_words (go s) = span_word go_number s ∷ []
action_words (select s) = span_word select_number s ∷ []
action_words out = code_word out_number 0 0 0 ∷ []
action_words (out_c c) = code_word out_c_number c 0 0 ∷ []
action_words (out_v k) = code_word out_v_number k 0 0 ∷ []
action_words begin_seq = code_word begin_seq_number 0 0 0 ∷ []
action_words use_seq = code_word use_seq_number 0 0 0 ∷ []
action_words (call f) = (call_number + 256 * f) ∷ []
action_words (tail_call f) = (tail_call_number + 256 * f) ∷ []
action_words (emission n) = code_word emission_number (length n) 0 0 ∷ n
action_words (compute op) = code_word compute_number (operation_number op) 0 0 ∷ []
action_words unknown_action = 0 ∷ []

abbrev pub actions_end : ℕ
actions_end = 15

unfoldable pub pack_actions : List Action → Words
pack_actions [] = actions_end ∷ []
pack_actions (a ∷ more) = action_words a ++ pack_actions more

abbrev pub span_action : (Span → Action) → Option Length → ℕ → ℕ → Action
span_action f none add back = unknown_action
span_action f (some r) add back = f (record { register = r; add = add; back = back })

abbrev pub compute_of : Option Operation → Action
compute_of none = unknown_action
compute_of (some op) = compute op

-- the action of one word, where it is neither an emission nor the end
abbrev pub action_of : ℕ → Action
action_of w =
    pick (eqb (number_in w) go_number) (span_action go (length_of (first_in w)) (second_in w) (third_in w))
    (pick (eqb (number_in w) select_number) (span_action select (length_of (first_in w)) (second_in w) (third_in w))
    (pick (eqb (number_in w) out_number) out
    (pick (eqb (number_in w) out_c_number) (out_c (first_in w))
    (pick (eqb (number_in w) out_v_number) (out_v (first_in w))
    (pick (eqb (number_in w) begin_seq_number) begin_seq
    (pick (eqb (number_in w) use_seq_number) use_seq
    (pick (eqb (number_in w) call_number) (call (w / 256))
    (pick (eqb (number_in w) tail_call_number) (tail_call (w / 256))
    (pick (eqb (number_in w) compute_number) (compute_of (operation_of (first_in w)))
    unknown_action)))))))))

-- an emission whose name's words are all there and are bytes
abbrev pub emission_of : ℕ → Words → Action
emission_of n ws = pick (both (leb n (length ws)) (every is_byte (take n ws))) (emission (take n ws)) unknown_action

-- the actions from a place of the code up to their end; `skip` words are passed over first. Words that run out are no
-- instruction
unfoldable pub unpack_actions : ℕ → Words → List Action
unpack_actions skip [] = unknown_action ∷ []
unpack_actions (suc skip) (w ∷ ws) = unpack_actions skip ws
unpack_actions zero (w ∷ ws) =
    let more = action_of w ∷ unpack_actions zero ws in
    let named = emission_of (first_in w) ws ∷ unpack_actions (first_in w) ws in
    pick (eqb (number_in w) actions_end) [] (pick (eqb (number_in w) emission_number) named more)

-- SENTENCES

abbrev pub metric_word : Metric → ℕ
metric_word (exactly n) = code_word exactly_number n 0 0
metric_word (ends head tail) = code_word ends_number head tail 0
metric_word (middle head med tail) = code_word middle_number head med tail

abbrev pub sentences_end : ℕ
sentences_end = 19

-- the word that ends a function has the number of the function that recovers it
abbrev pub end_word : ℕ → ℕ
end_word r = sentences_end + 256 * r

-- a sentence's words after its two first: tests, stores, actions
abbrev pub body_words : List Test → List Store → List Action → Words
body_words tests stores actions = map test_word tests ++ (map store_word stores ++ pack_actions actions)

-- a sentence's second word: how many tests, how many stores, and how many words to the next sentence
abbrev pub counts_word : ℕ → ℕ → ℕ → ℕ
counts_word tests stores body = tests + 256 * (stores + 256 * body)

unfoldable pub pack_sentences : Sentences → Words
pack_sentences (no_more r) = end_word r ∷ []
pack_sentences (sentence metric tests stores actions more) =
    metric_word metric ∷
    counts_word (length tests) (length stores) (length (body_words tests stores actions)) ∷
    body_words tests stores actions ++ pack_sentences more
pack_sentences unknown_sentence = []

abbrev pub metric_in : ℕ → Option Metric
metric_in w =
    pick (eqb (number_in w) exactly_number) (some (exactly (first_in w)))
    (pick (eqb (number_in w) ends_number) (some (ends (first_in w) (second_in w)))
    (pick (eqb (number_in w) middle_number) (some (middle (first_in w) (second_in w) (third_in w)))
    none))

abbrev pub tests_in : ℕ → ℕ
tests_in v = v % 256

abbrev pub stores_in : ℕ → ℕ
stores_in v = v / 256 % 256

abbrev pub body_in : ℕ → ℕ
body_in v = v / 65536

-- so many tests, or fewer and one that is none where the words run out
unfoldable pub unpack_tests : ℕ → Words → List Test
unpack_tests zero ws = []
unpack_tests (suc n) [] = unknown_test ∷ []
unpack_tests (suc n) (w ∷ ws) = test_of w ∷ unpack_tests n ws

unfoldable pub unpack_stores : ℕ → Words → List Store
unpack_stores zero ws = []
unpack_stores (suc n) [] = unknown_store ∷ []
unpack_stores (suc n) (w ∷ ws) = store_of w ∷ unpack_stores n ws

-- an application stores no more values than a pattern may have different s-variables
abbrev pub max_stored : ℕ
max_stored = max_symbols

abbrev pub body_of : Metric → ℕ → Words → Sentences → Sentences
body_of metric v ws more =
    sentence metric (unpack_tests (tests_in v) ws) (unpack_stores (stores_in v) (drop (tests_in v) ws))
    (unpack_actions 0 (drop (tests_in v + stores_in v) ws)) more

abbrev pub sentence_of : Option Metric → ℕ → Words → Sentences → Sentences
sentence_of none v ws more = unknown_sentence
sentence_of (some metric) v ws more =
    let body = body_of metric v ws more in pick (leb (stores_in v) max_stored) body unknown_sentence

abbrev pub headed : ℕ → Words → Sentences → Sentences
headed w [] more = unknown_sentence
headed w (v ∷ ws) more = sentence_of (metric_in w) v ws more

-- the words to the next sentence, the second word among them
abbrev pub skip_over : Words → ℕ
skip_over [] = 0
skip_over (v ∷ ws) = suc (body_in v)

unfoldable pub unpack_sentences : ℕ → Words → Sentences
unpack_sentences skip [] = unknown_sentence
unpack_sentences (suc skip) (w ∷ ws) = unpack_sentences skip ws
unpack_sentences zero (w ∷ ws) =
    let more = headed w ws (unpack_sentences (skip_over ws) ws) in
    pick (eqb (number_in w) sentences_end) (no_more (w / 256)) more

-- THE WHOLE: the number of functions, the place of each function, and the functions

unfoldable pub pack_functions : Code → Words
pack_functions [] = []
pack_functions (f ∷ fs) = pack_sentences f ++ pack_functions fs

-- the place of each function, the first standing at `at`
unfoldable pub places_from : ℕ → Code → Words
places_from at [] = []
places_from at (f ∷ fs) = at ∷ places_from (at + length (pack_sentences f)) fs

abbrev pub pack : Code → Words
pack code = length code ∷ places_from (suc (length code)) code ++ pack_functions code

abbrev pub functions_at : Words → Words → Code
functions_at ws places = map (λ at. unpack_sentences 0 (drop at ws)) places

-- the function table has an entry for each function, and each names a place inside the code: decision 19 of
-- docs/DECISIONS.md
abbrev pub sound_table : Words → Words → ℕ → Bool
sound_table ws rest count = both (leb count (length rest)) (every (λ at. ltb at (length ws)) (take count rest))

abbrev pub unpack : Words → Option Code
unpack [] = none
unpack (count ∷ rest) =
    let code = some (functions_at (count ∷ rest) (take count rest)) in
    pick (sound_table (count ∷ rest) rest count) code none
