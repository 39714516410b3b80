-- The tape: the tree as a flat list of words, as reading writes it and as listing and translating read it. Every word
-- stands for at least one byte of the table text, so 32,768 words hold every tape. A character is its byte; every other
-- word is 256 or more.
use Rattle.std.specs.Prelude.{ℕ, ◌+◌, ◌*◌, Bool, true, false, List, [], ◌∷◌, ◌++◌, length}
use Rattle.meaning.specs.Choice.{Name}
use Rattle.meaning.specs.Classes.{class_number}
use Rattle.meaning.specs.Tree.{Letter, character, symbol, Element, letter, part, Subject, of_symbol, of_part, Condition}
use Rattle.meaning.specs.Tree.{Expression, end, then_character, then_symbol, then_part, then_call, Sentence, Function}
use Rattle.meaning.specs.Tree.{Table}

-- what a word is: its kind, and what it carries, which is below `kind_width`
abbrev pub kind_width : ℕ
kind_width = 256

abbrev pub tape_word : ℕ → ℕ → ℕ
tape_word kind carried = kind * kind_width + carried

-- an s-variable and an e-variable carry the length of their identifier, whose bytes come after
abbrev pub symbol_kind : ℕ
symbol_kind = 1

abbrev pub part_kind : ℕ
part_kind = 2

-- a condition carries its class, a number below `class_count`; `condition_truth` besides if 'T' is expected,
-- `condition_part` if its variable is an e-variable, and `condition_size` for each byte of that variable's identifier: at
-- most 179. The identifier comes after
abbrev pub condition_kind : ℕ
condition_kind = 3

abbrev pub class_count : ℕ
class_count = 5

abbrev pub condition_truth : ℕ
condition_truth = 5

abbrev pub condition_part : ℕ
condition_part = 10

abbrev pub condition_size : ℕ
condition_size = 20

-- `=`, which parts the pattern and the conditions from the expression
abbrev pub equals_kind : ℕ
equals_kind = 4

-- `>`, which ends a call's argument
abbrev pub close_kind : ℕ
close_kind = 5

-- another sentence of the function follows
abbrev pub next_kind : ℕ
next_kind = 6

-- the function ends
abbrev pub end_kind : ℕ
end_kind = 7

-- a function carries the length of its name, which comes after
abbrev pub function_kind : ℕ
function_kind = 8

-- a call carries the length of its name, and its kind counts on by the place of the name; the name comes after
abbrev pub call_kind : ℕ
call_kind = 9

-- the first word of each kind
abbrev pub symbol_word : ℕ
symbol_word = 256

abbrev pub part_word : ℕ
part_word = 512

abbrev pub condition_word : ℕ
condition_word = 768

abbrev pub equals_word : ℕ
equals_word = 1024

abbrev pub close_word : ℕ
close_word = 1280

abbrev pub next_word : ℕ
next_word = 1536

abbrev pub function_end_word : ℕ
function_end_word = 1792

abbrev pub function_word : ℕ
function_word = 2048

abbrev pub call_word : ℕ
call_word = 2304

abbrev pub named : ℕ → Name → List ℕ
named kind n = tape_word kind (length n) ∷ n

abbrev pub letter_tape : Letter → List ℕ
letter_tape (character c) = c ∷ []
letter_tape (symbol x) = named symbol_kind x

abbrev pub element_tape : Element → List ℕ
element_tape (letter l) = letter_tape l
element_tape (part x) = named part_kind x

unfoldable pub pattern_tape : List Element → List ℕ
pattern_tape [] = []
pattern_tape (x ∷ xs) = element_tape x ++ pattern_tape xs

abbrev pub truth_number : Bool → ℕ
truth_number true = condition_truth
truth_number false = 0

abbrev pub subject_tape : ℕ → Subject → List ℕ
subject_tape carried (of_symbol x) = tape_word condition_kind (length x * condition_size + carried) ∷ x
subject_tape carried (of_part x) = tape_word condition_kind (length x * condition_size + condition_part + carried) ∷ x

abbrev pub condition_tape : Condition → List ℕ
condition_tape c = subject_tape (truth_number c.expected + class_number c.predicate) c.subject

unfoldable pub conditions_tape : List Condition → List ℕ
conditions_tape [] = []
conditions_tape (c ∷ cs) = condition_tape c ++ conditions_tape cs

unfoldable pub expression_tape : Expression → List ℕ
expression_tape end = []
expression_tape (then_character c e) = c ∷ expression_tape e
expression_tape (then_symbol x e) = named symbol_kind x ++ expression_tape e
expression_tape (then_part x e) = named part_kind x ++ expression_tape e
expression_tape (then_call place n a e) =
    named (call_kind + place) n ++ (expression_tape a ++ tape_word close_kind 0 ∷ expression_tape e)

abbrev pub sentence_tape : Sentence → List ℕ
sentence_tape s =
    pattern_tape s.pattern
    ++ (conditions_tape s.conditions ++ tape_word equals_kind 0 ∷ expression_tape s.expression)

-- sentences are parted, and the last is followed by the function's end
unfoldable pub sentences_tape : List Sentence → List ℕ
sentences_tape [] = tape_word end_kind 0 ∷ []
sentences_tape (s ∷ []) = sentence_tape s ++ tape_word end_kind 0 ∷ []
sentences_tape (s ∷ r ∷ rs) = sentence_tape s ++ tape_word next_kind 0 ∷ sentences_tape (r ∷ rs)

abbrev pub function_tape : Function → List ℕ
function_tape f = named function_kind f.name ++ sentences_tape f.sentences

unfoldable pub tape : Table → List ℕ
tape [] = []
tape (f ∷ fs) = function_tape f ++ tape fs
