-- The tree that words of a tape are read as, whatever they are: it keeps within 01's limits, and the tape of an allowed
-- table is read as that table.
use Rattle.std.specs.Prelude.{ℕ, zero, suc, Bool, false, List, [], ◌∷◌, map, ltb, take, drop}
use Rattle.meaning.specs.Choice.{pick}
use Rattle.meaning.specs.Tree.{Condition, Sentence, Function, Table}
use Rattle.meaning.specs.Allowed.{max_functions, max_sentences}
use Rattle.tape_layout.specs.Tape.{next_word, function_end_word, function_word, call_word}
use Rattle.tape_words.specs.Words.{carried}
use Rattle.code_patterns.specs.Scans.{Scan, pattern_at, conditions_on_tape}
use Rattle.code_expressions.specs.Levels.{Levels, levels_in}

-- A SENTENCE

abbrev pub conditions_at : List ℕ → Scan (List Condition)
conditions_at ws = conditions_on_tape 0 0 (pattern_at ws).rest

-- the expression begins after one word more, `=` in a tape
abbrev pub levels_at : List ℕ → Levels
levels_at ws = levels_in 0 0 0 (drop 1 (conditions_at ws).rest)

abbrev pub sentence_on_tape : List ℕ → Sentence
sentence_on_tape ws =
    record {
      pattern = (pattern_at ws).value;
      conditions = (conditions_at ws).value;
      expression = (levels_at ws).current;
    }

-- SENTENCES, FUNCTIONS, THE TABLE

-- the word between two sentences
abbrev pub is_next_word : ℕ → Bool
is_next_word w = pick (ltb w next_word) false (ltb w function_end_word)

-- what follows a sentence, where the word after it says that another comes
abbrev pub followed_by : List ℕ → (List ℕ → List Sentence) → List Sentence
followed_by [] next = []
followed_by (w ∷ ws) next = let later = next ws in pick (is_next_word w) later []

-- the sentences, so many at most
unfoldable pub sentences_on_tape : ℕ → List ℕ → List Sentence
sentences_on_tape zero ws = []
sentences_on_tape (suc left) ws = sentence_on_tape ws ∷ followed_by (levels_at ws).rest (λ r. sentences_on_tape left r)

-- a function's word
abbrev pub is_function_word : ℕ → Bool
is_function_word w = pick (ltb w function_word) false (ltb w call_word)

-- the words from each function's word on
unfoldable pub functions_on_tape : List ℕ → List (List ℕ)
functions_on_tape [] = []
functions_on_tape (w ∷ ws) = let later = functions_on_tape ws in pick (is_function_word w) ((w ∷ ws) ∷ later) later

abbrev pub function_on_tape : List ℕ → Function
function_on_tape [] = record { name = []; sentences = [] }
function_on_tape (w ∷ ws) =
    record { name = take (carried w) ws; sentences = sentences_on_tape max_sentences (drop (carried w) ws) }

abbrev pub tree_of : List ℕ → Table
tree_of ws = map function_on_tape (take max_functions (functions_on_tape ws))
