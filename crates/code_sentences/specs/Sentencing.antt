-- A sentence's words and a function's, as they are written one after another.
use Rattle.std.specs.Prelude.{ℕ, ◌+◌, ◌-◌, ◌*◌, ◌≤◌, ◌≡◌, Bool, false, List, [], ◌∷◌, ◌++◌, map, length, take, drop}
use Rattle.meaning.specs.Tree.{Table}
use Rattle.meaning.specs.Allowed.{names_of, max_sentences, max_letters, max_conditions}
use Rattle.meaning.specs.Instructions.{Test, Store, Action}
use Rattle.meaning.specs.Translation.{Shape, shape_of, metric_of, Tested, tested_shape, tests_of, stores_of, actions_of}
use Rattle.meaning.specs.Translation.{translated_sentences}
use Rattle.meaning.specs.Packing.{Words, metric_word, counts_word, test_word, store_word, body_words, end_word}
use Rattle.meaning.specs.Packing.{pack_sentences}
use Rattle.meaning.specs.Packing.{ends_number, exactly_number, middle_number}
use Rattle.tape_words.specs.declared.tape.Parts.{Parts}
use Rattle.tape_words.specs.declared.tape.Parts.TheVariants.{Zero, One, Two}
use Rattle.code_sentences.specs.declared.Body.{Body}
use Rattle.tape_words.specs.Words.{head_names}
use Rattle.code_sentences.specs.Trees.{is_next_word, conditions_at, levels_at, sentences_on_tape}
use Rattle.code_patterns.specs.Scans.{pattern_at}
use Rattle.code_numbers.specs.Numbers.{sentence_head}
use Rattle.code_words.specs.Writing.{Wrote}
use Rattle.code_words.specs.declared.CodeWriter.{CodeWriter}
use Rattle.code_words.specs.Writer.{Written, StillToWrite}
use Rattle.code_expressions.specs.Resuming.{expression_words}
use Rattle.code_patterns.specs.declared.symbols.Symbol.{Symbol}
use Rattle.code_patterns.specs.Testing.{held}

-- the number of a metric's word, by how many e-variables there are
abbrev pub metric_number : Parts → ℕ
metric_number Zero = exactly_number
metric_number One = ends_number
metric_number Two = middle_number

-- THE MOST WORDS

-- a sentence's tests: one for each letter of its pattern, and for each condition
abbrev pub max_tests : ℕ
max_tests = max_letters + max_conditions

-- its tests and stores; with its actions; and all of it
abbrev pub match_words : ℕ
match_words = max_tests + max_letters

abbrev pub most_body_words : ℕ
most_body_words = match_words + expression_words

abbrev pub sentence_words : ℕ
sentence_words = sentence_head + most_body_words

-- a function, with the word that ends it
abbrev pub function_words : ℕ
function_words = sentence_words * max_sentences + 1

-- OF THE SENTENCE THAT BEGINS WITH SOME WORDS

abbrev pub shape_at : List ℕ → Shape
shape_at l = shape_of (pattern_at l).value

abbrev pub tested_at : List ℕ → Tested
tested_at l = tested_shape (shape_at l)

abbrev pub tests_at : List ℕ → List Test
tests_at l = tests_of (shape_at l) (tested_at l) (conditions_at l).value

abbrev pub stores_at : List ℕ → List Store
stores_at l = stores_of (tested_at l)

abbrev pub actions_at : Table → List ℕ → List Action
actions_at t l = actions_of t (shape_at l) (tested_at l).sites (levels_at l).current

abbrev pub body_at : Table → List ℕ → Words
body_at t l = body_words (tests_at l) (stores_at l) (actions_at t l)

abbrev pub sentence_at : Table → List ℕ → Words
sentence_at t l =
    metric_word (metric_of (shape_at l))
    ∷ counts_word (length (tests_at l)) (length (stores_at l)) (length (body_at t l)) ∷
    body_at t l

-- its tests and stores are written, and its different s-variables are known
pub record MatchAll (ws : List ℕ) (start : ℕ) (code : CodeWriter) (symbols : List Symbol) (code' : CodeWriter)
    (r : Body) : Type 0 where
  pub wrote :
      Written code (map test_word (tests_at (drop start ws)) ++ map store_word (stores_at (drop start ws))) code'
  pub tests : r.tests ≡ length (tests_at (drop start ws))
  pub stores : r.symbols ≡ length (stores_at (drop start ws))
  pub known : held ws (take r.symbols symbols) ≡ (tested_at (drop start ws)).sites
  pub rest : drop r.next ws ≡ (conditions_at (drop start ws)).rest
  pub next : r.next ≤ length ws
  pub few : (r.tests ≤ max_tests) × (r.symbols ≤ max_letters)
  pub grown : code'.at ≤ code.at + match_words

-- its tests, stores and actions are written
pub record BodyAll (ws heads : List ℕ) (start : ℕ) (code code' : CodeWriter) (r : Body) : Type 0 where
  pub wrote : (t : Table) → names_of t ≡ head_names ws heads → Written code (body_at t (drop start ws)) code'
  pub tests : r.tests ≡ length (tests_at (drop start ws))
  pub stores : r.symbols ≡ length (stores_at (drop start ws))
  pub rest : drop r.next ws ≡ (levels_at (drop start ws)).rest
  pub next : r.next ≤ length ws + 1
  pub few : (r.tests ≤ max_tests) × (r.symbols ≤ max_letters)
  pub grown : code'.at ≤ code.at + most_body_words

-- all its words are written
pub record SentenceAll (ws heads : List ℕ) (start : ℕ) (code code' : CodeWriter) (r : Body) : Type 0 where
  pub wrote : (t : Table) → names_of t ≡ head_names ws heads → Written code (sentence_at t (drop start ws)) code'
  pub rest : drop r.next ws ≡ (levels_at (drop start ws)).rest
  pub next : r.next ≤ length ws + 1
  pub grown : code'.at ≤ code.at + sentence_words

-- THE SENTENCES OF A FUNCTION

abbrev pub next_at : List ℕ → Bool
next_at [] = false
next_at (w ∷ ws) = is_next_word w

-- the words still to come, of a function that another recovers, after so many sentences
abbrev pub sentences_left : Table → ℕ → List ℕ → ℕ → ℕ → Words
sentences_left t recoverer ws count next =
    pack_sentences (translated_sentences t recoverer (sentences_on_tape (max_sentences - count) (drop next ws)))

-- all sentences are written, from the start of what is lent, whatever function recovers theirs: the word that ends them
-- is still to come
pub record SentencesAll (ws heads : List ℕ) (start : ℕ) (code code' : CodeWriter) : Type 0 where
  pub same : (t : Table) (recoverer : ℕ) → names_of t ≡ head_names ws heads
      → StillToWrite code (sentences_left t recoverer ws 0 start) code' (end_word recoverer ∷ [])
  pub grown : code'.at ≤ sentence_words * max_sentences

-- they are written, and the word that ends them
pub record FunctionAll (ws heads : List ℕ) (start recoverer : ℕ) (code code' : List ℕ) (r : ℕ) : Type 0 where
  pub wrote : (t : Table) → names_of t ≡ head_names ws heads
      → Wrote code 0
      (pack_sentences (translated_sentences t recoverer (sentences_on_tape max_sentences (drop start ws))))
      code' r
  pub grown : r ≤ function_words
