-- The functions of a tape: where they stand, and their words and the table of their places as they are written one
-- after another.
use Rattle.std.specs.Prelude.{ℕ, ◌+◌, ◌-◌, ◌≤◌, ◌<◌, ◌≡◌, List, ◌++◌, map, length, take, drop, get_or, set}
use Rattle.std.proofs.lemmas.List.Edits.{sets}
use Rattle.meaning.specs.Tree.{Table}
use Rattle.meaning.specs.Allowed.{names_of, max_functions}
use Rattle.meaning.specs.Instructions.{Sentences, Code}
use Rattle.meaning.specs.Translation.{translated_function}
use Rattle.meaning.specs.Packing.{pack_sentences, pack}
use Rattle.tape_words.specs.Words.{head_names}
use Rattle.code_sentences.specs.Trees.{functions_on_tape, function_on_tape}
use Rattle.code_sentences.specs.Sentencing.{function_words}
use Rattle.code_words.specs.Writing.{Wrote}

-- THE HEADS: the places of the functions' words

-- the first so many are places of the tape
abbrev pub HeadsInside : List ℕ → List ℕ → ℕ → Type 0
HeadsInside ws heads count = (k : ℕ) → k < count → get_or heads k 0 < length ws

-- the words from each head on
abbrev pub words_from : List ℕ → List ℕ → List (List ℕ)
words_from ws heads = map (λ p. drop p ws) heads

-- the heads so far, and those still to come from the word `i` on
abbrev pub heads_left : List ℕ → ℕ → List ℕ → ℕ → List (List ℕ)
heads_left ws i heads count =
    words_from ws (take count heads) ++ take (max_functions - count) (functions_on_tape (drop i ws))

-- a step keeps what the heads come to
pub record HeadsOn (ws : List ℕ) (i : ℕ) (heads : List ℕ) (count : ℕ) (heads' : List ℕ) (r : ℕ) : Type 0 where
  pub same : heads_left ws (i + 1) heads' r ≡ heads_left ws i heads count
  pub inside : HeadsInside ws heads' r
  pub few : r ≤ max_functions

-- all heads are found
pub record HeadsAll (ws heads : List ℕ) (r : ℕ) : Type 0 where
  pub found : words_from ws (take r heads) ≡ take max_functions (functions_on_tape ws)
  pub inside : HeadsInside ws heads r
  pub few : r ≤ max_functions

-- THE FUNCTIONS

abbrev pub translated_at : Table → List ℕ → ℕ → Sentences
translated_at t ws head = translated_function t (function_on_tape (drop head ws))

abbrev pub translated_all : Table → List ℕ → List ℕ → Code
translated_all t ws heads = map (translated_at t ws) heads

-- in the code from the k-th entry of the table on: the entry is the function's place `at`, and there the function is
-- written
pub record EntryAll (ws heads : List ℕ) (k : ℕ) (part : List ℕ) (at : ℕ) (part' : List ℕ) (r : ℕ) : Type 0 where
  pub left : (t : Table) → names_of t ≡ head_names ws heads
      → part' ≡ sets (set part 0 at) (at - (k + 1)) (pack_sentences (translated_at t ws (get_or heads k 0)))
  pub next : (t : Table) → names_of t ≡ head_names ws heads → r
      ≡ at + length (pack_sentences (translated_at t ws (get_or heads k 0)))
  pub ahead : at ≤ r
  pub grown : r ≤ at + function_words

-- the table and the functions are written
pub record FunctionsAll (ws heads code code' : List ℕ) (r : ℕ) : Type 0 where
  pub wrote : (t : Table) → names_of t ≡ head_names ws heads → Wrote code 0 (pack (translated_all t ws heads)) code' r
