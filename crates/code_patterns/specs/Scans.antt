-- What a pattern and conditions are read as from the words of a tape, whatever they are: within 01's limits.
use Rattle.std.specs.Prelude.{ℕ, zero, suc, ◌+◌, ◌/◌, ◌%◌, Bool, true, false, List, [], ◌∷◌, eqb, take}
use Rattle.meaning.specs.Choice.{Name}
use Rattle.meaning.specs.Tree.{character, symbol, Element, letter, part, Condition}
use Rattle.tape_layout.specs.Tape.{class_count, condition_truth, condition_part, condition_size}
use Rattle.tape_words.specs.declared.tape.Parts.{Parts}
use Rattle.tape_words.specs.declared.tape.Parts.TheVariants.{Zero, One, Two}
use Rattle.tape_words.specs.declared.tape.Piece.{Piece}
use Rattle.tape_words.specs.declared.tape.Piece.TheVariants.{Character, SVariable, EVariable, PatternEnd}
use Rattle.tape_words.specs.Words.{carried, subject_of, piece_of, is_condition_word, class_in}

-- what was read, and the words after it
pub record Scan (A : Type 0) : Type 0 where
  pub value : A
  pub rest : List ℕ

abbrev pub scanned : {A : Type 0} → A → List ℕ → Scan A
scanned a ws = record { value = a; rest = ws }

abbrev pub prepended : {A : Type 0} → A → Scan (List A) → Scan (List A)
prepended a s = record { value = a ∷ s.value; rest = s.rest }

-- THE PATTERN

abbrev pub one_more : Parts → Parts
one_more Zero = One
one_more One = Two
one_more Two = Two

-- `next` reads on after so many letters and e-variables, so many words further on
abbrev pub piece_by : Piece → ℕ → Parts → ℕ → List ℕ → (ℕ → Parts → ℕ → Scan (List Element)) → Scan (List Element)
piece_by Character letters parts w ws next = prepended (letter (character w)) (next (letters + 1) parts 0)
piece_by SVariable letters parts w ws next =
    prepended (letter (symbol (take (carried w) ws))) (next (letters + 1) parts (carried w))
piece_by EVariable letters parts w ws next =
    prepended (part (take (carried w) ws)) (next letters (one_more parts) (carried w))
piece_by PatternEnd letters parts w ws next = scanned [] (w ∷ ws)

-- the pattern after so many letters and e-variables; `skip` words are passed over first
unfoldable pub pattern_on_tape : ℕ → Parts → ℕ → List ℕ → Scan (List Element)
pattern_on_tape letters parts skip [] = scanned [] []
pattern_on_tape letters parts (suc skip) (w ∷ ws) = pattern_on_tape letters parts skip ws
pattern_on_tape letters parts zero (w ∷ ws) =
    piece_by (piece_of w letters parts) letters parts w ws (λ l p skip. pattern_on_tape l p skip ws)

abbrev pub pattern_at : List ℕ → Scan (List Element)
pattern_at ws = pattern_on_tape 0 Zero 0 ws

-- THE CONDITIONS

-- a condition from what its word carries, and its variable's name
abbrev pub condition_of : ℕ → Name → Condition
condition_of n x =
    record {
      predicate = class_in (n % class_count);
      subject = subject_of (eqb (n / condition_part % 2) 1) x;
      expected = eqb (n / condition_truth % 2) 1;
    }

abbrev pub condition_in : ℕ → List ℕ → Condition
condition_in w ws = condition_of (carried w) (take (carried w / condition_size) ws)

abbrev pub condition_by : Bool → ℕ → ℕ → List ℕ → (ℕ → ℕ → Scan (List Condition)) → Scan (List Condition)
condition_by true count w ws next = prepended (condition_in w ws) (next (count + 1) (carried w / condition_size))
condition_by false count w ws next = scanned [] (w ∷ ws)

unfoldable pub conditions_on_tape : ℕ → ℕ → List ℕ → Scan (List Condition)
conditions_on_tape count skip [] = scanned [] []
conditions_on_tape count (suc skip) (w ∷ ws) = conditions_on_tape count skip ws
conditions_on_tape count zero (w ∷ ws) =
    condition_by (is_condition_word count w) count w ws (λ n skip. conditions_on_tape n skip ws)
