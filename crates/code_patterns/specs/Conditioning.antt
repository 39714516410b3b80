-- A sentence's conditions as tests, as they are written one by one.
use Rattle.std.specs.Prelude.{ℕ, ◌+◌, ◌≤◌, ◌<◌, ◌^◌, ◌≡◌, Bool, true, false, List, [], ◌∷◌, map, length, drop}
use Rattle.meaning.specs.Allowed.{max_conditions}
use Rattle.meaning.specs.Choice.{Name, Named, lookup, same_bytes}
use Rattle.meaning.specs.Classes.{Class}
use Rattle.meaning.specs.Tree.{Subject, of_symbol, of_part, Condition}
use Rattle.meaning.specs.Instructions.{Site as MeantSite, from_start, from_end, from_place, Test, predicate}
use Rattle.meaning.specs.Translation.{site_or, Bounds, from_to, part_test}
use Rattle.meaning.specs.Packing.{Words, test_word}
use Rattle.tape_words.specs.declared.tape.Parts.{Parts}
use Rattle.tape_words.specs.declared.tape.Parts.TheVariants.{Zero, One, Two}
use Rattle.code_patterns.specs.declared.pattern.Lengths.{Lengths}
use Rattle.code_patterns.specs.declared.pattern.Pattern.{Pattern}
use Rattle.code_patterns.specs.declared.symbols.Symbol.{Symbol}
use Rattle.code_patterns.specs.declared.bounds.PartBounds.{PartBounds}
use Rattle.code_patterns.specs.declared.conditions.Conditions.{Conditions}
use Rattle.tape_words.specs.Words.{head_name, is_condition_word}
use Rattle.code_patterns.specs.Scans.{Scan, conditions_on_tape}
use Rattle.code_words.specs.declared.CodeWriter.{CodeWriter}
use Rattle.code_words.specs.Writer.{Written, StillToWrite}
use Rattle.code_patterns.specs.Testing.{site_meant, held}

-- WHERE VARIABLES LIE

-- the lengths of a pattern's templates, its first e-variable, and the cells of its different s-variables
pub record Located : Type 0 where
  pub lengths : Lengths
  pub variable : Name
  pub sites : List (Named MeantSite)

abbrev pub located : List ℕ → Pattern → List Symbol → Located
located ws m symbols = record { lengths = m.lengths; variable = head_name ws m.variable; sites = held ws symbols }

abbrev pub bounds_meant : PartBounds → Bounds
bounds_meant b = from_to (site_meant b.from) (site_meant b.to)

-- the bounds of an e-variable's part, by how many there are, the templates' lengths, and whether it is the first
abbrev pub bounds_by : Parts → Lengths → Bool → Bounds
bounds_by Zero l is_first = from_to (from_start 0) (from_start 0)
bounds_by One l is_first = from_to (from_start l.first) (from_end l.second)
bounds_by Two l true = from_to (from_start l.first) (from_place 0)
bounds_by Two l false = from_to (from_place l.second) (from_end l.third)

abbrev pub subject_test_by : Located → Class → Bool → Subject → Test
subject_test_by known class expected (of_symbol x) = predicate (site_or (lookup x known.sites)) class expected
subject_test_by known class expected (of_part x) =
    part_test (bounds_by known.lengths.parts known.lengths (same_bytes x known.variable)) class expected

abbrev pub condition_test_by : Located → Condition → Test
condition_test_by known c = subject_test_by known c.predicate c.expected c.subject

-- THE CONDITIONS

-- a condition stands there
abbrev pub condition_at : ℕ → List ℕ → Bool
condition_at count [] = false
condition_at count (w ∷ ws) = is_condition_word count w

-- the conditions that are still to come, and the words after them
abbrev pub coming : List ℕ → Conditions → Scan (List Condition)
coming ws c = conditions_on_tape c.count 0 (drop c.next ws)

abbrev pub condition_words : Located → Scan (List Condition) → Words
condition_words known s = map test_word (map (condition_test_by known) s.value)

abbrev pub condition_done : Conditions → ℕ → Conditions
condition_done c size = record { count = c.count + 1; next = c.next + 1 + size }

pub record InConditions (ws : List ℕ) (c : Conditions) (at : ℕ) : Type 0 where
  pub count : c.count ≤ max_conditions
  pub next : c.next ≤ length ws
  pub place : at < 2 ^ 60 + c.count

-- a step keeps what the conditions come to, and goes on
pub record ConditionsOn (ws : List ℕ) (known : Located) (w : CodeWriter) (c : Conditions)
    (w' : CodeWriter) (r : Conditions) : Type 0 where
  pub same : StillToWrite w (condition_words known (coming ws c)) w' (condition_words known (coming ws r))
  pub rest : (coming ws r).rest ≡ (coming ws c).rest
  pub within : InConditions ws r w'.at
  pub ahead : c.next < r.next
  pub grown : w'.at + c.count ≤ w.at + r.count

-- all conditions are written
pub record ConditionsAll (ws : List ℕ) (known : Located) (start : ℕ) (w w' : CodeWriter) (r : Conditions) : Type 0 where
  pub wrote : Written w (condition_words known (conditions_on_tape 0 0 (drop start ws))) w'
  pub rest : drop r.next ws ≡ (conditions_on_tape 0 0 (drop start ws)).rest
  pub next : r.next ≤ length ws
  pub grown : w'.at ≤ w.at + max_conditions
