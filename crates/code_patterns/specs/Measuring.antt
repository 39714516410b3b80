-- The lengths of a pattern's templates and its first e-variable, as they are measured piece by piece.
use Rattle.std.specs.Prelude.{ℕ, ◌+◌, ◌≤◌, ◌<◌, ◌≡◌, Bool, true, false, List, length, drop, Option, Some, None}
use Rattle.meaning.specs.Allowed.{max_letters}
use Rattle.meaning.specs.Choice.{Name}
use Rattle.meaning.specs.Translation.{Shape, fixed, open₁, open₂, shape_of}
use Rattle.tape_words.specs.declared.tape.Parts.{Parts}
use Rattle.tape_words.specs.declared.tape.Parts.TheVariants.{Zero, One, Two}
use Rattle.code_patterns.specs.declared.pattern.Lengths.{Lengths}
use Rattle.code_patterns.specs.declared.pattern.Pattern.{Pattern}
use Rattle.tape_words.specs.Words.{head_name}
use Rattle.code_patterns.specs.Scans.{one_more, pattern_on_tape, pattern_at}

abbrev pub lengths : Parts → ℕ → ℕ → ℕ → Lengths
lengths parts first second third = record { parts = parts; first = first; second = second; third = third }

-- the lengths of a pattern's templates
abbrev pub lengths_of : Shape → Lengths
lengths_of (fixed t) = lengths Zero (length t) 0 0
lengths_of (open₁ h x t) = lengths One (length h) (length t) 0
lengths_of (open₂ h x m y t) = lengths Two (length h) (length m) (length t)

-- its first e-variable; `other` where it has none
abbrev pub first_part_or : Name → Shape → Name
first_part_or other (fixed t) = other
first_part_or other (open₁ h x t) = x
first_part_or other (open₂ h x m y t) = x

-- THE STEPS

abbrev pub add_first : Parts → ℕ → ℕ
add_first Zero n = n + 1
add_first One n = n
add_first Two n = n

abbrev pub add_second : Parts → ℕ → ℕ
add_second Zero n = n
add_second One n = n + 1
add_second Two n = n

abbrev pub add_third : Parts → ℕ → ℕ
add_third Zero n = n
add_third One n = n
add_third Two n = n + 1

-- one letter more in the last template
abbrev pub longer_lengths : Lengths → Lengths
longer_lengths l =
    lengths l.parts (add_first l.parts l.first) (add_second l.parts l.second)
    (add_third l.parts l.third)

-- the last template ends at an e-variable
abbrev pub cut_lengths : Lengths → Lengths
cut_lengths l = lengths (one_more l.parts) l.first l.second l.third

-- the place of the first e-variable, where one at `next` comes after so many
abbrev pub variable_place : Parts → ℕ → ℕ → ℕ
variable_place Zero known next = next
variable_place One known next = known
variable_place Two known next = known

abbrev pub past_letter : Pattern → ℕ → Pattern
past_letter m size =
    record {
      lengths = longer_lengths m.lengths;
      variable = m.variable;
      letters = m.letters + 1;
      next = m.next + 1 + size;
    }

abbrev pub past_part : Pattern → ℕ → Pattern
past_part m size =
    record {
      lengths = cut_lengths m.lengths;
      variable = variable_place m.lengths.parts m.variable m.next;
      letters = m.letters;
      next = m.next + 1 + size;
    }

-- WHAT THEY COME TO

-- the lengths after the letters and e-variables of the rest of the pattern, which has two e-variables at most with
-- those before
abbrev pub measured_by : Parts → Lengths → Shape → Lengths
measured_by Zero l (fixed t) = lengths Zero (l.first + length t) l.second l.third
measured_by Zero l (open₁ h x t) = lengths One (l.first + length h) (l.second + length t) l.third
measured_by Zero l (open₂ h x m y t) = lengths Two (l.first + length h) (l.second + length m) (l.third + length t)
measured_by One l (fixed t) = lengths One l.first (l.second + length t) l.third
measured_by One l (open₁ m x t) = lengths Two l.first (l.second + length m) (l.third + length t)
measured_by One l (open₂ h x m y t) = l
measured_by Two l (fixed t) = lengths Two l.first l.second (l.third + length t)
measured_by Two l (open₁ h x t) = l
measured_by Two l (open₂ h x m y t) = l

-- the first e-variable: known, or the first of the rest of the pattern
abbrev pub variable_by : Parts → Name → Shape → Name
variable_by Zero known s = first_part_or known s
variable_by One known s = known
variable_by Two known s = known

-- what measuring comes to: the lengths, the first e-variable, and the words after the pattern
pub record Measured : Type 0 where
  pub lengths : Lengths
  pub variable : Name
  pub rest : List ℕ

abbrev pub measuring : List ℕ → Pattern → Measured
measuring ws m =
    let p = pattern_on_tape m.letters m.lengths.parts 0 (drop m.next ws) in
    record {
      lengths = measured_by m.lengths.parts m.lengths (shape_of p.value);
      variable = variable_by m.lengths.parts (head_name ws m.variable) (shape_of p.value);
      rest = p.rest;
    }

-- what it has come to
abbrev pub measured : List ℕ → Pattern → Measured
measured ws m = record { lengths = m.lengths; variable = head_name ws m.variable; rest = drop m.next ws }

-- at most 64 letters, and no further than the end of the tape
pub record InPattern (ws : List ℕ) (m : Pattern) : Type 0 where
  pub letters : m.lengths.first + m.lengths.second + m.lengths.third ≡ m.letters
  pub most : m.letters ≤ max_letters
  pub next : m.next ≤ length ws

-- a step keeps what measuring comes to, and goes on
pub record Measures (ws : List ℕ) (m r : Pattern) : Type 0 where
  pub same : measuring ws r ≡ measuring ws m
  pub within : InPattern ws r
  pub ahead : m.next < r.next

-- a piece leads on; where none does, nothing is left
abbrev pub MeasuresOn : List ℕ → Pattern → Option Pattern → Type 0
MeasuresOn ws m None = measured ws m ≡ measuring ws m
MeasuresOn ws m (Some r) = Measures ws m r

abbrev pub flag : Bool → ℕ
flag true = 1
flag false = 0

-- the whole pattern is measured
pub record MeasuresAll (ws : List ℕ) (start : ℕ) (r : Pattern) : Type 0 where
  pub lengths : r.lengths ≡ lengths_of (shape_of (pattern_at (drop start ws)).value)
  pub variable : head_name ws r.variable
      ≡ first_part_or (head_name ws start) (shape_of (pattern_at (drop start ws)).value)
  pub within : InPattern ws r
