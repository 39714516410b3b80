-- An allowed sentence as the scan sees it: of its words only those of its expression's calls open or close one.
use Prim.Native.Nat.{ℕ, ◌+◌, ◌<◌, ◌≤◌}
use native.Mathlib.Omega.{arith}
use mathlib.Core.Path.{◌≡◌, refl}
use mathlib.Core.Bool.{Bool, true, false}
use mathlib.Core.List.{List, [], ◌∷◌, ◌++◌}
use lib.Dec.{T, ltb→lt}
use lib.ListN.{length}
use Rattle.meaning.specs.Choice.{Name, every}
use Rattle.meaning.specs.Classes.{class_number}
use Rattle.meaning.specs.Tree.{character, symbol, Element, letter, part, Subject, of_symbol, of_part, Condition, Sentence}
use Rattle.meaning.specs.Allowed.{is_byte, max_identifier, spelled_name, spelled_identifier, spelled_element, symbols_of, parts_of, member}
use Rattle.meaning.specs.Allowed.{of_pattern}
use Rattle.meaning.specs.Allowed.{all_of_pattern, allowed_pattern, allowed_conditions, allowed_expression, allowed_sentence}
use Rattle.tape_layout.specs.Tape.{tape_word, symbol_kind, part_kind, truth_number, subject_tape, pattern_tape, conditions_tape}
use Rattle.meaning.proofs.Laws.Choosing.{passed-true, true-passed}
use Rattle.meaning.proofs.Laws.Passing.{both_left, both_right, both-pass, every-weaken}
use Rattle.meaning.proofs.Laws.Spelling.{name-bytes, identifier-bytes, identifier-short}
use Rattle.meaning.proofs.Laws.Words.{class-below}
use Rattle.meaning_accepting.proofs.Reading.Lists.{every_append, member-every}
use Rattle.meaning_accepting.proofs.Reading.Sentences.{symbols-spelled, parts-spelled}
use Rattle.meaning_accepting.proofs.RoundTrip.Legible.{legible, allowed-legible}
use Rattle.tape_flatness.proofs.Passing.{quiet, quiet-low}

-- NAMES

pub byte-quiet : (b : ℕ) → T (is_byte b) → T (quiet b)
byte-quiet b t = quiet-low b (omega (arith, ltb→lt b 256 t))

pub bytes-quiet : (x : Name) → T (every is_byte x) → T (every quiet x)
bytes-quiet x t = every-weaken is_byte quiet byte-quiet x t

pub name-quiet : (n : Name) → T (spelled_name n) → T (every quiet n)
name-quiet n t = bytes-quiet n (name-bytes n t)

-- a word that carries the length of an identifier, the identifier, and what comes then
variable-quiet : (w : ℕ) (x : Name) (ws : List ℕ) → (length x ≤ max_identifier → w < 1280) → T (spelled_identifier x) → T (every quiet ws)
    → T (every quiet (w ∷ (x ++ ws)))
unfolding every
variable-quiet w x ws low t q =
    both-pass (quiet w) (every quiet (x ++ ws)) (quiet-low w (low (identifier-short x t)))
    (rw (every_append quiet x ws) (both-pass (every quiet x) (every quiet ws) (bytes-quiet x (identifier-bytes x t)) q))

-- THE PATTERN

pattern-quiet : (p : List Element) → T (every spelled_element p) → T (every quiet (pattern_tape p))
unfolding every pattern_tape
pattern-quiet [] t = tt
pattern-quiet (letter (character c) ∷ p) t =
    both-pass (quiet c) (every quiet (pattern_tape p)) (byte-quiet c (both_left (is_byte c) _ t)) (pattern-quiet p (both_right (is_byte c) _ t))
pattern-quiet (letter (symbol x) ∷ p) t =
    variable-quiet (tape_word symbol_kind (length x)) x (pattern_tape p) (λ h. omega arith) (both_left (spelled_identifier x) _ t)
    (pattern-quiet p (both_right (spelled_identifier x) _ t))
pattern-quiet (part x ∷ p) t =
    variable-quiet (tape_word part_kind (length x)) x (pattern_tape p) (λ h. omega arith) (both_left (spelled_identifier x) _ t)
    (pattern-quiet p (both_right (spelled_identifier x) _ t))

-- CONDITIONS

truth-below : (b : Bool) → truth_number b ≤ 5
truth-below true = omega arith
truth-below false = omega arith

module _ (symbols parts : List Name) (s : every spelled_identifier symbols ≡ true) (p : every spelled_identifier parts ≡ true) where
  spelled-member : (known : List Name) → every spelled_identifier known ≡ true → (x : Name) → T (member x known) → T (spelled_identifier x)
  spelled-member known k x m = true-passed (spelled_identifier x) (member-every spelled_identifier x known k (passed-true (member x known) m))

  subject-quiet : (told : ℕ) → told < 10 → (v : Subject) → T (of_pattern symbols parts v) → (ws : List ℕ) → T (every quiet ws)
      → T (every quiet (subject_tape told v ++ ws))
  subject-quiet told h (of_symbol x) m ws q = variable-quiet _ x ws (λ k. omega arith) (spelled-member symbols s x m) q
  subject-quiet told h (of_part x) m ws q = variable-quiet _ x ws (λ k. omega arith) (spelled-member parts p x m) q

  conditions-quiet : (cs : List Condition) → T (all_of_pattern symbols parts cs) → T (every quiet (conditions_tape cs))
  unfolding every conditions_tape
  conditions-quiet [] t = tt
  conditions-quiet (c ∷ cs) t =
      subject-quiet (truth_number c.expected + class_number c.predicate) (omega (arith, truth-below c.expected, class-below c.predicate))
      c.subject (both_left (of_pattern symbols parts c.subject) _ t) (conditions_tape cs)
      (conditions-quiet cs (both_right (of_pattern symbols parts c.subject) _ t))

-- THE SENTENCE

pub record Plain (s : Sentence) : Type 0 where
  pub pattern : T (every quiet (pattern_tape s.pattern))
  pub conditions : T (every quiet (conditions_tape s.conditions))
  pub expression : T (legible s.expression)

pub allowed-plain : (s : Sentence) → T (allowed_sentence s) → Plain s
unfolding every
allowed-plain s a =
    let p = s.pattern in
    let in_pattern = both_left (allowed_pattern p) _ a in
    let others = both_right (allowed_pattern p) _ a in
    let in_conditions = both_left (allowed_conditions (symbols_of p) (parts_of p) s.conditions) _ others in
    let in_expression = both_right (allowed_conditions (symbols_of p) (parts_of p) s.conditions) _ others in
    let spelled = both_left (every spelled_element p) _ in_pattern in
    let elements = passed-true (every spelled_element p) spelled in
    let symbols = symbols-spelled [] p refl elements in
    let parts = parts-spelled p elements in
    record {
      pattern = pattern-quiet p spelled;
      conditions =
          conditions-quiet (symbols_of p) (parts_of p) symbols parts s.conditions
          (both_left (all_of_pattern (symbols_of p) (parts_of p) s.conditions) _ in_conditions);
      expression = true-passed (legible s.expression)
          (allowed-legible (symbols_of p) (parts_of p) s.expression symbols parts
          (passed-true (allowed_expression (symbols_of p) (parts_of p) s.expression) in_expression));
    }
