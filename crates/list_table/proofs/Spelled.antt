-- What an allowed sentence's names and characters are: names are short, not empty, and made of bytes.
use Prim.Native.Nat.{◌<◌, ◌≤◌}
use native.Mathlib.Omega.{arith}
use mathlib.Core.Path.{◌≡◌, refl}
use mathlib.Core.Bool.{Bool, true}
use mathlib.Core.List.{List, [], ◌∷◌}
use lib.Dec.{T}
use lib.ListN.{length}
use Rattle.meaning.specs.Choice.{Name, every}
use Rattle.meaning.specs.Tree.{Subject, of_symbol, of_part, Condition, Sentence}
use Rattle.meaning.specs.Allowed.{max_name, is_byte, spelled_name, spelled_identifier, spelled_element, of_pattern, symbols_of, parts_of}
use Rattle.meaning.specs.Allowed.{allowed_expression}
use Rattle.meaning.specs.Allowed.{allowed_sentence}
use Rattle.meaning.proofs.Laws.Passing.{both_left, both_right, every-weaken, passed}
use Rattle.meaning.proofs.Laws.Spelling.{name-bytes, name-short, identifier-bytes, identifier-short}
use Rattle.meaning.proofs.Laws.Choosing.{true-passed}
use Rattle.meaning_accepting.proofs.Reading.Lists.{member-every}
use Rattle.meaning_accepting.proofs.Reading.Sentences.{symbols-spelled, parts-spelled}
use Rattle.meaning_accepting.proofs.RoundTrip.Legible.{legible, allowed-legible}

pub record Short (x : Name) : Type 0 where
  pub filled : 0 < length x
  pub short : length x ≤ max_name
  pub bytes : T (every is_byte x)

pub short-name : (x : Name) → T (spelled_name x) → Short x
short-name [] t = absurd t
short-name (b ∷ x) t = record { filled = omega arith; short = name-short (b ∷ x) t; bytes = name-bytes (b ∷ x) t }

pub short-identifier : (x : Name) → T (spelled_identifier x) → Short x
short-identifier [] t = absurd t
short-identifier (b ∷ x) t =
    record { filled = omega arith; short = omega (arith, identifier-short (b ∷ x) t); bytes = identifier-bytes (b ∷ x) t }

-- the identifier of a condition's variable
abbrev pub identifier_of : Subject → Name
identifier_of (of_symbol x) = x
identifier_of (of_part x) = x

abbrev pub spelled_variable : Condition → Bool
spelled_variable c = spelled_identifier (identifier_of c.subject)

-- a variable of the pattern is spelled as those are
subject-spelled : (symbols parts : List Name) → every spelled_identifier symbols ≡ true → every spelled_identifier parts ≡ true → (v : Subject)
    → of_pattern symbols parts v ≡ true
    → spelled_identifier (identifier_of v) ≡ true
subject-spelled symbols parts s p (of_symbol x) m = member-every spelled_identifier x symbols s m
subject-spelled symbols parts s p (of_part x) m = member-every spelled_identifier x parts p m

pub record Written (s : Sentence) : Type 0 where
  pub pattern : T (every spelled_element s.pattern)
  pub conditions : T (every spelled_variable s.conditions)
  pub expression : T (legible s.expression)

pub sentence-written : (s : Sentence) → T (allowed_sentence s) → Written s
unfolding every
sentence-written s t =
    let p = s.pattern in
    let elements : T (every spelled_element p) = search (both_left, both_right) in
    let expression : T (allowed_expression (symbols_of p) (parts_of p) s.expression) = search (both_left, both_right) in
    let spelled = passed (every spelled_element p) elements in
    let symbols = symbols-spelled [] p refl spelled in
    let parts = parts-spelled p spelled in
    record {
      pattern = elements;
      conditions =
          every-weaken (λ c. of_pattern (symbols_of p) (parts_of p) c.subject) spelled_variable
          (λ c m. true-passed (spelled_variable c) (subject-spelled (symbols_of p) (parts_of p) symbols parts c.subject (passed _ m)))
          s.conditions (search (both_left, both_right));
      expression =
          true-passed (legible s.expression)
          (allowed-legible (symbols_of p) (parts_of p) s.expression symbols parts (passed _ expression));
    }
