-- Faults of variables, by the tests that the code makes one after the other.
use Prim.Native.Nat.{ℕ, suc, ◌-◌}
use mathlib.Core.Path.{◌≡◌, refl, ◌∙◌}
use mathlib.Core.Bool.{Bool, true, false, not, true≢false}
use native.Mathlib.Omega.{arith}
use lib.Dec.{leb, ltb, eqb}
use lib.ListN.{length}
use borrow.Author.Tests.{lt-leb, le-leb, ltb-true, ltb-false}
use Rattle.meaning.specs.Choice.{Bytes, Name, pick, both, either}
use Rattle.meaning.specs.Answers.{not_allowed_here, over_limit, wrong_pattern_variable}
use Rattle.meaning.specs.Allowed.{member, max_identifier}
use Rattle.meaning.specs.Reading.{fault_unless}
use Rattle.read_tokens.specs.View.{span_text}
use Rattle.read_tokens.specs.declared.Span.{Span}
use Rattle.read_bookkeeping.specs.Tables.{Inside, max_parts}
use Rattle.read_bookkeeping.specs.declared.variables.Variables.{Variables}
use Rattle.read_bookkeeping.specs.Items.{part_spans, symbol_names, part_names}
use Rattle.read_bookkeeping.proofs.Declaring.{names-length}
use Rattle.read_bookkeeping.proofs.Lengths.{part_length}
use Rattle.read_patterns.specs.Patterns.{pattern_part_fault}
use Rattle.meaning_accepting.proofs.Reading.Lists.{member-append}

-- ONE TEST AFTER ANOTHER

-- what a test refuses, those after it don't get to see
pub refused-here : (wrong : Bool) (number later : ℕ) {answer : ℕ} → eqb answer 0 ≡ false → answer ≡ pick wrong number 0
    → answer ≡ pick wrong number later
refused-here true number later n e = e
refused-here false number later n e = absurd (true≢false (rw e at n))

-- what it lets pass, they see
pub passed-here : (wrong : Bool) (number : ℕ) {answer later : ℕ} → 0 ≡ pick wrong (suc number) 0 → answer ≡ later
    → answer ≡ pick wrong (suc number) later
passed-here true number n e = absurd (omega (arith, n))
passed-here false number n e = e

-- AN ORDER AND ITS OPPOSITE

not-less : (a b : ℕ) → leb b a ≡ not (ltb a b)
not-less a b = chosen (ltb a b) refl
  where
    chosen : (is : Bool) → ltb a b ≡ is → leb b a ≡ not is
    chosen true e = let h = ltb-true a b e in lt-leb b a (omega arith)
    chosen false e = let h = ltb-false a b e in le-leb b a (omega arith)

not-within : (a b : ℕ) → ltb b a ≡ not (leb a b)
not-within a b = chosen (ltb b a) refl
  where
    chosen : (is : Bool) → ltb b a ≡ is → is ≡ not (leb a b)
    chosen true e = let h = ltb-true b a e in rw (lt-leb a b (omega arith))
    chosen false e = let h = ltb-false b a e in rw (le-leb a b (omega arith))

-- THE DEFINITIONS' TESTS

parted : (room short symbol part ending : Bool) (a b c : ℕ)
    → pick (not room) a (pick (not short) b (pick symbol c (pick part c (pick ending c 0))))
    ≡ fault_unless room a (fault_unless short b (fault_unless (both (not (either symbol part)) (not ending)) c 0))
parted false short symbol part ending a b c = refl
parted true false symbol part ending a b c = refl
parted true true true part ending a b c = refl
parted true true false true ending a b c = refl
parted true true false false true a b c = refl
parted true true false false false a b c = refl

-- THE CODE'S

module _ (text : Bytes) (v : Variables) (x : Span) (i : Inside text x) where
  abbrev name : Name
  name = span_text text x

  long : ltb max_identifier (x.past - x.from) ≡ not (leb (length name) max_identifier)
  long = rw (part_length text x i) (not-within (x.past - x.from) max_identifier)

  -- an e-variable, by its size, and whether it is an s-variable or an e-variable already
  pub part-checked : {answer : ℕ} (size : ℕ) (shared known ending : Bool)
      → size ≡ x.past - x.from
      → shared ≡ member name (symbol_names text v)
      → known ≡ member name (part_names text v)
      → answer
      ≡ pick (leb max_parts (length (part_spans v))) not_allowed_here
      (pick (ltb max_identifier size) over_limit
      (pick shared wrong_pattern_variable (pick known wrong_pattern_variable (pick ending wrong_pattern_variable 0))))
      → answer ≡ pattern_part_fault (symbol_names text v) (part_names text v) ending name
  part-checked size shared known ending s m k e =
      e ∙ rw (s, long, not-less (length (part_spans v)) max_parts, m, k, ← (names-length text (part_spans v)))
      (rw (member-append name (symbol_names text v) (part_names text v))
      (parted (ltb (length (part_names text v)) max_parts) (leb (length name) max_identifier) (member name (symbol_names text v))
      (member name (part_names text v)) ending not_allowed_here over_limit wrong_pattern_variable))
