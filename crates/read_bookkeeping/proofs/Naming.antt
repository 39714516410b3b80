-- What is wrong with a variable after the pattern.
use Prim.Native.Nat.{ℕ, ◌-◌}
use mathlib.Core.Path.{◌≡◌, ◌∙◌}
use mathlib.Core.Bool.{Bool, not}
use mathlib.Core.List.{List}
use lib.Dec.{ltb}
use borrow.Author.Tests.{ltb-false}
use Rattle.std.specs.Prelude.{is_some}
use Rattle.meaning.specs.Choice.{Bytes, pick}
use Rattle.meaning.specs.Answers.{over_limit, wrong_later_variable}
use Rattle.meaning.specs.Allowed.{max_identifier}
use Rattle.meaning.specs.Reading.{subject_fault}
use Rattle.read_tokens.specs.View.{span_text}
use Rattle.read_tokens.specs.declared.Span.{Span}
use Rattle.read_bookkeeping.specs.Tables.{Inside, names_in, place_in}
use Rattle.read_bookkeeping.proofs.Choosing.{fault-if-not, not-refused}
use Rattle.read_bookkeeping.proofs.Finding.{place_member}
use Rattle.read_bookkeeping.proofs.Lengths.{short-enough}

module _ (text : Bytes) (names : List Span) (x : Span) (p : Inside text x) where
  pub later-number : {number : ℕ} {known : Bool} → 0 ≡ pick (ltb max_identifier (x.past - x.from)) over_limit 0
      → known ≡ is_some (place_in (span_text text x) (names_in text names))
      → number ≡ pick (not known) wrong_later_variable 0
      → number ≡ subject_fault (names_in text names) (span_text text x)
  later-number {known = known} short k e =
      let h = short-enough text x p max_identifier (ltb-false max_identifier (x.past - x.from) (not-refused _ _ short)) in
      e ∙ fault-if-not known wrong_later_variable
      ∙ rw (h, k ∙ place_member (span_text text x) (names_in text names))
