-- What is found on a read table's tape is what meaning's Entries say of whether it is flat.
use Prim.Native.Nat.{ℕ}
use native.Mathlib.Omega.{arith}
use mathlib.Core.Path.{◌≡◌, refl, sym, ◌∙◌, ap}
use mathlib.Core.List.{List}
use mathlib.Core.Option.{Option, none, some}
use lib.ListN.{length, take}
use Rattle.meaning.specs.Choice.{Bytes}
use Rattle.meaning.specs.Answers.{not_tail_call}
use Rattle.meaning.specs.Reading.{Read, accepted, refused, read}
use Rattle.meaning.specs.Flat.{nested_in, leftmost}
use Rattle.meaning.specs.Entries.{answered, read_answer, flatness, flat_answer}
use Rattle.std.specs.Prelude.{Option as Place, None, Some}
use Rattle.tape_flatness.specs.Scanned.{placed, scanned_calls, nested_call}
use Rattle.tape_flatness.proofs.Traced.{tape-traced}
use Rattle.read_table.specs.declared.Reading.{Reading}
use Rattle.read_table.specs.Reads.{tree_tape, Reads}
use Rattle.std.specs.Prelude.{Ok, Err}
use Rattle.answers.specs.declared.Fault.{Fault}
use Rattle.answers.specs.Numbers.{refusal_number}
use Rattle.engine_tables.proofs.Known.{AreBytes, Known, read_known, refuses}

-- a place that is there, and one that isn't
is-there : (o : Option ℕ) (place functions : ℕ) → placed o ≡ Some place → answered not_tail_call place 0 ≡ flatness o functions
is-there none place functions e = let z : ◌≡◌ {A = ℕ} 0 1 = cc in absurd (omega arith)
is-there (some other) place functions e = cc

is-nowhere : (o : Option ℕ) (functions : ℕ) → placed o ≡ None → answered 0 0 functions ≡ flatness o functions
is-nowhere none functions e = refl
is-nowhere (some place) functions e = let z : ◌≡◌ {A = ℕ} 0 1 = cc in absurd (omega arith)

tape-nested : (x : Read) → Known x → (place : ℕ) → nested_call (tree_tape x) ≡ Some place → answered not_tail_call place 0 ≡ flat_answer x
unfolding scanned_calls
tape-nested (accepted t) known place e = is-there (leftmost (nested_in t)) place (length t) (sym (tape-traced t known) ∙ e)
tape-nested (refused number at) known place e = let z : ◌≡◌ {A = ℕ} 0 1 = cc in absurd (omega arith)

tape-flat : (x : Read) → Known x → nested_call (tree_tape x) ≡ None → read_answer x ≡ flat_answer x
tape-flat (accepted t) known e = is-nowhere (leftmost (nested_in t)) (length t) (sym (tape-traced t known) ∙ e)
tape-flat (refused number at) known e = refl

module _ {text : Bytes} {r : Reading} {words : List ℕ} (bytes : AreBytes text) (reads : Reads text (Ok r) words)
    {found : Place ℕ} (scan : found ≡ nested_call (take r.words words)) where
  is_found : {p : Place ℕ} → found ≡ p → nested_call (tree_tape (read text)) ≡ p
  is_found e = ap nested_call (sym reads.tape) ∙ sym scan ∙ e

  pub nested-told : {place : ℕ} → found ≡ Some place → answered not_tail_call place 0 ≡ flat_answer (read text)
  nested-told {place} e = tape-nested (read text) (read_known text bytes) place (is_found e)

  pub flat-told : found ≡ None → answered 0 0 r.functions ≡ flat_answer (read text)
  flat-told e = reads.answer ∙ tape-flat (read text) (read_known text bytes) (is_found e)

-- a refused table is no flatter
pub refused-flat : {text : Bytes} {fault : Fault} {words : List ℕ} → Reads text (Err fault) words
    → answered (refusal_number fault.refusal) fault.place 0 ≡ flat_answer (read text)
refused-flat {text} {fault} reads = by (read text) reads.answer
  where
    by : (x : Read) → answered (refusal_number fault.refusal) fault.place 0 ≡ read_answer x
        → answered (refusal_number fault.refusal) fault.place 0 ≡ flat_answer x
    by (accepted t) e = absurd (refuses fault.refusal (cc))
    by (refused n k) e = e
