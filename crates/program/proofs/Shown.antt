-- A report with the cells that it counts is the text of the table's run.
use Prim.Native.Nat.{ℕ, ◌≤◌}
use native.Mathlib.Omega.{arith}
use mathlib.Core.Path.{◌≡◌, refl, ap}
use mathlib.Core.Bool.{false}
use mathlib.Core.List.{List}
use lib.Dec.{leb}
use lib.ListN.{length, take, length-take}
use lib.Seq.{take_at}
use Rattle.meaning.specs.Choice.{Bytes, Name}
use Rattle.meaning.specs.Answers.{no_such_start, text_too_long, buffer_too_short}
use Rattle.meaning.specs.Outcome.{Result}
use Rattle.meaning.specs.Demanded.{demanded}
use Rattle.meaning.specs.Reading.{Read, accepted, refused, read}
use Rattle.meaning.specs.Translation.{translate}
use Rattle.meaning.specs.Packing.{Words, pack}
use Rattle.meaning.specs.Leaving.{Cells, Leaving, after_run, room_of}
use Rattle.meaning.specs.Leaving.{refused_run as unrun}
use Rattle.meaning.proofs.Laws.Choosing.{of_either}
use Rattle.run_code.specs.Leaving.{cells}
use Rattle.std.specs.Prelude.{Ok, Err}
use Rattle.std.specs.Prelude as Code
use Rattle.answers.specs.declared.Fault.{Fault}
use Rattle.answers.specs.declared.Ending.{Ending}
use Rattle.answers.specs.declared.Ending.TheVariants.{Finished, NoSuchStart, TextTooLong, NoSentenceFits, AllowanceSpent, InFull, OutFull}
use Rattle.answers.specs.declared.Ending.TheVariants.{FramesFull, RecordFull, NoInstruction, ArgumentNotAngles, AngleOutOfRange}
use Rattle.run_actions.specs.declared.registers.Ran.{Ran}
use Rattle.engine.specs.TableRuns.{TableRun, has_function, without_code, with_code, table_run, Reports}
use Rattle.answers.specs.Numbers.{refusal_number, ending_number, is_refusal}
use Rattle.program_printing.specs.Texts.{refusal_text}
use Rattle.program_profile.specs.Profiles.{names_read}
use Rattle.program.specs.Printed.{ran_text, run_text, code_words, start_function, program_allowance, lent_cells, Shows}

-- the emissions stand at the front of the record, and the result at the front of out
record Kept (leaving : Leaving) : Type 0 where
  emissions : take (length leaving.result.emissions) leaving.cells.«record» ≡ leaving.result.emissions
  text : take (length leaving.result.text) leaving.cells.stack_out ≡ leaving.result.text

kept-unrun : (number : ℕ) (lent : Cells) → Kept (unrun number lent)
kept-unrun number lent = record { emissions = refl; text = refl }

kept-left : (r : Result) (lent : Cells) → Kept (after_run r lent)
kept-left r lent =
    record { emissions = take_at r.emissions _ _ refl; text = take_at r.text _ _ refl }

table_kept : (x : Read) (room start : ℕ) (text : Bytes) (lent : Cells) (allowance : ℕ) → Kept (table_run x room start text lent allowance).leaving
table_kept (refused number place) room start text lent allowance = kept-unrun number lent
table_kept (accepted t) room start text lent allowance =
    of_either (λ (run : TableRun). Kept run.leaving) (leb (length (pack (translate t))) room) (with_code t room start text lent allowance)
    (without_code buffer_too_short 0 room lent)
    (of_either Kept (has_function t start) _ _
    (of_either Kept (leb (length text) (length lent.stack_in)) _ _
    (kept-left (demanded (room_of lent) t start text allowance) lent)
    (kept-unrun text_too_long lent))
    (kept-unrun no_such_start lent))
    (kept-unrun buffer_too_short lent)

front-within : (front whole : Bytes) → take (length front) whole ≡ front → length front ≤ length whole
front-within front whole e = omega (arith, length-take (length front) whole, ap length e)

-- no run's ending refuses a table
no-refusal : (ending : Ending) → is_refusal (ending_number ending) ≡ false
no-refusal Finished = refl
no-refusal NoSuchStart = refl
no-refusal TextTooLong = refl
no-refusal NoSentenceFits = refl
no-refusal AllowanceSpent = refl
no-refusal InFull = refl
no-refusal OutFull = refl
no-refusal FramesFull = refl
no-refusal RecordFull = refl
no-refusal NoInstruction = refl
no-refusal ArgumentNotAngles = refl
no-refusal AngleOutOfRange = refl

refusal-shown : {fault : Fault} {counts : List ℕ} {words : Words} {after : Cells} {run : TableRun} → Reports (Err fault) counts words after run
    → (names : List Name) → run_text names run ≡ refusal_text (refusal_number fault.refusal) fault.place
refusal-shown {fault} {run = run} reports names =
    let told = reports.answer in
    let answer : refusal_number fault.refusal ≡ run.leaving.result.answer = cc in
    rw (← answer, reports.refused, ← reports.place)

module _ {ran : Ran} {counts : List ℕ} {words : Words} {after : Cells} {run : TableRun} (reports : Reports (Ok ran) counts words after run)
    (kept : Kept run.leaving) (names : List Name) where
  «record» : after.«record» ≡ run.leaving.cells.«record»
  «record» = ap (λ c. c.«record») reports.cells

  out : after.stack_out ≡ run.leaving.cells.stack_out
  out = ap (λ c. c.stack_out) reports.cells

  answer : ending_number ran.ending ≡ run.leaving.result.answer
  answer = let told = reports.answer in cc

  emissions : ran.emissions ≡ length run.leaving.result.emissions
  emissions = let told = reports.answer in cc

  text : ran.text ≡ length run.leaving.result.text
  text = let told = reports.answer in cc

  emissions-within : ran.emissions ≤ length after.«record»
  emissions-within = rw (emissions, «record») (front-within _ _ kept.emissions)

  text-within : ran.text ≤ length after.stack_out
  text-within = rw (text, out) (front-within _ _ kept.text)

  result-shown : run_text names run
      ≡ ran_text names (ending_number ran.ending) ran.function ran.steps counts (take ran.emissions after.«record»)
      (take ran.text after.stack_out)
  result-shown =
      let told = reports.answer in
      let function : ran.function ≡ run.leaving.result.function = cc in
      let steps : ran.steps ≡ run.leaving.result.steps = cc in
      rw (← answer, no-refusal ran.ending, ← function, ← steps, ← reports.counted, emissions, «record», kept.emissions, text, out, kept.text)

pub shows : (table text : Bytes) (r : Code.Result Ran Fault) {counts : List ℕ} {words : Words} {out «record» stack_in : Bytes}
    → Reports r counts words (cells stack_in out «record») (table_run (read table) code_words start_function text lent_cells program_allowance) →
    Shows table text r out «record» counts
shows t _ (Err fault) reports = refusal-shown reports (names_read (read t))
shows t x (Ok ran) reports =
    let names = names_read (read t) in
    let kept = table_kept (read t) code_words start_function x lent_cells program_allowance in
    record {
      emissions = emissions-within reports kept names;
      result = text-within reports kept names;
      run = result-shown reports kept names;
    }
