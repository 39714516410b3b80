-- What the program prints for a table text and a text: 01, the last paragraph of 'Runs to hold on to', and 02, T-01.
use Rattle.std.specs.Prelude.{ℕ, ◌≤◌, ◌≡◌, List, ◌++◌, length, take, Result, Ok, Err}
use Rattle.meaning.specs.Choice.{Bytes, Name, pick}
use Rattle.meaning.specs.Reading.{read}
use Rattle.meaning.specs.Leaving.{Cells, zeros}
use Rattle.answers.specs.Numbers.{refusal_number, ending_number, is_refusal}
use Rattle.program_printing.specs.Texts.{refusal_text, result_text, profile_text}
use Rattle.program_profile.specs.Profiles.{names_read}
use Rattle.run_code.specs.Leaving.{cells}
use Rattle.answers.specs.declared.Fault.{Fault}
use Rattle.run_actions.specs.declared.registers.Ran.{Ran}
use Rattle.engine.specs.TableRuns.{TableRun, table_run}

-- the result and, of each function, its applications
abbrev pub ran_text : List Name → ℕ → ℕ → ℕ → List ℕ → Bytes → Bytes → Bytes
ran_text names answer function steps counts emissions text =
    result_text answer function steps emissions text ++ profile_text names counts steps

abbrev pub run_text : List Name → TableRun → Bytes
run_text names run =
    let result = run.leaving.result in
    let ran = ran_text names result.answer result.function result.steps result.counts result.emissions
    result.text in
    pick (is_refusal result.answer) (refusal_text result.answer run.place) ran

-- "lends 16,384 words of code and 32,768 bytes each for in, out and record, starts function 1, allowance 100,000"
abbrev pub code_words : ℕ
code_words = 16384

abbrev pub cells_each : ℕ
cells_each = 32768

abbrev pub start_function : ℕ
start_function = 1

abbrev pub program_allowance : ℕ
program_allowance = 100000

unfoldable pub lent_bytes : Bytes
lent_bytes = zeros cells_each

abbrev pub lent_cells : Cells
lent_cells = cells lent_bytes lent_bytes lent_bytes

abbrev pub printed : Bytes → Bytes → Bytes
printed table text =
    run_text (names_read (read table))
    (table_run (read table) code_words start_function text lent_cells program_allowance)

-- what is printed is told by a run, with the emissions at the front of the record, the result at the front of out, and
-- the counts
pub record ShowsRun (table text : Bytes) (ran : Ran) (out «record» : Bytes) (counts : List ℕ) : Type 0 where
  pub emissions : ran.emissions ≤ length «record»
  pub result : ran.text ≤ length out
  pub run : printed table text ≡
      ran_text (names_read (read table)) (ending_number ran.ending) ran.function ran.steps counts
      (take ran.emissions «record») (take ran.text out)

-- or by the fault of the table
abbrev pub Shows : Bytes → Bytes → Result Ran Fault → Bytes → Bytes → List ℕ → Type 0
Shows table text (Ok ran) out «record» counts = ShowsRun table text ran out «record» counts
Shows table text (Err fault) out «record» counts =
    printed table text ≡ refusal_text (refusal_number fault.refusal) fault.place
