-- The three runs of demand 3, each the machine under another watch: without end, on lent cells, and the run without end
-- watched for what it passes first. 01 'Machine'.
use Rattle.std.specs.Prelude.{ℕ, Bool, true, false, [], ltb, length}
use Rattle.std.proofs.Math.Option.{Option, none, some}
use Rattle.meaning.specs.Choice.{Bytes, pick}
use Rattle.meaning.specs.Answers.{in_full, out_full, frames_full, record_full}
use Rattle.meaning.specs.Outcome.{Tally, fresh, Outcome, done, stop, Result, result_of}
use Rattle.meaning.specs.Instructions.{Code}
use Rattle.meaning.specs.Machine.{Need, in_cells, out_cells, record_bytes, frames, onward, halt, Watch, Ledger}
use Rattle.meaning.specs.Machine.{Stacks, Ran, enter}

-- what is lent
pub record Room : Type 0 where
  pub in_cells : ℕ
  pub out_cells : ℕ
  pub record_bytes : ℕ
  pub frames : ℕ

abbrev pub passes : Room → Need → Bool
passes room (in_cells n) = ltb room.in_cells n
passes room (out_cells n) = ltb room.out_cells n
passes room (record_bytes n) = ltb room.record_bytes n
passes room (frames n) = ltb room.frames n

abbrev pub answer_to : Need → ℕ
answer_to (in_cells n) = in_full
answer_to (out_cells n) = out_full
answer_to (record_bytes n) = record_full
answer_to (frames n) = frames_full

-- "In has no left end; out, record and frames have no bound"
abbrev pub endless : Watch
endless = record { Mark = Unit {0}; note = λ need t m. onward m }

-- "The run on lent cells stops there, function number 0, with the steps and emissions from before that instruction"
abbrev pub lent : Room → Watch
lent room = record { Mark = Unit {0}; note = λ need t m. pick (passes room need) (halt (answer_to need)) (onward m) }

-- the first need that passes what is lent, with what was counted before it
pub record Passed : Type 0 where
  pub need : Need
  pub tally : Tally

abbrev pub first_passed : Option Passed → Need → Tally → Bool → Option Passed
first_passed (some p) need t b = some p
first_passed none need t true = some (record { need = need; tally = t })
first_passed none need t false = none

-- the run without end, "What it passes first"
abbrev pub watching : Room → Watch
watching room = record { Mark = Option Passed; note = λ need t m. onward (first_passed m need t (passes room need)) }

-- the text lies on in as the field, out is empty
abbrev pub loaded : Bytes → Stacks
loaded text = record { input = text; selected = length text; output = [] }

-- the start is an application in frame 1
abbrev pub run_under : (W : Watch) → Code → ℕ → Bytes → ℕ → W.Mark → Ran W
run_under W code start text allowance mark =
    enter W allowance code 1 start (loaded text) (record { tally = fresh allowance; mark = mark })

abbrev pub text_of : {Mark : Type 0} → Outcome Stacks (Ledger Mark) → Outcome Bytes Tally
text_of (done s g) = done s.output g.tally
text_of (stop answer function g) = stop answer function g.tally

abbrev pub mark_of : {Mark : Type 0} → Outcome Stacks (Ledger Mark) → Mark
mark_of (done s g) = g.mark
mark_of (stop answer function g) = g.mark

abbrev pub run_endless : Code → ℕ → Bytes → ℕ → Result
run_endless code start text allowance = result_of (text_of (run_under endless code start text allowance tt))

abbrev pub run_lent : Room → Code → ℕ → Bytes → ℕ → Result
run_lent room code start text allowance = result_of (text_of (run_under (lent room) code start text allowance tt))

abbrev pub passed_first : Room → Code → ℕ → Bytes → ℕ → Option Passed
passed_first room code start text allowance = mark_of (run_under (watching room) code start text allowance none)
