-- What reading a table text, translating it and running its code comes to, for every text: demand 3 from table bytes to
-- lent cells.
use Rattle.std.specs.Prelude.{ℕ, ◌≡◌, Bool, List, [], ◌∷◌, leb, ltb, length, true, Result, Ok, Err, IfErr}
use Rattle.meaning.specs.Choice.{Bytes, pick, both}
use Rattle.meaning.specs.Answers.{no_such_start, text_too_long, buffer_too_short}
use Rattle.meaning.specs.Tree.{Table}
use Rattle.meaning.specs.Reading.{Read, accepted, refused}
use Rattle.meaning.specs.Translation.{translate}
use Rattle.meaning.specs.Packing.{Words, pack}
use Rattle.meaning.specs.Leaving.{Cells, Leaving, zeros, padded, after_run, room_of}
use Rattle.meaning.specs.Leaving.{refused_run as unrun}
use Rattle.meaning.specs.Entries.{run_answer}
use Rattle.meaning.specs.Demanded.{demanded}
use Rattle.answers.specs.declared.Fault.{Fault}
use Rattle.answers.specs.Numbers.{refusal_number, ending_number, is_refusal}
use Rattle.run_actions.specs.declared.registers.Ran.{Ran}

-- the place of the table's fault, the code buffer afterwards, and what is answered and left in the cells
pub record TableRun : Type 0 where
  pub place : ℕ
  pub code : Words
  pub leaving : Leaving

-- "9: start 0 or above the function count"
abbrev pub has_function : Table → ℕ → Bool
has_function t start = both (ltb 0 start) (leb start (length t))

-- 9, then 10, and else demand 3: rewriting's outcome where the run without end keeps within what is lent, or the first
-- room that it passes
abbrev pub table_leaving : Table → ℕ → Bytes → Cells → ℕ → Leaving
table_leaving t start text cells allowance =
    let ran = after_run (demanded (room_of cells) t start text allowance) cells in
    let fitting = pick (leb (length text) (length cells.stack_in)) ran (unrun text_too_long cells) in
    pick (has_function t start) fitting (unrun no_such_start cells)

-- without code there is no run: the code buffer is all zero, and the cells are as they were
abbrev pub without_code : ℕ → ℕ → ℕ → Cells → TableRun
without_code number place room cells = record { place = place; code = zeros room; leaving = unrun number cells }

-- the code with zeros after it, and its run
abbrev pub with_code : Table → ℕ → ℕ → Bytes → Cells → ℕ → TableRun
with_code t room start text cells allowance =
    record { place = 0; code = padded (pack (translate t)) room; leaving = table_leaving t start text cells allowance }

-- `room` is the length of the code buffer
abbrev pub table_run : Read → ℕ → ℕ → Bytes → Cells → ℕ → TableRun
table_run (refused number place) room start text cells allowance = without_code number place room cells
table_run (accepted t) room start text cells allowance =
    let ran = with_code t room start text cells allowance in
    pick (leb (length (pack (translate t))) room) ran (without_code buffer_too_short 0 room cells)

-- what a table's run comes to, in the order of an exported run's answer
abbrev pub report_words : Result Ran Fault → List ℕ
report_words (Ok ran) = ending_number ran.ending ∷ ran.function ∷ ran.steps ∷ ran.text ∷ ran.emissions ∷ []
report_words (Err fault) = refusal_number fault.refusal ∷ 0 ∷ 0 ∷ 0 ∷ 0 ∷ []

-- the place of the table's fault
abbrev pub report_place : Result Ran Fault → ℕ
report_place (Ok ran) = 0
report_place (Err fault) = fault.place

-- what is reported, the counts, the code buffer and the cells are those of a table's run, and an error is a table's or
-- its code's
pub record Reports (r : Result Ran Fault) (counts : List ℕ) (words : Words) (after : Cells) (should : TableRun) : Type 0 where
  pub answer : report_words r ≡ run_answer should.leaving.result
  pub counted : counts ≡ should.leaving.result.counts
  pub place : report_place r ≡ should.place
  pub refused : IfErr r (λ fault. is_refusal (refusal_number fault.refusal) ≡ true)
  pub code : words ≡ should.code
  pub cells : after ≡ should.leaving.cells
