-- What running code answers and leaves: as the words of an exported run, and after translating a table as demand 3 has it.
use Prim.Native.Nat.{ℕ, ◌≤◌}
use mathlib.Core.Path.{◌≡◌, refl, ap}
use mathlib.Core.Bool.{Bool, true, false}
use mathlib.Core.List.{List, [], ◌∷◌, ◌++◌}
use lib.Dec.{T, leb}
use lib.ListN.{length, length-map}
use native.Mathlib.Omega.{arith}
use Rattle.meaning.specs.Choice.{Bytes, pick}
use Rattle.meaning.specs.Answers.{finished, buffer_too_short}
use Rattle.meaning.specs.Tree.{Table}
use Rattle.meaning.specs.Allowed.{allowed}
use Rattle.meaning.specs.Reading.{Read, accepted, refused}
use Rattle.meaning.specs.Translation.{translate}
use Rattle.meaning.specs.Packing.{Words, pack}
use Rattle.meaning.specs.Outcome.{uncounted, Result}
use Rattle.meaning.specs.Leaving.{Cells, Leaving, zeros, padded, room_of, leaving}
use Rattle.meaning.specs.Entries.{answered, written, translated, run_answer}
use Rattle.meaning_agreeing.proofs.Laws.Translated.{unpacked}
use Rattle.meaning_agreeing.proofs.Demand3.{as-demanded}
use Rattle.run_actions.specs.declared.registers.Ran.{Ran}
use Rattle.answers.specs.Numbers.{refusal_number, ending_number, is_refusal}
use Rattle.std.specs.Prelude.{Ok, Err}
use Rattle.answers.specs.declared.Fault.{Fault}
use Rattle.run_code.specs.Leaving.{Tells, Leaves}
use Rattle.engine.specs.Told.{Runs, Profiles}
use Rattle.engine.specs.TableRuns.{TableRun, table_leaving, without_code, with_code, table_run, Reports}
use Rattle.engine_tables.specs.Told.{told_words}
use Rattle.engine_tables.proofs.Known.{Known, Numbered, refuses}
use borrow.Author.Tests.{lt-ltb}

-- what a run answers as words
abbrev ran_words : Ran → List ℕ
ran_words ran = ending_number ran.ending ∷ ran.function ∷ ran.steps ∷ ran.text ∷ ran.emissions ∷ []

told-words : {ran : Ran} {result : Result} → Tells ran result → ran_words ran ≡ run_answer result
told-words t = rw (t.answer, t.function, t.steps, t.text, t.emissions)

pub runs : {ran : Ran} {counts : List ℕ} {after : Cells} {should : Leaving} → Leaves ran counts after should → {number : ℕ} → number ≡
    ending_number ran.ending
    → Runs (number ∷ ran.function ∷ ran.steps ∷ ran.text ∷ ran.emissions ∷ []) after should
runs l e = record { answer = rw e (told-words l.tells); cells = l.leaves }

pub profiles : {ran : Ran} {counts : List ℕ} {after : Cells} {should : Leaving} → Leaves ran counts after should → {number : ℕ} → number ≡
    ending_number ran.ending
    → Profiles (number ∷ ran.function ∷ ran.steps ∷ ran.text ∷ ran.emissions ∷ []) counts after should
profiles l e = record { runs = runs l e; counted = l.counted }

-- AFTER TRANSLATING

-- the code of an allowed table, whatever words follow it, leaves what demand 3 asks
pub table-leaves : (t : Table) → T (allowed t) → (junk : Words) (start : ℕ) (text : Bytes) (cells : Cells) (allowance : ℕ)
    → leaving (pack (translate t) ++ junk) start text cells allowance ≡ table_leaving t start text cells allowance
table-leaves t ok junk start text cells allowance =
    rw (unpacked t ok junk, length-map, as-demanded t ok start text allowance (room_of cells))

-- a table's is 1 to 8
table-refusal : (number : ℕ) → (1 ≤ number) × (number ≤ 8) → is_refusal number ≡ true
table-refusal number low = rw (lt-ltb 0 number (omega arith), lt-ltb number 9 (omega arith))

module _ {fault : Fault} {code : Words} (room start : ℕ) (text : Bytes) (cells : Cells) (allowance : ℕ) where
  -- a table without code: the number and place that translating answers are reported
  without-code : {n k : ℕ} → is_refusal n ≡ true → written (told_words (Err fault)) code ≡ written (answered n k 0) (zeros room)
      → Reports (Err fault) uncounted code cells (without_code n k room cells)
  without-code {n} known e =
      let answers = ap (λ w. w.answer) e in
      let same : refusal_number fault.refusal ≡ n = cc in
      record { answer = cc; counted = refl; place = cc; refused = rw same known; code = ap (λ w. w.buffer) e; cells = refl }

  unfitted : (b : Bool) (n : ℕ) (full : Words) (ran : TableRun)
      → written (told_words (Err fault)) code ≡
      pick b (written (answered finished 0 n) full) (written (answered buffer_too_short 0 0) (zeros room))
      → Reports (Err fault) uncounted code cells (pick b ran (without_code buffer_too_short 0 room cells))
  unfitted true n full ran e = let answers = ap (λ w. w.answer) e in absurd (refuses fault.refusal (cc))
  unfitted false n full ran e = without-code refl e

  pub unrun-reports : (x : Read) → Numbered x → written (told_words (Err fault)) code ≡ translated x room
      → Reports (Err fault) uncounted code cells (table_run x room start text cells allowance)
  unrun-reports (refused n k) known e = without-code (table-refusal n known) e
  unrun-reports (accepted t) known e =
      let code = pack (translate t) in
      unfitted (leb (length code) room) (length code) (padded code room) (with_code t room start text cells allowance) e

-- a table with code: what running it answers is reported
module _ {count : ℕ} {code : Words} (room start : ℕ) (text : Bytes) (cells : Cells) (allowance : ℕ)
    {ran : Ran} {counts : List ℕ} {after : Cells} (leaves : Leaves ran counts after (leaving code start text cells allowance)) where
  fitted : (t : Table) → T (allowed t) → (b : Bool)
      → written (told_words (Ok count)) code ≡
      pick b (written (answered finished 0 (length (pack (translate t)))) (padded (pack (translate t)) room))
      (written (answered buffer_too_short 0 0) (zeros room))
      → Reports (Ok ran) counts code after
      (pick b (with_code t room start text cells allowance) (without_code buffer_too_short 0 room cells))
  fitted t ok true e =
      let is = ap (λ w. w.buffer) e in
      let l = rw (is, table-leaves t ok) at leaves in
      record { answer = told-words l.tells; counted = l.counted; place = refl; refused = tt; code = is; cells = l.leaves }
  fitted t ok false e = let answers = ap (λ w. w.answer) e in let z : ◌≡◌ {A = ℕ} 0 17 = cc in absurd (omega arith)

  pub run-reports : (x : Read) → Known x → written (told_words (Ok count)) code ≡ translated x room
      → Reports (Ok ran) counts code after (table_run x room start text cells allowance)
  run-reports (refused n k) known e = let answers = ap (λ w. w.answer) e in absurd (known (cc))
  run-reports (accepted t) known e = fitted t known (leb (length (pack (translate t))) room) e
