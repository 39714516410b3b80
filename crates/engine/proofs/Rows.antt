-- Worked rows of a table's run, from the table's text to what is reported and left.
use Prim.Native.Nat.{ℕ}
use Prim.Native.String.{String}
use mathlib.Core.Path.{◌≡◌, refl}
use mathlib.Core.List.{List, [], ◌∷◌, ◌++◌, map}
use lib.ListN.{replicate}
use Rattle.meaning.specs.Choice.{Bytes}
use Rattle.meaning.specs.Outcome.{Result}
use Rattle.meaning.specs.Reading.{read}
use Rattle.meaning.specs.Packing.{Words}
use Rattle.meaning.specs.Leaving.{Cells}
use Rattle.meaning.proofs.Rows.Read.{bytes, hold}
use Rattle.meaning.proofs.Rows.Starred.{result, abc}
use Rattle.meaning.proofs.Rows.Packed.{words_r}
use Rattle.meaning.proofs.Rows.Leaving.{cells, lent, leaves}
use Rattle.meaning.proofs.Rows.Computing.{computing}
use Rattle.std.specs.Prelude.{Ok, Err}
use Rattle.answers.specs.declared.Refusal.TheVariants.{TableTooLong}
use Rattle.answers.specs.declared.Ending.TheVariants.{NoSuchStart}
use Rattle.engine.specs.TableRuns.{TableRun, table_run, report_words}

-- a table's text, the words lent for its code, the start, the text and the cells; what they come to with five steps
pub record Row : Type 0 where
  pub table : String
  pub room : ℕ
  pub start : ℕ
  pub text : Bytes
  pub before : Cells
  pub after : TableRun

-- R, whose code has 20 words, in so many words and cells
abbrev run_r : ℕ → ℕ → ℕ → ℕ → Words → Result → Cells → Row
run_r room start i o code r after =
    record {
      table = "G { s1 e2 = <G e2> s1; = }";
      room = room;
      start = start;
      text = abc;
      before = lent i o 2;
      after = record { place = 0; code = code; leaving = leaves r after };
    }

-- without a run everything is as it was
abbrev refused_r : ℕ → ℕ → ℕ → Words → ℕ → Row
refused_r room start i code answer = run_r room start i 5 code (result answer 0 0 [] [] []) (lent i 5 2)

abbrev pub rows : List Row
rows =
    -- a result, with words after the code; the first room that is passed; the steps that are left over don't show
    run_r 22 1 3 5 (words_r ++ 0 ∷ 0 ∷ []) (result 0 0 4 (4 ∷ []) (99 ∷ 98 ∷ 97 ∷ []) [])
    (cells (replicate 3 0) (99 ∷ 98 ∷ 97 ∷ 0 ∷ 0 ∷ []) (9 ∷ 9 ∷ [])) ∷
    run_r 20 1 3 2 words_r (result 14 0 4 (4 ∷ []) [] []) (cells (replicate 3 0) (replicate 2 0) (9 ∷ 9 ∷ [])) ∷
    -- 17, and a buffer all zero; 9 and 10, with the code
    refused_r 19 1 3 (replicate 19 0) 17 ∷
    refused_r 20 0 3 words_r 9 ∷
    refused_r 20 2 2 words_r 9 ∷
    refused_r 20 1 2 words_r 10 ∷
    -- a refused table, with the place of its fault
    record {
      table = "F{e1=e1 e1}";
      room = 3;
      start = 1;
      text = abc;
      before = lent 3 3 2;
      after = record { place = 8; code = replicate 3 0; leaving = leaves (result 7 0 0 [] [] []) (lent 3 3 2) };
    } ∷ []

pub table_runs :
    map (λ (r : Row). table_run (read (bytes r.table)) r.room r.start r.text r.before 5) rows ≡ map (λ (r : Row). r.after) rows
unfolding computing hold
table_runs = refl

-- answer, function, steps, lengths of the text and of the emissions
pub reported : report_words (Ok (record { ending = NoSuchStart; function = 3; steps = 4; text = 5; emissions = 6 })) ≡ 9 ∷ 3 ∷ 4 ∷ 5 ∷ 6 ∷ []
reported = refl

pub reported-refused : report_words (Err (record { refusal = TableTooLong; place = 2 })) ≡ 1 ∷ 0 ∷ 0 ∷ 0 ∷ 0 ∷ []
reported-refused = refl
