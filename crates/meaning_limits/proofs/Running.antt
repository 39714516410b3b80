-- Worked rows of runs at the limit of the frames, and of a tail call on a long text.
use Prim.Native.Nat.{ℕ}
use mathlib.Core.Path.{◌≡◌, refl}
use mathlib.Core.List.{List, [], ◌∷◌, map}
use lib.ListN.{replicate}
use Rattle.meaning.specs.Choice.{Bytes}
use Rattle.meaning.specs.Tree.{Table}
use Rattle.meaning.specs.Outcome.{Result}
use Rattle.meaning.specs.Runs.{run_lent}
use Rattle.meaning.specs.Translation.{translate}
use Rattle.meaning.specs.Packing.{pack}
use Rattle.meaning.specs.Leaving.{leaving}
use Rattle.meaning.proofs.Rows.Tables.{table_z, table_r}
use Rattle.meaning.proofs.Rows.Starred.{most, result}
use Rattle.meaning.proofs.Rows.Edges.{framed}
use Rattle.meaning.proofs.Rows.Leaving.{cells, lent, leaves}
use Rattle.meaning.proofs.Rows.Computing.{computing}

-- a row: the table, the text, the allowance and the frames; what the code gives there
pub record Row : Type 0 where
  pub table : Table
  pub text : Bytes
  pub allowance : ℕ
  pub frames : ℕ
  pub ran : Result

abbrev row : Table → Bytes → ℕ → ℕ → Result → Row
row table text allowance frames r = record { table = table; text = text; allowance = allowance; frames = frames; ran = r }

abbrev rows : List Row
rows =
    -- 255 bytes reach frame 256
    row table_r (replicate 255 97) most 256 (result 0 0 256 (256 ∷ []) (replicate 255 97) []) ∷
    -- 256 bytes need frame 257
    row table_r (replicate 256 97) most 256 (result 15 0 256 (256 ∷ []) [] []) ∷
    -- 12 comes before 15
    row table_r (replicate 256 97) 256 256 (result 12 0 256 (256 ∷ []) [] []) ∷
    -- a tail call takes its caller's frame
    row table_z (replicate 300 48) most 1 (result 0 0 301 (301 ∷ []) [] []) ∷ []

-- rewriting would try every cut of the long texts
pub frames-run : map (λ (r : Row). run_lent (framed r.frames) (translate r.table) 1 r.text r.allowance) rows ≡
    map (λ (r : Row). r.ran) rows
unfolding computing
frames-run = refl

-- what is left where frame 257 is asked for: "all zero if the answer isn't 0"
pub left-without-frame : leaving (pack (translate table_r)) 1 (replicate 256 97) (lent 256 256 2) most
    ≡ leaves (result 15 0 256 (256 ∷ []) [] []) (cells (replicate 256 0) (replicate 256 0) (9 ∷ 9 ∷ []))
unfolding computing
left-without-frame = refl
