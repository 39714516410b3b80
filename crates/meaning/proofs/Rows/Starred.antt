-- The small proved table of 01's 'Runs to hold on to': one theorem covers all starred rows, and the outcomes that stand beside them.
use Prim.Native.Nat.{ℕ}
use mathlib.Core.Path.{◌≡◌, refl}
use mathlib.Core.List.{List, [], ◌∷◌, map}
use mathlib.Core.Option.{Option, some}
use Rattle.meaning.specs.Choice.{Bytes}
use Rattle.meaning.specs.Tree.{Table}
use Rattle.meaning.specs.Outcome.{max_counted, Result}
use Rattle.meaning.specs.Rewriting.{rewrite}
use Rattle.meaning.specs.Runs.{Room, run_lent, run_endless}
use Rattle.meaning.specs.Instructions.{Code}
use Rattle.meaning.specs.Leaving.{padded}
use Rattle.meaning.specs.Translation.{translate}
use Rattle.meaning.specs.Packing.{pack, unpack}
use Rattle.meaning.specs.Demanded.{demanded}
use Rattle.meaning.proofs.Rows.Tables.{table_z, table_r, table_h, table_k, table_p, table_m}
use Rattle.meaning.proofs.Rows.Computing.{computing}

-- a row: the table, the text, the allowance and what is lent; what rewriting gives, and what the code gives there
pub record Row : Type 0 where
  pub table : Table
  pub text : Bytes
  pub allowance : ℕ
  pub room : Room
  pub rewritten : Result
  pub ran : Result

-- rewriting, the run without end, the run on what is lent and what demand 3 asks of it, and the code unpacked from its packed words
pub record Outcomes : Type 0 where
  pub rewriting : Result
  pub endless : Result
  pub lent : Result
  pub demanding : Result
  pub unpacked : Option Code

abbrev pub found : Row → Outcomes
found r =
    record {
      rewriting = rewrite r.table 1 r.text r.allowance;
      endless = run_endless (translate r.table) 1 r.text r.allowance;
      lent = run_lent r.room (translate r.table) 1 r.text r.allowance;
      demanding = demanded r.room r.table 1 r.text r.allowance;
      unpacked = unpack (pack (translate r.table));
    }

abbrev pub expected : Row → Outcomes
expected r =
    record {
      rewriting = r.rewritten;
      endless = r.rewritten;
      lent = r.ran;
      demanding = r.ran;
      unpacked = some (translate r.table);
    }

abbrev pub AllHold : List Row → Type 0
AllHold rs = map found rs ≡ map expected rs

abbrev pub ample : Room
ample = record { in_cells = 1000; out_cells = 1000; record_bytes = 1000; frames = 256 }

abbrev pub cells : ℕ → ℕ → Room
cells inn out = record { in_cells = inn; out_cells = out; record_bytes = 1000; frames = 256 }

-- steps enough for every row
abbrev pub most : ℕ
most = 1000

-- the counts of the first functions, and 0 for the others
abbrev pub result : ℕ → ℕ → ℕ → List ℕ → Bytes → Bytes → Result
result answer function steps counts text emissions =
    record {
      answer = answer;
      function = function;
      steps = steps;
      counts = padded counts max_counted;
      text = text;
      emissions = emissions;
    }

-- a row whose code does what rewriting does
abbrev pub same : Table → Bytes → ℕ → Room → Result → Row
same table text allowance room r =
    record { table = table; text = text; allowance = allowance; room = room; rewritten = r; ran = r }

-- a row whose code stops for want of room
abbrev pub short : Table → Bytes → Room → Result → Result → Row
short table text room r stopped =
    record { table = table; text = text; allowance = most; room = room; rewritten = r; ran = stopped }

-- `0060`
abbrev pub sixty : Bytes
sixty = 48 ∷ 48 ∷ 54 ∷ 48 ∷ []

abbrev pub abc : Bytes
abc = 97 ∷ 98 ∷ 99 ∷ []

-- EmitC q, EmitA y, EmitB x
abbrev pub lines : Bytes
lines =
    69 ∷ 109 ∷ 105 ∷ 116 ∷ 67 ∷ 32 ∷ 113 ∷ 10 ∷
    69 ∷ 109 ∷ 105 ∷ 116 ∷ 65 ∷ 32 ∷ 121 ∷ 10 ∷
    69 ∷ 109 ∷ 105 ∷ 116 ∷ 66 ∷ 32 ∷ 120 ∷ 10 ∷ []

abbrev pub rows : List Row
rows =
    same table_z sixty most (cells 1000 3) (result 0 0 3 (3 ∷ []) (54 ∷ 48 ∷ []) []) ∷
    same table_z [] most ample (result 0 0 1 (1 ∷ []) [] []) ∷
    same table_z sixty 2 ample (result 12 0 2 (2 ∷ []) [] []) ∷
    same table_z sixty 3 ample (result 0 0 3 (3 ∷ []) (54 ∷ 48 ∷ []) []) ∷
    same table_r abc most (cells 3 3) (result 0 0 4 (4 ∷ []) (99 ∷ 98 ∷ 97 ∷ []) []) ∷
    short table_r abc (cells 3 2) (result 0 0 4 (4 ∷ []) (99 ∷ 98 ∷ 97 ∷ []) []) (result 14 0 4 (4 ∷ []) [] []) ∷
    same table_h (97 ∷ 98 ∷ 55 ∷ 99 ∷ 57 ∷ []) most ample (result 0 0 1 (1 ∷ []) (55 ∷ []) []) ∷
    same table_h abc most ample (result 11 1 1 (1 ∷ []) [] []) ∷
    same table_k (97 ∷ 98 ∷ 99 ∷ 97 ∷ 98 ∷ []) most ample (result 0 0 1 (1 ∷ []) (98 ∷ 99 ∷ 124 ∷ 98 ∷ []) []) ∷
    same table_k (97 ∷ 97 ∷ []) most ample (result 0 0 1 (1 ∷ []) (124 ∷ []) []) ∷
    same table_k (97 ∷ 98 ∷ []) most ample (result 11 1 1 (1 ∷ []) [] []) ∷
    same table_p (99 ∷ []) most (cells 3 3) (result 0 0 2 (1 ∷ 1 ∷ []) abc []) ∷
    short table_p (99 ∷ []) (cells 2 1000) (result 0 0 2 (1 ∷ 1 ∷ []) abc []) (result 13 0 1 (1 ∷ []) [] []) ∷
    same table_m (113 ∷ []) most ample (result 0 0 2 (1 ∷ 1 ∷ []) [] lines) ∷ []

pub starred : AllHold rows
unfolding computing
starred = refl
