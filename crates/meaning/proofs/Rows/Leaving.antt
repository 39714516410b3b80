-- What runs leave in what they were lent: after a result, after each kind of early stop but for the frames (`meaning_limits` has that), and after
-- each refusal before the run.
use Prim.Native.Nat.{ℕ}
use mathlib.Core.Path.{◌≡◌, refl}
use mathlib.Core.List.{List, [], ◌∷◌, ◌++◌, map}
use lib.ListN.{take, replicate}
use Rattle.meaning.specs.Choice.{Bytes}
use Rattle.meaning.specs.Tree.{Table}
use Rattle.meaning.specs.Allowed.{max_functions}
use Rattle.meaning.specs.Outcome.{max_counted, Result}
use Rattle.meaning.specs.Translation.{translate}
use Rattle.meaning.specs.Packing.{Words, pack}
use Rattle.meaning.specs.Leaving.{Cells, Leaving, room_of, leaving}
use Rattle.meaning.proofs.Rows.Tables.{table_z, table_r, table_h, table_p, table_m}
use Rattle.meaning.proofs.Rows.Starred.{most, result, sixty, abc, lines}
use Rattle.meaning.proofs.Rows.Computing.{computing}

abbrev pub cells : Bytes → Bytes → Bytes → Cells
cells stack_in stack_out «record» = record { stack_in = stack_in; stack_out = stack_out; «record» = «record» }

-- so many cells of in, of out and bytes of the record, with something in each
abbrev pub lent : ℕ → ℕ → ℕ → Cells
lent i o j = cells (replicate i 7) (replicate o 8) (replicate j 9)

abbrev pub leaves : Result → Cells → Leaving
leaves r c = record { result = r; cells = c }

-- a run of words from a function on, with so many steps
pub record Run : Type 0 where
  pub words : Words
  pub start : ℕ
  pub text : Bytes
  pub allowance : ℕ
  pub before : Cells
  pub after : Leaving

abbrev pub run : Table → ℕ → Bytes → ℕ → Cells → Leaving → Run
run table start text allowance before after =
    record { words = pack (translate table); start = start; text = text; allowance = allowance; before = before; after = after }

-- a run that leaves in all zero; out and the record
abbrev pub ran : Table → ℕ → Bytes → ℕ → ℕ → ℕ → ℕ → Result → Bytes → Bytes → Run
ran table start text allowance i o j r out «record» =
    run table start text allowance (lent i o j) (leaves r (cells (replicate i 0) out «record»))

-- a run that is refused before it begins
abbrev pub unrun : Words → ℕ → Bytes → ℕ → ℕ → ℕ → ℕ → Run
unrun words start text i o j answer =
    record {
      words = words;
      start = start;
      text = text;
      allowance = most;
      before = lent i o j;
      after = leaves (result answer 0 0 [] [] []) (lent i o j);
    }

abbrev zeros : ℕ → Bytes
zeros n = replicate n 0

abbrev nines : ℕ → Bytes
nines n = replicate n 9

-- function 2 of M emits this line
abbrev line_c : Bytes
line_c = take 8 lines

abbrev words_r : Words
words_r = pack (translate table_r)

abbrev pub runs : List Run
runs =
    -- done: "out is the result with zeros after it", "Record bytes past the emissions are unchanged"
    ran table_r 1 abc most 3 5 2 (result 0 0 4 (4 ∷ []) (99 ∷ 98 ∷ 97 ∷ []) []) (99 ∷ 98 ∷ 97 ∷ 0 ∷ 0 ∷ []) (nines 2) ∷
    ran table_m 1 (113 ∷ []) most 3 2 26 (result 0 0 2 (1 ∷ 1 ∷ []) [] lines) (zeros 2) (lines ++ nines 2) ∷
    ran table_m 2 (113 ∷ []) most 2 3 9 (result 0 0 1 (0 ∷ 1 ∷ []) (121 ∷ []) line_c) (121 ∷ 0 ∷ 0 ∷ []) (line_c ++ nines 1) ∷
    -- stopped: "or all zero if the answer isn't 0"
    ran table_h 1 abc most 5 2 1 (result 11 1 1 (1 ∷ []) [] []) (zeros 2) (nines 1) ∷
    ran table_z 1 sixty 2 4 6 1 (result 12 0 2 (2 ∷ []) [] []) (zeros 6) (nines 1) ∷
    ran table_p 1 (99 ∷ []) most 2 4 1 (result 13 0 1 (1 ∷ []) [] []) (zeros 4) (nines 1) ∷
    ran table_r 1 abc most 3 2 1 (result 14 0 4 (4 ∷ []) [] []) (zeros 2) (nines 1) ∷
    ran table_m 1 (113 ∷ []) most 3 2 23 (result 16 0 2 (1 ∷ 1 ∷ []) [] (take 16 lines)) (zeros 2) (take 16 lines ++ nines 7) ∷
    -- "start 0 or above the function count", "text longer than in"
    unrun words_r 0 abc 3 3 3 9 ∷
    unrun words_r 2 abc 3 3 3 9 ∷
    unrun (0 ∷ []) 1 [] 1 1 1 9 ∷
    unrun words_r 1 abc 2 3 3 10 ∷
    -- "9 precedes 10; 18 in the function table precedes both and changes nothing, as they do"
    unrun words_r 2 abc 2 3 3 9 ∷
    unrun [] 0 abc 2 3 3 18 ∷ []

pub left-by-runs : map (λ (r : Run). leaving r.words r.start r.text r.before r.allowance) runs ≡ map (λ (r : Run). r.after) runs
unfolding computing
left-by-runs = refl

-- what is lent of each, and 256 frames
pub room-of-cells : room_of (lent 3 4 5) ≡ record { in_cells = 3; out_cells = 4; record_bytes = 5; frames = 256 }
room-of-cells = refl

-- a count for each function that a table may have
pub counts-of-functions : max_counted ≡ max_functions
counts-of-functions = refl
