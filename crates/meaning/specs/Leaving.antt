-- What a run of code words leaves in what it was lent: 01 'Machine', last paragraph, and demand 1.
use Rattle.std.specs.Prelude.{ℕ, ◌-◌, [], ◌++◌, leb, length, drop, replicate}
use Rattle.std.proofs.Math.Option.{Option, none, some}
use Rattle.meaning.specs.Choice.{Bytes, pick}
use Rattle.meaning.specs.Answers.{no_such_start, text_too_long, no_instruction}
use Rattle.meaning.specs.Outcome.{fresh, Result, told}
use Rattle.meaning.specs.Instructions.{Code}
use Rattle.meaning.specs.Machine.{is_declared}
use Rattle.meaning.specs.Runs.{Room, run_lent}
use Rattle.meaning.specs.Packing.{Words, unpack}

-- the start being frame 1, frame 257 is one too many
abbrev pub max_frames : ℕ
max_frames = 256

-- the stacks and the record, as they are lent and as they are left
pub record Cells : Type 0 where
  pub stack_in : Bytes
  pub stack_out : Bytes
  pub «record» : Bytes

-- what is answered, and what is left
pub record Leaving : Type 0 where
  pub result : Result
  pub cells : Cells

abbrev pub zeros : ℕ → Bytes
zeros n = replicate n 0

-- bytes at the front, and zeros after them
abbrev pub padded : Bytes → ℕ → Bytes
padded bytes n = bytes ++ zeros (n - length bytes)

-- bytes over the front, and what was there after them
abbrev pub over : Bytes → Bytes → Bytes
over bytes old = bytes ++ drop (length bytes) old

-- "9 precedes 10; 18 in the function table precedes both and changes nothing, as they do"
abbrev pub refused_run : ℕ → Cells → Leaving
refused_run answer cells = record { result = told answer 0 [] (fresh 0); cells = cells }

-- "After every run in is zero, and out is the result with zeros after it, or all zero if the answer isn't 0. Record
-- bytes past the emissions are unchanged"
abbrev pub after_run : Result → Cells → Leaving
after_run r cells =
    record {
      result = r;
      cells =
          record {
            stack_in = zeros (length cells.stack_in);
            stack_out = padded r.text (length cells.stack_out);
            «record» = over r.emissions cells.«record»;
          };
    }

abbrev pub room_of : Cells → Room
room_of cells =
    record {
      in_cells = length cells.stack_in;
      out_cells = length cells.stack_out;
      record_bytes = length cells.«record»;
      frames = max_frames;
    }

abbrev pub leaving_code : Option Code → ℕ → Bytes → Cells → ℕ → Leaving
leaving_code none start text cells allowance = refused_run no_instruction cells
leaving_code (some code) start text cells allowance =
    let ran = after_run (run_lent (room_of cells) code start text allowance) cells in
    let fitting = pick (leb (length text) (length cells.stack_in)) ran (refused_run text_too_long cells) in
    pick (is_declared code start) fitting (refused_run no_such_start cells)

abbrev pub leaving : Words → ℕ → Bytes → Cells → ℕ → Leaving
leaving words start text cells allowance = leaving_code (unpack words) start text cells allowance
