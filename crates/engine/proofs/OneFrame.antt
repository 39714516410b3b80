-- 02, T-06: "A flat table's run never reaches frame 2, so 15 can't be given." From the bytes of a table that `refal0_flat` answers with 0.
use Prim.Native.Nat.{ℕ}
use native.Mathlib.Omega.{arith}
use mathlib.Core.Path.{◌≡◌}
use mathlib.Core.Bool.{Bool, true, false}
use mathlib.Core.List.{[]}
use lib.Dec.{T, leb}
use lib.ListN.{length, get_or}
use Rattle.meaning.specs.Choice.{Bytes, pick}
use Rattle.meaning.specs.Answers.{finished, frames_full, buffer_too_short}
use Rattle.meaning.specs.Tree.{Table}
use Rattle.meaning.specs.Allowed.{allowed}
use Rattle.meaning.specs.Reading.{Read, accepted, refused, read}
use Rattle.meaning.specs.Translation.{translate}
use Rattle.meaning.specs.Packing.{pack}
use Rattle.meaning.specs.Leaving.{Cells}
use Rattle.meaning.specs.Flat.{is_flat}
use Rattle.meaning.specs.Entries.{flat_answer}
use Rattle.meaning_agreeing.proofs.Flat.{never-fifteen-left, flat-answer}
use Rattle.engine_tables.proofs.Known.{AreBytes, Known, read_known}
use Rattle.engine.specs.TableRuns.{with_code, without_code, table_run}
use Rattle.engine.proofs.Runs.{table-leaves}

module _ (room start : ℕ) (text : Bytes) (cells : Cells) (allowance : ℕ) where
  table-flat : (t : Table) → T (allowed t) → T (is_flat t)
      → (table_run (accepted t) room start text cells allowance).leaving.result.answer ≡ frames_full → ⊥
  table-flat t ok flat = by (leb (length (pack (translate t))) room)
    where
      by : (fits : Bool)
          → (pick fits (with_code t room start text cells allowance) (without_code buffer_too_short 0 room cells)).leaving.result.answer
          ≡ frames_full → ⊥
      by true = rw (← (table-leaves t ok [] start text cells allowance)) (never-fifteen-left t flat start text allowance ok [] cells)
      by false = λ e. absurd (omega arith)

  read-flat : (x : Read) → Known x → get_or (flat_answer x) 0 0 ≡ finished
      → (table_run x room start text cells allowance).leaving.result.answer ≡ frames_full → ⊥
  read-flat (accepted t) known e = table-flat t known ((flat-answer t).0 e)
  read-flat (refused number place) known e = λ r. known e

  pub never-fifteen : (table : Bytes) → AreBytes table → get_or (flat_answer (read table)) 0 0 ≡ finished
      → (table_run (read table) room start text cells allowance).leaving.result.answer ≡ frames_full → ⊥
  never-fifteen table bytes e = read-flat (read table) (read_known table bytes) e
