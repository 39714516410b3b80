-- Demands 2 and 3 from table bytes to lent cells: what translating a table text and then running the code leaves, against rewriting the tree that the
-- grammar gives. The contracts of the entry points say that the code leaves what `translated` and `leaving` say; this says what those two come to.
use Prim.Native.Nat.{ℕ, ◌-◌, ◌≤◌}
use mathlib.Core.Path.{◌≡◌, refl, ap}
use lib.Dec.{T}
use lib.ListN.{length}
use borrow.Author.Tests.{le-leb}
use Rattle.meaning.specs.Choice.{Bytes}
use Rattle.meaning.specs.Answers.{finished, frames_full}
use Rattle.meaning.specs.Tree.{Table}
use Rattle.meaning.specs.Allowed.{allowed}
use Rattle.meaning.specs.Reading.{accepted, read}
use Rattle.meaning.specs.Machine.{is_declared}
use Rattle.meaning.specs.Translation.{translate}
use Rattle.meaning.specs.Packing.{pack}
use Rattle.meaning.specs.Flat.{is_flat}
use Rattle.meaning.specs.Leaving.{Cells, zeros, after_run, room_of, leaving, padded}
use Rattle.meaning.specs.Entries.{answered, translated}
use Rattle.meaning.specs.Demanded.{demanded}
use Rattle.meaning_accepting.proofs.Reading.Accepted.{Allows, allows-accepted}
use Rattle.meaning.proofs.Laws.Choosing.{true-passed}
use Rattle.meaning_agreeing.proofs.Demand3.{on-words, as-demanded}
use Rattle.meaning_agreeing.proofs.Flat.{never-fifteen-left}

module _ {table : Bytes} {t : Table} (a : Allows table t) (room : ℕ) (fits : length (pack (translate t)) ≤ room) where
  tree : read table ≡ accepted t
  tree = allows-accepted table t a

  rules : T (allowed t)
  rules = true-passed (allowed t) a.within

  -- translating answers 0 and the length of the code, and leaves the code with zeros after it
  pub code-left : ((translated (read table) room).answer ≡ answered finished 0 (length (pack (translate t)))) ×
      ((translated (read table) room).buffer ≡ padded (pack (translate t)) room)
  code-left = rw (tree, le-leb (length (pack (translate t))) room fits) (refl, refl)

  -- where the tree is flat, running that buffer never answers 15
  pub flat-left : T (is_flat t) → (start : ℕ) (text : Bytes) (cells : Cells) (allowance : ℕ) →
      (leaving (translated (read table) room).buffer start text cells allowance).result.answer ≡ frames_full → ⊥
  flat-left flat start text cells allowance =
      rw code-left.1 (never-fifteen-left t flat start text allowance rules (zeros (room - length (pack (translate t)))) cells)

  -- running that buffer leaves what rewriting comes to, or stops at the first room that is passed
  pub run-left : (start : ℕ) (text : Bytes) (cells : Cells) (allowance : ℕ) → T (is_declared (translate t) start) →
      length text ≤ length cells.stack_in →
      leaving (translated (read table) room).buffer start text cells allowance ≡ after_run (demanded (room_of cells) t start text allowance) cells
  run-left start text cells allowance declared inside =
      rw (code-left.1, on-words t rules start text allowance (zeros (room - length (pack (translate t)))) cells declared inside)
      (ap (λ r. after_run r cells) (as-demanded t rules start text allowance (room_of cells)))
