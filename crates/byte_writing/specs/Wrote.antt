-- What a writer of bytes holds at first, and what writing some bytes leaves of it.
use Rattle.std.specs.Prelude.{ℕ, ◌≡◌, List}
use Rattle.std.specs.Borrow.{MutBor}
use Rattle.byte_writing.specs.declared.ByteWriter.{ByteWriter}
use Rattle.byte_writing.specs.Put.{Put}

-- the cells are those that were lent, and no byte is put yet
pub record Begins (lent : MutBor (List ℕ)) (new : ByteWriter) : Type 0 where
  pub same : new.cells.ghost_name ≡ lent.ghost_name
  pub cells : new.cells.now ≡ lent.now
  pub first : new.at ≡ 0

-- the cells are those that were lent, and the next byte is put at this place
pub record BeginsAt (lent : MutBor (List ℕ)) (at : ℕ) (new : ByteWriter) : Type 0 where
  pub same : new.cells.ghost_name ≡ lent.ghost_name
  pub cells : new.cells.now ≡ lent.now
  pub place : new.at ≡ at

-- the cells are the same ones, and the bytes are put from the writer's place on
pub record Wrote (old : ByteWriter) (bytes : List ℕ) (new : ByteWriter) : Type 0 where
  pub same : new.cells.ghost_name ≡ old.cells.ghost_name
  pub put : Put old.at old.cells.now bytes new.at new.cells.now
