-- What a writer of code words holds at first, and what writing some words leaves of it.
use Rattle.std.specs.Prelude.{ℕ, ◌≡◌, List, [], ◌∷◌}
use Rattle.std.specs.Borrow.{MutBor}
use Rattle.std.proofs.lemmas.List.Edits.{sets}
use Rattle.code_words.specs.declared.CodeWriter.{CodeWriter}
use Rattle.code_words.specs.Writing.{Wrote, Same}

-- the cells are those that were lent, and no word is put yet
pub record Begins (lent : MutBor (List ℕ)) (new : CodeWriter) : Type 0 where
  pub same : new.code.ghost_name ≡ lent.ghost_name
  pub cells : new.code.now ≡ lent.now
  pub first : new.at ≡ 0

-- the cells are those that were lent, and the next word is put at this place
pub record BeginsAt (lent : MutBor (List ℕ)) (at : ℕ) (new : CodeWriter) : Type 0 where
  pub same : new.code.ghost_name ≡ lent.ghost_name
  pub cells : new.code.now ≡ lent.now
  pub place : new.at ≡ at

-- the cells are the same ones, and the words are put from the writer's place on
pub record Written (old : CodeWriter) (words : List ℕ) (new : CodeWriter) : Type 0 where
  pub same : new.code.ghost_name ≡ old.code.ghost_name
  pub put : Wrote old.code.now old.at words new.code.now new.at

-- to write `words'` from the new place on comes to the same as to write `words` from the old one
pub record StillToWrite (old : CodeWriter) (words : List ℕ) (new : CodeWriter) (words' : List ℕ) : Type 0 where
  pub same : new.code.ghost_name ≡ old.code.ghost_name
  pub put : Same old.code.now old.at words new.code.now new.at words'

-- one word is put at another place, and the writer stays where it is
pub record Patched (old : CodeWriter) (place word : ℕ) (new : CodeWriter) : Type 0 where
  pub same : new.code.ghost_name ≡ old.code.ghost_name
  pub cells : new.code.now ≡ sets old.code.now place (word ∷ [])
  pub stays : new.at ≡ old.at
