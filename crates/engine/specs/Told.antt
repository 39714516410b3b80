-- What an exported run hands back and leaves, in the terms of meaning's Leaving.
use Rattle.std.specs.Prelude.{ℕ, ◌≡◌, List}
use Rattle.meaning.specs.Leaving.{Cells, Leaving}
use Rattle.meaning.specs.Entries.{run_answer}

-- the answer's words and the cells are those of what should be left
pub record Runs (words : List ℕ) (after : Cells) (should : Leaving) : Type 0 where
  pub answer : words ≡ run_answer should.result
  pub cells : after ≡ should.cells

-- and the counts are those of each function's applications: 02, T-01
pub record Profiles (words counts : List ℕ) (after : Cells) (should : Leaving) : Type 0 where
  pub runs : Runs words after should
  pub counted : counts ≡ should.result.counts
