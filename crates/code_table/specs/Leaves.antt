-- What translating hands back, and what it leaves in the lent code: 01 'Machine', "Words after the code are zero", and
-- 'Where each thing is checked', "17: lent buffer shorter than it".
use Rattle.std.specs.Prelude.{ℕ, ◌≡◌, List, leb, length, Option, None, Some}
use Rattle.meaning.specs.Choice.{pick}
use Rattle.meaning.specs.Leaving.{zeros, padded}
use Rattle.meaning.specs.Translation.{translate}
use Rattle.meaning.specs.Packing.{pack}
use Rattle.code_sentences.specs.Trees.{tree_of}

-- the code of the table that the words of a tape are read as
abbrev pub code_of : List ℕ → List ℕ
code_of ws = pack (translate (tree_of ws))

pub record LeavesCode (words : List ℕ) (room : ℕ) (r : Option ℕ) (after : List ℕ) : Type 0 where
  pub told : r ≡ pick (leb (length words) room) (Some (length words)) None
  pub cells : after ≡ pick (leb (length words) room) (padded words room) (zeros room)
