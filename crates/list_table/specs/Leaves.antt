-- What listing hands back, and what it leaves in the lent buffer: 01 'Where each thing is checked', "17: lent buffer
-- shorter than it; after this .. a listing buffer is unchanged", and 'Machine', "bytes after a listing are unchanged".
use Rattle.std.specs.Prelude.{ℕ, ◌≡◌, Bool, Option, Some, None, leb, length}
use Rattle.meaning.specs.Choice.{Bytes, pick}
use Rattle.meaning.specs.Leaving.{over}

-- whether the lent buffer is as long as the listing
abbrev pub holds : Bytes → Bytes → Bool
holds listing lent = leb (length listing) (length lent)

-- the listing's length, where it is written
abbrev pub listed_length : Bytes → Bytes → Option ℕ
listed_length listing lent = pick (holds listing lent) (Some (length listing)) None

pub record LeavesListing (listing lent : Bytes) (r : Option ℕ) (after : Bytes) : Type 0 where
  pub size : r ≡ listed_length listing lent
  pub cells : after ≡ pick (holds listing lent) (over listing lent) lent
