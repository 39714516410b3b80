-- What copying few bytes without a loop leaves in the cells.
use Rattle.std.specs.Prelude.{ℕ, zero, suc, ◌+◌, ◌/◌, ◌≤◌, ◌<◌, ◌≡◌, length, get_or, set}
use Rattle.meaning.specs.Choice.{Bytes}

-- so many bytes copied one by one, from byte i on
abbrev pub copied : ℕ → Bytes → ℕ → Bytes → ℕ → Bytes
copied zero to at from i = to
copied (suc n) to at from i = copied n (set to (at + i) (get_or from i 0)) at from (i + 1)

-- fewer bytes than these are copied and moved without a loop: half as many first, then a quarter, then one
abbrev pub few : ℕ
few = 8

abbrev pub half : ℕ
half = few / 2

abbrev pub quarter : ℕ
quarter = half / 2

-- after i bytes fewer than `bound` are left to copy
pub record FewToCopy (bound : ℕ) (to : Bytes) (at : ℕ) (from : Bytes) (i : ℕ) : Type 0 where
  pub room : at + length from ≤ length to
  pub begun : i ≤ length from
  pub left : length from < i + bound

-- n bytes more are copied, and then fewer than `bound` are left
pub record CopiedFew (bound : ℕ) (before : Bytes) (at : ℕ) (from : Bytes) (i n : ℕ) (now : Bytes) : Type 0 where
  pub cells : now ≡ copied n before at from i
  pub within : i + n ≤ length from
  pub left : length from < i + n + bound
