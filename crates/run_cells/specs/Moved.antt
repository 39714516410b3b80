-- What moving an argument from out to in leaves in the cells, byte by byte.
use Rattle.std.specs.Prelude.{ℕ, zero, suc, ◌+◌, ◌-◌, ◌≤◌, ◌<◌, ◌≡◌, length, get_or, take, drop, set}
use Rattle.meaning.specs.Choice.{Bytes}

-- 000's UseSeq, in[p-(r-r0)..p-1] := out[r0..r-1], as single stores: so many bytes moved to just below p, the last
-- first
abbrev pub moved : ℕ → Bytes → ℕ → Bytes → ℕ → Bytes
moved zero input p out r = input
moved (suc k) input p out r = set (moved k input p out r) (p - suc k) (get_or out (r - suc k) 0)

-- T-05, after each: k bytes are moved of those that stand on out up to r. That 'the others are still on out' needs no
-- clause: the functions that move may only read out (`output: &[u8]`), so no cell of it can change.
pub record MovedSoFar (before : Bytes) (p : ℕ) (out : Bytes) (r k : ℕ) (now : Bytes) : Type 0 where
  -- 'the bytes moved stand in order just below the old p'
  pub in_order : take k (drop (p - k) now) ≡ drop (r - k) (take r out)
  -- 'no other cell of in has changed'
  pub below : take (p - k) now ≡ take (p - k) before
  pub above : drop p now ≡ drop p before

-- FEW BYTES, WITHOUT A LOOP

-- fewer than `bound` bytes are left to move
pub record FewToMove (bound : ℕ) (input : Bytes) (p : ℕ) (out : Bytes) (first r : ℕ) : Type 0 where
  pub order : first ≤ r
  pub there : r ≤ length out
  pub room : r - first ≤ p
  pub inside : p ≤ length input
  pub left : r < first + bound

-- n bytes are moved, and then fewer than `bound` are left
pub record MovedFew (bound : ℕ) (before : Bytes) (p : ℕ) (out : Bytes) (first r n : ℕ) (now : Bytes) : Type 0 where
  pub cells : now ≡ moved n before p out r
  pub within : first + n ≤ r
  pub left : r < first + n + bound
