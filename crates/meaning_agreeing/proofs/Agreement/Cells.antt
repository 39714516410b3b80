-- The cells that sites show. Those of a template, counted on from p, on from the middle place, or back from q, are the bytes that lie under it; those
-- between the two sites of an e-variable are its part.
use Prim.Native.Nat.{ℕ, zero, suc, ◌+◌, ◌-◌, ◌<◌}
use native.Mathlib.Omega.{arith}
use mathlib.Core.Path.{◌≡◌, refl, ap}
use mathlib.Core.List.{[], ◌∷◌, ◌++◌}
use mathlib.Core.Option.{Option, some}
use lib.ListN.{length, length-append}
use lib.Seq.{take_at, drop_at}
use borrow.Author.Tests.{le-leb}
use Rattle.meaning.specs.Choice.{Bytes, nth}
use Rattle.meaning.specs.Instructions.{Site, from_start, from_end, from_place}
use Rattle.meaning.specs.Matching.{cell_at, cells_before, cut, cells_between}
use Rattle.meaning.specs.Translation.{before_end, Bounds}
use Rattle.meaning.specs.Packing.{site_offset}

-- what `template-tested` asks of the sites
abbrev pub Shows : Bytes → ℕ → (ℕ → Site) → Bytes → Type 0
Shows field place at bytes = (k : ℕ) → k < length bytes → cell_at (at (0 + k)) field place ≡ nth k bytes

nth-front : (bytes back : Bytes) (k : ℕ) → k < length bytes → nth k (bytes ++ back) ≡ nth k bytes
unfolding nth
nth-front [] back k h = absurd (omega arith)
nth-front (b ∷ bytes) back zero h = refl
nth-front (b ∷ bytes) back (suc k) h = nth-front bytes back k (omega arith)

nth-back : (front back : Bytes) (k n : ℕ) → n ≡ length front + k → nth n (front ++ back) ≡ nth k back
unfolding nth
nth-back [] back k n e = let same : n ≡ k = omega arith in rw same
nth-back (b ∷ front) back k zero e = absurd (omega arith)
nth-back (b ∷ front) back k (suc n) e = nth-back front back k n (omega arith)

-- the bytes lie in the field after a front
module _ (field front bytes back : Bytes) (place : ℕ) (lies : field ≡ front ++ (bytes ++ back)) where
  there : (k n : ℕ) → k < length bytes → n ≡ length front + k → nth n field ≡ nth k bytes
  there k n h e = rw (lies, nth-back front (bytes ++ back) k n e) (nth-front bytes back k h)

  pub start-shows : length front ≡ 0 → Shows field place from_start bytes
  start-shows none k h = there k (0 + k) h (omega arith)

  pub middle-shows : place ≡ length front → Shows field place from_place bytes
  middle-shows e k h = there k (place + (0 + k)) h (omega arith)

  -- a site that counts back from q, where nothing comes after the bytes
  behind : (n k : ℕ) → length back ≡ 0 → k < length bytes → n + k ≡ length bytes → cell_at (from_end n) field place ≡ nth k bytes
  behind n k none h e =
      let long : length field ≡ length front + length bytes + length back =
      rw (lies, length-append front (bytes ++ back), length-append bytes back) (omega arith) in
      rw (le-leb n (length field) (omega arith)) (there k (length field - n) h (omega arith))

  pub end-shows : (n : ℕ) → length bytes ≡ n → length back ≡ 0 → Shows field place (before_end n) bytes
  end-shows n size none k h = behind (site_offset (before_end n (0 + k))) k none h (omega arith)

-- PARTS

-- what an e-variable took lies between its two sites
pub record Between (field : Bytes) (place : ℕ) (b : Bounds) (o : Option Bytes) : Type 0 where
  pub piece : Bytes
  pub taken : o ≡ some piece
  pub cells : cells_between b.from b.to field place ≡ some piece

-- as many cells lie before the first site as are in front, and the piece more before the second
module _ (field front piece back : Bytes) (place : ℕ) (lies : field ≡ front ++ (piece ++ back)) where
  cut-shows : cut (some (length front)) (some (length front + length piece)) field ≡ some piece
  cut-shows =
      let long : length field ≡ length front + (length piece + length back) =
      rw (lies, length-append front (piece ++ back), length-append piece back)
      in
      let size : length front + length piece - length front ≡ length piece = omega arith in
      rw (
        le-leb (length front) (length front + length piece) (omega arith),
        le-leb (length front + length piece) (length field) (omega arith),
        size,
        lies,
        drop_at front (piece ++ back) (length front) refl,
        take_at piece back (length piece) refl,
      )

  pub between-shows : (b : Bounds) → cells_before b.from (length field) place ≡ some (length front) →
      cells_before b.to (length field) place ≡ some (length front + length piece) → Between field place b (some piece)
  between-shows b from to = record { piece = piece; taken = refl; cells = rw (from, to) cut-shows }

pub end_before : (k n whole place : ℕ) → n + k ≡ whole → cells_before (from_end k) whole place ≡ some n
end_before k n whole place e = rw (le-leb k whole (omega arith)) (ap some (omega arith))
