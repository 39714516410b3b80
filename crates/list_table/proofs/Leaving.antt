-- The whole listing: its length is found first, and then it is written or not.
use Prim.Native.Nat.{ℕ, zero, suc, min, ◌≤◌, ◌<◌}
use native.Mathlib.Omega.{arith}
use native.Mathlib.Nat.{zero-add, zero-min, min-zero, suc-min-suc}
use mathlib.Core.Path.{◌≡◌, ◌∙◌, ap}
use mathlib.Core.Bool.{true, false}
use borrow.Author.Tests.{le-leb, lt-leb}
use mathlib.Core.List.{List, [], ◌∷◌}
use lib.ListN.{length, take}
use lib.Seq.{sets-eq}
use Rattle.std.proofs.Common.{Some, None}
use Rattle.meaning.specs.Choice.{Bytes}
use Rattle.byte_writing.specs.Put.{Put}
use Rattle.list_table.specs.Leaves.{holds, LeavesListing}

pub leaves-listing : {listing lent after : Bytes} {size next : ℕ} → size ≡ length listing → size ≤ length lent → Put 0 lent listing next after →
    LeavesListing listing lent (Some next) after
leaves-listing {listing} {lent} {next = next} e h p =
    let fits : holds listing lent ≡ true = le-leb (length listing) (length lent) (omega arith) in
    let size : next ≡ length listing = omega (arith, p.place) in
    record {
      size = rw fits (ap (λ (n : ℕ). Some n) size);
      cells = rw fits (p.cells ∙ sets-eq listing lent 0 (omega arith) ∙ rw zero-add);
    }

pub leaves_nothing : {listing lent : Bytes} {size : ℕ} → size ≡ length listing → length lent < size → LeavesListing listing lent None lent
leaves_nothing {listing} {lent} e h =
    let short : holds listing lent ≡ false = lt-leb (length listing) (length lent) (omega arith) in
    record { size = rw short; cells = rw short }

-- words past the most that a tape has don't count
pub take_within : (n : ℕ) (l : List ℕ) → take (min (length l) n) l ≡ take n l
take_within zero l = rw min-zero
take_within (suc n) [] = rw zero-min
take_within (suc n) (x ∷ l) = rw suc-min-suc (ap (λ (xs : List ℕ). x ∷ xs) (take_within n l))
