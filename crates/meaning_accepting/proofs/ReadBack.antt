-- Demand 2 on listing: "A listing of that tree, if no longer than a table may be, is read back as the same tree."
use Prim.Native.Nat.{◌≤◌}
use mathlib.Core.Path.{◌≡◌, sym, ap, ◌∙◌, subst}
use mathlib.Core.Bool.{true}
use lib.Dec.{T}
use lib.ListN.{length}
use Rattle.meaning.specs.Choice.{Bytes, every}
use Rattle.meaning.specs.Tree.{Table, unplaced_table}
use Rattle.meaning.specs.Allowed.{is_byte, allowed, max_table}
use Rattle.meaning.specs.Reading.{read, accepted}
use Rattle.meaning.specs.Listing.{listing}
use Rattle.meaning.specs.Translation.{translate}
use Rattle.meaning.specs.Packing.{pack}
use Rattle.meaning.proofs.Laws.Passing.{passed}
use Rattle.meaning_accepting.proofs.Reading.Accepted.{accepted-allows, allows-accepted}
use Rattle.meaning_accepting.proofs.RoundTrip.Tables.{listing-derived}
use Rattle.meaning_accepting.proofs.RoundTrip.Places.{allowed-unplaced, listing-unplaced, translate-unplaced, same-unplaced}

-- A table's listing is read as a tree that is the table's but for the places of called names; that tree has the same listing and the same code.
pub record ReadBack (t : Table) : Type 0 where
  pub tree : Table
  pub accepts : read (listing t) ≡ accepted tree
  pub same : unplaced_table tree ≡ unplaced_table t
  pub listed : listing tree ≡ listing t
  pub translated : pack (translate tree) ≡ pack (translate t)

pub round_trip : (t : Table) → T (allowed t) → length (listing t) ≤ max_table → ReadBack t
round_trip t allows short =
    let d = listing-derived t (passed (allowed t) allows) in
    let within = same-unplaced (λ t. allowed t) allowed-unplaced d.tree t d.same ∙ passed (allowed t) allows in
    record {
      tree = d.tree;
      accepts = allows-accepted (listing t) d.tree (record { short = short; derived = d.derived; within = within });
      same = d.same;
      listed = same-unplaced listing listing-unplaced d.tree t d.same;
      translated = ap pack (same-unplaced (λ t. translate t) translate-unplaced d.tree t d.same);
    }

-- So it is for the tree of every text of bytes that is read.
pub read_back : (text : Bytes) → every is_byte text ≡ true → (t : Table) → read text ≡ accepted t → length (listing t) ≤ max_table → ReadBack t
read_back text bytes t e short = round_trip t (subst T (sym (accepted-allows text t bytes e).within) tt) short
