-- What listing and translating a read table answer and leave is what meaning's Entries say.
use Prim.Native.Nat.{ℕ, zero, suc, ◌-◌, ◌≤◌}
use native.Mathlib.Omega.{arith}
use mathlib.Core.Path.{◌≡◌, refl, ◌∙◌}
use mathlib.Core.Bool.{Bool, true, false}
use mathlib.Core.List.{List, [], ◌∷◌}
use lib.Dec.{T, leb}
use lib.ListN.{length, take}
use borrow.Author.Tests.{le-leb}
use Rattle.std.proofs.Common.{Option, Some, None}
use Rattle.std.proofs.lemmas.List.{take_all, length-take}
use Rattle.meaning.specs.Choice.{Bytes, pick, every}
use Rattle.meaning.specs.Answers.{finished, buffer_too_short}
use Rattle.meaning.specs.Tree.{Table}
use Rattle.meaning.specs.Allowed.{distinct, sentences_in, allowed}
use Rattle.tape_layout.specs.Tape.{tape}
use Rattle.meaning.specs.Reading.{Read, accepted, refused, read}
use Rattle.meaning.specs.Listing.{listing}
use Rattle.meaning.specs.Translation.{translate}
use Rattle.meaning.specs.Packing.{pack, places_from, pack_functions}
use Rattle.meaning.specs.Leaving.{zeros, padded, over}
use Rattle.meaning.specs.Entries.{answered, read_answer, written, listed, translated}
use Rattle.read_table.specs.declared.Reading.{Reading}
use Rattle.std.specs.Prelude.{Ok, Err}
use Rattle.answers.specs.declared.Fault.{Fault}
use Rattle.answers.specs.Numbers.{refusal_number}
use Rattle.read_table.specs.Reads.{Reads}
use Rattle.list_strings.specs.declared.State.TheVariants.{Start}
use Rattle.list_table.specs.Words.{list_from, most_words}
use Rattle.list_table.specs.Leaves.{LeavesListing}
use Rattle.list_table.proofs.Lists.{tape-listed}
use Rattle.code_table.specs.Leaves.{code_of, LeavesCode}
use Rattle.code_table.proofs.Translates.{tape-translated}
use Rattle.engine_tables.specs.Told.{buffer_answer}
use Rattle.engine_tables.proofs.Known.{AreBytes, Known, read_known, refuses}

-- a lent buffer is long enough, or is not
buffered : (b : Bool) (n : ℕ) (after before : List ℕ) {count : Option ℕ} {now : List ℕ}
    → count ≡ pick b (Some n) None → now ≡ pick b after before
    → written (buffer_answer count) now ≡ pick b (written (answered finished 0 n) after) (written (answered buffer_too_short 0 0) before)
buffered true n after before c l = rw (c, l)
buffered false n after before c l = rw (c, l)

-- the code of an empty tape is a single 0
code-empty : code_of [] ≡ 0 ∷ []
unfolding every distinct sentences_in tape places_from pack_functions
code-empty = tape-translated [] tt

zeros-left : (room : ℕ) → pick (leb 1 room) (padded (0 ∷ []) room) (zeros room) ≡ zeros room
zeros-left zero = refl
zeros-left (suc room) =
    let less : suc room - 1 ≡ room = omega arith in
    rw (le-leb 1 (suc room) (omega arith), less)

-- a refusal is that of the table
refused-read : (x : Read) (fault : Fault) → answered (refusal_number fault.refusal) fault.place 0 ≡ read_answer x
    → x ≡ refused (refusal_number fault.refusal) fault.place
refused-read (accepted t) fault e = absurd (refuses fault.refusal (cc))
refused-read (refused n k) fault e = cc

-- and without one the table is allowed
accepted-read : (x : Read) → Known x → {count : ℕ} → answered finished 0 count ≡ read_answer x → (t : Table) × (x ≡ accepted t) × T (allowed t)
accepted-read (accepted t) known e = (t, refl, known)
accepted-read (refused n k) known e = absurd (known (cc))

-- A REFUSED TABLE

module _ {text : Bytes} {fault : Fault} {words : List ℕ} (reads : Reads text (Err fault) words) where
  pub refused-listed : (lent : Bytes) → written (answered (refusal_number fault.refusal) fault.place 0) lent ≡ listed (read text) lent
  refused-listed lent = rw (refused-read (read text) fault reads.answer)

  -- its tape is empty, so that all zeros are left
  pub refused-translated : {room : ℕ} {after : List ℕ} {l : Option ℕ} → LeavesCode (code_of (take 0 words)) room l after
      → written (answered (refusal_number fault.refusal) fault.place 0) after ≡ translated (read text) room
  refused-translated {room = room} l =
      let is = refused-read (read text) fault reads.answer in
      let leaves = rw code-empty at l in
      rw (is, leaves.cells, zeros-left room)

-- AN ACCEPTED TABLE

module _ {text : Bytes} {r : Reading} {words : List ℕ} (reads : Reads text (Ok r) words) where
  pub accepted-listed : AreBytes text → length words ≤ most_words → {lent after : Bytes} {l : Option ℕ}
      → LeavesListing (list_from Start (take most_words (take r.words words))) lent l after
      → written (buffer_answer l) after ≡ listed (read text) lent
  accepted-listed bytes few {lent = lent} l =
      let (t, is, known) = accepted-read (read text) (read_known text bytes) reads.answer in
      let all : length (take r.words words) ≤ most_words = omega (arith, length-take r.words words) in
      let leaves = rw (take_all most_words (take r.words words) all, rw is at reads.tape, tape-listed t known) at l in
      rw is (buffered (leb (length (listing t)) (length lent)) (length (listing t)) (over (listing t) lent) lent leaves.size leaves.cells)

  pub accepted-translated : AreBytes text → {room : ℕ} {after : List ℕ} {l : Option ℕ}
      → LeavesCode (code_of (take r.words words)) room l after → written (buffer_answer l) after ≡ translated (read text) room
  accepted-translated bytes {room = room} l =
      let (t, is, known) = accepted-read (read text) (read_known text bytes) reads.answer in
      let code = pack (translate t) in
      let leaves = rw (rw is at reads.tape, tape-translated t known) at l in
      rw is (buffered (leb (length code) room) (length code) (padded code room) (zeros room) leaves.told leaves.cells)
