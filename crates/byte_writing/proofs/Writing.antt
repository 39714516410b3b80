-- Bytes written one after another into a buffer that may end before them.
use Prim.Native.Nat.{ℕ, ◌+◌, ◌<◌}
use native.Mathlib.Omega.{arith}
use native.Mathlib.Nat.{add-zero}
use mathlib.Core.Path.{◌≡◌, refl, ◌∙◌, ap}
use mathlib.Core.List.{List, [], ◌∷◌, ◌++◌}
use lib.ListN.{length, take, get_or, length-append}
use lib.Seq.{length-sets}
use Rattle.std.proofs.lemmas.List.{take_more}
use Rattle.meaning.proofs.Laws.Storing.{sets-append}
use Rattle.byte_writing.specs.declared.ByteWriter.{ByteWriter}
use Rattle.byte_writing.specs.Put.{Put}
use Rattle.byte_writing.specs.Wrote.{Wrote}

pub put-none : {at : ℕ} {old : List ℕ} → Put at old [] at old
put-none {at} {old} = record { place = rw add-zero; cells = refl }

pub put_then : {at : ℕ} {old xs : List ℕ} {next : ℕ} {mid ys : List ℕ} {last : ℕ} {new : List ℕ} → Put at old xs next mid → Put next mid ys last new →
    Put at old (xs ++ ys) last new
put_then {at} {old} {xs} {next} {mid} {ys} p q =
    record {
      place = rw length-append (omega (arith, p.place, q.place));
      cells = q.cells ∙ rw (p.place, p.cells) (sets-append old at xs ys);
    }

pub put-length : {at : ℕ} {old bytes : List ℕ} {next : ℕ} {new : List ℕ} → Put at old bytes next new → length new ≡ length old
put-length {at} {old} {bytes} p = ap length p.cells ∙ length-sets old at bytes

pub wrote-none : {w : ByteWriter} → Wrote w [] w
wrote-none = record { same = refl; put = put-none }

pub wrote_then : {old mid new : ByteWriter} {xs ys : List ℕ} → Wrote old xs mid → Wrote mid ys new → Wrote old (xs ++ ys) new
wrote_then p q = record { same = q.same ∙ p.same; put = put_then p.put q.put }

-- so many bytes of a text, and the one after them
pub wrote_more : {old mid new : ByteWriter} (text : List ℕ) (i : ℕ) → i < length text → Wrote old (take i text) mid →
    Wrote mid (get_or text i 0 ∷ []) new → Wrote old (take (i + 1) text) new
wrote_more text i h p q = rw (take_more text i 0 h) (wrote_then p q)
