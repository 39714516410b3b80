-- Bytes written one after another into the program's cells.
use Prim.Native.Nat.{ℕ, ◌+◌, ◌≤◌}
use native.Mathlib.Omega.{arith}
use native.Mathlib.Nat.{zero-add}
use mathlib.Core.Path.{◌≡◌, ◌∙◌}
use mathlib.Core.List.{[], ◌∷◌, ◌++◌}
use lib.ListN.{length, take, length-append}
use lib.Seq.{sets-eq}
use mir.Val.{Fits}
use mir.Syntax.{w64}
use Rattle.meaning.specs.Choice.{Bytes}
use Rattle.io.specs.Digits.{last_digits, IsDigitCount}
use Rattle.byte_writing.specs.declared.ByteWriter.{ByteWriter}
use Rattle.byte_writing.specs.Put.{Put}
use Rattle.byte_writing.specs.Wrote.{Wrote}
use Rattle.byte_writing.proofs.Writing.{wrote_then}
use Rattle.program_printing.specs.Texts.{number_cells, number_then, Prints, WroteAtMost}
use Rattle.program_printing.proofs.Numerals.{fewest-numeral, fewest_short}

-- the digits of a number, and the byte after them
pub counted-put : {n after count : ℕ} (text : Bytes) {old mid new : ByteWriter} → count ≡ length (take count text) → Fits w64 n →
    IsDigitCount 10 1 n count
    → take count text ≡ last_digits 10 count n → Wrote old (take count text) mid → Wrote mid (after ∷ []) new
    → WroteAtMost number_cells old (number_then n after) new
counted-put {n} {count = count} text size fits fewest are p q =
    record {
      wrote = wrote_then (rw (are, fewest-numeral count n fewest) at p) q;
      near = omega (arith, size, fewest_short count n fewest fits, p.put.place, q.put.place);
    }

-- all of the bytes
pub put-bytes : {old new : ByteWriter} {bytes : Bytes} → Wrote old bytes new → WroteAtMost (length bytes) old bytes new
put-bytes p = record { wrote = p; near = omega (arith, p.put.place) }

-- bytes after others
pub at-most-then : {m n : ℕ} {old mid new : ByteWriter} {xs ys : Bytes} → WroteAtMost m old xs mid → WroteAtMost n mid ys new →
    WroteAtMost (m + n) old (xs ++ ys) new
at-most-then p q = record { wrote = wrote_then p.wrote q.wrote; near = omega (arith, p.near, q.near) }

-- a bound by another sum
pub sum_near : {m n : ℕ} {old new : ByteWriter} {bytes : Bytes} → WroteAtMost m old bytes new → m ≤ n → WroteAtMost n old bytes new
sum_near p h = record { wrote = p.wrote; near = omega (arith, p.near) }

-- what is written from the first cell on, and fits, is printed
pub put-prints : {text old new : Bytes} {count : ℕ} → Put 0 old text count new → count ≤ length old → Prints text old count new
put-prints {text} {old} p h =
    let size = p.place ∙ zero-add (length text) in
    record { size = size; cells = p.cells ∙ sets-eq text old 0 (omega (arith, p.place)) ∙ rw zero-add }

pub prints-within : {text old new : Bytes} {count : ℕ} → Prints text old count new → count ≤ length new
prints-within {text} p = rw (p.cells, length-append) (omega (arith, p.size))
