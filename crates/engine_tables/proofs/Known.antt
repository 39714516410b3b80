-- What is known of a read table: an accepted one is allowed, a refused one has a number above 0.
use Prim.Native.Nat.{ℕ, suc, ◌≤◌}
use native.Mathlib.Omega.{arith}
use mathlib.Core.Path.{◌≡◌, refl, ap}
use mathlib.Core.Bool.{true, true≢false}
use mathlib.Core.List.{List, [], ◌∷◌}
use lib.Dec.{T}
use mir.Val.{Fits}
use mir.Syntax.{w8}
use lib.ListN.{length, get_or, length-take}
use borrow.Author.Tests.{lt-ltb}
use Rattle.meaning.specs.Choice.{Bytes, every}
use Rattle.meaning.specs.Allowed.{max_table, is_byte, allowed}
use Rattle.meaning.specs.Reading.{Read, accepted, refused, read}
use Rattle.read_table.specs.declared.Reading.{Reading}
use Rattle.read_table.specs.Reads.{LongEnough, Reads, words_read}
use Rattle.std.specs.Prelude.{Result}
use Rattle.answers.specs.declared.Fault.{Fault}
use Rattle.answers.specs.declared.Refusal.{Refusal}
use Rattle.answers.specs.Numbers.{refusal_number}
use Rattle.answers.proofs.Refused.{not-accepted}
use Rattle.meaning.proofs.Laws.Choosing.{true-passed}
use Rattle.meaning_accepting.proofs.Reading.Basics.{both_true}
use Rattle.meaning_accepting.proofs.Reading.Accepted.{accepted-allows}
use Rattle.meaning_refusing.proofs.Refusals.{refused-exactly, refusal-numbers}

-- what is known of a lent slice of bytes
abbrev pub AreBytes : Bytes → Type 0
AreBytes text = (i : ℕ) → Fits w8 (get_or text i 0)

bytes-known : (text : Bytes) → AreBytes text → every is_byte text ≡ true
unfolding every
bytes-known [] h = refl
bytes-known (b ∷ text) h = both_true (lt-ltb b 256 (omega (arith, h 0))) (bytes-known text (λ i. h (suc i)))

abbrev pub Known : Read → Type 0
Known (accepted t) = T (allowed t)
Known (refused number place) = number ≡ 0 → ⊥

pub read_known : (text : Bytes) → AreBytes text → Known (read text)
read_known text h = by (read text) refl
  where
    by : (x : Read) → read text ≡ x → Known x
    by (accepted t) e = true-passed (allowed t) (accepted-allows text t (bytes-known text h) e).within
    by (refused number place) e =
        let low = (refusal-numbers ((refused-exactly text (bytes-known text h) number place).0 e)).0 in
        λ z. omega arith

-- a refusal's number is not 0
pub refuses : (refusal : Refusal) → refusal_number refusal ≡ 0 → ⊥
refuses refusal e = true≢false (rw e at (not-accepted refusal))

-- a refusal is 1 to 8
abbrev pub Numbered : Read → Type 0
Numbered (accepted t) = Unit {0}
Numbered (refused number place) = (1 ≤ number) × (number ≤ 8)

pub read-numbered : (text : Bytes) → AreBytes text → Numbered (read text)
read-numbered text h = by (read text) refl
  where
    by : (x : Read) → read text ≡ x → Numbered x
    by (accepted t) e = tt
    by (refused number place) e = refusal-numbers ((refused-exactly text (bytes-known text h) number place).0 e)

-- TAPES

-- a short one, for a text that is no longer
pub short-tape : {text : Bytes} {tape : List ℕ} {size : ℕ} → length tape ≡ size → length text ≤ size → LongEnough text tape
short-tape e h = record { room = λ low. omega arith }

-- one that has a word for each byte of the longest table
pub long-tape : {text : Bytes} {tape : List ℕ} → length tape ≡ max_table → LongEnough text tape
long-tape e = record { room = λ low. omega arith }

-- its words lie on the tape
pub read-within : {text : Bytes} {r : Result Reading Fault} {tape' : List ℕ} → Reads text r tape' → words_read r ≤ length tape'
read-within {text} {r} {tape'} reads = omega (arith, length-take (words_read r) tape', ap length reads.tape, reads.words)
