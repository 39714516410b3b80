-- Laws of what translating leaves: the code with zeros after it, or zeros.
use Prim.Native.Nat.{ℕ, zero, suc, ◌-◌, ◌≤◌, ◌<◌}
use native.Mathlib.Omega.{arith}
use native.Mathlib.Nat.{zero-add}
use mathlib.Core.Path.{◌≡◌, ap, ◌∙◌}
use mathlib.Core.Bool.{true, false}
use mathlib.Core.List.{List, ◌++◌}
use borrow.Author.Tests.{le-leb, lt-leb}
use lib.Dec.{leb}
use lib.ListN.{length, drop, length-replicate}
use lib.Seq.{sets-eq, length-sets}
use Rattle.std.specs.Prelude.{Some, None}
use Rattle.meaning.specs.Leaving.{zeros}
use Rattle.code_words.specs.Writing.{cleared_from, Wrote}
use Rattle.code_table.specs.Leaves.{LeavesCode}

pub cleared-whole : (l : List ℕ) → cleared_from 0 l ≡ zeros (length l)
cleared-whole l = let e : length l - 0 ≡ length l = omega arith in rw e

-- WHAT IS LEFT

drop-zeros : (n m : ℕ) → ◌≡◌ {A = List ℕ} (drop n (zeros m)) (zeros (m - n))
drop-zeros zero m = let e : m - 0 ≡ m = omega arith in rw e
drop-zeros (suc n) zero = let e : 0 - suc n ≡ 0 = omega arith in rw e
drop-zeros (suc n) (suc m) = let e : suc m - suc n ≡ m - n = omega arith in rw e (drop-zeros n m)

module _ {words code₁ code₂ : List ℕ} {r : ℕ} (lent : List ℕ) (cleared : code₁ ≡ cleared_from 0 lent) (wrote : Wrote code₁ 0 words code₂ r) where
  empty : code₁ ≡ zeros (length lent)
  empty = cleared ∙ cleared-whole lent

  room : length code₁ ≡ length lent
  room = ap length empty ∙ length-replicate (length lent) 0

  same-room : length code₂ ≡ length lent
  same-room = ap length wrote.left ∙ length-sets code₁ 0 words ∙ room

  pub leaves-code : r ≤ length code₂ → LeavesCode words (length lent) (Some r) code₂
  leaves-code h =
      let fits : leb (length words) (length lent) ≡ true = le-leb (length words) (length lent) (omega (arith, same-room, wrote.next)) in
      record {
        told = let e : r ≡ length words = omega (arith, wrote.next) in rw (fits, e);
        cells =
            rw fits (wrote.left ∙ sets-eq words code₁ 0 (omega (arith, same-room, room, wrote.next))
            ∙ rw (zero-add, empty) (ap (λ (l : List ℕ). words ++ l) (drop-zeros (length words) (length lent))));
      }

  pub leaves_nothing : {code₃ : List ℕ} → length code₂ < r → code₃ ≡ cleared_from 0 code₂ →
      LeavesCode words (length lent) None code₃
  leaves_nothing h e =
      let short : leb (length words) (length lent) ≡ false = lt-leb (length words) (length lent) (omega (arith, same-room, wrote.next)) in
      record { told = rw short; cells = rw short (e ∙ cleared-whole code₂ ∙ rw same-room) }
