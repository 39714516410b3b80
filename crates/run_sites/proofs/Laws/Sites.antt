-- A site by its register, and the cells before one.
use Prim.Native.Nat.{ℕ, ◌≤◌}
use native.Mathlib.Omega.{arith}
use mathlib.Core.Path.{◌≡◌, refl}
use mathlib.Core.Bool.{Bool, true, false}
use mathlib.Core.Option.{Option, none, some}
use lib.Dec.{leb}
use borrow.Author.Tests.{ne_eqb, leb-true}
use Rattle.meaning.specs.Instructions.{Site}
use Rattle.meaning.specs.Packing.{site_of}
use Rattle.meaning.specs.Choice.{guard}
use Rattle.meaning.specs.Matching.{cells_before}
use Rattle.run_sites.specs.Sites.{within_field, site_before}

-- the three registers have the numbers 0 to 2
pub site-unknown : (register k : ℕ) → (register ≡ 0 → ⊥) → (register ≡ 1 → ⊥) → (register ≡ 2 → ⊥) → site_of register k ≡ none
site-unknown register k h h' h'' = simp (ne_eqb register 0 h, ne_eqb register 1 h', ne_eqb register 2 h'')

inside-most : (whole n m : ℕ) (b : Bool) → leb m whole ≡ b → some n ≡ guard b (some m) → n ≤ whole
inside-most whole n m true p e = let same : n ≡ m = cc in rw same (leb-true m whole p)
inside-most whole n m false p e = let z : ◌≡◌ {A = ℕ} 0 1 = cc in absurd (omega arith)

counted-most : (whole n : ℕ) (a : Option ℕ) → some n ≡ within_field whole a → n ≤ whole
counted-most whole n none e = let z : ◌≡◌ {A = ℕ} 0 1 = cc in absurd (omega arith)
counted-most whole n (some m) e = inside-most whole n m (leb m whole) refl e

pub site-most : (o : Option Site) (whole place n : ℕ) → some n ≡ site_before o whole place → n ≤ whole
site-most none whole place n e = let z : ◌≡◌ {A = ℕ} 0 1 = cc in absurd (omega arith)
site-most (some s) whole place n e = counted-most whole n (cells_before s whole place) e
