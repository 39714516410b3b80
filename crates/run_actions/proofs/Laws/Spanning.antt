-- What a span's count says of its register and of the cells that are there.
use Prim.Native.Nat.{ℕ, zero, suc, ◌+◌, ◌-◌, ◌≤◌, ◌<◌}
use native.Mathlib.Omega.{arith}
use mathlib.Core.Path.{◌≡◌, refl, ap}
use mathlib.Core.Bool.{Bool, true, false}
use mathlib.Core.Option.{Option, none, some}
use lib.Dec.{leb}
use borrow.Author.Tests.{le-leb, lt-leb, leb-true, leb-false, ne_eqb}
use mathlib.Core.List.{List}
use Rattle.meaning.specs.Choice.{Bytes, pick}
use Rattle.meaning.specs.Packing.{length_of}
use Rattle.meaning.specs.Instructions.{Length as Register}
use Rattle.meaning.specs.Machine.{Local, register_of}
use Rattle.std.specs.Prelude.{Result, Ok, Err}
use Rattle.run_code_places.specs.declared.Wrong.{Wrong}
use Rattle.run_cells.specs.Places.{InCell, place}
use Rattle.run_actions.specs.States.{frame_word, local_at, Held}
use Rattle.run_actions.specs.Spans.{wrong, within_cells, cells_of, reached_by}

pub fits-within : (n m there : ℕ) → n ≡ m → m ≤ there → Ok m ≡ within_cells n there
fits-within n m there e h = rw (e, le-leb m there h)

pub not_within : (n there : ℕ) → there < n → Err wrong ≡ within_cells n there
not_within n there h = rw (lt-leb n there h)

-- a span that is counted has a register, and its cells are there
pub record Counted (o : Option Register) (add back : ℕ) (l : Local) (there n : ℕ) : Type 0 where
  pub register : Register
  pub known : o ≡ some register
  pub amount : register_of register l + add - back ≡ n
  pub enough : n ≤ there

count-picked : (b : Bool) (m there n : ℕ) → leb m there ≡ b → Ok n ≡ pick b (Ok m) (Err wrong) → (m ≡ n) × (n ≤ there)
count-picked true m there n p e = let q : m ≡ n = cc in (q, rw q at (leb-true m there p))
count-picked false m there n p e = let z : ◌≡◌ {A = ℕ} 0 1 = cc in absurd (omega arith)

module _ (add back : ℕ) (l : Local) (there : ℕ) where
  pub counted : (o : Option Register) (n : ℕ) → Ok n ≡ cells_of o add back l there → Counted o add back l there n
  counted none n e = let z : ◌≡◌ {A = ℕ} 0 1 = cc in absurd (omega arith)
  counted (some r) n e =
      let p = count-picked (leb (register_of r l + add - back) there) (register_of r l + add - back) there n refl e in
      record { register = r; known = refl; amount = p.0; enough = p.1 }

wrong-picked : (b : Bool) (m there : ℕ) → leb m there ≡ b → Err wrong ≡ pick b (Ok m) (Err wrong) → there < m
wrong-picked true m there p e = let z : ◌≡◌ {A = ℕ} 0 1 = cc in absurd (omega arith)
wrong-picked false m there p e = leb-false m there p

-- a span that isn't counted has no register, or its cells are not there
pub not-counted : (n there : ℕ) → Err wrong ≡ within_cells n there → there < n
not-counted n there e = wrong-picked (leb n there) n there refl e

-- the lengths of the registers stand in a frame by the registers' numbers
pub by_number : (k : ℕ) (frames : List ℕ) (values : Bytes) → Held k frames → (add back there n : ℕ) → n < 4 →
    within_cells (frame_word k n frames + add - back) there ≡ cells_of (length_of n) add back (local_at k frames values) there
by_number k frames values held add back there zero h = rw held.null
by_number k frames values held add back there (suc zero) h = refl
by_number k frames values held add back there (suc (suc zero)) h = refl
by_number k frames values held add back there (suc (suc (suc zero))) h = rw held.right
by_number k frames values held add back there (suc (suc (suc (suc n)))) h = absurd (omega arith)

-- another number is that of no register
pub no_number : (n : ℕ) → 4 ≤ n → length_of n ≡ none
no_number n h = simp (ne_eqb n 0 (omega arith), ne_eqb n 1 (omega arith), ne_eqb n 2 (omega arith), ne_eqb n 3 (omega arith))

-- a cell that is reached is as many cells on as were counted
pub record Led (cells : Result ℕ Wrong) (from : ℕ) (to : InCell) : Type 0 where
  pub on : ℕ
  pub count : Ok on ≡ cells
  pub sum : to.0 ≡ from + on

pub led : (cells : Result ℕ Wrong) (from : ℕ) (to : InCell) → Ok to ≡ reached_by cells from → Led cells from to
led (Ok n) from to e = let p : to ≡ place (from + n) = cc in record { on = n; count = refl; sum = ap (λ c. c.0) p }
led (Err w) from to e = let z : ◌≡◌ {A = ℕ} 0 1 = cc in absurd (omega arith)

pub not-led : (cells : Result ℕ Wrong) (from : ℕ) {w : Wrong} → Err w ≡ reached_by cells from → Err wrong ≡ cells
not-led (Ok n) from e = let z : ◌≡◌ {A = ℕ} 0 1 = cc in absurd (omega arith)
not-led (Err w) from e = refl
