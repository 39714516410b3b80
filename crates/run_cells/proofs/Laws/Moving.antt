-- Bytes moved one by one, the last first.
use Prim.Native.Nat.{ℕ, zero, suc, ◌+◌, ◌-◌, ◌≤◌, ◌<◌}
use native.Mathlib.Nat.{add-zero, sub-zero}
use native.Mathlib.Omega.{arith}
use mathlib.Core.Path.{◌≡◌, refl, sym, ◌∙◌, ap}
use mathlib.Core.List.{◌++◌}
use lib.ListN.{length, get_or, take, drop, set, take-append-drop, drop_of_length-le, length-drop}
use lib.Seq.{take-suc, drop-cons, append_snoc, set_at, take_at, drop_at, get_or-take, drop-drop, length-take-le}
use Rattle.meaning.specs.Choice.{Bytes}
use Rattle.run_cells.specs.Moved.{moved, MovedSoFar, FewToMove, MovedFew}

module _ (before out : Bytes) (p r : ℕ) where
  after_one : {back : ℕ} {now : Bytes} (k : ℕ) → back ≡ suc k → now ≡ moved k before p out r →
      set now (p - back) (get_or out (r - back) 0) ≡ moved back before p out r
  after_one k s e = rw (s, e)

  -- one byte more, in the loop or without it
  pub moved-next : {back : ℕ} {now : Bytes} → 0 < back → now ≡ moved (back - 1) before p out r →
      set now (p - back) (get_or out (r - back) 0) ≡ moved back before p out r
  moved-next {back} h e = after_one (back - 1) (omega arith) e

  -- n bytes more, from where m are moved
  moved_more : (m n : ℕ) → moved n (moved m before p out r) (p - m) out (r - m) ≡ moved (m + n) before p out r
  moved_more m zero = rw add-zero
  moved_more m (suc n) =
      let more : m + suc n ≡ suc (m + n) = omega arith in
      let cell : p - m - suc n ≡ p - suc (m + n) = omega arith in
      let byte : r - m - suc n ≡ r - suc (m + n) = omega arith in
      rw (more, cell, byte, moved_more m n)

  -- the same, from a state and places that are known by equations
  moved_on : (done n : ℕ) {p' r' : ℕ} {now next : Bytes} → now ≡ moved done before p out r → p' ≡ p - done → r' ≡ r - done →
      next ≡ moved n now p' out r' → next ≡ moved (done + n) before p out r
  moved_on done n e cell byte s = s ∙ rw (e, cell, byte) (moved_more done n)

  -- the cells of in after k bytes
  moved-cells : p ≤ length before → r ≤ length out → (k : ℕ) → k ≤ p → k ≤ r →
      moved k before p out r ≡ take (p - k) before ++ (drop (r - k) (take r out) ++ drop p before)
  moved-cells hp hr zero kp kr =
      let none : length (take r out) ≤ r = rw (length-take-le r out hr) (omega arith) in
      rw (sub-zero p, sub-zero r, drop_of_length-le (take r out) none) (sym (take-append-drop p before))
  moved-cells hp hr (suc k) kp kr =
      let to = p - suc k in
      let from = r - suc k in
      let cell : p - k ≡ suc to = omega arith in
      let byte : r - k ≡ suc from = omega arith in
      let there : from < length (take r out) = rw (length-take-le r out hr) (omega arith) in
      let rest = drop (suc from) (take r out) ++ drop p before in
      rw (
        moved-cells hp hr k (omega arith) (omega arith),
        cell,
        byte,
        take-suc before to 0 (omega arith),
        append_snoc (take to before) (get_or before to 0) rest,
        drop-cons (take r out) from 0 there,
        get_or-take r out from 0 (omega arith),
      )
      (set_at (take to before) (get_or before to 0) rest (get_or out from 0) to (length-take-le to before (omega arith)))

-- T-05: after each byte those moved stand in order just below the old p, and no other cell of in has changed
pub byte-by-byte : {before out : Bytes} {r p : ℕ} → r ≤ length out → p ≤ length before → (k : ℕ) → k ≤ r → k ≤ p →
    MovedSoFar before p out r k (moved k before p out r)
byte-by-byte {before} {out} {r} {p} there inside k few room =
    let kept = take (p - k) before in
    let parts = drop (r - k) (take r out) in
    let right = drop p before in
    let cells = moved-cells before out p r inside there k room few in
    let long : length kept ≡ p - k = length-take-le (p - k) before (omega arith) in
    let many : length parts ≡ k = rw (length-drop (r - k) (take r out), length-take-le r out there) (omega arith) in
    let from_start : drop (p - k) (moved k before p out r) ≡ parts ++ right = rw cells (drop_at kept (parts ++ right) (p - k) long) in
    let in_order : take k (drop (p - k) (moved k before p out r)) ≡ parts = rw from_start (take_at parts right k many) in
    let end : p ≡ (p - k) + k = omega arith in
    record {
      in_order = in_order;
      below = rw cells (take_at kept (parts ++ right) (p - k) long);
      above =
          ap (λ n. drop n (moved k before p out r)) end ∙ sym (drop-drop k (p - k) (moved k before p out r)) ∙
          rw from_start (drop_at parts right k many);
    }

-- A SHORT MOVE, IN THREE PARTS

-- a part of n bytes, where so many are left
pub few-moved : (n : ℕ) {p first r count : ℕ} {before out now : Bytes} → FewToMove (n + n) before p out first r → count ≡ r - first →
    n ≤ count → now ≡ moved n before p out r → MovedFew n before p out first r n now
few-moved n b e h cells = record { cells = cells; within = omega arith; left = omega arith }

-- a short move so far: `done` bytes are moved, and fewer than `few` are left, those before r', to be moved to before p'
pub record ShortMove (few : ℕ) (before : Bytes) (p : ℕ) (out : Bytes) (first r : ℕ) (now : Bytes) (p' r' : ℕ) : Type 0 where
  pub done : ℕ
  pub within : first + done ≤ r
  pub cells : now ≡ moved done before p out r
  pub cell : p' ≡ p - done
  pub byte : r' ≡ r - done
  pub rest : FewToMove few now p' out first r'

fewer-left : {few fewer p' r' p'' r'' first n : ℕ} {out now next : Bytes} → FewToMove few now p' out first r' →
    MovedFew fewer now p' out first r' n next → length next ≡ length now → p'' ≡ p' - n → r'' ≡ r' - n → FewToMove fewer next p'' out first r''
fewer-left b m e cell byte =
    record { order = omega arith; there = omega arith; room = omega arith; inside = omega arith; left = omega arith }

-- with fewer than one left, all are moved
none_left : (first r done r' : ℕ) → first + done ≤ r → r' ≡ r - done → first ≤ r' → r' < first + 1 → done ≡ r - first
none_left first r done r' within byte order left = omega arith

module _ {before out : Bytes} {p first r : ℕ} where
  pub none-moved : {few : ℕ} → FewToMove few before p out first r → ShortMove few before p out first r before p r
  none-moved b = record { done = 0; within = omega arith; cells = refl; cell = rw sub-zero; byte = rw sub-zero; rest = b }

  -- one part more
  pub part_moved : {few fewer p' r' p'' r'' n : ℕ} {now next : Bytes} → ShortMove few before p out first r now p' r' →
      MovedFew fewer now p' out first r' n next → length next ≡ length now → p'' ≡ p' - n → r'' ≡ r' - n →
      ShortMove fewer before p out first r next p'' r''
  part_moved {n = n} s m e cell byte =
      record {
        done = s.done + n;
        within = omega arith;
        cells = moved_on before out p r s.done n s.cells s.cell s.byte m.cells;
        cell = omega arith;
        byte = omega arith;
        rest = fewer-left s.rest m e cell byte;
      }

  -- the argument's start, and its cells
  pub all_moved : {p' r' : ℕ} {now : Bytes} → ShortMove 1 before p out first r now p' r' →
      (p' ≡ p - (r - first)) × (now ≡ moved (r - first) before p out r)
  all_moved {r' = r'} s =
      let all = none_left first r s.done r' s.within s.byte s.rest.order s.rest.left in
      (rw all at s.cell, rw all at s.cells)
