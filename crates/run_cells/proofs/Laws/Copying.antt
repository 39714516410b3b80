-- Bytes copied one by one.
use Prim.Native.Nat.{ℕ, zero, suc, ◌+◌, ◌≤◌, ◌<◌}
use native.Mathlib.Numerals.{add-one}
use native.Mathlib.Omega.{arith}
use mathlib.Core.Path.{◌≡◌, ◌∙◌}
use lib.ListN.{length, get_or, set}
use lib.Seq.{paste, paste-zero, paste-suc}
use Rattle.meaning.specs.Choice.{Bytes}
use Rattle.run_cells.specs.Copied.{half, quarter, copied, CopiedFew}

-- one byte more of a copy
pub pasted-one : (now to from : Bytes) (at i : ℕ) → now ≡ paste to at from i → at + length from ≤ length to → i < length from →
    set now (at + i) (get_or from i 0) ≡ paste to at from (i + 1)
pasted-one now to from at i e h h' =
    let here : at + i < length to = omega arith in
    rw (e, add-one i) (paste-suc to at from i 0 here h')

-- one byte more of so many that are copied
pub copied-next : {j : ℕ} (n : ℕ) (to from : Bytes) (at i : ℕ) → j ≡ i + n →
    set (copied n to at from i) (at + j) (get_or from j 0) ≡ copied (suc n) to at from i
copied-next {j} zero to from at i e = let same : j ≡ i = omega arith in rw same
copied-next (suc n) to from at i e = copied-next n (set to (at + i) (get_or from i 0)) from at (i + 1) (omega arith)

module _ (to from : Bytes) (at : ℕ) (room : at + length from ≤ length to) where
  -- so many bytes more, which makes j
  pasted-on : (n : ℕ) (now : Bytes) (i j : ℕ) → now ≡ paste to at from i → i + n ≡ j → j ≤ length from →
      copied n now at from i ≡ paste to at from j
  pasted-on zero now i j e s h = let same : i ≡ j = omega arith in rw same at e
  pasted-on (suc n) now i j e s h = pasted-on n _ (i + 1) j (pasted-one now to from at i e room (omega arith)) (omega arith) h

  -- the three parts of a short copy
  pub pasted-few : {four two one : ℕ} {first second last : Bytes} →
      CopiedFew half to at from 0 four first → CopiedFew quarter first at from four two second → CopiedFew 1 second at from (four + two) one last →
      last ≡ paste to at from (length from)
  pasted-few {four} {two} {one} f t o =
      let first = f.cells ∙ pasted-on four _ 0 four (paste-zero to at from) (omega arith) (omega arith) in
      let second = t.cells ∙ pasted-on two _ four (four + two) first (omega arith) (omega arith) in
      o.cells ∙ pasted-on one _ (four + two) (length from) second (omega arith) (omega arith)
