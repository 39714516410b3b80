-- What writing leaves in a lent slice: words from a place on, as far as the slice goes.
use Rattle.std.specs.Prelude.{ℕ, ◌+◌, ◌-◌, ◌≡◌, List, ◌++◌, length, take, replicate}
use Rattle.std.proofs.lemmas.List.Edits.{sets}

abbrev pub cleared_from : ℕ → List ℕ → List ℕ
cleared_from start l = take start l ++ replicate (length l - start) 0

-- `words` were written from `at` on, and the place is now just after them
pub record Wrote (code : List ℕ) (at : ℕ) (words code' : List ℕ) (at' : ℕ) : Type 0 where
  pub left : code' ≡ sets code at words
  pub next : at' ≡ at + length words

-- to write `words'` from the new place on comes to the same as to write `words` from the old one
pub record Same (code : List ℕ) (at : ℕ) (words code' : List ℕ) (at' : ℕ) (words' : List ℕ) : Type 0 where
  pub left : sets code' at' words' ≡ sets code at words
  pub next : at' + length words' ≡ at + length words
