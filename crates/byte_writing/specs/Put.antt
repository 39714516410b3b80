-- What writing some bytes leaves: the place after them, and the buffer with as many of them as it has cells for.
use Rattle.std.specs.Prelude.{ℕ, ◌+◌, ◌^◌, ◌≡◌, List, length}
use Rattle.std.proofs.lemmas.List.Edits.{sets}

pub record Put (at : ℕ) (old bytes : List ℕ) (next : ℕ) (new : List ℕ) : Type 0 where
  pub place : next ≡ at + length bytes
  pub cells : new ≡ sets old at bytes

-- no writer starts past this place, so no place overflows
abbrev pub farthest : ℕ
farthest = 2 ^ 20

-- the byte `0`, which the other digits follow, and the byte that begins an escape
abbrev pub zero_digit : ℕ
zero_digit = 48

abbrev pub backslash : ℕ
backslash = 92
