-- Which strings and places are looked for.
use Prim.Native.Nat.{ℕ, ◌+◌, ◌-◌, ◌≤◌, ◌<◌}
use mathlib.Core.Path.{◌≡◌, refl}
use mathlib.Core.Bool.{Bool, true, false}
use lib.Dec.{leb}
use borrow.Author.Tests.{le-leb, lt-leb}
use Rattle.meaning.specs.Choice.{both}
use Rattle.run_finding.specs.Occurrences.{suited}

both_false : (a : Bool) → both a false ≡ false
both_false true = refl
both_false false = refl

module _ (size whole places first : ℕ) where
  pub too_long : 64 < size → suited size whole places first ≡ false
  too_long h = rw (lt-leb size 64 h, both_false (leb 1 size))

  pub too_short : whole < size → suited size whole places first ≡ false
  too_short h = rw (lt-leb size whole h, both_false (leb size 64), both_false (leb 1 size))

  pub too_far : whole - size + 1 < first + places → suited size whole places first ≡ false
  too_far h = rw (lt-leb (first + places) (whole - size + 1) h, both_false (leb size whole), both_false (leb size 64), both_false (leb 1 size))

  pub suits : 1 ≤ size → size ≤ 64 → size ≤ whole → first + places ≤ whole - size + 1 → suited size whole places first ≡ true
  suits h h' h'' h''' = rw (le-leb 1 size h, le-leb size 64 h', le-leb size whole h'', le-leb (first + places) (whole - size + 1) h''')
