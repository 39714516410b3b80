-- The loop invariants of `star_within`.
use Prim.Native.Nat.{◌+◌}
use mathlib.Core.Path.{◌≡◌}
use mathlib.Core.Bool.{false}
use Rattle.read_gaps.specs.View.{Plain}
use Rattle.read_gaps.proofs.star_within.Given as goal

abbrev pub invariant-loop-byte : goal.invariant-loop-byte
invariant-loop-byte l = l.any ≡ false → Plain l.text l.from (l.from + l.byte-index)
