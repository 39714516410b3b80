-- The loop invariants and measures of `skip`. What is passed from the start on is what is passed from here.
use Prim.Native.Nat.{◌-◌}
use mathlib.Core.Path.{◌≡◌}
use lib.ListN.{length, drop}
use Rattle.meaning.specs.Tokens as Tokens
use Rattle.read_gaps.proofs.skip.Given as goal

abbrev pub invariant-loop-byte : goal.invariant-loop-byte
invariant-loop-byte l = Tokens.skip Tokens.between l.from (drop l.from l.text) ≡ Tokens.skip Tokens.between l.at (drop l.at l.text)

abbrev pub decreases-loop-byte : goal.decreases-loop-byte
decreases-loop-byte l = length l.text - l.at
