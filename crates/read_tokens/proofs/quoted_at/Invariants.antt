-- The loop invariants and measures of `quoted_at`. The string goes on from here with the characters so far.
use Prim.Native.Nat.{◌-◌}
use lib.ListN.{length}
use Rattle.read_tokens.proofs.Strings.{Quoted-to}
use Rattle.read_tokens.proofs.quoted_at.Given as goal

abbrev pub invariant-loop-past : goal.invariant-loop-past
invariant-loop-past l = Quoted-to l.text l.place l.at l.count

abbrev pub decreases-loop-past : goal.decreases-loop-past
decreases-loop-past l = length l.text - l.at
