-- The loop invariants and measures of `functions::find_heads`. The loop keeps what the heads found and those still to come amount to.
use Prim.Native.Nat.{◌-◌}
use lib.ListN.{length}
use Rattle.code_table.proofs.Laws.Declared.{HeadsSoFar}
use Rattle.code_table.proofs.functions.find_heads.Given as goal

abbrev pub invariant-loop-i : goal.invariant-loop-i
invariant-loop-i l = HeadsSoFar l.tape l.heads l.count l.i

abbrev pub decreases-loop-i : goal.decreases-loop-i
decreases-loop-i l = length l.tape - l.i
