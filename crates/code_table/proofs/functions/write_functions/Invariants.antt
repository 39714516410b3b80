-- The loop invariant and measure of `functions::write_functions`: it keeps what the entries and functions written and those still to come amount to.
use Prim.Native.Nat.{◌-◌}
use Rattle.code_table.proofs.Laws.Declared.{FunctionsSoFar}
use Rattle.code_table.proofs.functions.write_functions.Given as goal

abbrev pub invariant-loop-k : goal.invariant-loop-k
invariant-loop-k l = FunctionsSoFar l.tape l.heads l.initial.code l.initial.at l.code l.at l.k

abbrev pub decreases-loop-k : goal.decreases-loop-k
decreases-loop-k l = l.count - l.k
