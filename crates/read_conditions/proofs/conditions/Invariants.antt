-- The loop invariants and measures of `conditions`. The conditions from the start are those from here.
use Rattle.read_bookkeeping.specs.Items.{symbol_names, part_names}
use Rattle.read_conditions.proofs.Conditioned.{Conditioned}
use Rattle.read_conditions.proofs.conditions.Given as goal

abbrev pub invariant-loop-s : goal.invariant-loop-s
invariant-loop-s l =
    Conditioned l.text l.initial.tape (symbol_names l.text l.variables) (part_names l.text l.variables)
    l.from l.words l.tape l.s.at l.s.words l.left

abbrev pub decreases-loop-s : goal.decreases-loop-s
decreases-loop-s l = l.left
