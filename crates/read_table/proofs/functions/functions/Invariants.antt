-- The loop invariant and the measure of `functions::functions`. The reader goes on in the same text, and reading
-- stands at its place as the tally says; fewer declarations may come after each turn.
use mathlib.Core.Path.{◌≡◌}
use Rattle.std.specs.declared.ops.ControlFlow.TheVariants.{Continue}
use Rattle.read_functions.specs.Functions.{TallyIs, to_come}
use Rattle.read_table.proofs.functions.functions.Given as goal

abbrev pub invariant-loop-next : goal.invariant-loop-next
invariant-loop-next l = record {
  same : l.reader.text.now ≡ l.text;
  stands : TallyIs l.text l.initial.tape l.tape l.heads l.reader.at l.n;
}

abbrev pub decreases-loop-next : goal.decreases-loop-next
decreases-loop-next l = to_come (Continue l.n)
