-- The facts about `compute_angles` that the check is told: with no blank there are no angles.
use Rattle.code_numbers.specs.Operations.{operation_meant}
use Rattle.run_angles.proofs.Writing.{none-cut}
use Rattle.run_angles.proofs.compute_angles.Goals as goal

pub returns-then-blank-argument : goal.returns-then-blank-argument
returns-then-blank-argument c =
    none-cut (operation_meant c.args.operation) c.place_of-blank.ensures c.args.res.now c.if-blank-argument.true
