-- The fact about `moving::move_few` that the check is told: after its three parts all bytes are moved.
use Rattle.std.proofs.Common.{ap, refl}
use Rattle.run_cells.proofs.Laws.Moving.{none-moved, part_moved, all_moved}
use Rattle.run_cells.proofs.moving.move_few.Goals as goal

pub returns-clause-input_after : goal.returns-clause-input_after
returns-clause-input_after c =
    let four =
    part_moved (none-moved c.requires) c.move_part-four.ensures c.move_part-four.auto.input
    (ap (λ cell. cell.0) c.before-p.ensures) (ap (λ cell. cell.0) c.before-r.ensures) in
    let two =
    part_moved four c.move_part-two.ensures c.move_part-two.auto.input
    (ap (λ cell. cell.0) c.before-p-2.ensures) (ap (λ cell. cell.0) c.before-r-2.ensures) in
    let one =
    part_moved two c.move_part-one.ensures c.move_part-one.auto.input (ap (λ cell. cell.0) c.before-2.ensures) refl in
    (all_moved one).1
