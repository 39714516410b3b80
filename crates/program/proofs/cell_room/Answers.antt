-- `program::cell_room` gives what is lent.
use Rattle.std.proofs.Common.{refl}
use Rattle.program.specs.Printed.{lent_bytes}
use Rattle.program.proofs.cell_room.Goals as goal

pub returns : goal.returns
unfolding lent_bytes
returns c = refl
