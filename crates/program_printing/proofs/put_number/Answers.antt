-- `program_printing::put_number` writes the digits and the byte after them.
use Rattle.program_printing.proofs.Putting.{counted-put}
use Rattle.program_printing.proofs.put_number.Goals as goal

pub returns : goal.returns
returns c =
    counted-put _ c.decimal-count.ensures.in_bounds.1 c.ranges.n c.decimal-count.ensures.len c.decimal-count.ensures.digits
    c.put_all.ensures c.put.ensures
