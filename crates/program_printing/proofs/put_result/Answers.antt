-- `program_printing::put_result` writes three numbers, the emissions, the result and a line end.
use Rattle.std.proofs.Common.{arith}
use Rattle.program_printing.proofs.Putting.{put-bytes, at-most-then, sum_near}
use Rattle.program_printing.proofs.put_result.Goals as goal

pub returns : goal.returns
returns c =
    sum_near (at-most-then c.put_number.ensures
    (at-most-then c.put_number-2.ensures
    (at-most-then (rw c.from.ensures at c.put_number-3.ensures)
    (at-most-then (put-bytes c.put_all.ensures)
    (at-most-then (put-bytes c.put_all-2.ensures) (put-bytes c.put.ensures))))))
    (omega arith)
