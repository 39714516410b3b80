-- The facts about `put_line` that the check is told.
use native.Mathlib.Omega.{arith}
use Rattle.program_printing.proofs.Putting.{put-bytes, at-most-then, sum_near}
use Rattle.program_profile.proofs.put_line.Goals as goal

pub returns : goal.returns
returns c =
    sum_near (at-most-then c.put_number.ensures
    (at-most-then (put-bytes c.put_name.ensures)
    (at-most-then (put-bytes c.put.ensures) c.put_number-2.ensures)))
    (omega (arith, c.requires.0.short))
