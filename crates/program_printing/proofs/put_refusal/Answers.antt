-- `program_printing::put_refusal` writes two numbers.
use Rattle.std.proofs.Common.{rules}
use Rattle.program_printing.proofs.Putting.{at-most-then}
use Rattle.program_printing.proofs.put_refusal.Goals as goal

pub returns : goal.returns
returns c =
    let both = at-most-then c.put_number.ensures c.put_number-2.ensures in
    search rules
