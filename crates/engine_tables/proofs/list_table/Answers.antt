-- The facts about `list_table` that the check is told.
use native.Mathlib.Omega.{arith}
use Rattle.std.proofs.lemmas.Result.{err_from_is_err_and}
use Rattle.engine_tables.proofs.Entries.{refused-listed, accepted-listed}
use Rattle.engine_tables.proofs.list_table.Goals as goal

pub returns-in_err-reading : goal.returns-in_err-reading
returns-in_err-reading c =
    let p = err_from_is_err_and c.from_residual.result c.from_residual.ensures.1 in
    rw (p.1, p.2) (refused-listed c.in_err-reading.ensures c.args.buffer.now)

pub returns : goal.returns
returns c =
    rw c.fitting.ensures (accepted-listed c.in_ok-reading.ensures c.type_inv.table (omega arith) c.list.ensures)
