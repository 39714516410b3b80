-- The facts about `flat_on` that the check is told.
use Rattle.std.proofs.lemmas.Result.{err_from_is_err_and}
use Rattle.engine_tables.proofs.Flat.{nested-told, flat-told, refused-flat}
use Rattle.engine_tables.proofs.flat_on.Goals as goal

pub returns-in_err-reading : goal.returns-in_err-reading
returns-in_err-reading c =
    let p = err_from_is_err_and c.from_residual.result c.from_residual.ensures.1 in
    rw (p.1, p.2) (refused-flat c.in_err-reading.ensures)

pub returns-in-Some : goal.returns-in-Some
returns-in-Some c = nested-told c.type_inv.table c.in_ok-reading.ensures c.nested_call.ensures c.in-Some.is

pub returns-in-None : goal.returns-in-None
returns-in-None c = flat-told c.type_inv.table c.in_ok-reading.ensures c.nested_call.ensures c.in-None.is
