-- `engine::translate_and_run` reports the table's run.
use Rattle.std.proofs.lemmas.Result.{err_from_is_err_and}
use Rattle.meaning.specs.Reading.{read}
use Rattle.engine_tables.proofs.Known.{read_known, read-numbered}
use Rattle.engine.proofs.Runs.{unrun-reports, run-reports}
use Rattle.engine.proofs.translate_and_run.Goals as goal

pub returns-in_err-translate_table : goal.returns-in_err-translate_table
returns-in_err-translate_table c =
    let p = err_from_is_err_and c.from_residual.result c.from_residual.ensures.1 in
    rw (p.1, p.2)
    (unrun-reports _ _ _ _ _ (read c.args.table.now) (read-numbered c.args.table.now c.type_inv.table) c.in_err-translate_table.ensures)

pub returns : goal.returns
returns c =
    run-reports _ _ _ _ _ c.run-ran.ensures.leaves (read c.args.table.now)
    (read_known c.args.table.now c.type_inv.table) c.in_ok-translate_table.ensures
