-- The facts about `translate_table` that the check is told.
use mathlib.Core.Path.{◌∙◌, ap}
use Rattle.std.proofs.lemmas.Result.{err_from_is_err_and}
use Rattle.read_table.specs.Reads.{words_read}
use Rattle.engine_tables.proofs.Entries.{refused-translated, accepted-translated}
use Rattle.engine_tables.proofs.translate_table.Goals as goal

pub returns-in_err-reading : goal.returns-in_err-reading
returns-in_err-reading c =
    let p = err_from_is_err_and c.from_residual.result c.from_residual.ensures.1 in
    let e = c.words_read-words.ensures ∙ ap words_read c.in_err-reading.was in
    rw (p.1, p.2) (refused-translated c.in_err-reading.ensures (rw e at c.translate-translated.ensures))

pub returns : goal.returns
returns c =
    let e = c.words_read-words.ensures ∙ ap words_read c.in_ok-reading.was in
    rw c.fitting.ensures (accepted-translated c.in_ok-reading.ensures c.type_inv.table (rw e at c.translate-translated.ensures))
