-- The facts about `expressions::join_symbol` that the check is told.
use mathlib.Core.Path.{sym}
use Rattle.std.proofs.lemmas.Result.{err_from_is_err_and}
use Rattle.read_functions.proofs.Joining.{symbol-bad, symbol-joined}
use Rattle.read_functions.proofs.expressions.join_symbol.Goals as goal

pub returns-in_err-check_later : goal.returns-in_err-check_later
returns-in_err-check_later c =
    let p = err_from_is_err_and c.from_residual.result c.from_residual.ensures.1 in
    let e = c.in_err-check_later.ensures in
    rw (p.1, p.2) (symbol-bad _ c.requires c.if-s-ge-MAX_ITEMS.false (rw c.symbols.ensures at e.number) e.place)

pub returns : goal.returns
returns c =
    symbol-joined _ c.requires c.if-s-ge-MAX_ITEMS.false (sym (rw c.symbols.ensures at c.in_ok-check_later.ensures.number))
    c.take_variable.ensures
