-- The facts about `add` that the check is told.
use mathlib.Core.Bool.{true, false}
use mathlib.Core.Path.{◌∙◌, ap}
use Rattle.std.specs.Prelude.{Err}
use Rattle.std.proofs.lemmas.Result.{err_from_is_err_and}
use Rattle.read_bookkeeping.proofs.Items.{string-here, variable-here}
use Rattle.read_patterns.proofs.Adding.{takes, refuses}
use Rattle.read_patterns.proofs.add.Goals as goal

pub returns-in-Quoted : goal.returns-in-Quoted
returns-in-Quoted c = takes (string-here c.requires.2 c.in-Quoted.is) (c.in_ok-next.ensures _ c.requires.0)

pub returns-in-Symbol : goal.returns-in-Symbol
returns-in-Symbol c = takes (variable-here c.requires.2 false _ c.in-Symbol.is) c.in_ok-add_symbol.ensures

pub returns : goal.returns
returns c = takes (variable-here c.requires.2 true _ c.in-Part.is) c.in_ok-add_part.ensures

pub returns-in_err-next : goal.returns-in_err-next
returns-in_err-next c =
    let p = err_from_is_err_and c.from_residual.result c.from_residual.ensures.1 in
    refuses (string-here c.requires.2 c.in-Quoted.is) (c.in_err-next.ensures _ c.requires.0) (p.1 ∙ ap Err p.2)

pub returns-in_err-add_symbol : goal.returns-in_err-add_symbol
returns-in_err-add_symbol c =
    let p = err_from_is_err_and c.from_residual-in_err-add_symbol.result c.from_residual-in_err-add_symbol.ensures.1 in
    refuses (variable-here c.requires.2 false _ c.in-Symbol.is) c.in_err-add_symbol.ensures (p.1 ∙ ap Err p.2)

pub returns-in_err-add_part : goal.returns-in_err-add_part
returns-in_err-add_part c =
    let p = err_from_is_err_and c.from_residual-in_err-add_part.result c.from_residual-in_err-add_part.ensures.1 in
    refuses (variable-here c.requires.2 true _ c.in-Part.is) c.in_err-add_part.ensures (p.1 ∙ ap Err p.2)
