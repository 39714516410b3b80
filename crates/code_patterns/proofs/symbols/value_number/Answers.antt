-- The facts about `symbols::value_number` that the check is told.
use Rattle.std.proofs.Common.{◌∙◌}
use Rattle.code_patterns.proofs.Laws.Held.{value-found, value-bound}
use Rattle.code_patterns.proofs.symbols.value_number.Goals as goal

pub returns-clause-number : goal.returns-clause-number
returns-clause-number c =
    let a = c.args in
    c.unwrap_or.ensures ∙ value-found a.tape.now a.name.now a.symbols.now c.find_symbol.result c.find_symbol.ensures

pub returns-clause-bound : goal.returns-clause-bound
returns-clause-bound c =
    let a = c.args in
    rw c.unwrap_or.ensures (value-bound a.tape.now a.name.now a.symbols.now c.find_symbol.result c.find_symbol.ensures)
