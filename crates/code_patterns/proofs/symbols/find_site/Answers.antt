-- The facts about `symbols::find_site` that the check is told.
use Rattle.std.proofs.Common.{rules}
use Rattle.code_patterns.proofs.Laws.Held.{none-found, site-found}
use Rattle.code_patterns.proofs.symbols.find_site.Goals as goal

pub returns-in_err-k : goal.returns-in_err-k
returns-in_err-k c = let a = c.args in search (rules, none-found a.tape.now a.name.now a.symbols.now)

pub returns : goal.returns
returns c = let a = c.args in site-found a.tape.now a.name.now a.symbols.now c.in_ok-k.k _ c.in_ok-k.ensures
