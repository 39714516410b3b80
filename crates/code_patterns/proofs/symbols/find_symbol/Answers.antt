-- The facts about `symbols::find_symbol` that the check is told.
use Rattle.std.proofs.Common.{rules}
use Rattle.std.proofs.lemmas.Iterator.{IsFirst-from_position, YieldsList-from_slice}
use Rattle.code_patterns.specs.Testing.{HasName, LacksName}
use Rattle.code_patterns.proofs.symbols.find_symbol.Goals as goal

pub returns : goal.returns
returns c =
    let a = c.args in
    let has = HasName a.tape.now a.name.now in
    let lacks = LacksName a.tape.now a.name.now in
    IsFirst-from_position _ _ _ has lacks c.position.ensures.ran (YieldsList-from_slice a.symbols.now cc)
    (λ x q k. search rules) (λ x q k. search rules)
