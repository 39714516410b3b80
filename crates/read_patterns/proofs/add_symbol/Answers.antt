-- The facts about `add_symbol` that the check is told.
use Rattle.read_patterns.proofs.Adding.{symbol-taken}
use Rattle.read_patterns.proofs.add_symbol.Goals as goal

pub returns : goal.returns
returns c =
    symbol-taken c.requires c.in_ok-check_symbol.ensures.number _ _ _ _ _ _ (rw c.symbols.ensures at c.is_among-known.ensures)
    c.remember.ensures.symbols c.remember.ensures.parts c.put_name-words.ensures
