-- The facts about `add_part` that the check is told.
use Rattle.read_patterns.proofs.Adding.{part-taken}
use Rattle.read_patterns.proofs.add_part.Goals as goal

pub returns : goal.returns
returns c =
    part-taken c.requires c.in_ok-check_part.ensures.number _ _ _ _ _ c.add_part.ensures.symbols c.add_part.ensures.parts c.put_name-words.ensures
