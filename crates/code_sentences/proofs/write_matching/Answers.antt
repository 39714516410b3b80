-- The facts about `write_matching` that the check is told.
use Rattle.code_sentences.proofs.Sentenced.{matched}
use Rattle.code_sentences.proofs.write_matching.Goals as goal

pub returns : goal.returns
returns c =
    matched c.count-from.ensures c.count.ensures c.requires.measures_all.0 c.write_tests-t.ensures.all c.write_conditions-c.ensures
    c.write_stores.ensures
