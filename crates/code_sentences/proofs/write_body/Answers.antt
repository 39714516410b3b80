-- The facts about `write_body` that the check is told.
use Rattle.code_sentences.proofs.Sentenced.{bodied}
use Rattle.code_sentences.proofs.write_body.Goals as goal

pub returns : goal.returns
returns c = bodied c.requires.0 c.write_matching-matched.ensures c.write_expression-walk.ensures
