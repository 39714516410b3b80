-- The facts about `sentences::sentence_end` that the check is told.
use Rattle.read_functions.proofs.Sentenced.{AfterEquals, equals-read}
use Rattle.read_functions.proofs.sentences.sentence_end.Goals as goal

pub returns : goal.returns
returns c =
    let q : AfterEquals c.args.text.now c.args.from c.args.words c.in_ok-at.at = record { ready = c.requires.1; taken = c.in_ok-at.ensures } in
    rw c.from.ensures (equals-read q c.put.ensures c.in_ok-end.ensures)
