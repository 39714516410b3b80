-- The facts about `functions::body` that the check is told.
use mathlib.Core.Path.{refl}
use Rattle.read_functions.proofs.Functioned.{AfterBrace, body_reads}
use Rattle.read_functions.proofs.functions.body.Goals as goal

pub returns : goal.returns
returns c =
    let b : AfterBrace c.args.text.now c.args.words c.args.name c.in_ok-at.at = record { name = c.requires; taken = c.in_ok-at.ensures } in
    body_reads b refl c.put_name-to.ensures c.sentences.ensures
