-- The facts about `sentences::sentence` that the check is told.
use Rattle.std.proofs.lemmas.Result.{err_from_is_err_and}
use Rattle.read_functions.proofs.Sentenced.{AfterPattern, AfterConditions, pattern-stops, pattern-done, pattern-ready, pattern-variables}
use Rattle.read_functions.proofs.Sentenced.{conditions-stop, conditions-done, sentence-reads}
use Rattle.read_functions.proofs.sentences.sentence.Goals as goal

pub returns-in_err-p : goal.returns-in_err-p
returns-in_err-p c =
    let p = err_from_is_err_and c.from_residual.result c.from_residual.ensures.1 in
    rw (p.1, p.2) (pattern-stops c.in_err-p.ensures)

pub conditions-requires : goal.conditions-requires
conditions-requires c =
    let k = pattern-done c.in_ok-p.ensures c.requires in
    (pattern-ready k, pattern-variables k)

pub returns-in_err-c : goal.returns-in_err-c
returns-in_err-c c =
    let p = err_from_is_err_and c.from_residual-in_err-c.result c.from_residual-in_err-c.ensures.1 in
    rw (p.1, p.2) (conditions-stop (pattern-done c.in_ok-p.ensures c.requires) c.in_err-c.ensures)

pub returns : goal.returns
returns c =
    sentence-reads (conditions-done (pattern-done c.in_ok-p.ensures c.requires) c.in_ok-c.ensures) c.sentence_end.ensures
