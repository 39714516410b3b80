-- The facts about `sentences::sentences` that the check is told.
use mathlib.Core.Path.{◌∙◌, ap}
use Rattle.std.specs.Prelude.{Ok}
use Rattle.std.proofs.lemmas.Result.{err_from_is_err_and}
use Rattle.read_functions.proofs.Sentencing.{sentences-start, sentence-stops, one_more_lem}
use Rattle.read_functions.proofs.Sentencing.{sequel-refused, sequel-ends, sequel-goes}
use Rattle.read_functions.proofs.sentences.sentences.Goals as goal

pub loop-s-init : goal.loop-s-init
loop-s-init c = sentences-start _ _ _ _ _ c.requires

pub returns-in_err-s : goal.returns-in_err-s
returns-in_err-s c =
    let p = err_from_is_err_and c.from_residual.result c.from_residual.ensures.1 in
    rw (p.1, p.2) (sentence-stops c.loop-s.invariant c.in_err-s.ensures)

pub returns-in_err-past : goal.returns-in_err-past
returns-in_err-past c =
    let p = err_from_is_err_and c.from_residual-in_err-past.result c.from_residual-in_err-past.ensures.1 in
    rw (p.1, p.2) (sequel-refused (one_more_lem c.loop-s.invariant c.in_ok-s.ensures) c.in_err-past.ensures)

pub returns-in-Ends : goal.returns-in-Ends
returns-in-Ends c =
    let e = c.in_ok-past.was ∙ ap Ok c.in-Ends.is in
    sequel-ends (one_more_lem c.loop-s.invariant c.in_ok-s.ensures) (rw e at c.after_sentence.ensures) c.put.ensures

pub loop-s-preserved : goal.loop-s-preserved
loop-s-preserved c =
    let e = c.in_ok-past.was ∙ ap Ok c.in-Another.is in
    sequel-goes (one_more_lem c.loop-s.invariant c.in_ok-s.ensures) (rw e at c.after_sentence.ensures) c.put-in-Another.ensures
