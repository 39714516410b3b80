-- The facts about `condition_on` that the check is told.
use mathlib.Core.Path.{sym, ◌∙◌}
use Rattle.std.proofs.lemmas.Result.{err_from_is_err_and}
use Rattle.meaning.specs.Tokens.{inside}
use Rattle.read_tokens.proofs.Stream.{comes}
use Rattle.read_bookkeeping.proofs.Going.{checked-right}
use Rattle.read_conditions.proofs.Conditioned.{OnToken, OnVariable, on-no-variable, on-variable, on-inside, on-wrong, on-before}
use Rattle.read_conditions.proofs.Conditioned.{on-reads}
use Rattle.read_conditions.proofs.condition_on.Goals.{After-lex-t, In-Some}
use Rattle.read_conditions.proofs.condition_on.Goals as goal

looked : (c : After-lex-t) → let a = c.args in OnToken a.text.now a.variables.now a.from a.words c.lex-t.result
looked c =
    record { known = c.requires.1; ready = c.requires.0; first = comes _ inside _ _ c.requires.0.inside c.lex-t.ensures }

variable : (c : In-Some) → OnVariable (looked (goal.at.In-Some c).After-lex-t) c.in-Some.v
variable c = on-variable (sym c.in-Some.is ∙ c.variable_in.ensures)

pub returns-in_default : goal.returns-in_default
returns-in_default c =
    on-no-variable (looked (goal.at.returns-in_default c).After-lex-t) _ (sym c.in_default.is ∙ c.variable_in.ensures)
    c.refuse.ensures

pub check_subject-requires : goal.check_subject-requires
check_subject-requires c = (on-inside (variable (goal.at.check_subject-requires c).In-Some), c.requires.1)

pub returns-in_err-check_subject : goal.returns-in_err-check_subject
returns-in_err-check_subject c =
    let p = err_from_is_err_and c.from_residual.result c.from_residual.ensures.1 in
    rw (p.1, p.2)
    (on-wrong (variable (goal.at.returns-in_err-check_subject c).In-Some) _ c.in_err-check_subject.was
    c.check_subject.ensures.number c.check_subject.ensures.place)

pub condition_end-requires : goal.condition_end-requires
condition_end-requires c =
    on-before (variable (goal.at.condition_end-requires c).In-Some)
    (checked-right c.check_subject.ensures.number c.in_ok-check_subject.was)

pub returns : goal.returns
returns c =
    on-reads (variable (goal.at.returns c).In-Some) (checked-right c.check_subject.ensures.number c.in_ok-check_subject.was) _
    c.condition_end.ensures
