-- The facts about `check_part` that the check is told.
use mathlib.Core.Path.{refl}
use Rattle.std.proofs.lemmas.Result.{err_from_is_err_and}
use Rattle.meaning.specs.Answers.{wrong_pattern_variable}
use Rattle.answers.proofs.Refused.{not-accepted}
use Rattle.read_patterns.proofs.Faults.{refused-here, passed-here, part-checked}
use Rattle.read_patterns.proofs.check_part.Goals as goal

pub returns-in_err-refuse_if-3-clause-number : goal.returns-in_err-refuse_if-3-clause-number
returns-in_err-refuse_if-3-clause-number c =
    let p = err_from_is_err_and c.from_residual-in_err-refuse_if-3.result c.from_residual-in_err-refuse_if-3.ensures.1 in
    rw (p.1, p.2)
    (part-checked c.args.text.now c.args.variables.now c.args.x c.requires.1 _ _ _ c.args.ending c.len.ensures
    (rw c.symbols.ensures at c.is_among-shared.ensures) refl
    (passed-here _ 2 (rw c.parts.ensures at c.in_ok-refuse_if.ensures.number) (passed-here _ 3 c.in_ok-refuse_if-2.ensures.number
    (refused-here c.is_among-shared.result wrong_pattern_variable _ (not-accepted _) c.in_err-refuse_if-3.ensures.number))))

pub returns-in_err-refuse_if-4-clause-number : goal.returns-in_err-refuse_if-4-clause-number
returns-in_err-refuse_if-4-clause-number c =
    let p = err_from_is_err_and c.from_residual-in_err-refuse_if-4.result c.from_residual-in_err-refuse_if-4.ensures.1 in
    rw (p.1, p.2)
    (part-checked c.args.text.now c.args.variables.now c.args.x c.requires.1 _ _ _ c.args.ending c.len.ensures
    (rw c.symbols.ensures at c.is_among-shared.ensures) (rw c.parts-2.ensures at c.is_among-known.ensures)
    (passed-here _ 2 (rw c.parts.ensures at c.in_ok-refuse_if.ensures.number) (passed-here _ 3 c.in_ok-refuse_if-2.ensures.number
    (passed-here _ 5 c.in_ok-refuse_if-3.ensures.number (refused-here c.is_among-known.result wrong_pattern_variable _ (not-accepted _) c.in_err-refuse_if-4.ensures.number)))))

pub returns-clause-number : goal.returns-clause-number
returns-clause-number c =
    part-checked c.args.text.now c.args.variables.now c.args.x c.requires.1 _ _ _ c.args.ending c.len.ensures
    (rw c.symbols.ensures at c.is_among-shared.ensures) (rw c.parts-2.ensures at c.is_among-known.ensures)
    (passed-here _ 2 (rw c.parts.ensures at c.in_ok-refuse_if.ensures.number) (passed-here _ 3 c.in_ok-refuse_if-2.ensures.number
    (passed-here _ 5 c.in_ok-refuse_if-3.ensures.number (passed-here _ 5 c.in_ok-refuse_if-4.ensures.number c.refuse_if-5.ensures.number))))
