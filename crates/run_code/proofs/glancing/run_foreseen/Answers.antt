-- The facts about `glancing::run_foreseen` that the check is told: the start's application may be counted, and what was seen of
-- it is what it comes to.
use native.Mathlib.Omega.{arith}
use Rattle.run_code.proofs.Laws.Glancing.{Begins, ends-unfitted, ends-dropped}
use Rattle.run_code.proofs.Laws.Leaving.{get_d-zeros}
use Rattle.run_code.proofs.glancing.run_foreseen.Goals as goal

pub end_at_once-requires-clause-counts_within : goal.end_at_once-requires-clause-counts_within
end_at_once-requires-clause-counts_within c = λ i. rw c.requires.frames_value (omega (arith, get_d-zeros i))

pub end_at_once-requires-in-Dropped-clause-counts_within : goal.end_at_once-requires-in-Dropped-clause-counts_within
end_at_once-requires-in-Dropped-clause-counts_within c = λ i. rw c.requires.frames_value (omega (arith, get_d-zeros i))

pub returns-in-Nothing : goal.returns-in-Nothing
returns-in-Nothing c =
    let a = c.args in
    let p = c.requires in
    let begins : Begins a.code.now a.start a.frames.now =
    record { counted = p.code_in_bounds; positive = p.start_nonzero; within = p.start_bound; none = p.frames_value } in
    let seen = rw c.in-Nothing.is at c.foresee.ensures in
    let left = c.end_at_once.ensures in
    rw (left.0, left.1.0, left.1.1.0, left.1.1.1)
    (ends-unfitted _ _ _ a.input.now a.output.now _ _ a.values.now begins _ seen.0 seen.1)

pub returns-in-Dropped : goal.returns-in-Dropped
returns-in-Dropped c =
    let a = c.args in
    let p = c.requires in
    let begins : Begins a.code.now a.start a.frames.now =
    record { counted = p.code_in_bounds; positive = p.start_nonzero; within = p.start_bound; none = p.frames_value } in
    let seen = rw c.in-Dropped.is at c.foresee.ensures in
    let left = c.end_at_once-in-Dropped.ensures in
    rw (left.0, left.1.0, left.1.1.0, left.1.1.1)
    (ends-dropped _ _ _ a.input.now a.output.now _ _ a.values.now begins _ seen.0 seen.1)
