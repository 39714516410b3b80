-- The facts about `conditions::write_condition` that the check is told.
use Rattle.std.proofs.Common.{◌≡◌, ◌+◌, ◌-◌, arith}
use Rattle.code_patterns.proofs.Laws.Conditioned.{condition-written}
use Rattle.code_patterns.proofs.conditions.write_condition.Goals as goal

pub returns : goal.returns
returns c =
    let from = c.args.c.next + 1 in
    let size = c.reach-size.result in
    let z : from + size - from ≡ size = omega arith in
    condition-written _ _ _ _ c.requires.in_conditions.0 c.requires.in_conditions.1 c.word_at-carried.ensures.0 c.reach-size.ensures
    (rw z at c.condition_word.ensures.0) c.put.ensures
