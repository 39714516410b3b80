-- The facts about `pass_call` that the check is told.
use native.Mathlib.Omega.{arith}
use Rattle.tape_flatness.proofs.Passing.{call-followed, call-last}
use Rattle.tape_flatness.proofs.pass_call.Goals as goal

pub returns-then-item_follows : goal.returns-then-item_follows
returns-then-item_follows c =
    let passed_word = c.pass_argument-passed.result in
    let far = c.name_end.ensures in (
      omega (arith, c.pass_argument-passed.ensures.0, far),
      call-followed _ _ c.requires.0 c.requires.1 _ passed_word.next passed_word.leftmost far c.pass_argument-passed.ensures.1
          c.item_follows.ensures c.if-item_follows.true c.declared_call.ensures c.earlier-leftmost.ensures,
    )

pub returns : goal.returns
returns c =
    let passed_word = c.pass_argument-passed.result in
    let far = c.name_end.ensures in (
      omega (arith, c.pass_argument-passed.ensures.0, far),
      call-last _ _ c.requires.0 c.requires.1 _ passed_word.next passed_word.leftmost far c.pass_argument-passed.ensures.1
          c.item_follows.ensures c.if-item_follows.false,
    )
