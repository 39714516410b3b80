-- The facts about `variable_at` that the check is told.
use native.Mathlib.Omega.{arith}
use Rattle.meaning.specs.Allowed.{word_byte}
use Rattle.read_tokens.proofs.Showing.{word_some}
use Rattle.read_tokens.proofs.variable_at.Goals as goal

pub word_token-requires : goal.word_token-requires
word_token-requires c =
    let r = c.run_end-past.ensures word_byte (λ b answer e. e) in
    let l = c.requires.inside in
    (word_some _ _ _ c.requires r, r.inside (omega arith))
