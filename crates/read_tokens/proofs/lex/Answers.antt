-- The facts about `lex` that the check is told.
use mathlib.Core.Path.{◌≡◌, sym, ◌∙◌, ap}
use lib.ListN.{drop}
use Rattle.meaning.specs.Tokens.{between, skip}
use Rattle.std.specs.Prelude.{ℕ, Result}
use Rattle.read_gaps.specs.declared.Unclosed.{Unclosed}
use Rattle.read_gaps.specs.View.{skipped_of}
use Rattle.read_tokens.proofs.Showing.{lex-past}
use Rattle.read_tokens.proofs.lex.Goals.{After-skip}
use Rattle.read_tokens.proofs.lex.Goals as goal

passed : (c : After-skip) {s : Result ℕ Unclosed} → c.skip.result ≡ s
    → let a = c.args in skip between a.from (drop a.from a.text.now) ≡ skipped_of a.text.now s
passed c e = sym c.skip.ensures ∙ ap (skipped_of _) e

pub returns-in-Ok : goal.returns-in-Ok
returns-in-Ok c =
    rw (lex-past _ _ _ (passed (goal.at.returns-in-Ok c).After-skip c.in-Ok.is)) c.token_at.ensures

pub returns-in-Err : goal.returns-in-Err
returns-in-Err c =
    record { same = rw (lex-past _ _ _ (passed (goal.at.returns-in-Err c).After-skip c.in-Err.is)); sound = tt }
