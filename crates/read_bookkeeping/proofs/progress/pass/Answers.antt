-- The facts about `progress::pass` that the check is told.
use mathlib.Core.Path.{sym, ◌∙◌}
use Rattle.read_tokens.specs.View.{mode_of, Comes}
use Rattle.read_tokens.proofs.Stream.{comes}
use Rattle.read_bookkeeping.proofs.Tokening.{takes, bars}
use Rattle.read_bookkeeping.proofs.progress.pass.Goals.{After-lex-t}
use Rattle.read_bookkeeping.proofs.progress.pass.Goals as goal

first : (c : After-lex-t) → let a = c.args in Comes a.text.now (mode_of a.mode) a.at c.lex-t.result
first c = comes _ _ _ _ c.requires c.lex-t.ensures

pub returns-then-is_sign : goal.returns-then-is_sign
returns-then-is_sign c =
    takes _ _ _ _ _ (first (goal.at.returns-then-is_sign c).After-lex-t) (sym c.is_sign.ensures ∙ c.if-is_sign.true)

pub returns-else-is_sign : goal.returns-else-is_sign
returns-else-is_sign c =
    bars _ _ _ _ _ _ (first (goal.at.returns-else-is_sign c).After-lex-t) (sym c.is_sign.ensures ∙ c.if-is_sign.false) c.refuse.ensures
