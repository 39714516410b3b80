-- The facts about `functions::pass_spare` that the check is told.
use mathlib.Core.Path.{sym, ◌∙◌}
use Rattle.meaning.specs.Tokens.{outside}
use Rattle.read_tokens.specs.View.{Comes}
use Rattle.read_tokens.proofs.Stream.{comes}
use Rattle.read_functions.proofs.Functioned.{spare-passed, spare-none}
use Rattle.read_bookkeeping.proofs.Tokening.{is-taken}
use Rattle.read_functions.proofs.functions.pass_spare.Goals.{After-lex-t}
use Rattle.read_functions.proofs.functions.pass_spare.Goals as goal

token-here : (c : After-lex-t) → let a = c.args in Comes a.text.now outside a.at c.lex-t.result
token-here c = comes _ outside _ _ c.requires c.lex-t.ensures

pub returns-then-is_sign : goal.returns-then-is_sign
returns-then-is_sign c =
    spare-passed (is-taken (token-here (goal.at.returns-then-is_sign c).After-lex-t) c.is_sign.ensures c.if-is_sign.true)

pub returns-else-is_sign : goal.returns-else-is_sign
returns-else-is_sign c =
    spare-none (token-here (goal.at.returns-else-is_sign c).After-lex-t) (sym c.is_sign.ensures ∙ c.if-is_sign.false)
