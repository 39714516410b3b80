-- The facts about `sentences::after_sentence` that the check is told.
use mathlib.Core.Path.{sym, ◌∙◌}
use Rattle.meaning.specs.Tokens.{inside, semicolon}
use Rattle.read_tokens.specs.View.{Comes}
use Rattle.read_bookkeeping.specs.Tokened.{Taken}
use Rattle.read_tokens.proofs.Stream.{comes}
use Rattle.read_functions.proofs.Sentenced.{ends-at-once, follows_nothing, ends-after, goes_after}
use Rattle.read_bookkeeping.proofs.Tokening.{is-taken}
use Rattle.read_functions.proofs.sentences.after_sentence.Goals.{After-lex-next, After-lex-t, Else-not-is_sign}
use Rattle.read_functions.proofs.sentences.after_sentence.Goals as goal

token-here : (c : After-lex-t) → let a = c.args in Comes a.text.now inside a.from c.lex-t.result
token-here c = comes _ inside _ _ c.requires c.lex-t.ensures

-- a `;` comes
passed_here : (c : Else-not-is_sign)
    → let a = c.args in
    Taken a.text.now inside semicolon a.from c.lex-t.result.past
passed_here c = is-taken (comes _ inside _ _ c.requires c.lex-t.ensures) c.is_sign-2.ensures c.if-not-is_sign.false

next_here : (c : After-lex-next)
    → Comes c.args.text.now inside c.lex-t.result.past c.lex-next.result
next_here c =
    comes _ inside _ _ (is-taken (comes _ inside _ _ c.requires c.lex-t.ensures)
    c.is_sign-2.ensures c.if-not-is_sign.false).inside c.lex-next.ensures

pub returns-then-is_sign : goal.returns-then-is_sign
returns-then-is_sign c =
    ends-at-once (is-taken (token-here (goal.at.returns-then-is_sign c).After-lex-t) c.is_sign.ensures c.if-is_sign.true)

pub returns-then-not-is_sign : goal.returns-then-not-is_sign
returns-then-not-is_sign c =
    follows_nothing (token-here (goal.at.returns-then-not-is_sign c).After-lex-t) (sym c.is_sign.ensures ∙ c.if-is_sign.false)
    (sym c.is_sign-2.ensures ∙ c.if-not-is_sign.true) c.refuse.ensures

pub returns-then-is_sign-2 : goal.returns-then-is_sign-2
returns-then-is_sign-2 c =
    ends-after (passed_here (goal.at.returns-then-is_sign-2 c).Else-not-is_sign) (is-taken (next_here
    (goal.at.returns-then-is_sign-2 c).After-lex-next) c.is_sign-3.ensures c.if-is_sign-2.true)

pub returns : goal.returns
returns c =
    goes_after (passed_here (goal.at.returns c).Else-not-is_sign) (next_here (goal.at.returns c).After-lex-next)
    (sym c.is_sign-3.ensures ∙ c.if-is_sign-2.false)
