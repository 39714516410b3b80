-- The facts about `functions::declaration` that the check is told.
use mathlib.Core.Path.{◌≡◌, sym, ◌∙◌}
use mathlib.Core.Bool.{false}
use Rattle.meaning.specs.Tokens.{outside}
use Rattle.read_tokens.proofs.Stream.{comes}
use Rattle.read_functions.specs.Functions.{is_end_token}
use Rattle.read_functions.proofs.Functioned.{StageAt, stage-over, place_inside, text-ends, next-opening, next-stops, next-goes}
use Rattle.read_functions.proofs.functions.declaration.Goals.{After-lex-t, Else-is_end_token}
use Rattle.read_functions.proofs.functions.declaration.Goals as goal

-- a token comes where more may
token-here : (c : After-lex-t)
    → let a = c.args in
    StageAt a.text.now a.tape.now a.heads.now a.at a.stage c.in-Continue.n c.lex-t.result
token-here c =
    let u = c.requires in
    let e = c.in-Continue.is in
    record { underway = u; onward = e; comes = comes _ outside _ _ (place_inside u e) c.lex-t.ensures }

-- it is not the end
more-here : (c : Else-is_end_token) → is_end_token c.lex-t.result.token ≡ false
more-here c = sym c.is_end_token.ensures ∙ c.if-is_end_token.false

pub returns-in-Break : goal.returns-in-Break
returns-in-Break c = stage-over c.in-Break.is

pub returns-then-is_end_token : goal.returns-then-is_end_token
returns-then-is_end_token c =
    text-ends (token-here (goal.at.returns-then-is_end_token c).After-lex-t) (sym c.is_end_token.ensures ∙ c.if-is_end_token.true)

pub function-requires : goal.function-requires
function-requires c =
    next-opening (token-here (goal.at.function-requires c).After-lex-t) (more-here (goal.at.function-requires c).Else-is_end_token)

pub returns-in-Err : goal.returns-in-Err
returns-in-Err c =
    next-stops (token-here (goal.at.returns-in-Err c).After-lex-t) (more-here (goal.at.returns-in-Err c).Else-is_end_token)
    c.function.ensures c.in-Err.is

pub returns-in-Ok : goal.returns-in-Ok
returns-in-Ok c =
    next-goes (token-here (goal.at.returns-in-Ok c).After-lex-t) (more-here (goal.at.returns-in-Ok c).Else-is_end_token)
    c.function.ensures c.in-Ok.is
    c.pass_spare-past.ensures
