-- The facts about `expressions::call` and `expressions::expression` that the check is told.
use Prim.Native.Nat.{ℕ}
use mathlib.Core.Path.{refl, sym, ◌∙◌, ap}
use mathlib.Core.List.{List}
use native.Mathlib.Omega.{arith}
use lib.ListN.{drop}
use Rattle.std.specs.Prelude.{Option, Result, Ok}
use Rattle.std.proofs.lemmas.Result.{err_from_is_err_and}
use Rattle.meaning.specs.Choice.{Bytes}
use Rattle.meaning.specs.Tokens as Tokens
use Rattle.read_tokens.specs.View.{ShowsToken}
use Rattle.read_tokens.specs.declared.Placed.{Placed}
use Rattle.answers.specs.declared.Fault.{Fault}
use Rattle.read_bookkeeping.specs.declared.variables.Variables.{Variables}
use Rattle.read_functions.specs.declared.expressions.ExpressionCounts.{ExpressionCounts}
use Rattle.read_functions.specs.Expressions.{JoinsToken}
use Rattle.read_tokens.proofs.Stream.{comes}
use Rattle.read_bookkeeping.proofs.Going.{has-read}
use Rattle.read_functions.proofs.Opened.{OpeningAgrees}
use Rattle.read_functions.proofs.Calling.{Opened, call-unopened, argument-stops, call-closes}
use Rattle.read_functions.proofs.Expressed.{Expressed, expression-starts, AtToken, item-moves, item-taken, token-refused}
use Rattle.read_functions.proofs.Expressed.{expression-ends, AtCall, call-onward, call-ready, call-stopped, call-moves, call-read}
use Rattle.read_functions.proofs.expressions.+call_expression.Goals as goal

-- THE CALL

pub call-returns-in_err-start : goal.call-returns-in_err-start
call-returns-in_err-start t c =
    let p = err_from_is_err_and c.from_residual.result c.from_residual.ensures.1 in
    λ bound h. rw (p.1, p.2) (call-unopened _ _ _ _ _ _ c.in_err-start.ensures)

-- the call is open
opened-here : {depth place : ℕ} {text : Bytes} {s start : ExpressionCounts} {tape tape₁ : List ℕ}
    → OpeningAgrees text depth s place tape tape₁ (Ok start) → Opened text depth s place tape tape₁ start
opened-here a = record { read = has-read _ _ refl a }

pub call-returns-in_err-argument : goal.call-returns-in_err-argument
call-returns-in_err-argument t c =
    let p = err_from_is_err_and c.from_residual-in_err-argument.result c.from_residual-in_err-argument.ensures.1 in
    λ bound h. rw (p.1, p.2) (argument-stops (opened-here c.in_ok-start.ensures) bound h c.in_err-argument.ensures)

pub call-returns : goal.call-returns
call-returns t c =
    λ bound h. call-closes (opened-here c.in_ok-start.ensures) bound h c.in_ok-argument.ensures c.close_call.ensures

-- THE EXPRESSION

-- a token was joined to the expression so far
joined : {text : Bytes} {v : Variables} {depth : ℕ} {start : ExpressionCounts} {first tape tape' : List ℕ} {s : ExpressionCounts} {t : Placed}
    {r : Result (Option ExpressionCounts) Fault}
    → Expressed text v depth start first tape s
    → ShowsToken text t (Tokens.lex Tokens.inside s.at (drop s.at text)).first
    → JoinsToken text v s tape t tape' r
    → AtToken text v depth start first s t tape' r
joined so shown joins =
    record { tape = _; so = so; comes = comes _ Tokens.inside _ _ so.going.ready.inside shown; joins = joins }

pub expression-loop-next-init : goal.expression-loop-next-init
expression-loop-next-init t c = expression-starts _ _ _ _ _ c.requires

pub expression-join-requires : goal.expression-join-requires
expression-join-requires t c =
    (c.loop-next.invariant.going, comes _ Tokens.inside _ _ c.loop-next.invariant.going.ready.inside c.lex-t.ensures)

pub expression-returns-in_err-next : goal.expression-returns-in_err-next
expression-returns-in_err-next t c =
    let p = err_from_is_err_and c.from_residual.result c.from_residual.ensures.1 in
    λ bound h. rw (p.1, p.2) (token-refused (joined c.loop-next.invariant c.lex-t.ensures c.join.ensures) c.in_err-next.was h)

pub expression-loop-next-smaller-in-Some : goal.expression-loop-next-smaller-in-Some
expression-loop-next-smaller-in-Some t c =
    let m = item-moves (joined c.loop-next.invariant c.lex-t.ensures c.join.ensures) (c.in_ok-next.was ∙ ap Ok c.in-Some.is) in omega arith

pub expression-loop-next-preserved-in-Some : goal.expression-loop-next-preserved-in-Some
expression-loop-next-preserved-in-Some t c =
    item-taken (joined c.loop-next.invariant c.lex-t.ensures c.join.ensures) (c.in_ok-next.was ∙ ap Ok c.in-Some.is)

pub expression-returns-then-not-is_sign : goal.expression-returns-then-not-is_sign
expression-returns-then-not-is_sign t c =
    λ bound h.
    expression-ends (joined c.loop-next.invariant c.lex-t.ensures c.join.ensures) (c.in_ok-next.was ∙ ap Ok c.in-None.is)
    (sym c.is_sign.ensures ∙ c.if-not-is_sign.true) h

pub expression-call-requires : goal.expression-call-requires
expression-call-requires t c =
    let at_call : AtCall (joined c.loop-next.invariant c.lex-t.ensures c.join.ensures) =
    record { other = c.in_ok-next.was ∙ ap Ok c.in-None.is; angle = sym c.is_sign.ensures ∙ c.if-not-is_sign.false } in
    (omega (arith, call-onward at_call), call-ready at_call)

pub expression-returns-in_err-s-in-None : goal.expression-returns-in_err-s-in-None
expression-returns-in_err-s-in-None t c =
    let at_call : AtCall (joined c.loop-next.invariant c.lex-t.ensures c.join.ensures) =
    record { other = c.in_ok-next.was ∙ ap Ok c.in-None.is; angle = sym c.is_sign.ensures ∙ c.if-not-is_sign.false } in
    let p = err_from_is_err_and c.from_residual-in_err-s-in-None.result c.from_residual-in_err-s-in-None.ensures.1 in
    λ bound h. rw (p.1, p.2) (call-stopped at_call c.in_err-s-in-None.ensures h)

pub expression-loop-next-smaller : goal.expression-loop-next-smaller
expression-loop-next-smaller t c =
    let at_call : AtCall (joined c.loop-next.invariant c.lex-t.ensures c.join.ensures) =
    record { other = c.in_ok-next.was ∙ ap Ok c.in-None.is; angle = sym c.is_sign.ensures ∙ c.if-not-is_sign.false } in
    let m = call-moves at_call c.in_ok-s-in-None.ensures in omega arith

pub expression-loop-next-preserved : goal.expression-loop-next-preserved
expression-loop-next-preserved t c =
    let at_call : AtCall (joined c.loop-next.invariant c.lex-t.ensures c.join.ensures) =
    record { other = c.in_ok-next.was ∙ ap Ok c.in-None.is; angle = sym c.is_sign.ensures ∙ c.if-not-is_sign.false } in
    call-read at_call c.in_ok-s-in-None.ensures
