-- The facts about `expressions::open_call` that the check is told.
use native.Mathlib.Omega.{arith}
use mathlib.Core.Path.{sym}
use Rattle.std.proofs.lemmas.Result.{err_from_is_err_and}
use Rattle.meaning.specs.Tokens as Tokens
use Rattle.read_tokens.proofs.Stream.{comes}
use Rattle.read_functions.proofs.Opened.{CallComes, CallName, CallNamed, call-nameless, named_here}
use Rattle.read_functions.proofs.Opened.{call-misnamed, name-room, call_opens}
use Rattle.read_functions.proofs.expressions.open_call.Goals.{After-lex-t}
use Rattle.read_functions.proofs.expressions.open_call.Goals as goal

call-here : (c : After-lex-t)
    → let a = c.args in
    CallComes a.text.now a.depth a.s a.place c.lex-t.result
call-here c =
    let pre = c.requires in
    record {
      ready = pre.0;
      after = pre.1;
      shallow = omega arith;
      few = c.if-s-ge-MAX_ITEMS.false;
      comes = comes _ Tokens.naming _ _ pre.0.inside c.lex-t.ensures;
    }

pub returns-in_default : goal.returns-in_default
returns-in_default c =
    call-nameless (call-here (goal.at.returns-in_default c).After-lex-t) c.in_default.not-Name c.refuse.ensures

pub check_called-requires : goal.check_called-requires
check_called-requires c =
    let call = call-here (goal.at.check_called-requires c).After-lex-t in
    let name : CallName call c.in-Name.name = record { is = c.in-Name.is } in
    (named_here name).inside

pub returns-in_err-check_called : goal.returns-in_err-check_called
returns-in_err-check_called c =
    let call = call-here (goal.at.returns-in_err-check_called c).After-lex-t in
    let name : CallName call c.in-Name.name = record { is = c.in-Name.is } in
    let p = err_from_is_err_and c.from_residual.result c.from_residual.ensures.1 in
    rw (p.1, p.2) (call-misnamed name c.in_err-check_called.ensures.number c.in_err-check_called.ensures.place)

pub put_call-words-requires : goal.put_call-words-requires
put_call-words-requires c =
    let call = call-here (goal.at.put_call-words-requires c).After-lex-t in
    let name : CallName call c.in-Name.name = record { is = c.in-Name.is } in
    let sound : CallNamed name = record { sound = sym c.in_ok-check_called.ensures.number } in
    name-room sound

pub returns : goal.returns
returns c =
    let call = call-here (goal.at.returns c).After-lex-t in
    let name : CallName call c.in-Name.name = record { is = c.in-Name.is } in
    let sound : CallNamed name = record { sound = sym c.in_ok-check_called.ensures.number } in
    call_opens sound c.put_call-words.ensures
