-- The facts about `pattern` that the check is told.
use mathlib.Core.Path.{◌≡◌, ◌∙◌, ap}
use native.Mathlib.Omega.{arith}
use Rattle.std.specs.Prelude.{Result, Option, Ok}
use Rattle.std.proofs.lemmas.Result.{err_from_is_err_and}
use Rattle.meaning.specs.Tokens.{inside}
use Rattle.read_tokens.proofs.Stream.{comes}
use Rattle.read_tokens.specs.View.{Comes}
use Rattle.answers.specs.declared.Fault.{Fault}
use Rattle.read_patterns.specs.declared.Counts.{Counts}
use Rattle.read_patterns.proofs.Patterned.{pattern-starts, PatternOn, pattern-on}
use Rattle.read_patterns.proofs.pattern.Goals.{After-add, After-lex-t}
use Rattle.read_patterns.proofs.pattern.Goals as goal

first : (c : After-lex-t) → let l = c.loop-next in
    let a = c.args in
    Comes a.text.now inside l.p.at c.lex-t.result
first c = comes _ inside _ _ c.loop-next.invariant.going.ready.inside c.lex-t.ensures

-- after a token, whatever comes of it
turned : (c : After-add) {r : Result (Option Counts) Fault} → c.add.result ≡ r
    → PatternOn c.loop-next.invariant (comes _ inside _ _ c.loop-next.invariant.going.ready.inside c.lex-t.ensures)
    c.add.new.variables c.add.new.tape r
turned c {r} e =
    pattern-on c.loop-next.invariant (comes _ inside _ _ c.loop-next.invariant.going.ready.inside c.lex-t.ensures) _ _ r
    (rw e at c.add.ensures.gives)

pub loop-next-init : goal.loop-next-init
loop-next-init c = pattern-starts _ _ _ _ _ c.requires c.clear.ensures.symbols c.clear.ensures.parts

pub add-requires : goal.add-requires
add-requires c =
    (c.loop-next.invariant.known, c.loop-next.invariant.going, first (goal.at.add-requires c).After-lex-t)

pub returns-in_err-next : goal.returns-in_err-next
returns-in_err-next c =
    let p = err_from_is_err_and c.from_residual.result c.from_residual.ensures.1 in
    rw (p.1, p.2) (turned (goal.at.returns-in_err-next c).After-add c.in_err-next.was)

pub loop-next-smaller : goal.loop-next-smaller
loop-next-smaller c =
    let m = turned (goal.at.loop-next-smaller c).After-add (c.in_ok-next.was ∙ ap Ok c.in-Some.is) in omega arith

pub loop-next-preserved : goal.loop-next-preserved
loop-next-preserved c = (turned (goal.at.loop-next-preserved c).After-add (c.in_ok-next.was ∙ ap Ok c.in-Some.is)).1

pub returns-in-None : goal.returns-in-None
returns-in-None c = turned (goal.at.returns-in-None c).After-add (c.in_ok-next.was ∙ ap Ok c.in-None.is)
