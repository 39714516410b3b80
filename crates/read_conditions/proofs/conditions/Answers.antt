-- The facts about `conditions` that the check is told.
use mathlib.Core.Path.{◌≡◌, sym, ◌∙◌}
use mathlib.Core.Bool.{Bool}
use Rattle.std.proofs.lemmas.Result.{err_from_is_err_and}
use Rattle.meaning.specs.Tokens.{inside}
use Rattle.read_tokens.proofs.Stream.{comes}
use Rattle.read_bookkeeping.specs.Items.{symbol_names, part_names}
use Rattle.read_conditions.proofs.Conditioned.{LookedAt, condition-ready, conditions-start, conditions-done, conditions-many}
use Rattle.read_conditions.proofs.Conditioned.{conditions-on, some-left}
use Rattle.read_conditions.proofs.conditions.Goals.{After-is_sign}
use Rattle.read_conditions.proofs.conditions.Goals as goal

abbrev Look : After-is_sign → Bool → Type 0
Look c comma =
    let l = c.loop-s in
    let a = c.args in
    LookedAt a.text.now a.tape.now (symbol_names a.text.now a.variables.now)
    (part_names a.text.now a.variables.now) a.from a.words l.tape l.s.at l.s.words l.left
    c.lex-t.result comma

looked : (c : After-is_sign) {comma : Bool} → c.is_sign.result ≡ comma → Look c comma
looked c e =
    let k = c.loop-s.invariant in
    record { read = k; first = comes _ inside _ _ k.went.inside c.lex-t.ensures; sign = sym c.is_sign.ensures ∙ e }

pub loop-s-init : goal.loop-s-init
loop-s-init c = conditions-start _ _ _ _ _ _ c.requires.0

pub returns-then-not-is_sign : goal.returns-then-not-is_sign
returns-then-not-is_sign c =
    conditions-done (looked (goal.at.returns-then-not-is_sign c).After-is_sign c.if-not-is_sign.true)

pub returns-in_err-refuse_if : goal.returns-in_err-refuse_if
returns-in_err-refuse_if c =
    let p = err_from_is_err_and c.from_residual.result c.from_residual.ensures.1 in
    rw (p.1, p.2)
    (conditions-many (looked (goal.at.returns-in_err-refuse_if c).After-is_sign c.if-not-is_sign.false) c.in_err-refuse_if.was
    c.refuse_if.ensures.number c.refuse_if.ensures.place)

pub condition-requires : goal.condition-requires
condition-requires c =
    (condition-ready (looked (goal.at.condition-requires c).After-is_sign c.if-not-is_sign.false), c.requires.1)

pub returns-in_err-s : goal.returns-in_err-s
returns-in_err-s c =
    let p = err_from_is_err_and c.from_residual-in_err-s.result c.from_residual-in_err-s.ensures.1 in
    let l = looked (goal.at.returns-in_err-s c).After-is_sign c.if-not-is_sign.false in
    rw (p.1, p.2)
    (conditions-on l (some-left l _ c.in_ok-refuse_if.ensures.number) _ (rw c.in_err-s.was at c.condition.ensures))

pub loop-s-preserved : goal.loop-s-preserved
loop-s-preserved c =
    let l = looked (goal.at.loop-s-preserved c).After-is_sign c.if-not-is_sign.false in
    conditions-on l (some-left l _ c.in_ok-refuse_if.ensures.number) _ (rw c.in_ok-s.was at c.condition.ensures)
