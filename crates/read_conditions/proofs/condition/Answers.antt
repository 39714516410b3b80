-- The facts about `condition` that the check is told.
use Rattle.std.proofs.lemmas.Result.{err_from_is_err_and}
use Rattle.meaning.specs.Tokens.{naming}
use Rattle.read_tokens.proofs.Stream.{comes}
use Rattle.read_bookkeeping.proofs.Tokening.{name-first}
use Rattle.read_conditions.proofs.Conditioned.{OpenedAt, NamedAt, open-not, name-not, name-ready, name-long, name-short, class-not, class-reads}
use Rattle.read_conditions.proofs.condition.Goals.{After-lex-t, In-Name}
use Rattle.read_conditions.proofs.condition.Goals as goal

opened : (c : After-lex-t) → let a = c.args in
    OpenedAt a.text.now a.variables.now a.from a.words c.in_ok-open.open c.lex-t.result
opened c =
    let o = c.in_ok-open.ensures in
    record { known = c.requires.1; ready = c.requires.0; opened = o; first = comes _ naming _ _ o.inside c.lex-t.ensures }

named : (c : In-Name) → NamedAt (opened (goal.at.In-Name c).After-lex-t) c.in-Name.name
named c = record { name = name-first (opened (goal.at.In-Name c).After-lex-t).first c.in-Name.is }

pub len-requires : goal.len-requires
len-requires c = (named (goal.at.len-requires c).In-Name).name.inside.forward

pub returns-in_err-open : goal.returns-in_err-open
returns-in_err-open c =
    let p = err_from_is_err_and c.from_residual.result c.from_residual.ensures.1 in
    rw (p.1, p.2) (open-not c.requires.1 c.in_err-open.ensures)

pub returns-in_default : goal.returns-in_default
returns-in_default c =
    name-not (opened (goal.at.returns-in_default c).After-lex-t) c.in_default.not-Name c.refuse.ensures

pub returns-in_err-refuse_if : goal.returns-in_err-refuse_if
returns-in_err-refuse_if c =
    let p = err_from_is_err_and c.from_residual-in_err-refuse_if.result c.from_residual-in_err-refuse_if.ensures.1 in
    rw (p.1, p.2)
    (name-long (named (goal.at.returns-in_err-refuse_if c).In-Name) c.in_err-refuse_if.was (rw c.len.ensures at c.refuse_if.ensures.number)
    c.refuse_if.ensures.place)

pub class_named-requires : goal.class_named-requires
class_named-requires c = (named (goal.at.class_named-requires c).In-Name).name.inside

pub returns-in_default-class_named : goal.returns-in_default-class_named
returns-in_default-class_named c =
    let n = named (goal.at.returns-in_default-class_named c).In-Name in
    class-not n (name-short n _ (rw c.len.ensures at c.in_ok-refuse_if.ensures.number)) c.class_named.ensures c.in_default-class_named.is

pub condition_on-requires : goal.condition_on-requires
condition_on-requires c = (name-ready (named (goal.at.condition_on-requires c).In-Name), c.requires.1)

pub returns : goal.returns
returns c =
    let n = named (goal.at.returns c).In-Name in
    class-reads n (name-short n _ (rw c.len.ensures at c.in_ok-refuse_if.ensures.number)) c.class_named.ensures c.in-Some.is c.condition_on.ensures
