-- The facts about `comment_past` that the check is told.
use mathlib.Core.Path.{◌≡◌, sym, ◌∙◌}
use mathlib.Core.Bool.{Bool}
use native.Mathlib.Omega.{arith}
use borrow.Author.Tests.{eq-eqb, ne_eqb}
use Rattle.read_gaps.proofs.Gaps.{plain-goes, plain-joins, StarAt, star-goes, star-ends, endless}
use Rattle.read_gaps.proofs.comment_past.Goals.{After-byte_ahead}
use Rattle.read_gaps.proofs.comment_past.Goals as goal

star-stands : (c : After-byte_ahead) {ends : Bool} → c.byte_ahead.result ≡ ends
    → let l = c.loop-byte in
    let a = c.args in
    StarAt a.text.now a.from l.at ends
star-stands c e =
    let here = c.in-Some.ensures.lookup.3 in
    record {
      plain = c.loop-byte.invariant.1;
      inside = here.0;
      star = eq-eqb _ 42 (omega (arith, here.1 0, c.if-byte-ne42.false));
      slash = sym c.byte_ahead.ensures ∙ e;
    }

pub loop-byte-preserved-then-byte-ne42 : goal.loop-byte-preserved-then-byte-ne42
loop-byte-preserved-then-byte-ne42 c =
    let here = c.in-Some.ensures.lookup.3 in
    let e = c.plain_past-at.ensures in
    (e.0, plain-joins _ _ _ _ (plain-goes _ _ _ here.0 (ne_eqb _ 42 (λ q. c.if-byte-ne42.true (here.1 0 ∙ q))) c.loop-byte.invariant.1) e.1)

pub returns-then-byte_ahead : goal.returns-then-byte_ahead
returns-then-byte_ahead c = star-ends _ _ _ (star-stands (goal.at.returns-then-byte_ahead c).After-byte_ahead c.if-byte_ahead.true)

pub loop-byte-preserved : goal.loop-byte-preserved
loop-byte-preserved c =
    (omega (arith, c.in-Some.ensures.lookup.3.0), star-goes _ _ _ (star-stands (goal.at.loop-byte-preserved c).After-byte_ahead c.if-byte_ahead.false))

pub returns : goal.returns
returns c = endless _ _ _ c.in_default.ensures.lookup.3 c.loop-byte.invariant.0 c.loop-byte.invariant.1
