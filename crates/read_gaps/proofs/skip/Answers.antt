-- The facts about `skip` that the check is told.
use mathlib.Core.Path.{◌≡◌, sym, ◌∙◌, ap}
use lib.ListN.{drop}
use borrow.Author.Tests.{eq-eqb, ne_eqb}
use Rattle.std.proofs.lemmas.Result.{err_from_is_err_and}
use Rattle.std.specs.Prelude.{Option, ℕ}
use Rattle.meaning.specs.Tokens as Tokens
use Rattle.read_gaps.specs.View.{comment_of, skipped_of}
use Rattle.read_gaps.proofs.Gaps.{blank-passed, comment-passed, token-found, text-ends}
use Rattle.read_gaps.proofs.skip.Goals as goal
use Rattle.read_gaps.proofs.skip.Goals.{After-comment_past, else-byte-eq47-via-then-byte-eq47+else-byte_ahead, else-byte-eq47-via-else-byte-eq47}

-- after the comment, whether it has an end or not
comment-done : (c : After-comment_past) (comment : Option ℕ) → c.comment_past.result ≡ comment
    → let a = c.args in
    Tokens.skip Tokens.between a.from (drop a.from a.text.now) ≡ comment_of a.text.now c.loop-byte.at comment
comment-done c comment e =
    let here = c.in-Some.ensures.lookup.3 in
    let byte = sym (here.1 0) in
    c.loop-byte.invariant ∙ comment-passed _ _ here.0 (rw byte (sym c.is_blank.ensures ∙ c.if-is_blank.false))
    (eq-eqb _ 47 (byte ∙ c.if-byte-eq47.true)) (sym c.byte_ahead.ensures ∙ c.if-byte_ahead.true) _ c.comment_past.ensures ∙
    ap (comment_of c.args.text.now c.loop-byte.at) e

pub loop-byte-preserved-then-is_blank : goal.loop-byte-preserved-then-is_blank
loop-byte-preserved-then-is_blank c =
    let here = c.in-Some.ensures.lookup.3 in
    c.loop-byte.invariant ∙ blank-passed _ _ here.0 (rw (sym (here.1 0)) (sym c.is_blank.ensures ∙ c.if-is_blank.true))

pub returns-in_err-at : goal.returns-in_err-at
returns-in_err-at c =
    let d = comment-done (goal.at.returns-in_err-at c).After-comment_past _ c.in_err-at.ensures.ok_part in
    let v = rw c.in_err-at.ensures.ok_part at c.in_err-at.ensures.value in
    let p = err_from_is_err_and c.from_residual.result c.from_residual.ensures.1 in
    rw (p.1, p.2) (ap (skipped_of c.args.text.now) v ∙ sym d)

pub loop-byte-preserved : goal.loop-byte-preserved
loop-byte-preserved c = comment-done (goal.at.loop-byte-preserved c).After-comment_past _ c.in_ok-at.ensures.ok_part

pub returns-else-byte-eq47 : goal.returns-else-byte-eq47
returns-else-byte-eq47 c =
    let l = c.loop-byte in
    let here = c.in-Some.ensures.lookup.3 in
    let byte = sym (here.1 0) in
    sym (l.invariant ∙ token-found _ _ here.0 (rw byte (sym c.is_blank.ensures ∙ c.if-is_blank.false))
    (elim c.else-byte-eq47.branch [
      | else-byte-eq47-via-then-byte-eq47+else-byte_ahead w ↦ rw (eq-eqb _ 47 (byte ∙ w.if-byte-eq47.true)) (sym w.byte_ahead.ensures ∙ w.if-byte_ahead.false)
      | else-byte-eq47-via-else-byte-eq47 w ↦ rw (ne_eqb _ 47 (λ q. w.if-byte-eq47.false (sym byte ∙ q)))
    ]))

pub returns : goal.returns
returns c = sym (c.loop-byte.invariant ∙ text-ends _ _ c.in_default.ensures.lookup.3)
