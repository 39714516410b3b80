-- The facts about `token_at` that the check is told.
use mathlib.Core.Path.{◌≡◌, sym, ◌∙◌}
use mathlib.Core.Bool.{Bool}
use Rattle.read_tokens.proofs.Showing.{ByteAt, at-quote, at_bracket}
use Rattle.read_tokens.proofs.token_at.Goals.{After-is_letter}
use Rattle.read_tokens.proofs.token_at.Goals as goal

byte-stands : (c : After-is_letter) {letter : Bool} → c.is_letter.result ≡ letter
    → let a = c.args in ByteAt a.text.now a.at letter
byte-stands c e =
    let here = c.in-Some.ensures.lookup.3 in
    record { inside = here.0; class = rw (← (here.1 0)) (sym c.is_letter.ensures ∙ e) }

pub returns-in-39 : goal.returns-in-39
returns-in-39 c =
    let here = c.in-Some.ensures.lookup.3 in
    rw (at-quote _ _ _ (byte-stands (goal.at.returns-in-39 c).After-is_letter c.if-is_letter.false) (sym (here.1 0) ∙ c.in-39.is)) c.quoted_at.ensures

pub returns-in-60 : goal.returns-in-60
returns-in-60 c =
    let here = c.in-Some.ensures.lookup.3 in
    rw (at_bracket _ _ _ (byte-stands (goal.at.returns-in-60 c).After-is_letter c.if-is_letter.false) (sym (here.1 0) ∙ c.in-60.is)) c.bracket_at.ensures
