-- The facts about `next_character` that the check is told.
use native.Mathlib.Omega.{arith}
use Rattle.std.proofs.Common.{◌≢◌}
use borrow.Author.Tests.{ne_eqb}
use Rattle.meaning.specs.Tokens.{escaped}
use Rattle.read_characters.proofs.Strings.{ByteHere, stands-given, stands-closed, stands-broken, stands-later, stands-end}
use Rattle.read_characters.proofs.next_character.Goals.{In-Some}
use Rattle.read_characters.proofs.next_character.Goals as goal

here : (c : In-Some) → ByteHere c.args.text.now c.args.at c.in-Some.field-0.now
here c = let l = c.in-Some.ensures.lookup.3 in record { inside = l.0; same = l.1 0 }

pub returns-in_default : goal.returns-in_default
returns-in_default c = stands-end _ _ _ _ c.in_default.ensures.lookup.3

pub returns-in-39 : goal.returns-in-39
returns-in-39 c = stands-closed _ _ _ _ _ (here (goal.at.returns-in-39 c).In-Some, omega arith) (λ characters. rw c.in-39.is)

pub returns-in-34 : goal.returns-in-34
returns-in-34 c = stands-broken _ _ _ _ _ (here (goal.at.returns-in-34 c).In-Some, omega arith) (λ characters. rw c.in-34.is)

pub returns-in-92 : goal.returns-in-92
returns-in-92 c =
    stands-later _ _ _ _ _ (here (goal.at.returns-in-92 c).In-Some, omega arith) escaped _ (λ characters. rw c.in-92.is) c.escape.ensures

pub returns-in_default-byte : goal.returns-in_default-byte
returns-in_default-byte c =
    let b = c.in-Some.field-0.now in
    let no_quote : b ≢ 39 = omega arith in
    let no_double : b ≢ 34 = omega arith in
    let no_backslash : b ≢ 92 = omega arith in
    stands-given _ _ _ _ _ (here (goal.at.returns-in_default-byte c).In-Some, omega arith) _
    (λ characters. rw (ne_eqb b 39 no_quote, ne_eqb b 34 no_double, ne_eqb b 92 no_backslash))
