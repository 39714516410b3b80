-- The facts about `escape` that the check is told.
use mathlib.Core.Path.{◌≡◌, sym, ◌∙◌}
use mathlib.Core.Bool.{Bool}
use native.Mathlib.Omega.{arith}
use Rattle.read_characters.proofs.Strings.{ByteHere, stands-given, stands-nothing, stands-broken, stands-later, stands-end, escape-same, Unlisted}
use Rattle.read_characters.proofs.Strings.{escape-digit, escape-other}
use Rattle.read_characters.proofs.escape.Goals.{In-Some, After-is_digit}
use Rattle.read_characters.proofs.escape.Goals as goal

here : (c : In-Some) → ByteHere c.args.text.now c.args.at c.in-Some.field-0.now
here c = let l = c.in-Some.ensures.lookup.3 in record { inside = l.0; same = l.1 0 }

unlisted : (c : After-is_digit) {is_digit : Bool} → c.is_digit.result ≡ is_digit → Unlisted c.in-Some.field-0.now is_digit
unlisted c e =
    record {
      same = λ b. omega arith;
      line = omega arith;
      tab = omega arith;
      end = omega arith;
      class = sym c.is_digit.ensures ∙ e;
    }

pub returns-in_default : goal.returns-in_default
returns-in_default c = stands-end _ _ _ _ c.in_default.ensures.lookup.3

pub returns-in-34 : goal.returns-in-34
returns-in-34 c = stands-given _ _ _ _ _ (here (goal.at.returns-in-34 c).In-Some, omega arith) _ (escape-same _ c.in-34.is)

pub returns-in-110 : goal.returns-in-110
returns-in-110 c = stands-given _ _ _ _ _ (here (goal.at.returns-in-110 c).In-Some, omega arith) 10 (λ characters. rw c.in-110.is)

pub returns-in-116 : goal.returns-in-116
returns-in-116 c = stands-given _ _ _ _ _ (here (goal.at.returns-in-116 c).In-Some, omega arith) 9 (λ characters. rw c.in-116.is)

pub returns-in-10 : goal.returns-in-10
returns-in-10 c = stands-nothing _ _ _ _ _ (here (goal.at.returns-in-10 c).In-Some, omega arith) (λ characters. rw c.in-10.is)

pub returns-in_default-byte : goal.returns-in_default-byte
returns-in_default-byte c =
    let w = goal.at.returns-in_default-byte c in
    stands-later _ _ _ _ _ (here w.In-Some, omega arith) _ _ (escape-digit _ (unlisted w.After-is_digit c.if-is_digit.true)) c.code.ensures

pub returns-in_default-2 : goal.returns-in_default-2
returns-in_default-2 c =
    let w = goal.at.returns-in_default-2 c in
    stands-broken _ _ _ _ _ (here w.In-Some, omega arith) (escape-other _ (unlisted w.After-is_digit c.if-is_digit.false))
