-- The facts about `code` that the check is told.
use mathlib.Core.Path.{◌≡◌, sym, ◌∙◌}
use mathlib.Core.Bool.{Bool}
use native.Mathlib.Omega.{arith}
use Rattle.read_characters.proofs.Strings.{CodingAt, code-goes, code-breaks, code-stops, code-ends}
use Rattle.read_characters.proofs.code.Goals.{After-is_digit}
use Rattle.read_characters.proofs.code.Goals as goal

abbrev Coded : After-is_digit → Bool → Type 0
Coded c is_digit =
    let l = c.loop-at in
    let a = c.args in
    CodingAt a.text.now a.first a.from l.value l.at is_digit

coding : (c : After-is_digit) {is_digit : Bool} → c.is_digit.result ≡ is_digit → Coded c is_digit
coding c e =
    record {
      coding = c.loop-at.invariant;
      inside = c.loop-at-test.true;
      class = sym c.is_digit.ensures ∙ e;
    }

pub returns-then-not-is_digit : goal.returns-then-not-is_digit
returns-then-not-is_digit c =
    code-stops _ _ _ _ _ (coding (goal.at.returns-then-not-is_digit c).After-is_digit c.if-not-is_digit.true)

pub returns-then-value-ge-BYTE_COUNT : goal.returns-then-value-ge-BYTE_COUNT
returns-then-value-ge-BYTE_COUNT c =
    code-breaks _ _ _ _ _ (coding (goal.at.returns-then-value-ge-BYTE_COUNT c).After-is_digit c.if-not-is_digit.false)
    c.if-value-ge-BYTE_COUNT.true

pub loop-at-preserved : goal.loop-at-preserved
loop-at-preserved c =
    code-goes _ _ _ _ _ (coding (goal.at.loop-at-preserved c).After-is_digit c.if-not-is_digit.false) (omega arith)

pub returns : goal.returns
returns c = code-ends _ _ _ _ _ c.loop-at.invariant c.loop-at-test.false
