-- The fact about `sift_second` that the check is told: from a turn on the bytes are in the class.
use mathlib.Core.Path.{refl}
use Rattle.std.proofs.Common.{rules}
use Rattle.meaning.specs.Classes.{in_class}
use Rattle.byte_classes.specs.Classed.{class_meant}
use Rattle.run_narrowing.proofs.Laws.Turning.{second-sifted}
use Rattle.run_narrowing.proofs.sift_second.Goals as goal

pub returns : goal.returns
returns c =
    let a = c.args in
    let operand = c.first-operand.ensures in
    second-sifted a.field.now a.word.0 a.first a.places _ _ c.requires.word_value (class_meant c.in_ok-class.class)
    (rw operand at c.in_ok-class.ensures) c.requires.places_nonzero _ _ _ _ c.requires.registers_value
    (rw operand at c.if-operand-eq-FROM_PLACE.false) (rw (operand, c.third.ensures) at c.in_ok-to.ensures)
    (rw (c.wide.ensures, c.second.ensures) refl) c.if-to-from.false
    (c.trailing-turn.ensures (in_class (class_meant c.in_ok-class.class)) (λ b answer e. search rules))
    c.min.ensures
    (rw operand refl) c.part_at.ensures
