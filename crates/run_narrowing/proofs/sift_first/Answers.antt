-- The facts about `sift_first` that the check is told: up to a turn the bytes are in the class.
use mathlib.Core.Path.{refl}
use Rattle.std.proofs.Common.{rules}
use Rattle.meaning.specs.Classes.{in_class}
use Rattle.byte_classes.specs.Classed.{class_meant}
use Rattle.run_narrowing.proofs.Laws.Turning.{first-sifted}
use Rattle.run_narrowing.proofs.sift_first.Goals as goal

pub overflow_add-lead : goal.overflow_add-lead
overflow_add-lead c =
    let leads = c.leading-lead.ensures (in_class (class_meant c.in_ok-class.class)) (λ b answer e. search rules) in
    let inside = leads.inside in
    search rules

pub returns : goal.returns
returns c =
    let a = c.args in
    let operand = c.first-operand.ensures in
    first-sifted a.field.now a.word.0 a.first a.places _ _ c.requires.word_value (class_meant c.in_ok-class.class)
    (rw operand at c.in_ok-class.ensures) c.requires.places_nonzero _ _ _ _ c.requires.registers_value
    (rw operand at c.if-operand-eq-FROM_PLACE.false) (rw (operand, c.second.ensures) at c.in_ok-from.ensures)
    (rw (c.wide.ensures, c.third.ensures) refl) c.if-nearest-from.false c.if-field-to.false
    (c.leading-lead.ensures (in_class (class_meant c.in_ok-class.class)) (λ b answer e. search rules))
    (rw c.saturating_sub-passing.ensures at c.min.ensures) (rw operand refl) c.part_at.ensures
