-- The constant table answers every test.
use mathlib.Core.Path.{refl}
use Rattle.byte_classes.specs.Tests.{bit_of}
use Rattle.byte_classes.proofs.Table.{answering}
use Rattle.byte_classes.proofs.ClassTable.new.Goals as goal

pub invariant_of-result : goal.invariant_of-result
unfolding bit_of
invariant_of-result c = record { answers = answering _ refl refl }
