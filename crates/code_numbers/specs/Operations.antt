-- What the operations on angles mean.
use Rattle.meaning.specs.Angles.{Operation as MeantOperation, plus, minus}
use Rattle.code_numbers.specs.declared.operations.Operation.{Operation}
use Rattle.code_numbers.specs.declared.operations.Operation.TheVariants.{Plus, Minus}

abbrev pub operation_meant : Operation → MeantOperation
operation_meant Plus = plus
operation_meant Minus = minus
