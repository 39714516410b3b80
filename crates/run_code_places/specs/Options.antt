-- An `Option` of the code as one of the definitions.
use Rattle.std.specs.Prelude.{Option, Some, None}
use Rattle.std.proofs.Math.Option as maybe

abbrev pub option_meant : {A : Type 0} → Option A → maybe.Option A
option_meant (Some a) = maybe.some a
option_meant None = maybe.none
