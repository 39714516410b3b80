-- The classes of the code as those of the definitions.
use Rattle.std.specs.Prelude.{Option, Some, None}
use Rattle.std.proofs.Math.Option as maybe
use Rattle.meaning.specs.Classes as classes
use Rattle.byte_classes.specs.declared.Class.{Class}
use Rattle.byte_classes.specs.declared.Class.TheVariants.{Digit, Upper, Lower, Letter, Blank}

abbrev pub class_meant : Class → classes.Class
class_meant Digit = classes.digit
class_meant Upper = classes.upper
class_meant Lower = classes.lower
class_meant Letter = classes.alphabetic
class_meant Blank = classes.blank

-- a class, if there is one
abbrev pub class_found : Option Class → maybe.Option classes.Class
class_found (Some class) = maybe.some (class_meant class)
class_found None = maybe.none
