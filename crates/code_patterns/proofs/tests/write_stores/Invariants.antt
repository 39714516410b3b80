-- The loop invariant of `tests::write_stores`. The loop keeps what the stores written and those still to come amount to.
use mathlib.Core.Path.{◌≡◌}
use Prim.Native.Nat.{◌+◌}
use mathlib.Core.List.{map}
use lib.ListN.{drop}
use Rattle.code_words.specs.Writer.{StillToWrite}
use Rattle.code_patterns.specs.Testing.{store_of}
use Rattle.code_patterns.proofs.tests.write_stores.Given as goal

abbrev pub invariant-loop-symbol : goal.invariant-loop-symbol
invariant-loop-symbol l = (l.code.at ≡ l.initial.code.at + l.symbol-index) ×
    StillToWrite l.initial.code (map store_of l.symbols) l.code (map store_of (drop l.symbol-index l.symbols))
