-- The loop invariant of `CodeWriter::put_name`. The loop keeps what the words written and those still to come amount to.
use mathlib.Core.Path.{◌≡◌}
use Prim.Native.Nat.{◌+◌}
use lib.ListN.{drop}
use Rattle.code_words.specs.Writer.{StillToWrite}
use Rattle.code_words.proofs.CodeWriter.put_name.Given as goal

abbrev pub invariant-loop-word : goal.invariant-loop-word
invariant-loop-word l = (l.self.at ≡ l.initial.self.at + l.word-index) ×
    StillToWrite l.initial.self l.name l.self (drop l.word-index l.name)
