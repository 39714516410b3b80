-- What the loop of `put_name` keeps: the bytes before this one are written.
use lib.ListN.{take}
use Rattle.byte_writing.specs.Wrote.{Wrote}
use Rattle.program_profile.proofs.put_name.Given as goal

abbrev pub invariant-loop-word : goal.invariant-loop-word
invariant-loop-word l = Wrote l.initial.writer (take l.word-index l.name) l.writer
