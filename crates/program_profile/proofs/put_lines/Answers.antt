-- The facts about `put_lines` that the check is told.
use native.Mathlib.Omega.{arith}
use Rattle.program_profile.proofs.Lines.{lines-go-on, lines-all}
use Rattle.program_profile.proofs.put_lines.Goals as goal

pub loop-k-preserved : goal.loop-k-preserved
loop-k-preserved c = lines-go-on c.loop-k.invariant (omega arith) c.requires.1 c.put_line.ensures

pub returns : goal.returns
returns c = lines-all c.loop-k.invariant (omega arith) (omega arith)
