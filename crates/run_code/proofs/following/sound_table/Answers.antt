-- The fact about `following::sound_table` that the check is told: the entries are those that the count word tells.
use native.Mathlib.Omega.{arith}
use Rattle.run_code.proofs.Laws.Tables.{sound-all}
use Rattle.run_code.proofs.following.sound_table.Goals as goal

pub returns : goal.returns
returns c = record {
  result = sound-all c.args.code.now _ (omega (arith, c.wide-count.ensures)) (omega (arith, c.wide-count.ensures)) c.are_below.ensures;
}
