-- The facts about `write_sentence` that the check is told.
use native.Mathlib.Omega.{arith}
use Rattle.code_sentences.proofs.Sentenced.{body-ahead, sentenced}
use Rattle.code_sentences.proofs.write_sentence.Goals as goal

pub overflow_sub-size : goal.overflow_sub-size
overflow_sub-size c = omega (arith, c.count.ensures, c.count-from.ensures, body-ahead c.write_body-body.ensures)

pub returns : goal.returns
returns c =
    sentenced c.count-counts.ensures c.count-from.ensures c.count.ensures
    c.measure-m.ensures c.put_metric.ensures c.put.ensures c.write_body-body.ensures c.patch.ensures
