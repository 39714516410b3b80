-- The facts about `writing::put_bytes` that the check is told.
use mathlib.Core.Path.{◌∙◌, ap}
use native.Mathlib.Omega.{arith}
use lib.ListN.{set}
use Rattle.read_bookkeeping.proofs.Words.{copy-starts, copy_goes, copy-ends}
use Rattle.read_bookkeeping.proofs.writing.put_bytes.Goals as goal

pub loop-i-init : goal.loop-i-init
loop-i-init c = copy-starts _ _ _ c.args.x _ c.of-bytes.ensures c.requires.0 c.requires.1

pub loop-i-preserved : goal.loop-i-preserved
loop-i-preserved c =
    copy_goes _ _ _ _ _ c.loop-i.invariant _ c.loop-i-test.true (omega (arith, c.type_inv.bytes c.loop-i.i))
    (c.put.ensures ∙ ap (set _ _) c.from.ensures)

pub returns : goal.returns
returns c = rw (← c.of-bytes.ensures) (copy-ends _ _ _ _ _ c.loop-i.invariant (omega arith))
