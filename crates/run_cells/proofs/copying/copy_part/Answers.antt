-- The fact about `copying::copy_part` that the check is told: one byte more is copied.
use Prim.Native.Nat.{suc, ◌+◌, ◌-◌}
use native.Mathlib.Omega.{arith}
use mathlib.Core.Path.{◌≡◌}
use lib.ListN.{length-set}
use Rattle.run_cells.proofs.Laws.Copying.{copied-next}
use Rattle.run_cells.proofs.copying.copy_part.Goals as goal

pub loop-k-preserved : goal.loop-k-preserved
loop-k-preserved g c =
    let n = c.loop-k.k - c.args.i in
    let more : c.loop-k.k + 1 - c.args.i ≡ suc n = omega arith in
    let to = c.args.to.now in (
      rw (c.loop-k.invariant.0, more) (copied-next n to c.args.from.now c.args.at c.args.i (omega arith)),
      rw length-set c.loop-k.invariant.1,
    )
