-- The facts about `emitting::copy_name` that the check is told: a word of a name is a byte, and one more is pasted over.
use native.Mathlib.Omega.{arith}
use lib.ListN.{length-set}
use Rattle.run_cells.proofs.Laws.Copying.{pasted-one}
use Rattle.run_actions.proofs.Laws.Naming.{every-at}
use Rattle.run_actions.proofs.emitting.copy_name.Goals as goal

pub overflow_cast-emissions : goal.overflow_cast-emissions
overflow_cast-emissions c = omega (arith, every-at c.args.name.now c.loop-i.i c.requires.bytes c.loop-i-test.true)

pub loop-i-preserved : goal.loop-i-preserved
loop-i-preserved c =
    let a = c.args in
    let l = c.loop-i in (
      pasted-one l.emissions a.emissions.now a.name.now a.to.0 l.i l.invariant.0 c.requires.name_in_bounds
          c.loop-i-test.true,
      rw length-set l.invariant.1,
    )
