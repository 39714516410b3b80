-- The fact about `frames::count_application` that the check is told: a count of an application fits.
use Prim.Native.Nat.{ℕ, ◌-◌, ◌<◌}
use native.Mathlib.Omega.{arith}
use lib.Seq.{get_or-take}
use Rattle.meaning.specs.Outcome.{max_counted}
use Rattle.run_actions.proofs.frames.count_application.Goals as goal

pub overflow_add-frames : goal.overflow_add-frames
overflow_add-frames c =
    let number = c.args.number in
    let few : number - 1 < max_counted = omega (arith, c.requires.number_nonzero, c.if-number-gt-COUNTED.false) in
    omega (arith, rw (get_or-take {A = ℕ} max_counted _ (number - 1) 0 few) at (c.requires.counts_within (number - 1)))
