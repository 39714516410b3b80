-- The loop invariant of `leading`: the bytes so far pass the test.
use Prim.Native.Nat.{ℕ}
use mathlib.Core.Path.{◌≡◌}
use mathlib.Core.Bool.{Bool, true}
use lib.ListN.{take}
use Rattle.meaning.specs.Choice.{every}
use Rattle.run_class_runs.specs.Runs.{IsTest}
use Rattle.run_class_runs.proofs.leading.Given as goal

abbrev pub invariant-loop-at : goal.invariant-loop-at
invariant-loop-at g l =
    goal.F-IsAlwaysCallable g l.fits × ((test : ℕ → Bool) → IsTest (goal.F-post g l.fits) test → every test (take l.at l.part) ≡ true)
