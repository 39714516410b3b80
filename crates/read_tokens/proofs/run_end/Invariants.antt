-- The loop invariants of `run_end`. The run from the start is that from here.
use Prim.Native.Nat.{ℕ}
use mathlib.Core.Bool.{Bool}
use Rattle.read_tokens.specs.View.{IsTest}
use Rattle.read_tokens.proofs.Words.{Running}
use Rattle.read_tokens.proofs.run_end.Given as goal

abbrev pub invariant-loop-at : goal.invariant-loop-at
invariant-loop-at g l = goal.F-IsAlwaysCallable g l.fits × ((test : ℕ → Bool) → IsTest (goal.F-post g l.fits) test → Running l.text test l.from l.at)
