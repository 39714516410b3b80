-- The loop invariant of `looks_fail`: where the tests from here on fail, all fail.
use Prim.Native.Nat.{ℕ, ◌+◌, ◌-◌, ◌≤◌}
use mathlib.Core.Path.{◌≡◌}
use Rattle.meaning.specs.Matching.{failed}
use Rattle.run_checking.proofs.Laws.Testing.{testing}
use Rattle.run_glancing.proofs.looks_fail.Given as goal

abbrev pub invariant-loop-at : goal.invariant-loop-at
invariant-loop-at l =
    (place : ℕ) → place ≤ l.last → testing l.field place l.code l.at (l.fn.tests.0 + l.fn.count - l.at) ≡ failed →
    testing l.field place l.code l.fn.tests.0 l.fn.count ≡ failed
