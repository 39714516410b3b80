-- The loop invariant of `copying::copy_part`: the bytes up to this one are copied.
use Prim.Native.Nat.{◌-◌}
use mathlib.Core.Path.{◌≡◌}
use lib.ListN.{length}
use Rattle.run_cells.specs.Copied.{copied}
use Rattle.run_cells.proofs.copying.copy_part.Given as goal

abbrev pub invariant-loop-k : goal.invariant-loop-k
invariant-loop-k g l =
    (l.to ≡ copied (l.k - l.i) l.initial.to l.at l.from l.i) × (length l.to ≡ length l.initial.to)
