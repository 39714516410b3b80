-- What a call leaves.
use Prim.Native.Nat.{ℕ, ◌+◌, ◌≤◌}
use native.Mathlib.Omega.{arith}
use mathlib.Core.Path.{◌≡◌, refl, ◌∙◌}
use mathlib.Core.List.{[]}
use mathlib.Core.Option.{Option as Maybe, none, some}
use lib.IntN.{ℤ}
use lib.ListN.{length, drop_of_length-le}
use Rattle.std.proofs.Common.{Err}
use Rattle.meaning.specs.Choice.{Bytes}
use Rattle.meaning.specs.Angles.{Operation, cut_before, cut_after, angle_in, angled_of, angled}
use Rattle.run_angles.specs.Post.{Cut, left_with, leaves}
use Rattle.run_angles.specs.declared.AngleFault.TheVariants.{NotAngles}

-- where no blank stands there is no second angle
pub none-cut : (op : Operation) {text : Bytes} {at : ℕ} → Cut 32 text at → (old : Bytes) → at ≡ length text →
    left_with (Err NotAngles) old ≡ leaves (angled op text) old
none-cut op {text} {at} cut old e = rw none-after (by_first (angle_in (cut_before 32 text)))
  where
    past : at ≡ length text → length text ≤ at + 1
    past e = omega arith

    none-after : cut_after 32 text ≡ []
    none-after = cut.after ∙ drop_of_length-le text (past e)

    by_first : (o : Maybe ℤ) → left_with (Err NotAngles) old ≡ leaves (angled_of op o none) old
    by_first none = refl
    by_first (some x) = refl
