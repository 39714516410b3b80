-- Where a reader may go on in an expression.
use Prim.Native.Nat.{ℕ, ◌≤◌}
use mathlib.Core.List.{List}
use lib.ListN.{length}
use Rattle.meaning.specs.Choice.{Bytes}
use Rattle.meaning.specs.Allowed.{max_items}
use Rattle.read_bookkeeping.specs.declared.variables.Variables.{Variables}
use Rattle.read_functions.specs.declared.expressions.ExpressionCounts.{ExpressionCounts}
use Rattle.read_bookkeeping.specs.Written.{Ready, Went}
use Rattle.read_bookkeeping.specs.Items.{part_spans}
use Rattle.read_functions.specs.Expressions.{Going}
use Rattle.read_bookkeeping.proofs.Going.{ready-after}

module _ {text : Bytes} {v : Variables} {s : ExpressionCounts} (g : Going text v s) where
  -- with no item more
  pub going_on : {at words : ℕ} → Ready text at words →
      Going text v (record { at = at; words = words; items = s.items; passed = s.passed })
  going_on r = record { variables = g.variables; passed = g.passed; few = g.few; ready = r }

  -- after what was read
  pub going-after : {next : ExpressionCounts} {tape tape' added : List ℕ} → Went text s.at s.words tape next.at next.words tape' added
      → next.items ≤ max_items
      → next.passed ≤ length (part_spans v)
      → Going text v next
  going-after w few passed = record { variables = g.variables; passed = passed; few = few; ready = ready-after g.ready.short w }
