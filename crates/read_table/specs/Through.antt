-- Reading through a reader of the text.
use Rattle.std.specs.Prelude.{◌≡◌, ℕ, ◌≤◌, List, length, Result}
use Rattle.std.specs.declared.ops.ControlFlow.{ControlFlow}
use Rattle.std.specs.declared.ops.ControlFlow.TheVariants.{Continue, Break}
use Rattle.meaning.specs.Choice.{Bytes}
use Rattle.meaning.specs.Allowed.{max_table, max_functions}
use Rattle.read_tokens.specs.declared.reader.Reader.{Reader}
use Rattle.answers.specs.declared.Fault.{Fault}
use Rattle.read_functions.specs.declared.functions.Tally.{Tally}
use Rattle.read_functions.specs.declared.functions.Reached.{Reached}
use Rattle.read_functions.specs.Functions.{Stage, Declares}

-- a text that is not too long, a tape with a word for each of its bytes, and room for the heads
abbrev pub Readable : Bytes → List ℕ → List ℕ → Type 0
Readable text tape heads = (length text ≤ max_table) × (length text ≤ length tape) × (length heads ≡ max_functions)

-- what a declaration came to, where it reached a place
abbrev pub reached_at : ℕ → Stage → ControlFlow (Result Tally Fault) Reached
reached_at at (Continue n) = Continue (record { tally = n; at = at })
reached_at at (Break read) = Break read

-- the declaration that comes at the reader's place was read, and the reader goes on to the place reached, in the same
-- text
pub record GoesOn (before : Reader) (tape heads : List ℕ) (stage : Stage) (after : Reader) (tape' heads' : List ℕ)
    (stage' : Stage) : Type 0 where
  pub declares : Declares before.text.now tape heads before.at stage tape' heads' (reached_at after.at stage')
  pub same : after.text ≡ before.text
