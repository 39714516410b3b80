-- What the beginning of an application leaves in its frame: the values of its stores.
use Rattle.std.specs.Prelude.{ℕ, ◌+◌, ◌≡◌, Result, Ok, Err, take, drop}
use Rattle.std.proofs.Math.Option.{Option, none, some}
use Rattle.meaning.specs.Choice.{Bytes}
use Rattle.run_code_places.specs.declared.CodePlace.{CodePlace}
use Rattle.run_code_places.specs.declared.Wrong.{Wrong}

-- where the words after a sentence's stores begin, if each asks for a cell that is there
abbrev pub Stored : Type 0
Stored = Result CodePlace Wrong

-- the values of a sentence's stores, in their part of the values lent
abbrev pub stored_meant : ℕ → ℕ → Bytes → Stored → Option Bytes
stored_meant base count values (Ok actions) = some (take count (drop base values))
stored_meant base count values (Err w) = none

abbrev pub EndsAt : ℕ → Stored → Type 0
EndsAt next (Ok actions) = actions.0 ≡ next
EndsAt next (Err w) = Unit {0}

-- the values as they are meant, where the words after the stores begin, and nothing changed beside the part
pub record Stores (base count next : ℕ) (values : Option Bytes) (before after : Bytes) (stored : Stored) : Type 0 where
  pub same : stored_meant base count after stored ≡ values
  pub ends : EndsAt next stored
  pub below : take base after ≡ take base before
  pub above : drop (base + count) after ≡ drop (base + count) before
