-- How many cells a span counts, if so many are there.
use Rattle.std.specs.Prelude.{ℕ, ◌+◌, ◌-◌, leb, Result, Ok, Err}
use Rattle.std.proofs.Math.Option.{Option, none, some}
use Rattle.meaning.specs.Choice.{pick}
use Rattle.meaning.specs.Instructions.{Length as Register}
use Rattle.meaning.specs.Machine.{Local, register_of}
use Rattle.run_code_places.specs.declared.Wrong.{Wrong}
use Rattle.run_cells.specs.Places.{InCell, place}

abbrev pub wrong : Wrong
wrong = record {}

abbrev pub within_cells : ℕ → ℕ → Result ℕ Wrong
within_cells n there = pick (leb n there) (Ok n) (Err wrong)

abbrev pub cells_of : Option Register → ℕ → ℕ → Local → ℕ → Result ℕ Wrong
cells_of none add back l there = Err wrong
cells_of (some r) add back l there = within_cells (register_of r l + add - back) there

abbrev pub reached_by : Result ℕ Wrong → ℕ → Result InCell Wrong
reached_by (Ok n) from = Ok (place (from + n))
reached_by (Err w) from = Err w
