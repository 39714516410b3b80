-- A place among the cells of a kind.
use Rattle.std.specs.Prelude.{ℕ}
use Rattle.run_cells.specs.declared.places.Place.{Place}
use Rattle.run_cells.specs.declared.places.In.{In}

abbrev pub InCell : Type 0
InCell = Place In

-- the place that so many cells stand before
abbrev pub place : {S : Type 0} → ℕ → Place S
place index = record { 0 = index; 1 = record {} }
