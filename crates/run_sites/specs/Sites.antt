-- The cell at a site of a field and the cells before it, in the terms of meaning's Matching.
use Rattle.std.specs.Prelude.{ℕ, leb}
use Rattle.std.proofs.Math.Option.{Option, none, some}
use Rattle.meaning.specs.Choice.{Bytes, guard}
use Rattle.meaning.specs.Instructions.{Site}
use Rattle.meaning.specs.Matching.{cell_at, cells_before}

-- the cell at a site, if it is one
abbrev pub site_cell : Option Site → Bytes → ℕ → Option ℕ
site_cell none field at = none
site_cell (some s) field at = cell_at s field at

-- so many cells lie before a site, if the field has as many
abbrev pub within_field : ℕ → Option ℕ → Option ℕ
within_field whole none = none
within_field whole (some n) = guard (leb n whole) (some n)

abbrev pub site_before : Option Site → ℕ → ℕ → Option ℕ
site_before none whole at = none
site_before (some s) whole at = within_field whole (cells_before s whole at)
