-- `program::run_table` reports the run of a table's code on what the program lends.
use Rattle.program.proofs.Shown.{shows}
use Rattle.program.proofs.run_table.Goals as goal

pub returns : goal.returns
returns c =
    shows _ _ _ (rw (c.code_room-code.ensures, c.cell_room-stack_in.ensures, c.requires.stack_out_value, c.requires.record_value)
    at c.translate_and_run.ensures)
