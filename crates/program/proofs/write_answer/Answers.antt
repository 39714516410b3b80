-- What is printed for the bytes that are read is what is printed for all of them.
use Rattle.std.proofs.Common.{take}
use Rattle.std.specs.Io.KnownBytes.{Appends}
use Rattle.program.specs.Written.{AppendsFront}
use Rattle.program.proofs.Whole.{whole_ok, whole_err}
use Rattle.program.proofs.write_answer.Goals as goal

pub returns-clause-ok : goal.returns-clause-ok
returns-clause-ok g c =
    whole_ok (take c.in_ok-size.size c.read_input.new.buffer) (take c.in_ok-length.length c.read_input-2.new.buffer)
    (Appends (g.W.Write.contents c.args.output.now) (g.W.Write.contents c.write_printed.new.output)) c.write_printed.result
    (g.T.Read.remaining c.args.table.now) (g.I.Read.remaining c.args.text.now)
    (rw c.input_room-table_room.ensures at c.in_ok-size.ensures.bytes)
    (rw c.input_room-text_room.ensures at c.in_ok-length.ensures.bytes) c.write_printed.ensures.ok

pub returns-clause-err : goal.returns-clause-err
returns-clause-err g c =
    whole_err (take c.in_ok-size.size c.read_input.new.buffer) (take c.in_ok-length.length c.read_input-2.new.buffer)
    (AppendsFront (g.W.Write.contents c.args.output.now) (g.W.Write.contents c.write_printed.new.output)) c.write_printed.result
    (g.T.Read.remaining c.args.table.now) (g.I.Read.remaining c.args.text.now)
    (rw c.input_room-table_room.ensures at c.in_ok-size.ensures.bytes)
    (rw c.input_room-text_room.ensures at c.in_ok-length.ensures.bytes) c.write_printed.ensures.err
