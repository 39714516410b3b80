-- The facts about `on_tape` that the check is told: with which tape it asked, and which that left.
use mathlib.Core.Path.{refl}
use Rattle.engine_tables.proofs.on_tape.Goals as goal

pub returns-then-table-le-SHORT_TABLE : goal.returns-then-table-le-SHORT_TABLE
returns-then-table-le-SHORT_TABLE g c =
    record {
      before = c.short_tape_room-tape.result;
      after = c.ask.new.arg2;
      asked = record { shown = _; shows = refl; left = _; met = c.ask.ensures; leaves = refl };
    }

pub returns : goal.returns
returns g c =
    record {
      before = c.tape_room-tape.result;
      after = c.ask-2.new.arg2;
      asked = record { shown = _; shows = refl; left = _; met = c.ask-2.ensures; leaves = refl };
    }
