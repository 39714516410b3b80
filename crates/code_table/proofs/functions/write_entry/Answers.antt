-- The facts about `functions::write_entry` that the check is told: the function's name is on the tape.
use native.Mathlib.Omega.{arith}
use mathlib.Core.Path.{ap}
use lib.ListN.{length}
use Rattle.tape_words.proofs.Laws.Names.{name-fits-here}
use Rattle.code_table.proofs.Laws.Declared.{entry-written, place-few}
use Rattle.code_table.proofs.functions.write_entry.Goals as goal

pub write_function-words-requires : goal.write_function-words-requires
write_function-words-requires c = (
  c.requires.1,
  omega (arith, ap length c.name_at-name.ensures, name-fits-here c.args.tape.now _ (c.requires.2 c.args.k c.requires.0)),
  omega (arith, place-few c.find_recoverer-recoverer.result c.find_recoverer-recoverer.ensures.bound, c.requires.1),
)

pub returns : goal.returns
returns c =
    entry-written (c.requires.2 c.args.k c.requires.0) c.name_at-name.ensures c.find_recoverer-recoverer.ensures.number
    c.put.ensures c.min-from.ensures c.write_function-words.ensures
