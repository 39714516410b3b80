-- The facts about `expression::write_item` that the check is told.
use native.Mathlib.Omega.{arith}
use mathlib.Core.Path.{sym}
use Rattle.tape_words.specs.declared.tape.Item.TheVariants.{Call, Close, Unclosed}
use Rattle.code_expressions.proofs.Laws.Items.{told}
use Rattle.code_expressions.proofs.Laws.Itemised.{innermost, character-on, value_on, part-on, left-on, open-on, pass_on}
use Rattle.code_expressions.proofs.Laws.Itemised.{closed_on, unclosed-on, end_on}
use Rattle.code_expressions.proofs.expression.write_item.Goals as goal

pub returns-then-part_stays : goal.returns-then-part_stays
returns-then-part_stays c = search left-on

pub open_call-requires : goal.open_call-requires
open_call-requires c =
    let a = c.args in
    omega (arith, told a.tape.now a.walk.next a.walk.depth a.walk.items Call (sym c.in-Call.ensures))

pub close_call-requires-clause-innermost : goal.close_call-requires-clause-innermost
close_call-requires-clause-innermost c =
    let a = c.args in
    innermost c.requires.3 (told a.tape.now a.walk.next a.walk.depth a.walk.items Close (sym c.in-Close.ensures)).1

pub close_call-requires-in-Unclosed-clause-innermost : goal.close_call-requires-in-Unclosed-clause-innermost
close_call-requires-in-Unclosed-clause-innermost c =
    let a = c.args in
    innermost c.requires.3 (told a.tape.now a.walk.next a.walk.depth a.walk.items Unclosed (sym c.in-Unclosed.ensures))

pub returns-in-Byte : goal.returns-in-Byte
returns-in-Byte c = search character-on

pub returns-in-Symbol : goal.returns-in-Symbol
returns-in-Symbol c = search value_on

pub returns-else-part_stays : goal.returns-else-part_stays
returns-else-part_stays c = search part-on

pub returns-in-Call : goal.returns-in-Call
returns-in-Call c = search open-on

pub returns-in-Pass : goal.returns-in-Pass
returns-in-Pass c = search pass_on

pub returns-in-Close : goal.returns-in-Close
returns-in-Close c = search closed_on

pub returns-in-Unclosed : goal.returns-in-Unclosed
returns-in-Unclosed c = search unclosed-on

pub returns-in-Stop : goal.returns-in-Stop
returns-in-Stop c = search end_on
