-- The facts about `emitting::name_at` that the check is told: the words are a name exactly if all are bytes.
use native.Mathlib.Omega.{arith}
use mathlib.Core.Path.{sym, ap, ◌∙◌}
use lib.ListN.{length, length-drop}
use Rattle.run_actions.proofs.Laws.Naming.{all_from, named}
use Rattle.run_actions.proofs.emitting.name_at.Goals as goal

pub returns-then-are_bytes-clause-found : goal.returns-then-are_bytes-clause-found
returns-then-are_bytes-clause-found c =
    let at = c.args.at.0 in
    let code = c.args.code.now in
    let all = all_from at code in
    sym c.if-are_bytes.true ∙
    named code at c.args.size _ (omega (arith, ap length all, length-drop at code)) (rw all at c.are_bytes.ensures)

pub returns-else-are_bytes-clause-found : goal.returns-else-are_bytes-clause-found
returns-else-are_bytes-clause-found c =
    let at = c.args.at.0 in
    let code = c.args.code.now in
    let all = all_from at code in
    sym c.if-are_bytes.false ∙
    named code at c.args.size _ (omega (arith, ap length all, length-drop at code)) (rw all at c.are_bytes.ensures)
