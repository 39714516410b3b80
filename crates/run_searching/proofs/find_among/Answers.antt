-- The fact about `find_among` that the check is told: one Look is all tests, and it is scanned for.
use Rattle.run_searching.proofs.Laws.Scanning.{scanned}
use Rattle.run_searching.proofs.find_among.Goals as goal

pub returns-then-looks_once : goal.returns-then-looks_once
returns-then-looks_once c =
    let a = c.args in
    scanned a.field.now a.code.now a.tests.0 a.count _ _ a.places a.first _ c.if-looks_once.ensures c.scan.ensures
