-- The facts about `tests::test_symbol` that the check is told.
use mathlib.Core.Path.{refl, sym}
use Rattle.code_patterns.proofs.Laws.Tested.{equal-on, small-new-on}
use Rattle.code_patterns.proofs.tests.test_symbol.Goals as goal

pub returns-in-Some : goal.returns-in-Some
returns-in-Some c =
    let a = c.args in
    equal-on a.tape.now a.lengths a.symbols.now a.t _ c.requires.in_tests.0 (sym c.requires.parts_value) c.in-Some.first c.site_of-site.result
    refl c.name_at-name.ensures c.in-Some.ensures c.site_of-site.ensures c.compare_word.ensures.0 c.put.ensures c.past_letter.ensures

pub returns : goal.returns
returns c =
    let a = c.args in
    small-new-on a.tape.now a.lengths a.symbols.now a.t _ c.requires.in_tests.0 (sym c.requires.parts_value) c.requires.in_tests.1
    c.site_of-site.result refl c.name_at-name.ensures c.in_default.ensures c.site_of-site.ensures c.past_letter-2.ensures
