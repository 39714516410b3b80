-- The facts about `conditions::condition_word` that the check is told.
use Rattle.std.proofs.Common.{ap, ◌∙◌}
use Rattle.code_patterns.specs.Testing.{site_meant}
use Rattle.code_patterns.specs.Conditioning.{located}
use Rattle.code_patterns.proofs.Laws.Conditioned.{part-asked, symbol-asked, site-or}
use Rattle.code_patterns.proofs.conditions.condition_word.Goals as goal

pub returns-then-over_part : goal.returns-then-over_part
returns-then-over_part c =
    let a = c.args in (
      part-asked (located a.tape.now a.m a.symbols.now) a.carried a.name.now c.part_bounds.result c.if-over_part.true c.is_first.ensures
          c.part_bounds.ensures c.predicate_word.ensures.0,
      c.predicate_word.ensures.1,
    )

pub returns : goal.returns
returns c =
    let a = c.args in (
      symbol-asked (located a.tape.now a.m a.symbols.now) a.carried a.name.now c.unwrap_or-site.result c.if-over_part.false
          (ap site_meant c.unwrap_or-site.ensures ∙ site-or c.find_site.result c.start.result c.find_site.ensures c.start.ensures)
          c.predicate_word-2.ensures.0,
      c.predicate_word-2.ensures.1,
    )
