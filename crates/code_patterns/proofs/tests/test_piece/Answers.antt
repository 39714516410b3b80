-- The facts about `tests::test_piece` that the check is told.
use Rattle.code_patterns.proofs.Laws.Tested.{character-on, part-on, tests-end}
use Rattle.code_patterns.proofs.tests.test_piece.Goals as goal

pub returns-in-Character : goal.returns-in-Character
returns-in-Character c = search character-on

pub returns-in-EVariable : goal.returns-in-EVariable
returns-in-EVariable c = search part-on

pub returns-in-PatternEnd : goal.returns-in-PatternEnd
returns-in-PatternEnd c = search tests-end
