-- The facts about `pattern::measure_piece` that the check is told.
use Rattle.code_patterns.proofs.Laws.Measured.{character-measures, variable-measures, part-measures, end-measures}
use Rattle.code_patterns.proofs.pattern.measure_piece.Goals as goal

pub returns-in-Character : goal.returns-in-Character
returns-in-Character c = search character-measures

pub returns-in-SVariable : goal.returns-in-SVariable
returns-in-SVariable c = search variable-measures

pub returns-in-EVariable : goal.returns-in-EVariable
returns-in-EVariable c = search part-measures

pub returns-in-PatternEnd : goal.returns-in-PatternEnd
returns-in-PatternEnd c = search end-measures
