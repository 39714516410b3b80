-- The facts about `names::same_name` that the check is told.
use Rattle.std.proofs.Common.{◌∙◌}
use Rattle.tape_words.proofs.Laws.Spelling.{pointwise-same}
use Rattle.tape_words.proofs.names.same_name.Goals as goal

pub returns : goal.returns
returns c = c.eq.ensures ∙ pointwise-same c.args.name.now c.args.other.now
