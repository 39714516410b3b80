-- The facts about `condition_end` that the check is told.
use Rattle.meaning.specs.Tokens.{inside}
use Rattle.read_tokens.specs.View.{Comes}
use Rattle.read_tokens.proofs.Stream.{comes}
use Rattle.read_conditions.proofs.Conditioned.{ClosingAt, end-no-truth, end_reads}
use Rattle.read_conditions.proofs.condition_end.Goals.{After-lex-t, After-truth_said}
use Rattle.read_conditions.proofs.condition_end.Goals as goal

first : (c : After-lex-t) → Comes c.args.text.now inside c.in_ok-colon.colon c.lex-t.result
first c = comes _ inside _ _ c.in_ok-colon.ensures.inside c.lex-t.ensures

closing : (c : After-truth_said) → let a = c.args in
    ClosingAt a.text.now a.from a.words a.v.identifier c.in_ok-close.close c.in_ok-colon.colon c.lex-t.result c.truth_said.result
closing c =
    record {
      ready = c.requires.0;
      variable = c.requires.1;
      closed = c.in_ok-close.ensures;
      parted = c.in_ok-colon.ensures;
      first = first (goal.at.After-truth_said c).After-lex-t;
      truth = c.truth_said.ensures;
    }

pub truth_said-requires : goal.truth_said-requires
truth_said-requires c =
    let m = first (goal.at.truth_said-requires c).After-lex-t in record { forward = m.forward; inside = m.inside; sound = m.sound }

pub returns-in_default : goal.returns-in_default
returns-in_default c =
    end-no-truth c.args.v (closing (goal.at.returns-in_default c).After-truth_said) _ c.in_default.is c.refuse.ensures

pub returns : goal.returns
returns c =
    end_reads c.args.v (closing (goal.at.returns c).After-truth_said) _ c.in-Some.is c.condition_word-word.ensures
    c.put_named-after.ensures
