-- The facts about `sentences::next_sentence` that the check is told.
use mathlib.Core.Path.{◌≡◌, sym, ◌∙◌}
use mathlib.Core.Bool.{true}
use Rattle.meaning.specs.Tokens.{inside}
use Rattle.read_tokens.specs.View.{Comes}
use Rattle.read_functions.specs.Sentences.{begins_sentence}
use Rattle.read_tokens.proofs.Stream.{comes}
use Rattle.read_bookkeeping.proofs.Tokening.{ready-place}
use Rattle.read_functions.proofs.Sentenced.{first-refused, first-many, first_reads}
use Rattle.read_functions.proofs.sentences.next_sentence.Goals.{After-lex-t, Else-not-begins}
use Rattle.read_functions.proofs.sentences.next_sentence.Goals as goal

token-here : (c : After-lex-t) → let a = c.args in Comes a.text.now inside a.from c.lex-t.result
token-here c = comes _ inside _ _ c.requires.inside c.lex-t.ensures

begins-here : (c : Else-not-begins) → begins_sentence c.lex-t.result.token ≡ true
begins-here c = sym c.begins.ensures ∙ c.if-not-begins.false

pub returns-then-not-begins : goal.returns-then-not-begins
returns-then-not-begins c =
    first-refused _ _ (token-here (goal.at.returns-then-not-begins c).After-lex-t)
    (sym c.begins.ensures ∙ c.if-not-begins.true) c.refuse.ensures

pub returns-then-left-eq0 : goal.returns-then-left-eq0
returns-then-left-eq0 c =
    rw c.fault_at.ensures (first-many _ _ (token-here (goal.at.returns-then-left-eq0 c).After-lex-t) (begins-here
    (goal.at.returns-then-left-eq0 c).Else-not-begins) c.if-left-eq0.true)

pub sentence-requires : goal.sentence-requires
sentence-requires c =
    ready-place c.requires (token-here (goal.at.sentence-requires c).After-lex-t)

pub returns : goal.returns
returns c =
    first_reads _ _ (token-here (goal.at.returns c).After-lex-t) (begins-here (goal.at.returns c).Else-not-begins)
    c.if-left-eq0.false c.sentence.ensures
