-- The facts about `call` that the check is told.
use mathlib.Core.Path.{sym, ◌∙◌}
use Rattle.run_applications.proofs.Laws.Calling.{undeclared, tail-enters}
use Rattle.run_applications.proofs.call.Goals as goal

pub returns-then-not-declared : goal.returns-then-not-declared
returns-then-not-declared c = record {
  simulates =
      let a = c.args in
      λ input output «record» values. rw c.stopped.ensures (undeclared _ _ _ _ _ a.what.kind (sym c.declared.ensures.result ∙ c.if-not-declared.true));
}

pub returns-in-Tail : goal.returns-in-Tail
returns-in-Tail c = record {
  simulates =
      λ input output «record» values. rw c.in-Tail.is (tail-enters _ _ _ _ _);
}
