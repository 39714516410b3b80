-- The loop invariants of `names::find`. The search from the start is that from here.
use Rattle.read_tokens.specs.View.{span_text}
use Rattle.read_bookkeeping.proofs.Finding.{Finding}
use Rattle.read_bookkeeping.proofs.names.find.Given as goal

abbrev pub invariant-loop-i : goal.invariant-loop-i
invariant-loop-i l = Finding l.text l.names (span_text l.text l.x) l.i
