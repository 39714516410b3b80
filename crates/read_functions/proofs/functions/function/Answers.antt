-- The facts about `functions::function` that the check is told.
use mathlib.Core.Path.{refl, sym}
use Rattle.read_functions.proofs.Functioned.{NameCopied}
use Rattle.read_functions.proofs.Functioned.{function-known, function-reads}
use Rattle.read_functions.proofs.functions.function.Goals.{After-put_bytes-to}
use Rattle.read_functions.proofs.functions.function.Goals as goal

-- the name can be called, and is copied to the tape
copied-here : (c : After-put_bytes-to)
    → let a = c.args in
    NameCopied a.text.now a.tape.now c.put_bytes-to.new.tape a.heads.now a.functions a.words a.t
    c.in-Name.name c.put_bytes-to.result
copied-here c =
    record {
      comes = record { opening = c.requires; is = c.in-Name.is; few = c.if-functions-ge-MAX_FUNCTIONS.false };
      callable = sym c.in_ok-check_called.ensures.number;
      wrote = c.put_bytes-to.ensures.0;
    }

pub returns-then-is_known : goal.returns-then-is_known
returns-then-is_known c =
    rw c.fault_at-then-is_known.ensures (function-known (copied-here (goal.at.returns-then-is_known c).After-put_bytes-to)
    c.is_known.ensures c.if-is_known.true)

pub returns : goal.returns
returns c =
    function-reads (copied-here (goal.at.returns c).After-put_bytes-to) c.is_known.ensures c.if-is_known.false refl c.body.ensures
