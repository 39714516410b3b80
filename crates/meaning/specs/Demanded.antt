-- What demand 3 asks of reading a table, translating it and running its code: "the outcome of rewriting the table by
-- Refal-0's own rules and the outcome of running its code are equal exactly when the code's run, followed on stacks
-- without end, keeps within the lent cells, the record and 256 frames until it ends. Otherwise the code answers which
-- of in, out, record and frames that run passed first, gives no text, and has the steps and emissions that run had made
-- before passing it".
use Rattle.std.specs.Prelude.{ℕ, []}
use Rattle.std.proofs.Math.Option.{Option, none, some}
use Rattle.meaning.specs.Choice.{Bytes}
use Rattle.meaning.specs.Tree.{Table}
use Rattle.meaning.specs.Outcome.{Result, told}
use Rattle.meaning.specs.Rewriting.{rewrite}
use Rattle.meaning.specs.Runs.{Room, answer_to, Passed, passed_first}
use Rattle.meaning.specs.Translation.{translate}

-- the answer where a need is passed first
abbrev pub stopped_at : Passed → Result
stopped_at p = told (answer_to p.need) 0 [] p.tally

-- rewriting's outcome where nothing is passed, and else where it stops
abbrev pub unless_passed : Option Passed → Result → Result
unless_passed none rewritten = rewritten
unless_passed (some p) rewritten = stopped_at p

abbrev pub demanded : Room → Table → ℕ → Bytes → ℕ → Result
demanded room t start text allowance =
    unless_passed (passed_first room (translate t) start text allowance) (rewrite t start text allowance)
