-- The facts about `calls::unknown_call` that the check is told.
use Prim.Native.Nat.{◌+◌}
use mathlib.Core.Path.{◌≡◌, sym, ◌∙◌, ap}
use mathlib.Core.Bool.{false}
use native.Mathlib.Omega.{arith}
use lib.ListN.{get_or, drop}
use Rattle.tape_words.specs.Words.{head_names}
use Rattle.read_table.specs.Calls.{unknown_as, word_known}
use Rattle.read_table.proofs.Called.{search-goes, search-finds, search-ends, searched-follows}
use Rattle.read_table.proofs.Called.{table-found}
use Rattle.read_table.proofs.calls.unknown_call.Goals.{Then-not-calls_known}
use Rattle.read_table.proofs.calls.unknown_call.Goals as goal

-- the word at `i` calls a name that is not known
unknown-here : (c : Then-not-calls_known)
    → let a = c.args in
    word_known (head_names a.tape.now a.heads.now) (get_or a.tape.now c.loop-i.i 0)
    (drop (c.loop-i.i + 1) a.tape.now) ≡ false
unknown-here c = sym c.calls_known.ensures ∙ c.if-not-calls_known.true

pub calls_known-requires : goal.calls_known-requires
calls_known-requires c =
    (searched-follows c.loop-i.invariant c.loop-i-test.true, omega arith)

pub returns-then-not-calls_known : goal.returns-then-not-calls_known
returns-then-not-calls_known c =
    λ t h. ap unknown_as (sym (search-finds c.loop-i.invariant c.loop-i-test.true (unknown-here
    (goal.at.returns-then-not-calls_known c).Then-not-calls_known)) ∙ table-found h)

pub loop-i-preserved : goal.loop-i-preserved
loop-i-preserved c =
    search-goes c.loop-i.invariant c.loop-i-test.true
    (sym c.calls_known.ensures ∙ c.if-not-calls_known.false)

pub returns : goal.returns
returns c = λ t h. ap unknown_as (sym (search-ends c.loop-i.invariant c.loop-i-test.false) ∙ table-found h)
