-- The facts about `read` that the check is told: its functions stop, a call is unknown, or the table is accepted.
use native.Mathlib.Omega.{arith}
use Rattle.std.proofs.lemmas.Result.{err_from_is_err_and}
use Rattle.read_table.proofs.Verdict.{TableRead, functions-stop, functions-done, searchable, call-unknown, calls-known}
use Rattle.read_table.proofs.read.Goals.{In_ok-table}
use Rattle.read_table.proofs.read.Goals as goal

-- the table was read, and the tape has its cells
table_here : (c : In_ok-table) → TableRead c.args.text.now c.functions.new.tape c.functions.new.heads c.in_ok-table.table
table_here c =
    let short = c.if-text-gt-MAX_TABLE.false in
    let room = c.requires.room short in
    functions-done short c.in_ok-table.ensures (omega arith)

pub returns-in_err-table : goal.returns-in_err-table
returns-in_err-table c =
    let p = err_from_is_err_and c.from_residual.result c.from_residual.ensures.1 in
    rw (p.1, p.2) (functions-stop c.if-text-gt-MAX_TABLE.false c.in_err-table.ensures)

pub unknown_call-requires : goal.unknown_call-requires
unknown_call-requires c = searchable (table_here (goal.at.unknown_call-requires c).In_ok-table)

pub returns-in-Some : goal.returns-in-Some
returns-in-Some c =
    call-unknown (table_here (goal.at.returns-in-Some c).In_ok-table) c.unknown_call.ensures c.in-Some.is

pub returns : goal.returns
returns c =
    calls-known (table_here (goal.at.returns c).In_ok-table) c.unknown_call.ensures c.in_default.is
