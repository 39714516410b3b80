-- "Translated code never meets 18": from what rewriting answers, given that the run agrees with it.
use mathlib.Core.Path.{◌≡◌, ap, sym, ◌∙◌}
use mathlib.Core.Bool.{Bool, true, false}
use mathlib.Core.List.{◌++◌}
use Prim.Native.Nat.{ℕ, ◌<◌}
use native.Mathlib.Omega.{arith}
use lib.Dec.{T, leb}
use lib.ListN.{length}
use Rattle.meaning.specs.Choice.{Bytes, pick}
use Rattle.meaning.specs.Answers.{no_such_start, text_too_long, no_instruction}
use Rattle.meaning.specs.Tree.{Table}
use Rattle.meaning.specs.Allowed.{allowed}
use Rattle.meaning.specs.Outcome.{Result}
use Rattle.meaning.specs.Rewriting.{rewrite}
use Rattle.meaning.specs.Instructions.{Code}
use Rattle.meaning.specs.Machine.{Need, in_cells, out_cells, record_bytes, frames, is_declared}
use Rattle.meaning.specs.Runs.{answer_to, run_lent}
use Rattle.meaning.specs.Translation.{translate}
use Rattle.meaning.specs.Packing.{Words, pack}
use Rattle.meaning.specs.Leaving.{Cells, Leaving, refused_run, after_run, room_of, leaving}
use Rattle.meaning_agreeing.proofs.Laws.Answers.{Ends, ended, unfitted, spent, misformed, past, rewrite-ends}
use Rattle.meaning_agreeing.proofs.Laws.Translated.{unpacked}

-- any answer but one
abbrev pub Avoids : ℕ → ℕ → Type 0
Avoids number answer = answer ≡ number → ⊥

abbrev pub Known : ℕ → Type 0
Known answer = Avoids no_instruction answer

ends-known : (answer function : ℕ) → Ends answer function → Known answer
ends-known answer function (ended e f) h = omega arith
ends-known answer function (unfitted e) h = omega arith
ends-known answer function (spent e f) h = omega arith
ends-known answer function (misformed e f) h = omega arith
ends-known answer function (past e f) h = omega arith

need-known : (need : Need) → Known (answer_to need)
need-known (in_cells n) h = omega arith
need-known (out_cells n) h = omega arith
need-known (record_bytes n) h = omega arith
need-known (frames n) h = omega arith

pub rewrite-known : (table : Table) (start : ℕ) (text : Bytes) (allowance : ℕ) → Known (rewrite table start text allowance).answer
rewrite-known table start text allowance = ends-known _ _ (rewrite-ends table start text allowance)

-- what demand 3 says of a run on lent cells: rewriting's result, or the number of the need that was passed first
pub data Agrees (r : Result) (table : Table) (start : ℕ) (text : Bytes) (allowance : ℕ) : Type 0 where
  equal : r ≡ rewrite table start text allowance → Agrees r table start text allowance
  passing : (need : Need) → r.answer ≡ answer_to need → Agrees r table start text allowance

pub agrees-known : (r : Result) (table : Table) (start : ℕ) (text : Bytes) (allowance : ℕ) → Agrees r table start text allowance → Known r.answer
agrees-known r table start text allowance (equal e) h = rewrite-known table start text allowance (sym (ap (λ (x : Result). x.answer) e) ∙ h)
agrees-known r table start text allowance (passing need e) h = need-known need (sym e ∙ h)

module _ (number : ℕ) (high : text_too_long < number) (code : Code) (start : ℕ) (text : Bytes) (cells : Cells) (allowance : ℕ) where
  abbrev ran : Result
  ran = run_lent (room_of cells) code start text allowance

  abbrev fitting : Bool → Leaving
  fitting fits = pick fits (after_run ran cells) (refused_run text_too_long cells)

  fitting-avoids : (fits : Bool) → Avoids number ran.answer → Avoids number (fitting fits).result.answer
  fitting-avoids true avoids h = avoids h
  fitting-avoids false avoids h = omega arith

  declared-avoids : (declared fits : Bool) → (T declared → Avoids number ran.answer) →
      Avoids number (pick declared (fitting fits) (refused_run no_such_start cells)).result.answer
  declared-avoids true fits avoids h = fitting-avoids fits (avoids tt) h
  declared-avoids false fits avoids h = omega arith

-- what the run never answers, the packed code never does, whatever words follow it
pub leaving-avoids : (number : ℕ) → text_too_long < number → (table : Table) → T (allowed table) →
    (junk : Words) (start : ℕ) (text : Bytes) (cells : Cells) (allowance : ℕ) →
    (T (is_declared (translate table) start) → Avoids number (run_lent (room_of cells) (translate table) start text allowance).answer) →
    Avoids number (leaving (pack (translate table) ++ junk) start text cells allowance).result.answer
leaving-avoids number high table t junk start text cells allowance avoids =
    rw (unpacked table t junk)
    (declared-avoids number high (translate table) start text cells allowance (is_declared (translate table) start)
    (leb (length text) (length cells.stack_in))
    avoids)

-- whatever words follow the code, and whatever is lent
pub leaving-known : (table : Table) → T (allowed table) → (junk : Words) (start : ℕ) (text : Bytes) (cells : Cells) (allowance : ℕ) →
    (T (is_declared (translate table) start) → Agrees (run_lent (room_of cells) (translate table) start text allowance) table start text allowance) →
    Known (leaving (pack (translate table) ++ junk) start text cells allowance).result.answer
leaving-known table t junk start text cells allowance agrees =
    leaving-avoids no_instruction (omega arith) table t junk start text cells allowance
    (λ declared. agrees-known _ table start text allowance (agrees declared))
