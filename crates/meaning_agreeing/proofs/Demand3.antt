-- Demand 3 over the definitions, for every allowed table, start, text, step allowance and whatever is lent. The proofs behind it: `agreement`
-- (rewriting and the run without end), `laws/Room` (the run without end and the run on lent cells, for any code), `laws/Translated` (packed words
-- unpacked).
use Prim.Native.Nat.{ℕ, ◌≤◌}
use mathlib.Core.Path.{◌≡◌, refl, sym, ◌∙◌}
use mathlib.Core.Logic.{◌↔◌}
use mathlib.Core.List.{List, [], ◌++◌}
use mathlib.Core.Option.{Option, none, some}
use lib.Dec.{T, leb, leb→le, ltb, ltb→lt}
use lib.ListN.{length, length-map}
use borrow.Author.Tests.{le-leb}
use Rattle.meaning.specs.Choice.{Bytes}
use Rattle.meaning.specs.Answers.{no_instruction}
use Rattle.meaning.specs.Tree.{Table}
use Rattle.meaning.specs.Outcome.{max_counted, done}
use Rattle.meaning.specs.Rewriting.{Course, unbegun, applications_from, tally_of, apply, history_of, rewrite}
use Rattle.meaning.specs.Allowed.{allowed}
use Rattle.meaning.specs.Machine.{is_declared}
use Rattle.meaning.specs.Runs.{Room, endless, Passed, run_under, run_endless, run_lent, passed_first}
use Rattle.meaning.specs.Translation.{translated_function, translate}
use Rattle.meaning.specs.Packing.{Words, pack}
use Rattle.meaning.specs.Leaving.{Cells, after_run, room_of, leaving}
use Rattle.meaning.specs.Demanded.{stopped_at, unless_passed, demanded}
use Rattle.meaning_agreeing.proofs.Agreement.Agree.{agree-done, agree-result, agree-steps}
use Rattle.meaning.proofs.Laws.Choosing.{both-pair, passed-true}
use Rattle.meaning_agreeing.proofs.Agreement.Total.{rewrite-total}
use Rattle.meaning_agreeing.proofs.Laws.Counts.{total}
use Rattle.meaning_agreeing.proofs.Laws.Room.{lent-equal, lent-passed, lent-exactly}
use Rattle.meaning_agreeing.proofs.Laws.Known.{Agrees, equal, passing, leaving-known}
use Rattle.meaning_agreeing.proofs.Laws.Translated.{unpacked}

module _ (table : Table) (ok : T (allowed table)) (start : ℕ) (text : Bytes) (allowance : ℕ) where
  -- 1. WITHOUT END: the machine gives rewriting's outcome: answer, text, emissions, steps and failing function
  pub without_end : run_endless (translate table) start text allowance ≡ rewrite table start text allowance
  without_end = agree-result table ok start text allowance

  -- at the end stack in holds nothing, and out is the text
  pub at-the-end : (result : Bytes) (t : Course) → apply allowance table start text (unbegun allowance) ≡ done result t →
      run_under endless (translate table) start text allowance tt ≡
      done (record { input = []; selected = 0; output = result }) (record { tally = tally_of t; mark = tt })
  at-the-end = agree-done table ok start text allowance

  abbrev history : List ℕ
  history = history_of (apply allowance table start text (unbegun allowance))

  -- "Each application of a declared function is one step": the steps are as many as the applications in rewriting's history
  pub steps-agree : (run_endless (translate table) start text allowance).steps ≡ length history
  steps-agree = (agree-steps table ok start text allowance).0

  -- 02, T-01: "Each number equals the function's applications in the rewriting's own history"
  pub counts-agree : (run_endless (translate table) start text allowance).counts ≡ applications_from 1 max_counted history
  counts-agree = (agree-steps table ok start text allowance).1

  -- and for a declared start the counts of all functions add up to the steps
  pub counts-total : T (is_declared (translate table) start) →
      total (run_endless (translate table) start text allowance).counts ≡ (run_endless (translate table) start text allowance).steps
  counts-total declared =
      let d = both-pair (ltb 0 start) (leb start (length (translate table))) declared in
      let last : start ≤ length table = rw (length-map table (translated_function table)) at (leb→le start _ d.1) in
      rw without_end (rewrite-total table ok start text allowance (ltb→lt 0 start d.0) last)

  -- 2. ON LENT CELLS: where the run without end passes nothing, the outcome is rewriting's
  pub kept-within : (room : Room) → passed_first room (translate table) start text allowance ≡ none →
      run_lent room (translate table) start text allowance ≡ rewrite table start text allowance
  kept-within room e = lent-equal room (translate table) start text allowance e ∙ without_end

  -- where it passes something, the run on lent cells stops there
  pub passed : (room : Room) (p : Passed) → passed_first room (translate table) start text allowance ≡ some p →
      run_lent room (translate table) start text allowance ≡ stopped_at p
  passed room p e = lent-passed room (translate table) start text allowance p e

  -- and the two outcomes are equal exactly when nothing was passed
  pub exactly-when : (room : Room) →
      (run_lent room (translate table) start text allowance ≡ rewrite table start text allowance) ↔
      (passed_first room (translate table) start text allowance ≡ none)
  exactly-when room = (λ same. lent-exactly room (translate table) start text allowance (same ∙ sym without_end), kept-within room)

  -- both cases in one equation
  pub as-demanded : (room : Room) → run_lent room (translate table) start text allowance ≡ demanded room table start text allowance
  as-demanded room = by (passed_first room (translate table) start text allowance) refl
    where
      by : (o : Option Passed) → passed_first room (translate table) start text allowance ≡ o →
          run_lent room (translate table) start text allowance ≡ unless_passed o (rewrite table start text allowance)
      by none e = kept-within room e
      by (some p) e = passed room p e

  -- 3. ON WORDS: the packed code, whatever words follow it, leaves what the run on lent cells gives
  pub on-words : (junk : Words) (cells : Cells) → T (is_declared (translate table) start) → length text ≤ length cells.stack_in →
      leaving (pack (translate table) ++ junk) start text cells allowance ≡
      after_run (run_lent (room_of cells) (translate table) start text allowance) cells
  on-words junk cells declared fits =
      rw (unpacked table ok junk, passed-true (is_declared (translate table) start) declared, le-leb (length text) (length cells.stack_in) fits)

  agrees : (room : Room) → Agrees (run_lent room (translate table) start text allowance) table start text allowance
  agrees room = by (passed_first room (translate table) start text allowance) refl
    where
      by : (o : Option Passed) → passed_first room (translate table) start text allowance ≡ o →
          Agrees (run_lent room (translate table) start text allowance) table start text allowance
      by none e = equal (kept-within room e)
      by (some p) e = passing p.need (rw (passed room p e))

  -- "Translated code never meets 18"
  pub never-unknown : (junk : Words) (cells : Cells) →
      (leaving (pack (translate table) ++ junk) start text cells allowance).result.answer ≡ no_instruction → ⊥
  never-unknown junk cells = leaving-known table ok junk start text cells allowance (λ declared. agrees (room_of cells))
