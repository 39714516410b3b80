-- DEMAND 3 WITHOUT END: on stacks without end the machine, fed an allowed table's translation, comes to the outcome of rewriting the table: the same
-- answer, text, emissions, steps and failing function, for every start, text and allowance. The start need not even be declared: both sides look a
-- number up alike.
use Prim.Native.Nat.{ℕ, zero, suc}
use native.Mathlib.Omega.{arith}
use mathlib.Core.Path.{◌≡◌, refl, sym, ◌∙◌, ap}
use mathlib.Core.Bool.{true}
use mathlib.Core.List.{[], ◌++◌, append-nil}
use mathlib.Core.Option.{Option, none, some, none-ne-some}
use lib.Dec.{T}
use lib.ListN.{length}
use lib.Seq.{take-append_seam}
use Rattle.meaning.specs.Choice.{Bytes, numbered}
use Rattle.meaning.specs.Tree.{Function, Table}
use Rattle.meaning.specs.Answers.{allowance_spent}
use Rattle.meaning.specs.Outcome.{pay, max_counted, Outcome, done, stop, result_of}
use Rattle.meaning.specs.Rewriting.{Course, unbegun, take_step, applications_from, tally_of, tallied, Fit, recoverer_for, recoverer_at, unfitted}
use Rattle.meaning.specs.Rewriting.{rewritten, applied, apply, history_of, rewrite}
use Rattle.meaning.specs.Allowed.{allowed}
use Rattle.meaning.specs.Matching.{Choice, chosen_none}
use Rattle.meaning.specs.Machine.{is_declared, ran_choice, ran_paid, enter}
use Rattle.meaning.specs.Runs.{endless, run_under, text_of, run_endless}
use Rattle.meaning.specs.Translation.{translate}
use Rattle.meaning_agreeing.proofs.Laws.Translated.{recoverer-low}
use Rattle.meaning_agreeing.proofs.Laws.Counts.{told as told_of, none-applied, paid-alike}
use Rattle.meaning_agreeing.proofs.Agreement.Carrying.{stacks, ledger, carried}
use Rattle.meaning_agreeing.proofs.Agreement.Expressions.{declared-in, Callee}
use Rattle.meaning_agreeing.proofs.Agreement.Facts.{facts}
use Rattle.meaning_agreeing.proofs.Agreement.Sentences.{Chosen, nowhere, here, chosen-alike, code-at, sentence-run}

module _ (table : Table) (ok : T (allowed table)) where
  -- rewriting stops with 12 where nothing is left to pay with, at any depth
  spent : (depth f : ℕ) (text : Bytes) (t : Course) → pay f (tally_of t) ≡ none → apply depth table f text t ≡ stop allowance_spent 0 t
  unfolding apply
  spent zero f text t e = refl
  spent (suc depth) f text t e = by (take_step f t) (sym (paid-alike f t) ∙ e)
    where
      by : (o : Option Course) → told_of o ≡ none → applied table (apply depth table) f text t o ≡ stop allowance_spent 0 t
      by none e = refl
      by (some u) e = absurd (none-ne-some (tally_of u) (sym e))

  -- a function that recovers is one of the code
  recoverer-there : (r : ℕ) (o : Option Function) → recoverer_for table o ≡ suc r → is_declared (translate table) (suc r) ≡ true
  recoverer-there r none e = absurd (omega arith)
  recoverer-there r (some f) e =
      declared-in table (suc r) (omega arith) (omega (arith, recoverer-low table f.name))

  -- where no sentence fits, recovery is applied, or 11 is answered, on both sides
  unfitted-run : (depth frame f r : ℕ) (field below o : Bytes) (t : Course) → Callee (enter endless depth (translate table)) (apply depth table) →
      recoverer_at table f ≡ r →
      ran_choice endless (translate table) (enter endless depth (translate table)) frame f (chosen_none r) (stacks (field ++ below) (length field) o)
      (ledger t) ≡
      carried below o (unfitted (apply depth table) r f field t)
  unfitted-run depth frame f zero field below o t callee e = refl
  unfitted-run depth frame f (suc r) field below o t callee e =
      rw (recoverer-there r (numbered f table) e) (callee.same frame (suc r) field below o t)

  -- the chosen sentence is run on both sides
  chosen-run : (depth frame f : ℕ) (field below o : Bytes) (t : Course) → Callee (enter endless depth (translate table)) (apply depth table) →
      {c : Choice} {fit : Option Fit} → Chosen table field (recoverer_at table f) c fit →
      ran_choice endless (translate table) (enter endless depth (translate table)) frame f c (stacks (field ++ below) (length field) o) (ledger t) ≡
      carried below o (rewritten table (apply depth table) f field fit t)
  chosen-run depth frame f field below o t callee nowhere = unfitted-run depth frame f (recoverer_at table f) field below o t callee refl
  chosen-run depth frame f field below o t callee (here {at} {s} {bound} a fits) =
      rw (take-append_seam field below) (sentence-run table (enter endless depth (translate table)) (apply depth table) callee s field at bound a fits
      frame below o t)

  -- by induction on the depth: one application, in any frame, whatever lies below its field on in and before its result on out
  pub application : (depth frame f : ℕ) (field below o : Bytes) (t : Course) →
      enter endless depth (translate table) frame f (stacks (field ++ below) (length field) o) (ledger t) ≡
      carried below o (apply depth table f field t)
  unfolding enter apply
  application zero frame f field below o t = refl
  application (suc depth) frame f field below o t = rw (paid-alike f t)
      (paid (take_step f t) (record { same = application depth; spent = spent depth }))
    where
      paid : (p : Option Course) → Callee (enter endless depth (translate table)) (apply depth table) →
          ran_paid endless (translate table) (enter endless depth (translate table)) frame f (stacks (field ++ below) (length field) o) (ledger t)
          (told_of p) ≡
          carried below o (applied table (apply depth table) f field t p)
      paid none callee = refl
      paid (some t₁) callee =
          rw (take-append_seam field below, code-at table f)
          (chosen-run depth frame f field below o t₁ callee (chosen-alike table field (recoverer_at table f) (facts table ok f)))

  -- The run from the start. `carried` says all of it: where rewriting is done, the machine is done, in holds nothing and out exactly the text; where
  -- rewriting stops, the machine stops with the same answer and function; and either way steps and emissions are the same.
  pub agree : (start : ℕ) (text : Bytes) (allowance : ℕ) →
      run_under endless (translate table) start text allowance tt ≡ carried [] [] (apply allowance table start text (unbegun allowance))
  agree start text allowance = rw none-applied at (rw append-nil at (application allowance 1 start text [] [] (unbegun allowance)))

  pub agree-done : (start : ℕ) (text : Bytes) (allowance : ℕ) (result : Bytes) (t : Course) → apply allowance table start text (unbegun allowance) ≡
      done result t →
      run_under endless (translate table) start text allowance tt ≡ done (stacks [] 0 result) (ledger t)
  agree-done start text allowance result t e = agree start text allowance ∙ ap (carried [] []) e

  -- the outcome as 01 tells it
  pub agree-result : (start : ℕ) (text : Bytes) (allowance : ℕ) → run_endless (translate table) start text allowance ≡
      rewrite table start text allowance
  agree-result start text allowance = rw (agree start text allowance) (told (apply allowance table start text (unbegun allowance)))
    where
      told : (r : Outcome Bytes Course) → result_of (text_of (carried [] [] r)) ≡ result_of (tallied r)
      told (done text t) = refl
      told (stop answer function t) = refl

  -- "Each application of a declared function is one step": the run's step number is the number of applications that rewriting made, and a function's
  -- count the number of its own
  pub agree-steps : (start : ℕ) (text : Bytes) (allowance : ℕ) →
      let history = history_of (apply allowance table start text (unbegun allowance)) in
      ((run_endless (translate table) start text allowance).steps ≡ length history) ×
      ((run_endless (translate table) start text allowance).counts ≡ applications_from 1 max_counted history)
  agree-steps start text allowance = rw (agree-result start text allowance) (told (apply allowance table start text (unbegun allowance)))
    where
      told : (r : Outcome Bytes Course) →
          ((result_of (tallied r)).steps ≡ length (history_of r)) × ((result_of (tallied r)).counts ≡ applications_from 1 max_counted (history_of r))
      told (done text t) = (refl, refl)
      told (stop answer function t) = (refl, refl)
