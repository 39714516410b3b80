-- The machine chooses the sentence that rewriting chooses, and its instructions do what evaluating its expression does.
use Prim.Native.Nat.{ℕ, zero, suc}
use mathlib.Core.Path.{◌≡◌, refl}
use mathlib.Core.List.{List, [], ◌∷◌, ◌++◌, map}
use mathlib.Core.Option.{Option, none, some}
use lib.ListN.{length}
use Rattle.meaning.specs.Choice.{Bytes, or_else, nth}
use Rattle.meaning.specs.Tree.{Sentence, Table}
use Rattle.meaning.specs.Outcome.{Outcome}
use Rattle.meaning.specs.Rewriting.{Course, Bindings, Fit, fitted, choose, sentences_of, function_at, evaluate, call_named, recoverer_for}
use Rattle.meaning.specs.Rewriting.{recoverer_at}
use Rattle.meaning.specs.Matching.{Found, Choice, chosen, chosen_none, choice_of, choose_from, stored_values}
use Rattle.meaning.specs.Machine.{function_of, code_at, started}
use Rattle.meaning.specs.Runs.{endless}
use Rattle.meaning.specs.Translation.{shape_of, tested_shape, stores_of, at_start, actions_of, translated_sentences, translated_function, translate}
use Rattle.meaning_agreeing.proofs.Agreement.Carrying.{stacks, ledger, carried, Applying}
use Rattle.meaning_agreeing.proofs.Agreement.Sound.{sounds}
use Rattle.meaning_agreeing.proofs.Agreement.Expressions.{Callee, evaluated}
use Rattle.meaning_agreeing.proofs.Agreement.Places.{Agreeing, neither, alike}
use Rattle.meaning_agreeing.proofs.Agreement.Layout.{locals}
use Rattle.meaning_agreeing.proofs.Agreement.Fitting.{Fitting, agrees}
use Rattle.meaning_agreeing.proofs.Agreement.Facts.{sites_of, Allowable, Allowables, no_sentence, sentences}

module _ (table : Table) (field : Bytes) where
  -- the same sentence is chosen, with the same bindings; or none, and there is the number of the function that recovers
  pub data Chosen (r : ℕ) : Choice → Option Fit → Type 0 where
    nowhere : Chosen r (chosen_none r) none
    here : {at : ℕ} {s : Sentence} {bound : Bindings} → Allowable table s → Fitting (shape_of s.pattern) (sites_of s.pattern) field at bound →
        Chosen r
        (chosen at (stores_of (tested_shape (shape_of s.pattern))) (actions_of table (shape_of s.pattern) (sites_of s.pattern) s.expression))
        (some (record { fitting = s; bindings = bound }))

  -- this sentence if it fits, else what the later ones give
  first-fitting : {r : ℕ} {s : Sentence} {found : Found} {o : Option Bindings} {choice : Choice} {later : Option Fit} →
      Allowable table s → Agreeing (Fitting (shape_of s.pattern) (sites_of s.pattern) field) found o → Chosen r choice later →
      Chosen r
      (choice_of found (stores_of (tested_shape (shape_of s.pattern)))
      (actions_of table (shape_of s.pattern) (sites_of s.pattern) s.expression) choice)
      (or_else (fitted s o) later)
  first-fitting a neither c = c
  first-fitting a (alike f) c = here a f

  pub chosen-alike : (r : ℕ) {ss : List Sentence} → Allowables table ss →
      Chosen r (choose_from (translated_sentences table r ss) field) (choose ss field)
  unfolding choose_from translated_sentences choose
  chosen-alike r no_sentence = nowhere
  chosen-alike r (sentences {s} {ss} a more) =
      first-fitting a (rw a.pattern at (agrees s.conditions (shape_of s.pattern) field a.apart a.asks))
      (chosen-alike r more)

-- a function's code is the translation of its sentences
pub code-at : (table : Table) (f : ℕ) → code_at (translate table) f ≡ translated_sentences table (recoverer_at table f) (function_at table f)
unfolding nth translated_sentences
code-at table zero = refl
code-at table (suc i) = there table i
  where
    there : (fs : Table) (i : ℕ) →
        function_of (nth i (map (translated_function table) fs)) ≡
        translated_sentences table (recoverer_for table (nth i fs)) (sentences_of (nth i fs))
    there [] i = refl
    there (f ∷ fs) zero = refl
    there (f ∷ fs) (suc i) = there fs i

-- a chosen sentence's instructions
pub sentence-run : (table : Table) (enter : Applying) (apply : ℕ → Bytes → Course → Outcome Bytes Course) → Callee enter apply →
    (s : Sentence) (field : Bytes) (at : ℕ) (bound : Bindings) → Allowable table s →
    Fitting (shape_of s.pattern) (sites_of s.pattern) field at bound →
    (frame : ℕ) (below o : Bytes) (t : Course) →
    started endless (translate table) enter frame (actions_of table (shape_of s.pattern) (sites_of s.pattern) s.expression) at
    (stored_values (stores_of (tested_shape (shape_of s.pattern))) field at) (stacks (field ++ below) (length field) o) (ledger t) ≡
    carried below o (evaluate (call_named table apply) bound s.expression t)
sentence-run table enter apply callee s field at bound a f frame below o t =
    let r = sounds table (shape_of s.pattern) (sites_of s.pattern) bound (locals (length field) at f.values) f.standing s.expression
    at_start a.later
    a.spelled a.coming a.calls in
    rw f.stored
    (rw f.whole at
    (evaluated table (shape_of s.pattern) (sites_of s.pattern) bound (locals (length field) at f.values) f.standing below frame enter apply
    callee
    r.sound a.nested o t))
