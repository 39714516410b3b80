-- The counts of all functions add up to the steps: every function in rewriting's history is one of the table's.
use Prim.Native.Nat.{ℕ, zero, suc, ◌≤◌, ◌<◌}
use native.Mathlib.Omega.{arith}
use mathlib.Core.Path.{◌≡◌}
use mathlib.Core.List.{[], ◌∷◌, ◌++◌}
use mathlib.Core.Option.{Option, none, some}
use lib.Dec.{T, leb, ltb, ltb→lt, leb→le}
use lib.ListN.{length}
use Rattle.meaning.specs.Choice.{Bytes, Name, either, lookup, numbered}
use Rattle.meaning.specs.Tree.{Expression, end, then_character, then_symbol, then_part, then_call, Function, Table}
use Rattle.meaning.specs.Angles.{Angled, sum, not_angles, out_of_range, angled}
use Rattle.meaning.specs.Names.{number_of, Calling, as_emission, as_angles, as_function, calling_of, built_in, is_known}
use Rattle.meaning.specs.Outcome.{Outcome, done, stop, and_then, result_of, computed}
use Rattle.meaning.specs.Rewriting.{Course, unbegun, took_from, tallied, Bindings, Fit, symbol_bytes, part_bytes, before, evaluate, call_named}
use Rattle.meaning.specs.Rewriting.{recoverer_for, recoverer_at, unfitted, rewritten, applied, apply, rewrite, called_as}
use Rattle.meaning.specs.Allowed.{allowed, calls_known, max_functions}
use Rattle.meaning.specs.Matching.{Choice}
use Rattle.meaning.proofs.Laws.Packable.{All, nil, cons}
use Rattle.meaning_agreeing.proofs.Laws.Counts.{total, HasCount, history-total}
use Rattle.meaning_agreeing.proofs.Laws.Depth.{counted_of}
use Rattle.meaning_agreeing.proofs.Laws.Translated.{number-low, recoverer-low}
use Rattle.meaning.proofs.Laws.Choosing.{both_left, both_right, both-pair}
use Rattle.meaning_agreeing.proofs.Agreement.Facts.{facts}
use Rattle.meaning_agreeing.proofs.Agreement.Sentences.{Chosen, nowhere, here, chosen-alike}

-- every application so far has a count
abbrev Counted : Course → Type 0
Counted t = All HasCount t.history

abbrev StaysCounted : {A : Type 0} → Outcome A Course → Type 0
StaysCounted o = Counted (counted_of o)

then-counted : {A B : Type 0} (o : Outcome A Course) (k : A → Course → Outcome B Course) → StaysCounted o →
    ((v : A) (t : Course) → Counted t → StaysCounted (k v t)) → StaysCounted (and_then o k)
then-counted (done v t) k c h = h v t c
then-counted (stop answer function t) k c h = c

before-counted : (text : Bytes) (o : Outcome Bytes Course) → StaysCounted o → StaysCounted (before text o)
before-counted text o c = then-counted o (λ rest t. done (text ++ rest) t) c (λ v t c₁. c₁)

module _ (table : Table) (ok : T (allowed table)) where
  few : length table ≤ max_functions
  few = let h : T (leb (length table) max_functions) = search (both_left, both_right) depth 8 in leb→le _ _ h

  module _ (call : Name → Bytes → Course → Outcome Bytes Course) (bound : Bindings)
      (counted : (n : Name) (text : Bytes) (t : Course) → T (is_known table n) → Counted t → StaysCounted (call n text t)) where
    evaluate-counted : (e : Expression) (t : Course) → T (calls_known table e) → Counted t → StaysCounted (evaluate call bound e t)
    unfolding evaluate calls_known
    evaluate-counted end t known c = c
    evaluate-counted (then_character b e) t known c = before-counted (b ∷ []) (evaluate call bound e t) (evaluate-counted e t known c)
    evaluate-counted (then_symbol x e) t known c =
        before-counted (symbol_bytes (lookup x bound.symbols)) (evaluate call bound e t) (evaluate-counted e t known c)
    evaluate-counted (then_part x e) t known c =
        before-counted (part_bytes (lookup x bound.parts)) (evaluate call bound e t) (evaluate-counted e t known c)
    evaluate-counted (then_call place n a e) t known c =
        let k = both-pair (is_known table n) _ known in
        let p = both-pair (calls_known table a) (calls_known table e) k.1 in
        then-counted (evaluate call bound a t) _ (evaluate-counted a t p.0 c)
        (λ text t₁ c₁. then-counted (call n text t₁) _ (counted n text t₁ k.0 c₁)
        (λ given t₂ c₂. before-counted given (evaluate call bound e t₂) (evaluate-counted e t₂ p.1 c₂)))

  module _ (apply₁ : ℕ → Bytes → Course → Outcome Bytes Course)
      (counted : (f : ℕ) (text : Bytes) (t : Course) → HasCount f → Counted t → StaysCounted (apply₁ f text t)) where
    computed-counted : (a : Angled) (t : Course) → Counted t → StaysCounted (computed a t)
    computed-counted (sum given) t c = c
    computed-counted not_angles t c = c
    computed-counted out_of_range t c = c

    called-counted : (how : Calling) (n : Name) (text : Bytes) (t : Course) → T (either (built_in how) (ltb 0 (number_of table n))) → Counted t →
        StaysCounted (called_as how n text t (apply₁ (number_of table n) text t))
    called-counted as_emission n text t known c = c
    called-counted (as_angles op) n text t known c = computed-counted (angled op text) t c
    called-counted as_function n text t known c =
        counted (number_of table n) text t (omega (arith, ltb→lt 0 (number_of table n) known, number-low 0 table n, few)) c

    recoverer-counted : (r f : ℕ) (text : Bytes) (t : Course) → r ≤ length table → Counted t → StaysCounted (unfitted apply₁ r f text t)
    recoverer-counted zero f text t h c = c
    recoverer-counted (suc r) f text t h c = counted (suc r) text t (omega (arith, few)) c

    recoverer-at : (o : Option Function) → recoverer_for table o ≤ length table
    recoverer-at none = omega arith
    recoverer-at (some f) = recoverer-low table f.name

    rewritten-counted : (f : ℕ) (text : Bytes) (t : Course) {choice : Choice} {fit : Option Fit} →
        Chosen table text (recoverer_at table f) choice fit → Counted t → StaysCounted (rewritten table apply₁ f text fit t)
    rewritten-counted f text t nowhere c = recoverer-counted (recoverer_at table f) f text t (recoverer-at (numbered f table)) c
    rewritten-counted f text t (here {s} {bound} a fits) c =
        evaluate-counted (call_named table apply₁) bound (λ n text t. called-counted (calling_of n) n text t) s.expression t a.calls c

    applied-counted : (left f : ℕ) (text : Bytes) (t : Course) → HasCount f → Counted t →
        StaysCounted (applied table apply₁ f text t (took_from left f t))
    applied-counted zero f text t h c = c
    applied-counted (suc n) f text t h c = rewritten-counted f text _ (chosen-alike table text (recoverer_at table f) (facts table ok f)) (cons h c)

  apply-counted : (depth f : ℕ) (text : Bytes) (t : Course) → HasCount f → Counted t → StaysCounted (apply depth table f text t)
  unfolding apply
  apply-counted zero f text t h c = c
  apply-counted (suc depth) f text t h c = applied-counted (apply depth table) (apply-counted depth) t.steps_left f text t h c

  pub rewrite-total : (start : ℕ) (text : Bytes) (allowance : ℕ) → 0 < start → start ≤ length table →
      total (rewrite table start text allowance).counts ≡ (rewrite table start text allowance).steps
  rewrite-total start text allowance low high =
      told (apply allowance table start text (unbegun allowance)) (apply-counted allowance start text (unbegun allowance) (omega (arith, few)) nil)
    where
      told : (o : Outcome Bytes Course) → StaysCounted o → total (result_of (tallied o)).counts ≡ (result_of (tallied o)).steps
      told (done text t) c = history-total c
      told (stop answer function t) c = history-total c
