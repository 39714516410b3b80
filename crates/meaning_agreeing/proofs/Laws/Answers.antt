-- Rewriting ends done, or with 11 and the function that no sentence fits, or with 12, 20 or 21 and function 0.
use mathlib.Core.Path.{◌≡◌, refl}
use mathlib.Core.List.{[], ◌∷◌, ◌++◌}
use mathlib.Core.Option.{Option, none, some}
use Prim.Native.Nat.{ℕ, zero, suc}
use Rattle.meaning.specs.Choice.{Bytes, Name, lookup}
use Rattle.meaning.specs.Answers.{finished, no_sentence_fits, allowance_spent, argument_not_angles, angle_out_of_range}
use Rattle.meaning.specs.Tree.{Expression, end, then_character, then_symbol, then_part, then_call, Table}
use Rattle.meaning.specs.Angles.{Angled, sum, not_angles, out_of_range, angled}
use Rattle.meaning.specs.Names.{Calling, as_emission, as_angles, as_function, calling_of, number_of}
use Rattle.meaning.specs.Outcome.{Outcome, done, stop, and_then, computed, result_of}
use Rattle.meaning.specs.Rewriting.{Course, unbegun, take_step, tallied, Bindings, Fit, symbol_bytes, part_bytes, before, evaluate, function_at}
use Rattle.meaning.specs.Rewriting.{choose}
use Rattle.meaning.specs.Rewriting.{called_as, call_named, recoverer_at, unfitted as unfitted_at, rewritten, applied, apply, rewrite}

-- an answer with its function number
pub data Ends (answer function : ℕ) : Type 0 where
  ended : answer ≡ finished → function ≡ 0 → Ends answer function
  unfitted : answer ≡ no_sentence_fits → Ends answer function
  spent : answer ≡ allowance_spent → function ≡ 0 → Ends answer function
  misformed : answer ≡ argument_not_angles → function ≡ 0 → Ends answer function
  past : answer ≡ angle_out_of_range → function ≡ 0 → Ends answer function

-- what stops, stops so
abbrev pub StopsSo : {A L : Type 0} → (ℕ → ℕ → Type 0) → Outcome A L → Type 0
StopsSo so (done v l) = Unit {0}
StopsSo so (stop answer function l) = so answer function

pub then-stops : {A B L : Type 0} (so : ℕ → ℕ → Type 0) (o : Outcome A L) (k : A → L → Outcome B L) → StopsSo so o →
    ((v : A) (l : L) → StopsSo so (k v l)) → StopsSo so (and_then o k)
then-stops so (done v l) k p h = h v l
then-stops so (stop answer function l) k p h = p

abbrev pub Plain : {A : Type 0} → Outcome A Course → Type 0
Plain = StopsSo Ends

before-plain : (text : Bytes) (o : Outcome Bytes Course) → Plain o → Plain (before text o)
before-plain text o p = then-stops Ends o (λ rest t. done (text ++ rest) t) p (λ v t. tt)

module _ (call : Name → Bytes → Course → Outcome Bytes Course) (plain : (n : Name) (text : Bytes) (t : Course) → Plain (call n text t))
    (bound : Bindings) where
  evaluate-plain : (e : Expression) (t : Course) → Plain (evaluate call bound e t)
  unfolding evaluate
  evaluate-plain end t = tt
  evaluate-plain (then_character c e) t = before-plain (c ∷ []) (evaluate call bound e t) (evaluate-plain e t)
  evaluate-plain (then_symbol x e) t = before-plain (symbol_bytes (lookup x bound.symbols)) (evaluate call bound e t) (evaluate-plain e t)
  evaluate-plain (then_part x e) t = before-plain (part_bytes (lookup x bound.parts)) (evaluate call bound e t) (evaluate-plain e t)
  evaluate-plain (then_call place n a e) t =
      then-stops Ends (evaluate call bound a t) (λ text t₁. and_then (call n text t₁) (λ given t₂. before given (evaluate call bound e t₂)))
      (evaluate-plain a t)
      (λ text t₁. then-stops Ends (call n text t₁) (λ given t₂. before given (evaluate call bound e t₂)) (plain n text t₁)
      (λ given t₂. before-plain given (evaluate call bound e t₂) (evaluate-plain e t₂)))

computed-plain : (a : Angled) (t : Course) → Plain (computed a t)
computed-plain (sum text) t = tt
computed-plain not_angles t = misformed refl refl
computed-plain out_of_range t = past refl refl

as_plain : (c : Calling) (n : Name) (text : Bytes) (t : Course) (o : Outcome Bytes Course) → Plain o → Plain (called_as c n text t o)
as_plain as_emission n text t o p = tt
as_plain (as_angles op) n text t o p = computed-plain (angled op text) t
as_plain as_function n text t o p = p

module _ (table : Table) (apply₁ : ℕ → Bytes → Course → Outcome Bytes Course)
    (plain : (number : ℕ) (text : Bytes) (t : Course) → Plain (apply₁ number text t)) where
  unfitted-plain : (r number : ℕ) (text : Bytes) (t : Course) → Plain (unfitted_at apply₁ r number text t)
  unfitted-plain zero number text t = unfitted refl
  unfitted-plain (suc r) number text t = plain (suc r) text t

  rewritten-plain : (number : ℕ) (text : Bytes) (fit : Option Fit) (t : Course) → Plain (rewritten table apply₁ number text fit t)
  rewritten-plain number text none t = unfitted-plain (recoverer_at table number) number text t
  rewritten-plain number text (some f) t =
      evaluate-plain (call_named table apply₁)
      (λ n text t₁. as_plain (calling_of n) n text t₁ (apply₁ (number_of table n) text t₁) (plain (number_of table n) text t₁))
      f.bindings f.fitting.expression t

  applied_plain : (number : ℕ) (text : Bytes) (t : Course) (paid : Option Course) → Plain (applied table apply₁ number text t paid)
  applied_plain number text t none = spent refl refl
  applied_plain number text t (some paid) = rewritten-plain number text (choose (function_at table number) text) paid

pub apply-plain : (depth : ℕ) (table : Table) (number : ℕ) (text : Bytes) (t : Course) → Plain (apply depth table number text t)
unfolding apply
apply-plain zero table number text t = spent refl refl
apply-plain (suc depth) table number text t = applied_plain table (apply depth table) (apply-plain depth table) number text t (take_step number t)

result-plain : (o : Outcome Bytes Course) → Plain o → Ends (result_of (tallied o)).answer (result_of (tallied o)).function
result-plain (done text t) p = ended refl refl
result-plain (stop answer function t) p = p

pub rewrite-ends : (table : Table) (start : ℕ) (text : Bytes) (allowance : ℕ) →
    Ends (rewrite table start text allowance).answer (rewrite table start text allowance).function
rewrite-ends table start text allowance =
    result-plain (apply allowance table start text (unbegun allowance)) (apply-plain allowance table start text (unbegun allowance))
