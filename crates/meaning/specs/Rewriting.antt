-- Rewriting by Refal-0's own rules: 01 'Rewriting', 000 section 2.2. It "is fed tree, start, text and allowance, and
-- knows no cell or frame".
use Rattle.std.specs.Prelude.{ℕ, zero, suc, Bool, true, false, List, [], ◌∷◌, ◌++◌, eqb, length}
use Rattle.std.proofs.Math.Option.{Option, none, some}
use Rattle.meaning.specs.Choice.{Bytes, Name, pick, both, guard, or_else, every, Named, lookup, numbered}
use Rattle.meaning.specs.Classes.{Class, in_class, same_truth}
use Rattle.meaning.specs.Tree.{character, symbol, Element, letter, part, Subject, of_symbol, of_part, Condition}
use Rattle.meaning.specs.Tree.{Expression, end, then_character, then_symbol, then_part, then_call, Sentence, Function}
use Rattle.meaning.specs.Tree.{Table}
use Rattle.meaning.specs.Angles.{angled}
use Rattle.meaning.specs.Names.{Calling, as_emission, as_angles, as_function, calling_of, number_of, recoverer_of}
use Rattle.meaning.specs.Answers.{no_sentence_fits, allowance_spent}
use Rattle.meaning.specs.Outcome.{Tally, max_counted, emitted_line, Outcome, done, stop, and_then, computed, Result}
use Rattle.meaning.specs.Outcome.{result_of}

-- what rewriting may still do, and has done so far: steps left of the allowance, its history, which is the numbers of
-- the functions applied, the latest first, and the record. "Each application of a declared function is one step", so
-- the steps made are as many as the functions applied
pub record Course : Type 0 where
  pub steps_left : ℕ
  pub history : List ℕ
  pub emissions : Bytes

abbrev pub unbegun : ℕ → Course
unbegun allowance = record { steps_left = allowance; history = []; emissions = [] }

abbrev pub took_from : ℕ → ℕ → Course → Option Course
took_from zero f t = none
took_from (suc n) f t = some (record { steps_left = n; history = f ∷ t.history; emissions = t.emissions })

-- an application of a function, if a step is left
abbrev pub take_step : ℕ → Course → Option Course
take_step f t = took_from t.steps_left f t

abbrev pub emitting : Name → Bytes → Course → Course
emitting name argument t =
    record { steps_left = t.steps_left; history = t.history; emissions = t.emissions ++ emitted_line name argument }

-- 02, T-01: "the function's applications in the rewriting's own history"
unfoldable pub applications : ℕ → List ℕ → ℕ
applications f [] = 0
applications f (g ∷ history) = let later = applications f history in pick (eqb f g) (suc later) later

-- those of so many functions, from a number on
unfoldable pub applications_from : ℕ → ℕ → List ℕ → List ℕ
applications_from f zero history = []
applications_from f (suc n) history = applications f history ∷ applications_from (suc f) n history

-- what there is to tell of a course
abbrev pub tally_of : Course → Tally
tally_of t =
    record {
      steps_left = t.steps_left;
      steps = length t.history;
      counts = applications_from 1 max_counted t.history;
      emissions = t.emissions;
    }

abbrev pub tallied : {A : Type 0} → Outcome A Course → Outcome A Tally
tallied (done v t) = done v (tally_of t)
tallied (stop answer function t) = stop answer function (tally_of t)

-- bytes for s-variables and parts for e-variables, in the order in which the pattern first names them
pub record Bindings : Type 0 where
  pub symbols : List (Named ℕ)
  pub parts : List (Named Bytes)

abbrev pub unbound : Bindings
unbound = record { symbols = []; parts = [] }

-- "Equal s-variables take equal bytes"
abbrev pub agreed : Option ℕ → Name → ℕ → List (Named ℕ) → Option (List (Named ℕ))
agreed none x b known = some (known ++ record { name = x; value = b } ∷ [])
agreed (some c) x b known = guard (eqb c b) (some known)

abbrev pub take_symbol : Name → ℕ → List (Named ℕ) → Option (List (Named ℕ))
take_symbol x b known = agreed (lookup x known) x b known

-- what is asked of what a variable took
abbrev pub asked_of : {A : Type 0} → Bool → (A → Bool) → Option A → Bool
asked_of expected test none = false
asked_of expected test (some taken) = same_truth expected (test taken)

-- of an s-variable its byte; of an e-variable its part: "It holds with 'T' when every byte of the part is in the class,
-- the empty part included, and with 'F' otherwise" (T-03)
abbrev pub holds_for : Class → Bool → Bindings → Subject → Bool
holds_for class expected bound (of_symbol x) = asked_of expected (in_class class) (lookup x bound.symbols)
holds_for class expected bound (of_part x) = asked_of expected (every (in_class class)) (lookup x bound.parts)

unfoldable pub hold : List Condition → Bindings → Bool
hold [] bound = true
hold (c ∷ cs) bound = both (holds_for c.predicate c.expected bound c.subject) (hold cs bound)

-- the first success among all ways to cut the text in two, the shortest first piece first
unfoldable pub shortest : {A : Type 0} → (Bytes → Bytes → Option A) → Bytes → Bytes → Option A
shortest k taken [] = k taken []
shortest k taken (b ∷ rest) = let later = shortest k (taken ++ b ∷ []) rest in or_else (k taken (b ∷ rest)) later

abbrev pub with_symbols : Bindings → List (Named ℕ) → Bindings
with_symbols bound known = record { symbols = known; parts = bound.parts }

abbrev pub with_part : Bindings → Name → Bytes → Bindings
with_part bound x piece =
    record { symbols = bound.symbols; parts = bound.parts ++ record { name = x; value = piece } ∷ [] }

abbrev pub match_rest : (Bindings → Option Bindings) → Bindings → Option (List (Named ℕ)) → Option Bindings
match_rest k bound none = none
match_rest k bound (some known) = k (with_symbols bound known)

-- "One fits if the text is its pattern with bytes for s-variables and parts, perhaps empty, for e-variables, and all
-- conditions hold". Parts are tried shortest first and conditions are asked of the whole match, so the middle template
-- "takes the leftmost place at which all characters, equalities and conditions hold".
unfoldable pub match : List Element → List Condition → Bytes → Bindings → Option Bindings
match [] conditions [] bound = guard (hold conditions bound) (some bound)
match [] conditions (b ∷ text) bound = none
match (letter (character c) ∷ pattern) conditions [] bound = none
match (letter (character c) ∷ pattern) conditions (b ∷ text) bound =
    let later = match pattern conditions text bound in guard (eqb c b) later
match (letter (symbol x) ∷ pattern) conditions [] bound = none
match (letter (symbol x) ∷ pattern) conditions (b ∷ text) bound =
    match_rest (match pattern conditions text) bound (take_symbol x b bound.symbols)
match (part x ∷ pattern) conditions text bound =
    shortest (λ piece rest. match pattern conditions rest (with_part bound x piece)) [] text

-- a sentence that fits, with what its variables take
pub record Fit : Type 0 where
  pub fitting : Sentence
  pub bindings : Bindings

abbrev pub fitted : Sentence → Option Bindings → Option Fit
fitted s none = none
fitted s (some bound) = some (record { fitting = s; bindings = bound })

-- "A function tries its sentences in order"
unfoldable pub choose : List Sentence → Bytes → Option Fit
choose [] text = none
choose (s ∷ sentences) text =
    let later = choose sentences text in
    or_else (fitted s (match s.pattern s.conditions text unbound)) later

abbrev pub symbol_bytes : Option ℕ → Bytes
symbol_bytes none = []
symbol_bytes (some b) = b ∷ []

abbrev pub part_bytes : Option Bytes → Bytes
part_bytes none = []
part_bytes (some piece) = piece

abbrev pub before : {L : Type 0} → Bytes → Outcome Bytes L → Outcome Bytes L
before text o = and_then o (λ rest t. done (text ++ rest) t)

-- how a function is applied to a text, by its number or by its name
abbrev pub Applying : Type 0 → Type 0
Applying A = A → Bytes → Course → Outcome Bytes Course

-- "its result is the expression with these put in and each call's text in the call's place ... Calls are done left to
-- right, inner before outer"
unfoldable pub evaluate : Applying Name → Bindings → Expression → Course → Outcome Bytes Course
evaluate call bound end t = done [] t
evaluate call bound (then_character c e) t = before (c ∷ []) (evaluate call bound e t)
evaluate call bound (then_symbol x e) t = before (symbol_bytes (lookup x bound.symbols)) (evaluate call bound e t)
evaluate call bound (then_part x e) t = before (part_bytes (lookup x bound.parts)) (evaluate call bound e t)
evaluate call bound (then_call place n argument e) t =
    and_then (evaluate call bound argument t)
    (λ text t₁. and_then (call n text t₁) (λ given t₂. before given (evaluate call bound e t₂)))

abbrev pub sentences_of : Option Function → List Sentence
sentences_of none = []
sentences_of (some f) = f.sentences

-- the sentences of the function with a number
abbrev pub function_at : Table → ℕ → List Sentence
function_at table number = sentences_of (numbered number table)

-- "Emission ... gives the empty text"; it is no step, and neither is an angle call
abbrev pub called_as : Calling → Name → Bytes → Course → Outcome Bytes Course → Outcome Bytes Course
called_as as_emission n text t applied = done [] (emitting n text t)
called_as (as_angles op) n text t applied = computed (angled op text) t
called_as as_function n text t applied = applied

abbrev pub call_named : Table → Applying ℕ → Name → Bytes → Course → Outcome Bytes Course
call_named table apply n text t =
    let applied = apply (number_of table n) text t in
    called_as (calling_of n) n text t applied

abbrev pub recoverer_for : Table → Option Function → ℕ
recoverer_for table none = 0
recoverer_for table (some f) = recoverer_of table f.name

-- the number of the function that recovers the one with a number, or 0
abbrev pub recoverer_at : Table → ℕ → ℕ
recoverer_at table number = recoverer_for table (numbered number table)

-- 02, T-04: "RecoverX is applied to the text X was given"; "Answer 11 remains for the rest"
abbrev pub unfitted : Applying ℕ → ℕ → ℕ → Bytes → Course → Outcome Bytes Course
unfitted apply zero number text t = stop no_sentence_fits number t
unfitted apply (suc r) number text t = apply (suc r) text t

-- "An application that fits no sentence counts as a step"
abbrev pub rewritten : Table → Applying ℕ → ℕ → Bytes → Option Fit → Course → Outcome Bytes Course
rewritten table apply number text none t = unfitted apply (recoverer_at table number) number text t
rewritten table apply number text (some f) t =
    evaluate (call_named table apply) f.bindings f.fitting.expression t

-- "the first application past the allowance ... ends the run"; "one answered 12 ... doesn't" count as a step
abbrev pub applied : Table → Applying ℕ → ℕ → Bytes → Course → Option Course → Outcome Bytes Course
applied table apply number text t none = stop allowance_spent 0 t
applied table apply number text t (some paid) =
    rewritten table apply number text (choose (function_at table number) text) paid

-- One application. The depth bounds how deep applications nest: each one takes a step, so a depth of the steps left is
-- never reached before they are spent, and the depth never shows (proved in proofs/laws/Depth).
unfoldable pub apply : ℕ → Table → ℕ → Bytes → Course → Outcome Bytes Course
apply zero table number text t = stop allowance_spent 0 t
apply (suc depth) table number text t = applied table (apply depth table) number text t (take_step number t)

-- the functions that a rewriting applied, the latest first
abbrev pub history_of : Outcome Bytes Course → List ℕ
history_of (done text t) = t.history
history_of (stop answer function t) = t.history

abbrev pub rewrite : Table → ℕ → Bytes → ℕ → Result
rewrite table start text allowance = result_of (tallied (apply allowance table start text (unbegun allowance)))
