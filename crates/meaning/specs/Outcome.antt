-- What both sides of demand 3 count and come to: steps and emissions so far, and an outcome. 01 'Rewriting': "Each
-- application of a declared function is one step"; "Emission adds name, byte 32, argument, byte 10 to the record".
-- Demand 3: "Outcome means answer, text, emissions, steps and failing function".
use Rattle.std.specs.Prelude.{ℕ, zero, suc, List, [], ◌∷◌, ◌++◌, get_or, set, replicate}
use Rattle.std.proofs.Math.Option.{Option, none, some}
use Rattle.meaning.specs.Choice.{Bytes, Name}
use Rattle.meaning.specs.Ascii.{space, line_feed}
use Rattle.meaning.specs.Angles.{Angled, sum, not_angles, out_of_range}
use Rattle.meaning.specs.Allowed.{max_functions}
use Rattle.meaning.specs.Answers.{finished, argument_not_angles, angle_out_of_range}

-- steps left of the allowance, steps made, the applications of each function, and the record
pub record Tally : Type 0 where
  pub steps_left : ℕ
  pub steps : ℕ
  pub counts : List ℕ
  pub emissions : Bytes

-- 02, T-01: "a count for each function"
abbrev pub max_counted : ℕ
max_counted = max_functions

abbrev pub uncounted : List ℕ
uncounted = replicate max_counted 0

-- one application more of the function with a number
abbrev pub counted : ℕ → List ℕ → List ℕ
counted zero counts = counts
counted (suc i) counts = set counts i (suc (get_or counts i 0))

-- "Steps are 0 and the record empty before the start"
abbrev pub fresh : ℕ → Tally
fresh allowance = record { steps_left = allowance; steps = 0; counts = uncounted; emissions = [] }

abbrev pub paid_from : ℕ → ℕ → Tally → Option Tally
paid_from zero f t = none
paid_from (suc n) f t =
    some (record { steps_left = n; steps = suc t.steps; counts = counted f t.counts; emissions = t.emissions })

-- one step taken for a function, if one is left
abbrev pub pay : ℕ → Tally → Option Tally
pay f t = paid_from t.steps_left f t

abbrev pub emitted_line : Name → Bytes → Bytes
emitted_line name argument = name ++ space ∷ (argument ++ line_feed ∷ [])

abbrev pub emitted : Name → Bytes → Tally → Tally
emitted name argument t =
    let line = emitted_line name argument in
    record { steps_left = t.steps_left; steps = t.steps; counts = t.counts; emissions = t.emissions ++ line }

-- done with a value, or stopped with an answer and a function number; either with what was counted
pub data Outcome (A L : Type 0) : Type 0 where
  done : A → L → Outcome A L
  stop : ℕ → ℕ → L → Outcome A L

-- what comes after, where the first is done
abbrev pub and_then : {A B L : Type 0} → Outcome A L → (A → L → Outcome B L) → Outcome B L
and_then (done v l) k = k v l
and_then (stop answer function l) k = stop answer function l

-- an angle call, which counts nothing: 02, T-08, "20, argument not of this form; 21, result beyond 359:59 either way"
abbrev pub computed : {L : Type 0} → Angled → L → Outcome Bytes L
computed (sum text) l = done text l
computed not_angles l = stop argument_not_angles 0 l
computed out_of_range l = stop angle_out_of_range 0 l

-- an outcome as 01 tells it
pub record Result : Type 0 where
  pub answer : ℕ
  pub function : ℕ
  pub steps : ℕ
  pub counts : List ℕ
  pub text : Bytes
  pub emissions : Bytes

-- an answer, a function number and a text, with what was counted
abbrev pub told : ℕ → ℕ → Bytes → Tally → Result
told answer function text t =
    record {
      answer = answer;
      function = function;
      steps = t.steps;
      counts = t.counts;
      text = text;
      emissions = t.emissions;
    }

-- "A rewriting that ends with another answer than 0 has the empty text"
abbrev pub result_of : Outcome Bytes Tally → Result
result_of (done text t) = told finished 0 text t
result_of (stop answer function t) = told answer function [] t
