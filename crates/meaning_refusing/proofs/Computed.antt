-- The faults of tokens by computing, viability by the stages; that they are the faults by definition is proved in Deciding.
use Prim.Native.Nat.{ℕ}
use mathlib.Core.Bool.{Bool, true, false}
use mathlib.Core.List.{List, [], ◌∷◌}
use Rattle.meaning.specs.Answers.{malformed_token, not_allowed_here, over_limit, wrong_name, wrong_pattern_variable, wrong_later_variable}
use Rattle.meaning.specs.Tokens.{Placed}
use Rattle.meaning_refusing.specs.Faults.{well_formed, Quota, within_limits, right_names, right_pattern, right_later}
use Rattle.meaning_refusing.proofs.Stages.{start, going, run}

-- with a number before others where a test fails
abbrev pub or_else_fault : Bool → ℕ → List ℕ → List ℕ
or_else_fault true n later = later
or_else_fault false n later = n ∷ later

abbrev pub viable : List Placed → Bool
viable ts = going (run start ts)

-- the numbers of all faults
abbrev pub faults_of : Quota → List Placed → List ℕ
faults_of quota ts =
    or_else_fault (well_formed ts) malformed_token
    (or_else_fault (viable ts) not_allowed_here
    (or_else_fault (within_limits quota ts) over_limit
    (or_else_fault (right_names ts) wrong_name
    (or_else_fault (right_pattern ts) wrong_pattern_variable
    (or_else_fault (right_later ts) wrong_later_variable [])))))
