-- What a reader of the code comes to, as what a definition's comes to.
use Rattle.std.specs.Prelude.{◌≡◌, List, Result, Ok, Err}
use Rattle.meaning.specs.Tokens.{Placed}
use Rattle.meaning.specs.Reading as Reading
use Rattle.answers.specs.declared.Fault.{Fault}
use Rattle.answers.specs.Numbers.{refusal_number}

-- both stop at one place with one number, or both read, and then this holds of what was read, of the tokens after it
-- and of how far the code has come
abbrev pub ComesTo : {A P : Type 0} → (A → List Placed → P → Type 0) → Reading.Parsed A → Result P Fault → Type 0
ComesTo Reads (Reading.stopped number place) (Err fault) =
    (refusal_number fault.refusal ≡ number) × (fault.place ≡ place)
ComesTo Reads (Reading.stopped number place) (Ok progress) = ⊥
ComesTo Reads (Reading.parsed value rest) (Err fault) = ⊥
ComesTo Reads (Reading.parsed value rest) (Ok progress) = Reads value rest progress

-- so it is with what a definition comes to and what a reader of the code hands back
pub record Agrees {A P : Type 0} (Reads : A → List Placed → P → Type 0) (p : Reading.Parsed A) (r : Result P Fault) : Type 0
  where
    pub comes : ComesTo Reads p r
