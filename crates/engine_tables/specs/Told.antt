-- What is told of a table, in the terms of meaning's Entries.
use Rattle.std.specs.Prelude.{ℕ, List, Option, Some, None, Result, Ok, Err}
use Rattle.std.specs.Fn.{Once, FnOnceReturnsAtMut}
use denote.Ref.{MutBor}
use Rattle.meaning.specs.Answers.{finished, buffer_too_short}
use Rattle.meaning.specs.Entries.{answered}
use Rattle.answers.specs.declared.Fault.{Fault}
use Rattle.answers.specs.Numbers.{refusal_number}

-- number, place and count as an entry point's answer
abbrev pub told_words : Result ℕ Fault → List ℕ
told_words (Ok count) = answered finished 0 count
told_words (Err fault) = answered (refusal_number fault.refusal) fault.place 0

-- "17: lent buffer shorter than it"
abbrev pub buffer_answer : Option ℕ → List ℕ
buffer_answer (Some count) = answered finished 0 count
buffer_answer None = answered buffer_too_short 0 0

-- something was asked with some tape, which gave this
pub record OnTape {F T R : Type 0} (g : Once F (MutBor T × Unit {0}) (R × (MutBor T × Unit {0}))) (ask : F) (r : R)
    : Type 0 where
  pub before : T
  pub after : T
  pub asked : FnOnceReturnsAtMut g ask before r after
