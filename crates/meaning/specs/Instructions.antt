-- The instructions of the string machine: 000 section 3, as 01 'Machine' takes them over. Besides 000's there are the
-- emission, the tail call and the angle call, and in each kind one that stands for words which are no instruction.
-- OutS, PutC and PutV are never needed by 01's translation.
use Rattle.std.specs.Prelude.{ℕ, Bool, List}
use Rattle.meaning.specs.Choice.{Name}
use Rattle.meaning.specs.Angles.{Operation}
use Rattle.meaning.specs.Classes.{Class}

-- the cell that a test or a store looks at: counted on from p, back from q (from 1 up), or on from the middle
-- template's place i
pub data Site : Type 0 where
  from_start from_end from_place : ℕ → Site

-- 000's Match part: Look, Compare, Predicate; and T-03's Predicate over a part, the cells from one site up to, not
-- including, another
pub data Test : Type 0 where
  look : Site → ℕ → Test
  compare : Site → Site → Test
  predicate : Site → Class → Bool → Test
  predicate_part : Site → Site → Class → Bool → Test
  unknown_test : Test

-- 000's Store part: Var
pub data Store : Type 0 where
  store : Site → Store
  unknown_store : Store

-- 000's registers of the Process part: d = q - p, dl = i - p, dr = q - i, and null
pub data Length : Type 0 where
  null whole left right : Length

-- a register's length, with an addition or less what is to stay back (000's add, which may be negative)
pub record Span : Type 0 where
  pub register : Length
  pub add : ℕ
  pub back : ℕ

-- 000's Process part; a function is named by its number
pub data Action : Type 0 where
  go : Span → Action
  select : Span → Action
  out : Action
  out_c : ℕ → Action
  out_v : ℕ → Action
  begin_seq : Action
  use_seq : Action
  call : ℕ → Action
  tail_call : ℕ → Action
  emission : Name → Action
  compute : Operation → Action
  unknown_action : Action

-- 000's Metric: the lengths that a sentence asks of the field, with no, one or two e-variables
pub data Metric : Type 0 where
  exactly : ℕ → Metric
  ends : ℕ → ℕ → Metric
  middle : ℕ → ℕ → ℕ → Metric

-- a function's sentences in order, and at their end the number of the function that recovers it, 0 for none;
-- `unknown_sentence` stands for words that are no sentence
pub data Sentences : Type 0 where
  no_more : ℕ → Sentences
  sentence : Metric → List Test → List Store → List Action → Sentences → Sentences
  unknown_sentence : Sentences

-- a function table's functions, the first being number 1
abbrev pub Code : Type 0
Code = List Sentences
