-- A pattern while it is read: what the code counts of it, its variables, and what a token adds.
use Rattle.std.specs.Prelude.{ℕ, ◌+◌, ◌≤◌, ◌≡◌, ◌⊎◌, Bool, true, not, List, ◌++◌, T, leb, ltb, length, Option, Some, None, Result, Ok, Err}
use Rattle.std.specs.Result.{MatchResult}
use Rattle.meaning.specs.Choice.{Bytes, Name, both, every}
use Rattle.meaning.specs.Tree.{Element}
use Rattle.meaning.specs.Answers.{not_allowed_here, over_limit, wrong_pattern_variable}
use Rattle.meaning.specs.Allowed.{max_identifier, max_letters, max_symbols, member}
use Rattle.meaning.specs.Allowed.{added, symbols_of, parts_of, letters_in}
use Rattle.tape_layout.specs.Tape.{pattern_tape}
use Rattle.meaning.specs.Tokens as Tokens
use Rattle.meaning.specs.Reading.{Item, is_item, elements_of, ends_in_part, fault_unless, pattern_fault}
use Rattle.read_bookkeeping.specs.Tables.{max_parts}
use Rattle.read_tokens.specs.View.{stream}
use Rattle.read_tokens.specs.declared.Placed.{Placed}
use Rattle.answers.specs.declared.Fault.{Fault}
use Rattle.read_patterns.specs.declared.Counts.{Counts}
use Rattle.read_bookkeeping.specs.declared.variables.Variables.{Variables}
use Rattle.read_bookkeeping.specs.Items.{Known, symbol_names, part_names, token_item, WordRefused, NoItem}
use Rattle.answers.specs.Numbers.{refusal_number}
use Rattle.read_bookkeeping.specs.Written.{is_quiet, Ready, Went}

-- what may come next is safe
pub record PatternGoing (text : Bytes) (p : Counts) : Type 0 where
  pub few_letters : p.letters ≤ max_letters
  pub ready : Ready text p.at p.words

-- the counts and the variables are those of the elements so far
pub record Seen (text : Bytes) (v : Variables) (p : Counts) (before : List Element) : Type 0 where
  pub letters : letters_in before ≡ p.letters
  pub symbols : symbols_of before ≡ symbol_names text v
  pub parts : parts_of before ≡ part_names text v
  pub ending : ends_in_part before ≡ p.ending

-- `pattern_fault` of a variable, by what the code counts
abbrev pub pattern_symbol_fault : ℕ → List Name → List Name → Name → ℕ
pattern_symbol_fault letters symbols parts x =
    fault_unless
    (both (leb (length x) max_identifier)
    (both (leb (letters + 1) max_letters)
    (leb (length (added x symbols)) max_symbols)))
    over_limit
    (fault_unless (not (member x parts)) wrong_pattern_variable 0)

abbrev pub pattern_part_fault : List Name → List Name → Bool → Name → ℕ
pattern_part_fault symbols parts ending x =
    fault_unless (ltb (length parts) max_parts) not_allowed_here
    (fault_unless (leb (length x) max_identifier) over_limit
    (fault_unless (both (not (member x (symbols ++ parts))) (not ending)) wrong_pattern_variable 0))

-- an item is taken into a pattern
pub record TakenInPattern (text : Bytes) (v : Variables) (p : Counts) (tape : List ℕ) (item : Item) (past : ℕ)
    (v' : Variables) (tape' : List ℕ) (next : Counts) : Type 0 where
  pub known : Known text v'
  pub going : PatternGoing text next
  pub at : next.at ≡ past
  pub went : Went text p.at p.words tape next.at next.words tape' (pattern_tape (elements_of item))
  pub quiet : T (every is_quiet (pattern_tape (elements_of item)))
  pub fault : (before : List Element) → Seen text v p before → pattern_fault before item ≡ 0
  pub seen : (before : List Element) → Seen text v p before → Seen text v' next (before ++ elements_of item)

-- an item has a fault in a pattern, which stands at its place
pub record WrongInPattern (text : Bytes) (v : Variables) (p : Counts) (item : Item) (at : ℕ) (fault : Fault) : Type 0 where
  pub number : (before : List Element) → Seen text v p before → pattern_fault before item ≡ refusal_number fault.refusal
  pub place : fault.place ≡ at

-- what comes of an item
pub record AddsItem (text : Bytes) (v : Variables) (p : Counts) (tape : List ℕ) (item : Item) (place past : ℕ)
    (v' : Variables) (tape' : List ℕ) (r : Result Counts Fault) : Type 0 where
  pub gives : MatchResult r (λ next. TakenInPattern text v p tape item past v' tape' next)
      (λ fault. WrongInPattern text v p item place fault)

-- what comes of a string, whatever the variables
abbrev pub AddsString : Bytes → Counts → List ℕ → Item → ℕ → ℕ → List ℕ → Result Counts Fault → Type 0
AddsString text p tape item place past tape' r =
    (v : Variables) → Known text v → AddsItem text v p tape item place past v tape' r

-- a token is taken as an item, is neither an item nor a word, or is refused as an item or as a word
abbrev pub TokenAdded : Bytes → Variables → Counts → List ℕ → Placed → Variables → List ℕ → Result (Option Counts) Fault → Type 0
TokenAdded text v p tape t v' tape' (Ok (Some next)) =
    TakenInPattern text v p tape (token_item text t) t.past v' tape' next × (is_item (token_item text t) ≡ true)
TokenAdded text v p tape t v' tape' (Ok None) = NoItem text t × (v' ≡ v) × (tape' ≡ tape)
TokenAdded text v p tape t v' tape' (Err fault) =
    (WrongInPattern text v p (token_item text t) t.place fault × (is_item (token_item text t) ≡ true))
    ⊎ WordRefused text t fault

-- what comes of a token
pub record AddsToken (text : Bytes) (v : Variables) (p : Counts) (tape : List ℕ) (t : Placed) (v' : Variables) (tape' : List ℕ)
    (r : Result (Option Counts) Fault) : Type 0 where
  pub gives : TokenAdded text v p tape t v' tape' r

-- a pattern was read
pub record PatternRead (text : Bytes) (at words : ℕ) (tape : List ℕ) (v : Variables) (tape' : List ℕ) (p : List Element)
    (rest : List Tokens.Placed) (s : Counts) : Type 0 where
  pub tokens : rest ≡ stream text Tokens.inside s.at
  pub went : Went text at words tape s.at s.words tape' (pattern_tape p)
  pub quiet : T (every is_quiet (pattern_tape p))
  pub variables : Known text v
  pub symbols : symbols_of p ≡ symbol_names text v
  pub parts : parts_of p ≡ part_names text v
