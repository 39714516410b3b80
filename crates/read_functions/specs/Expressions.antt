-- Expressions and calls while they are read: what the code counts of them, what a token adds, and that the readers
-- agree with meaning's Reading.
use Rattle.std.specs.Prelude.{ℕ, ◌+◌, ◌-◌, ◌≤◌, ◌<◌, ◌≡◌, ◌⊎◌, true, List, [], ◌∷◌, ◌++◌, T, length, drop, set}
use Rattle.std.specs.Prelude.{Option, Some, None, Result, Ok, Err, MatchResult}
use Rattle.meaning.specs.Choice.{Bytes, Name, every}
use Rattle.meaning.specs.Allowed.{max_name, max_items, max_nesting}
use Rattle.meaning.specs.Tree.{Expression, end, then_character, then_symbol, then_part, then_call}
use Rattle.tape_layout.specs.Tape.{tape_word, named, symbol_kind, part_kind, call_kind, close_kind, expression_tape}
use Rattle.meaning.specs.Tokens as Tokens
use Rattle.meaning.specs.Reading as Reading
use Rattle.meaning.specs.Reading.{parsed, Item, characters, symbol_item, part_item, no_item, is_item}
use Rattle.read_tokens.specs.View.{span_text, stream}
use Rattle.read_tokens.specs.declared.Span.{Span}
use Rattle.read_tokens.specs.declared.Placed.{Placed}
use Rattle.answers.specs.declared.Refusal.{Refusal}
use Rattle.answers.specs.declared.Fault.{Fault}
use Rattle.read_functions.specs.declared.expressions.ExpressionCounts.{ExpressionCounts}
use Rattle.read_bookkeeping.specs.Tables.{names_in}
use Rattle.read_bookkeeping.specs.declared.variables.Variables.{Variables}
use Rattle.read_bookkeeping.specs.declared.progress.Progress.{Progress}
use Rattle.answers.specs.Numbers.{refusal_number}
use Rattle.read_bookkeeping.specs.Tokened.{Taken, Barred}
use Rattle.read_bookkeeping.specs.Written.{WroteOnTape, is_quiet, Ready, Went}
use Rattle.read_bookkeeping.specs.Items.{Known, part_spans, symbol_names, token_item, NoItem, WordRefused}

-- how far an expression is: its items, and the e-variables of the table that may still come
abbrev pub progress_at : Bytes → Variables → ExpressionCounts → Reading.Progress
progress_at text v s = record { items = s.items; coming = names_in text (drop s.passed (part_spans v)) }

-- what may come next is safe
pub record Going (text : Bytes) (v : Variables) (s : ExpressionCounts) : Type 0 where
  pub variables : Known text v
  pub passed : s.passed ≤ length (part_spans v)
  pub few : s.items ≤ max_items
  pub ready : Ready text s.at s.words

-- WHAT STANDS ON THE TAPE

-- a called name
pub record CallStands (n : Name) : Type 0 where
  pub short : length n ≤ max_name
  pub quiet : T (every is_quiet n)

-- every called name is short, and no other word opens a call
unfoldable pub ExpressionStands : Expression → Type 0
ExpressionStands end = Unit {0}
ExpressionStands (then_character c e) = T (is_quiet c) × ExpressionStands e
ExpressionStands (then_symbol x e) = T (every is_quiet (named symbol_kind x)) × ExpressionStands e
ExpressionStands (then_part x e) = T (every is_quiet (named part_kind x)) × ExpressionStands e
ExpressionStands (then_call place n a e) = CallStands n × ExpressionStands a × ExpressionStands e

-- ITEMS

abbrev pub item_tape : Item → List ℕ
item_tape (characters cs) = cs
item_tape (symbol_item x) = named symbol_kind x
item_tape (part_item x) = named part_kind x
item_tape no_item = []

-- a variable is taken in: its word, a base plus the identifier's length, and the identifier; so many e-variables have
-- passed then
pub record VariableTaken (text : Bytes) (s : ExpressionCounts) (x : Span) (base passed : ℕ) (tape tape' : List ℕ)
    (next : ExpressionCounts) : Type 0 where
  pub wrote : WroteOnTape tape s.words ((base + (x.past - x.from)) ∷ span_text text x) next.words tape'
  pub quiet : T (every is_quiet (span_text text x))
  pub same : next ≡ record { at = x.past; words = next.words; items = s.items + 1; passed = passed }

-- an item is taken into an expression
pub record TakenInExpression (text : Bytes) (v : Variables) (s : ExpressionCounts) (tape : List ℕ)
    (item : Item) (past : ℕ) (tape' : List ℕ) (next : ExpressionCounts) : Type 0 where
  pub going : Going text v next
  pub at : next.at ≡ past
  pub went : Went text s.at s.words tape next.at next.words tape' (item_tape item)
  pub quiet : T (every is_quiet (item_tape item))
  pub fault : Reading.item_fault (symbol_names text v) (progress_at text v s) item ≡ 0
  pub progress : Reading.past_item item (progress_at text v s) ≡ progress_at text v next

-- an item at a place has a fault in an expression
pub record WrongInExpression (text : Bytes) (v : Variables) (s : ExpressionCounts) (item : Item) (at : ℕ)
    (fault : Fault) : Type 0 where
  pub number : Reading.item_fault (symbol_names text v) (progress_at text v s) item ≡ refusal_number fault.refusal
  pub place : fault.place ≡ at

-- what comes of an item at a place
pub record JoinsItem (text : Bytes) (v : Variables) (s : ExpressionCounts) (tape : List ℕ) (item : Item)
    (place past : ℕ) (tape' : List ℕ) (r : Result ExpressionCounts Fault) : Type 0 where
  pub gives : MatchResult r (λ next. TakenInExpression text v s tape item past tape' next)
      (λ fault. WrongInExpression text v s item place fault)

-- a token was joined as an item, is neither an item nor a word, or is refused as an item or as a word
abbrev pub TokenJoined : Bytes → Variables → ExpressionCounts → List ℕ → Placed → List ℕ
    → Result (Option ExpressionCounts) Fault → Type 0
TokenJoined text v s tape t tape' (Ok (Some next)) =
    TakenInExpression text v s tape (token_item text t) t.past tape' next
    × (is_item (token_item text t) ≡ true)
TokenJoined text v s tape t tape' (Ok None) = NoItem text t × (tape' ≡ tape)
TokenJoined text v s tape t tape' (Err fault) =
    (WrongInExpression text v s (token_item text t) t.place fault × (is_item (token_item text t) ≡ true))
    ⊎ WordRefused text t fault

-- what comes of a token
pub record JoinsToken (text : Bytes) (v : Variables) (s : ExpressionCounts) (tape : List ℕ)
    (t : Placed) (tape' : List ℕ) (r : Result (Option ExpressionCounts) Fault) : Type 0 where
  pub gives : TokenJoined text v s tape t tape' r

-- EXPRESSIONS AND CALLS

-- a refusal
abbrev pub fault_at : Refusal → ℕ → Fault
fault_at refusal place = record { refusal = refusal; place = place }

-- where nothing is counted
abbrev pub uncounted : ExpressionCounts → Progress
uncounted e = record { at = e.at; words = e.words }

-- an expression was read
pub record ExpressionRead (text : Bytes) (v : Variables) (start : ExpressionCounts)
    (tape tape' : List ℕ) (i : Reading.Items) (rest : List Tokens.Placed) (s : ExpressionCounts) : Type 0 where
  pub tokens : rest ≡ stream text Tokens.inside s.at
  pub shorter : length rest ≤ length (stream text Tokens.inside start.at)
  pub went : Went text start.at start.words tape s.at s.words tape' (expression_tape i.expression)
  pub progress : i.progress ≡ progress_at text v s
  pub going : Going text v s
  pub stands : ExpressionStands i.expression

-- a called name with its place
pub record CalledName : Type 0 where
  pub place : ℕ
  pub name : Name

-- `call` up to its argument, with so many items before it
abbrev pub call_opening : ℕ → ℕ → Tokens.Placed → List Tokens.Placed → Reading.Parsed CalledName
call_opening depth items t ts =
    let later : Reading.Parsed CalledName =
    Reading.pass_name Reading.called_fault ts λ place n rest. parsed (record { place = place; name = n }) rest
    in
    Reading.where_faultless (Reading.call_fault depth (record { items = items; coming = [] })) t later

-- a call was read up to its argument, which may begin here
pub record OpeningRead (text : Bytes) (depth : ℕ) (s : ExpressionCounts) (tape tape' : List ℕ) (n : CalledName)
    (rest : List Tokens.Placed) (start : ExpressionCounts) : Type 0 where
  pub tokens : rest ≡ stream text Tokens.inside start.at
  pub shorter : length rest ≤ length (stream text Tokens.naming s.at)
  pub went : Went text s.at s.words tape start.at start.words tape' (named (call_kind + n.place) n.name)
  pub shallow : depth < max_nesting
  pub few : s.items < max_items
  pub counted : start.items ≡ s.items + 1
  pub passed : start.passed ≡ s.passed
  pub stands : CallStands n.name

abbrev pub call_tape : Reading.Called → List ℕ
call_tape c = named (call_kind + c.place) c.name ++ (expression_tape c.argument ++ tape_word close_kind 0 ∷ [])

-- a call was read, after its `<`
pub record CallRead (text : Bytes) (v : Variables) (start : ExpressionCounts) (tape tape' : List ℕ)
    (c : Reading.Called) (rest : List Tokens.Placed) (s : ExpressionCounts) : Type 0 where
  pub tokens : rest ≡ stream text Tokens.inside s.at
  pub shorter : length rest ≤ length (stream text Tokens.naming start.at)
  pub went : Went text start.at start.words tape s.at s.words tape' (call_tape c)
  pub progress : c.progress ≡ progress_at text v s
  pub going : Going text v s
  pub named : CallStands c.name
  pub stands : ExpressionStands c.argument

-- the end of a call's argument: its `>` and the word for it
abbrev pub CloseGives : Bytes → ExpressionCounts → List ℕ → List ℕ → Result ExpressionCounts Fault → Type 0
CloseGives text s tape tape' (Err fault) = Barred text Tokens.inside Tokens.greater_than s.at fault
CloseGives text s tape tape' (Ok next) =
    Taken text Tokens.inside Tokens.greater_than s.at next.at
    × (next ≡ record { at = next.at; words = s.words + 1; items = s.items; passed = s.passed })
    × (tape' ≡ set tape s.words (tape_word close_kind 0))

pub record Closes (text : Bytes) (s : ExpressionCounts) (tape tape' : List ℕ) (r : Result ExpressionCounts Fault)
    : Type 0 where
  pub gives : CloseGives text s tape tape' r
