-- The functions of a table while they are read.
use Rattle.std.specs.Prelude.{ℕ, ◌+◌, ◌-◌, ◌≤◌, ◌<◌, ◌≡◌, Bool, true, false}
use Rattle.std.specs.Prelude.{not, List, [], ◌∷◌, ◌++◌, T, ltb, length, take}
use Rattle.std.specs.Prelude.{Result, IfOk}
use Rattle.std.specs.ControlFlow.{ForBreak, ForContinue}
use Rattle.std.specs.declared.ops.ControlFlow.{ControlFlow}
use Rattle.std.specs.declared.ops.ControlFlow.TheVariants.{Continue, Break}
use Rattle.meaning.specs.Choice.{Bytes, Name, pick, both, every}
use Rattle.meaning.specs.Answers.{over_limit, wrong_name}
use Rattle.meaning.specs.Names.{is_reserved}
use Rattle.meaning.specs.Tree.{Sentence, Function, Table}
use Rattle.meaning.specs.Allowed.{max_table, max_functions, max_sentences, max_name, member}
use Rattle.tape_layout.specs.Tape as Tape
use Rattle.tape_layout.specs.Tape.{named, function_kind, function_tape}
use Rattle.meaning.specs.Tokens as Tokens
use Rattle.meaning.specs.Reading as Reading
use Rattle.meaning.specs.Reading.{Parsed, pass, length_fault, fault_unless}
use Rattle.read_tokens.specs.View.{stream, Comes}
use Rattle.read_tokens.specs.declared.Span.{Span}
use Rattle.read_tokens.specs.declared.Token.{Token}
use Rattle.read_tokens.specs.declared.Token.TheVariants.{Name as NameToken, Symbol, Part, Word, Quoted, Sign, End}
use Rattle.read_tokens.specs.declared.Token.TheVariants.{Malformed}
use Rattle.read_tokens.specs.declared.Placed.{Placed}
use Rattle.answers.specs.declared.Fault.{Fault}
use Rattle.read_bookkeeping.specs.Answered.{Agrees}
use Rattle.read_functions.specs.declared.sentences.SentencesEnd.{SentencesEnd}
use Rattle.read_functions.specs.declared.functions.Tally.{Tally}
use Rattle.read_functions.specs.declared.functions.Reached.{Reached}
use Rattle.read_bookkeeping.specs.Tables.{Inside}
use Rattle.read_bookkeeping.specs.Written.{is_quiet, Ready, Went}
use Rattle.read_functions.specs.Sentences.{Each, SentenceStands}

-- every called name of a function is short, and no other word of it opens a call
pub record FunctionStands (f : Function) : Type 0 where
  pub name : T (every is_quiet (named function_kind f.name))
  pub sentences : Each SentenceStands f.sentences

-- HEADS

-- the places of the functions' words on a tape, where the first stands at a place
unfoldable pub heads_from : ℕ → Table → List ℕ
heads_from at [] = []
heads_from at (f ∷ fs) = at ∷ heads_from (at + length (function_tape f)) fs

-- the tape begins with the words of these functions, and their heads are noted
pub record Heads (tape heads : List ℕ) (words functions : ℕ) (t : Table) : Type 0 where
  pub written : take words tape ≡ Tape.tape t
  pub noted : take functions heads ≡ heads_from 0 t
  pub stand : Each FunctionStands t

-- A FUNCTION

-- `function` after its name
abbrev pub from_brace : ℕ → List Tokens.Placed → Parsed (List Sentence)
from_brace limit ts = pass Tokens.left_brace ts λ ts₁. Reading.parse_sentences limit ts₁

abbrev pub declared : Name → List Sentence → Function
declared n ss = record { name = n; sentences = ss }

-- a name that is not too long stands in the text, after as many bytes as the tape has words
pub record Declarable (text : Bytes) (words : ℕ) (n : Span) : Type 0 where
  pub after : words ≤ n.from
  pub inside : Inside text n
  pub brief : n.past - n.from ≤ max_name
  pub short : length text ≤ max_table

-- a function was read, with so many sentences that might come
pub record FunctionRead (text : Bytes) (limit at words : ℕ) (tape tape' : List ℕ) (f : Function)
    (rest : List Tokens.Placed) (p : SentencesEnd) : Type 0 where
  pub tokens : rest ≡ stream text Tokens.outside p.at
  pub went : Went text at words tape p.at p.words tape' (function_tape f)
  pub left : p.left + length f.sentences ≡ limit
  pub stands : FunctionStands f

-- the sentences of a function with this name were read, and its name before them
abbrev pub BodyRead : Bytes → ℕ → ℕ → ℕ → Name → List ℕ → List ℕ → List Sentence → List Tokens.Placed → SentencesEnd
    → Type 0
BodyRead text limit at words n tape tape' ss rest p = FunctionRead text limit at words tape tape' (declared n ss) rest p

-- what may come next is safe: a token after so many functions
pub record Opening (text tape heads : List ℕ) (functions words : ℕ) (t : Placed) : Type 0 where
  pub before : Table
  pub comes : Comes text Tokens.outside t.place t
  pub ready : Ready text t.place words
  pub named : Heads tape heads words functions before
  pub few : functions ≤ max_functions
  pub long : length heads ≡ max_functions
  pub room : length text ≤ length tape

-- `declared_fault`, by the names declared before
abbrev pub declared_fault_in : List Name → Name → ℕ
declared_fault_in names n =
    length_fault n (fault_unless (both (not (is_reserved n)) (not (member n names))) wrong_name 0)

-- the fault of a name after so many functions with these names
abbrev pub name_fault : ℕ → List Name → Name → ℕ
name_fault functions names n = pick (ltb functions max_functions) (declared_fault_in names n) over_limit

-- a function was read, and its head noted
pub record DeclaredRead (text : Bytes) (limit at words functions : ℕ) (tape tape' heads heads' : List ℕ) (f : Function)
    (rest : List Tokens.Placed) (p : SentencesEnd) : Type 0 where
  pub read : FunctionRead text limit at words tape tape' f rest p
  pub noted : take (functions + 1) heads' ≡ take functions heads ++ words ∷ []
  pub few : functions < max_functions
  pub long : length heads' ≡ max_functions

-- FUNCTIONS

-- a spare `;` is passed
pub record SpareTo (text : Bytes) (at past : ℕ) : Type 0 where
  pub tokens : stream text Tokens.outside past ≡ Reading.pass_spare (stream text Tokens.outside at)
  pub onward : at ≤ past
  pub inside : past ≤ length text

abbrev pub is_end_token : Token → Bool
is_end_token (NameToken name) = false
is_end_token (Symbol identifier) = false
is_end_token (Part identifier) = false
is_end_token Word = false
is_end_token (Quoted count) = false
is_end_token (Sign byte) = false
is_end_token End = true
is_end_token Malformed = false

-- what the definition reads of a text's functions
abbrev pub functions_of : Bytes → Parsed Table
functions_of text = Reading.parse_functions max_functions max_sentences [] (stream text Tokens.outside 0)

-- the functions of a text were read, up to this place
pub record FunctionsRead (text : Bytes) (tape tape' heads : List ℕ) (t : Table) (rest : List Tokens.Placed)
    (p : Tally) : Type 0 where
  pub at : ℕ
  pub went : Went text 0 0 tape at p.words tape' (Tape.tape t)
  pub noted : take p.functions heads ≡ heads_from 0 t
  pub few : p.functions ≤ length heads
  pub count : p.functions ≡ length t
  pub stand : Each FunctionStands t

-- the functions from the start, where the tape was this, are those from a place on after these
pub record Functioned (text start tape heads : List ℕ) (at words count left : ℕ) : Type 0 where
  pub before : Table
  pub same : functions_of text
      ≡ Reading.parse_functions (max_functions - count) left before (stream text Tokens.outside at)
  pub went : Went text 0 0 start at words tape (Tape.tape before)
  pub noted : take count heads ≡ heads_from 0 before
  pub few : count ≤ max_functions
  pub counted : count ≡ length before
  pub long : length heads ≡ max_functions
  pub stand : Each FunctionStands before
  pub short : length text ≤ max_table
  pub room : length text ≤ length tape

-- how reading stands at a place, from a tape at the start on
abbrev pub TallyIs : Bytes → List ℕ → List ℕ → List ℕ → ℕ → Tally → Type 0
TallyIs text start tape heads at n = Functioned text start tape heads at n.words n.functions n.left

-- what the reading of a text's functions comes to
abbrev pub FunctionsAgree : Bytes → List ℕ → List ℕ → List ℕ → Result Tally Fault → Type 0
FunctionsAgree text start tape' heads r = Agrees (FunctionsRead text start tape' heads) (functions_of text) r

-- another declaration may come after these functions, or the reading is over and came to this
abbrev pub Stage : Type 0
Stage = ControlFlow (Result Tally Fault) Tally

-- the same where another declaration may come; where the reading is over, that it came to what it comes to
abbrev pub StageIs : Bytes → List ℕ → List ℕ → List ℕ → ℕ → Stage → Type 0
StageIs text start tape heads at (Continue n) = TallyIs text start tape heads at n
StageIs text start tape heads at (Break read) = FunctionsAgree text start tape heads read

pub record Underway (text tape heads : List ℕ) (at : ℕ) (stage : Stage) : Type 0 where
  pub start : List ℕ
  pub is : StageIs text start tape heads at stage

abbrev pub new_tally : Tally
new_tally = record { words = 0; functions = 0; left = max_sentences }

-- the declarations that may still come, and the end of the text
abbrev pub to_come : Stage → ℕ
to_come (Continue n) = max_functions + 1 - n.functions
to_come (Break read) = 0

-- the stage after a declaration
abbrev pub stage_of : ControlFlow (Result Tally Fault) Reached → Stage
stage_of (Continue next) = Continue next.tally
stage_of (Break read) = Break read

-- a declaration was read, and reading stands so at the place reached; or the text ends, a fault stops it or it was
-- over before, and what the reading of all functions comes to is that
abbrev pub DeclaresFrom : Bytes → List ℕ → List ℕ → List ℕ → ControlFlow (Result Tally Fault) Reached → Type 0
DeclaresFrom text start tape heads (Continue next) = TallyIs text start tape heads next.at next.tally
DeclaresFrom text start tape heads (Break read) = FunctionsAgree text start tape heads read

-- one function more was read after those of a tally, or the text ended after them
abbrev pub Counts : Tally → ControlFlow (Result Tally Fault) Reached → Type 0
Counts n (Continue next) = next.tally.functions ≡ n.functions + 1
Counts n (Break read) = IfOk read (λ all. all ≡ n)

-- reading stands as it stood before; where another declaration might come, less may come now; where it was over, all
-- stays as it was
pub record Declares (text tape heads : List ℕ) (at : ℕ) (stage : Stage) (tape' heads' : List ℕ)
    (r : ControlFlow (Result Tally Fault) Reached) : Type 0 where
  pub keeps : (start : List ℕ) → StageIs text start tape heads at stage → DeclaresFrom text start tape' heads' r
  pub counts : ForContinue stage (λ n. Counts n r)
  pub falls : ForContinue stage (λ n. to_come (stage_of r) < to_come stage)
  pub stays : ForBreak stage (λ read. (r ≡ Break read) × (tape' ≡ tape) × (heads' ≡ heads))
