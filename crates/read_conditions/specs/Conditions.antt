-- Conditions while they are read.
use Rattle.std.specs.Prelude.{ℕ, ◌+◌, ◌-◌, ◌≤◌, ◌<◌, ◌≡◌, Bool, true, false, List, T, eqb, length, Option, Some, None}
use Rattle.std.proofs.Math.Option as maybe
use Rattle.meaning.specs.Choice.{Bytes, Name, pick, every}
use Rattle.meaning.specs.Allowed.{max_identifier}
use Rattle.meaning.specs.Classes.{Class}
use Rattle.meaning.specs.Tree.{Subject, Condition}
use Rattle.tape_layout.specs.Tape.{condition_part, condition_tape, conditions_tape}
use Rattle.meaning.specs.Tokens as Tokens
use Rattle.meaning.specs.Grammar.{truth_byte}
use Rattle.meaning.specs.Reading.{Parsed, parsed, pass, pass_subject, truth_of, pass_truth}
use Rattle.read_tokens.specs.View.{token_of, Sound, stream}
use Rattle.read_tokens.specs.declared.Span.{Span}
use Rattle.read_tokens.specs.declared.Placed.{Placed}
use Rattle.read_tokens.specs.declared.Token.{Token}
use Rattle.read_tokens.specs.declared.Token.TheVariants.{Name as NameToken, Symbol, Part, Word, Quoted, Sign, End}
use Rattle.read_tokens.specs.declared.Token.TheVariants.{Malformed}
use Rattle.read_bookkeeping.specs.declared.progress.Progress.{Progress}
use Rattle.read_bookkeeping.specs.declared.variables.Variables.{Variables}
use Rattle.read_bookkeeping.specs.Items.{symbol_names, part_names}
use Rattle.read_bookkeeping.specs.Written.{is_quiet, Went}
use Rattle.read_conditions.specs.declared.VariableKind as kinds
use Rattle.read_conditions.specs.declared.VariableKind.TheVariants as kind
use Rattle.read_conditions.specs.declared.Variable.{Variable}

-- a token as a variable
abbrev pub variable_in : Token → Option Variable
variable_in (NameToken name) = None
variable_in (Symbol identifier) = Some (record { kind = kind.Symbol; identifier = identifier })
variable_in (Part identifier) = Some (record { kind = kind.Part; identifier = identifier })
variable_in Word = None
variable_in (Quoted count) = None
variable_in (Sign b) = None
variable_in End = None
variable_in Malformed = None

abbrev pub is_part : kinds.VariableKind → Bool
is_part kind.Symbol = false
is_part kind.Part = true

-- the pattern's s-variables, or its e-variables
abbrev pub variable_names : Bytes → Variables → kinds.VariableKind → List Name
variable_names text v kind.Symbol = symbol_names text v
variable_names text v kind.Part = part_names text v

-- the kind of a condition's variable on the tape
abbrev pub kind_number : kinds.VariableKind → ℕ
kind_number kind.Symbol = 0
kind_number kind.Part = condition_part

-- `condition` after its variable, and from its variable on
abbrev pub condition_end : Class → Subject → List Tokens.Placed → Parsed Condition
condition_end class v ts =
    pass Tokens.greater_than ts λ ts₁.
    pass Tokens.colon ts₁ λ ts₂.
    pass_truth ts₂ λ truth rest.
    parsed (record { predicate = class; subject = v; expected = truth }) rest

abbrev pub condition_on : List Name → List Name → Class → List Tokens.Placed → Parsed Condition
condition_on symbols parts class ts = pass_subject symbols parts ts λ v ts₁. condition_end class v ts₁

-- what a closing string says, as the code's option
abbrev pub truth_found : maybe.Option Bool → Option Bool
truth_found maybe.none = None
truth_found (maybe.some truth) = Some truth

-- the bytes of a closing string that says one
abbrev pub truth_size : ℕ
truth_size = 3

-- the truth value of a token, and of the byte between a closing string's quotes
abbrev pub truth_said : Bytes → Placed → maybe.Option Bool
truth_said text t = truth_of (token_of text t.token t.place t.past) (eqb t.past (t.place + truth_size))

abbrev pub truth_between : ℕ → maybe.Option Bool
truth_between byte =
    pick (eqb byte (truth_byte true)) (maybe.some true) (pick (eqb byte (truth_byte false)) (maybe.some false) maybe.none)

-- a token that ends in the text
pub record Standing (text : Bytes) (t : Placed) : Type 0 where
  pub forward : t.place ≤ t.past
  pub inside : t.past ≤ length text
  pub sound : Sound text t.token t.place t.past

-- a condition's variable stands before a place, and after as many bytes as the tape has words
pub record Before (text : Bytes) (words at : ℕ) (x : Span) : Type 0 where
  pub after : words < x.from
  pub some : x.from < x.past
  pub before : x.past ≤ at
  pub short : x.past - x.from ≤ max_identifier

-- a condition and conditions were read
pub record ConditionRead (text : Bytes) (at words : ℕ) (tape tape' : List ℕ) (c : Condition)
    (rest : List Tokens.Placed) (s : Progress) : Type 0 where
  pub tokens : rest ≡ stream text Tokens.inside s.at
  pub went : Went text at words tape s.at s.words tape' (condition_tape c)
  pub quiet : T (every is_quiet (condition_tape c))

pub record ConditionsRead (text : Bytes) (at words : ℕ) (tape tape' : List ℕ) (cs : List Condition)
    (rest : List Tokens.Placed) (s : Progress) : Type 0 where
  pub tokens : rest ≡ stream text Tokens.inside s.at
  pub went : Went text at words tape s.at s.words tape' (conditions_tape cs)
  pub quiet : T (every is_quiet (conditions_tape cs))
