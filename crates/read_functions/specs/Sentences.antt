-- Sentences while they are read: what was read up to a place, and that the readers agree with meaning's Reading.
use Rattle.std.specs.Prelude.{ℕ, zero, suc, ◌+◌, ◌≤◌, ◌<◌, ◌≡◌, Bool, true, false, List, [], ◌∷◌, T, eqb, length}
use Rattle.std.specs.Prelude.{Result, Ok, Err}
use Rattle.meaning.specs.Choice.{Bytes, Name, either, every}
use Rattle.meaning.specs.Answers.{over_limit}
use Rattle.meaning.specs.Tree.{Sentence}
use Rattle.tape_layout.specs.Tape.{tape_word, equals_kind, pattern_tape}
use Rattle.tape_layout.specs.Tape.{conditions_tape, expression_tape, sentence_tape}
use Rattle.tape_layout.specs.Tape.{sentences_tape}
use Rattle.meaning.specs.Tokens as Tokens
use Rattle.meaning.specs.Reading as Reading
use Rattle.meaning.specs.Reading.{Parsed, stopped, parsed, follow, pass, whether, cut_short, after_sentence}
use Rattle.read_tokens.specs.View.{stream}
use Rattle.read_tokens.specs.declared.Token.{Token}
use Rattle.read_tokens.specs.declared.Token.TheVariants.{Name as NameToken, Symbol, Part, Word, Quoted, Sign, End}
use Rattle.read_tokens.specs.declared.Token.TheVariants.{Malformed}
use Rattle.read_bookkeeping.specs.declared.progress.Progress.{Progress}
use Rattle.read_functions.specs.declared.sentences.SentencesEnd.{SentencesEnd}
use Rattle.read_functions.specs.declared.sentences.Sequel.{Sequel}
use Rattle.read_functions.specs.declared.sentences.Sequel.TheVariants.{Ends, Another}
use Rattle.answers.specs.declared.Fault.{Fault}
use Rattle.answers.specs.Numbers.{refusal_number}
use Rattle.read_bookkeeping.specs.Tokened.{unless_word}
use Rattle.read_bookkeeping.specs.Written.{is_quiet, Went}
use Rattle.read_functions.specs.Expressions.{ExpressionStands}

-- it holds of each element
unfoldable pub Each : {A : Type 0} → (A → Type 0) → List A → Type 0
Each holds [] = Unit {0}
Each holds (x ∷ xs) = holds x × Each holds xs

-- every called name of a sentence is short, and no other word of it opens a call
pub record SentenceStands (s : Sentence) : Type 0 where
  pub pattern : T (every is_quiet (pattern_tape s.pattern))
  pub conditions : T (every is_quiet (conditions_tape s.conditions))
  pub expression : ExpressionStands s.expression

-- `parse_sentence` from its `=` on
abbrev pub from_equals : List Name → List Name → List Tokens.Placed → Parsed Reading.Items
from_equals symbols parts ts =
    pass Tokens.equals ts λ ts₁.
    unless_word (Reading.parse_expression (length ts₁) symbols 0 (record { items = 0; coming = parts }) ts₁)

-- `=` and an expression were read
pub record EqualsRead (text : Bytes) (at words : ℕ) (tape tape' : List ℕ) (i : Reading.Items)
    (rest : List Tokens.Placed) (s : Progress) : Type 0 where
  pub tokens : rest ≡ stream text Tokens.inside s.at
  pub went : Went text at words tape s.at s.words tape' (tape_word equals_kind 0 ∷ expression_tape i.expression)
  pub stands : ExpressionStands i.expression

-- a sentence was read
pub record SentenceRead (text : Bytes) (at words : ℕ) (tape tape' : List ℕ) (s : Sentence) (rest : List Tokens.Placed)
    (p : Progress) : Type 0 where
  pub tokens : rest ≡ stream text Tokens.inside p.at
  pub went : Went text at words tape p.at p.words tape' (sentence_tape s)
  pub stands : SentenceStands s

-- a token that a sentence can begin with
abbrev pub begins_sentence : Token → Bool
begins_sentence (NameToken name) = false
begins_sentence (Symbol identifier) = true
begins_sentence (Part identifier) = true
begins_sentence Word = false
begins_sentence (Quoted count) = true
begins_sentence (Sign byte) = either (eqb byte Tokens.comma) (eqb byte Tokens.equals)
begins_sentence End = false
begins_sentence Malformed = false

-- a sentence, if one may still come
abbrev pub sentence_within_limit : ℕ → Tokens.Placed → List Tokens.Placed → Parsed Sentence
sentence_within_limit zero t ts = stopped over_limit t.place
sentence_within_limit (suc left) t ts = unless_word (Reading.parse_sentence (t ∷ ts))

-- `parse_sentences` up to what comes after the first sentence
abbrev pub first_sentence : ℕ → List Tokens.Placed → Parsed Sentence
first_sentence left [] = cut_short
first_sentence left (t ∷ ts) = let later = sentence_within_limit left t ts in whether (Reading.begins t.token) t later

-- the first of so many sentences was read
pub record FirstRead (text : Bytes) (left at words : ℕ) (tape tape' : List ℕ) (s : Sentence) (rest : List Tokens.Placed)
    (p : Progress) : Type 0 where
  pub read : SentenceRead text at words tape tape' s rest p
  pub some : 0 < left

-- what comes after a sentence
abbrev pub SequelGives : Bytes → ℕ → Result Sequel Fault → Type 0
SequelGives text from (Ok (Ends past)) =
    ((more : List Tokens.Placed → Parsed (List Sentence)) (s : Sentence)
    → after_sentence more s (stream text Tokens.inside from) ≡ parsed (s ∷ []) (stream text Tokens.outside past))
    × (from < past)
    × (past ≤ length text)
SequelGives text from (Ok (Another place)) =
    ((more : List Tokens.Placed → Parsed (List Sentence)) (s : Sentence)
    → after_sentence more s (stream text Tokens.inside from)
    ≡ follow (more (stream text Tokens.inside place)) (λ ss rest. parsed (s ∷ ss) rest))
    × (from < place)
    × (place ≤ length text)
SequelGives text from (Err fault) =
    (more : List Tokens.Placed → Parsed (List Sentence)) (s : Sentence)
    → after_sentence more s (stream text Tokens.inside from) ≡ stopped (refusal_number fault.refusal) fault.place

pub record Follows (text : Bytes) (from : ℕ) (r : Result Sequel Fault) : Type 0 where
  pub gives : SequelGives text from r

-- the sentences of a function were read, of which so many might come
pub record SentencesRead (text : Bytes) (limit at words : ℕ) (tape tape' : List ℕ) (ss : List Sentence)
    (rest : List Tokens.Placed) (p : SentencesEnd) : Type 0 where
  pub tokens : rest ≡ stream text Tokens.outside p.at
  pub went : Went text at words tape p.at p.words tape' (sentences_tape ss)
  pub left : p.left + length ss ≡ limit
  pub stand : Each SentenceStands ss
