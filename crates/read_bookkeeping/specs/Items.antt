-- Items of a sentence: its variables, and where an identifier and a string stand.
use Rattle.std.specs.Prelude.{ℕ, ◌+◌, ◌≤◌, ◌<◌, ◌≡◌, true, false, List, length, take}
use Rattle.std.specs.List.{All}
use Rattle.meaning.specs.Choice.{Bytes, Name}
use Rattle.meaning.specs.Answers.{not_allowed_here}
use Rattle.meaning.specs.Reading.{Item, item_of, is_item}
use Rattle.read_tokens.specs.View.{IsClosed, characters_in, quotation_at, token_of}
use Rattle.read_tokens.specs.declared.Span.{Span}
use Rattle.read_tokens.specs.declared.Placed.{Placed}
use Rattle.answers.specs.declared.Fault.{Fault}
use Rattle.answers.specs.Numbers.{refusal_number}
use Rattle.read_bookkeeping.specs.declared.variables.Variables.{Variables}
use Rattle.read_bookkeeping.specs.Tables.{Inside, names_in}
use Rattle.read_bookkeeping.specs.Tokened.{is_word}

-- the s-variables and the e-variables of a sentence, as parts of the text
abbrev pub symbol_spans : Variables → List Span
symbol_spans v = take v.symbol_count v.symbols

abbrev pub part_spans : Variables → List Span
part_spans v = take v.part_count v.parts

-- they lie in the text
pub record Known (text : Bytes) (v : Variables) : Type 0 where
  pub symbols : All (Inside text) (symbol_spans v)
  pub parts : All (Inside text) (part_spans v)

abbrev pub symbol_names : Bytes → Variables → List Name
symbol_names text v = names_in text (symbol_spans v)

abbrev pub part_names : Bytes → Variables → List Name
part_names text v = names_in text (part_spans v)

-- the identifier of a variable that stands after a place
pub record Identifier (text : Bytes) (at : ℕ) (x : Span) : Type 0 where
  pub after : at < x.from
  pub some : x.from < x.past
  pub inside : x.past ≤ length text

-- a string of so many characters that stands after a place
pub record StringAt (text : Bytes) (at place past count : ℕ) : Type 0 where
  pub after : at ≤ place
  pub closed : IsClosed (quotation_at text place)
  pub counted : length (characters_in (quotation_at text place)) ≡ count
  pub charged : place + count + 2 ≤ past
  pub inside : past ≤ length text

-- a token as an item
abbrev pub token_item : Bytes → Placed → Item
token_item text t = item_of (token_of text t.token t.place t.past)

-- a token is neither an item nor a word
pub record NoItem (text : Bytes) (t : Placed) : Type 0 where
  pub other : is_item (token_item text t) ≡ false
  pub wordless : is_word (token_of text t.token t.place t.past) ≡ false

-- a token is a word that is no variable, which is refused with 3 at its place
pub record WordRefused (text : Bytes) (t : Placed) (fault : Fault) : Type 0 where
  pub other : is_item (token_item text t) ≡ false
  pub word : is_word (token_of text t.token t.place t.past) ≡ true
  pub number : refusal_number fault.refusal ≡ not_allowed_here
  pub place : fault.place ≡ t.place
