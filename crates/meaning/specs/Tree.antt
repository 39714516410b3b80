-- The tree of a table: 000 section 2.1 with 01's 'Table text'. A pattern is a sequence of characters, s-variables and
-- e-variables; 000's grammar of templates round at most two e-variables is in Grammar and Allowed, and the translation
-- finds the templates for itself. An expression carries its own tail, since a call holds an expression and an
-- expression holds calls.
use Rattle.std.specs.Prelude.{ℕ, Bool, List, map}
use Rattle.meaning.specs.Choice.{Name}
use Rattle.meaning.specs.Classes.{Class}

-- what a template is made of: a character, or an s-variable by the identifier after its s
pub data Letter : Type 0 where
  character : ℕ → Letter
  symbol : Name → Letter

-- what a pattern is made of: a letter, or an e-variable by the identifier after its e
pub data Element : Type 0 where
  letter : Letter → Element
  part : Name → Element

-- what a condition asks about: an s-variable's byte, or the bytes of an e-variable's part
pub data Subject : Type 0 where
  of_symbol of_part : Name → Subject

-- , <Predicate sX>: 'T' or 'F'; or <Predicate eX>
pub record Condition : Type 0 where
  pub predicate : Class
  pub subject : Subject
  pub expected : Bool

-- the items of an expression in order; a call has the place of its name in the table text, the name, its argument, and
-- what comes after it
pub data Expression : Type 0 where
  end : Expression
  then_character : ℕ → Expression → Expression
  then_symbol : Name → Expression → Expression
  then_part : Name → Expression → Expression
  then_call : ℕ → Name → Expression → Expression → Expression

pub record Sentence : Type 0 where
  pub pattern : List Element
  pub conditions : List Condition
  pub expression : Expression

pub record Function : Type 0 where
  pub name : Name
  pub sentences : List Sentence

abbrev pub Table : Type 0
Table = List Function

-- The same tree without the places of called names: 'the same tree' of demand 2 means equal after this.
unfoldable pub unplaced : Expression → Expression
unplaced end = end
unplaced (then_character c e) = then_character c (unplaced e)
unplaced (then_symbol x e) = then_symbol x (unplaced e)
unplaced (then_part x e) = then_part x (unplaced e)
unplaced (then_call place n a e) = then_call 0 n (unplaced a) (unplaced e)

abbrev pub unplaced_sentence : Sentence → Sentence
unplaced_sentence s = record { pattern = s.pattern; conditions = s.conditions; expression = unplaced s.expression }

abbrev pub unplaced_function : Function → Function
unplaced_function f = record { name = f.name; sentences = map unplaced_sentence f.sentences }

abbrev pub unplaced_table : Table → Table
unplaced_table t = map unplaced_function t
