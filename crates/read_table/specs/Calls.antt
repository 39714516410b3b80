-- The called names of a table that was read: which words of the tape open calls, and where the first undeclared name
-- stands.
use Rattle.std.specs.Prelude as Code
use Rattle.std.specs.Prelude.{ℕ, ◌≤◌, ◌≡◌, Bool, List, [], ◌∷◌, length, take}
use Rattle.std.proofs.Math.Option.{Option, none, some}
use Rattle.meaning.specs.Choice.{Name, either}
use Rattle.meaning.specs.Tree.{Table}
use Rattle.meaning.specs.Allowed.{names_of}
use Rattle.tape_layout.specs.Tape.{tape, call_word}
use Rattle.tape_words.specs.Words.{carried, head_names}
use Rattle.tape_words.specs.Finding.{is_known_among}
use Rattle.read_bookkeeping.specs.Written.{is_quiet}
use Rattle.read_functions.specs.Sentences.{Each}
use Rattle.read_functions.specs.Functions.{FunctionStands}

-- "first called name that is undeclared", by its place, as the code says it
abbrev pub unknown_as : Option ℕ → Code.Option ℕ
unknown_as none = Code.None
unknown_as (some place) = Code.Some place

-- the name that a word calls, if it does, stands in the words after it
abbrev pub NameFollows : ℕ → List ℕ → Type 0
NameFollows word after = call_word ≤ word → carried word ≤ length after

unfoldable pub NamesFollow : List ℕ → Type 0
NamesFollow [] = Unit {0}
NamesFollow (w ∷ ws) = NameFollows w ws × NamesFollow ws

-- a word before others opens no call, or one of a name that is built in or declared
abbrev pub word_known : List Name → ℕ → List ℕ → Bool
word_known names word after = either (is_quiet word) (is_known_among names (take (carried word) after))

-- the tape of a table that was read, with its functions' heads
pub record Holds (words heads : List ℕ) (t : Table) : Type 0 where
  pub written : words ≡ tape t
  pub declared : head_names words heads ≡ names_of t
  pub stand : Each FunctionStands t
