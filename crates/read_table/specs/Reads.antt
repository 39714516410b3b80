-- What reading a text hands back, and what it leaves on the tape.
use Rattle.std.specs.Prelude.{ℕ, ◌≤◌, ◌≡◌, List, [], length, take, Result, Ok, Err}
use Rattle.meaning.specs.Choice.{Bytes}
use Rattle.meaning.specs.Allowed.{max_table}
use Rattle.tape_layout.specs.Tape.{tape}
use Rattle.meaning.specs.Reading.{Read, accepted, refused, read}
use Rattle.meaning.specs.Entries.{answered, read_answer}
use Rattle.meaning.specs.Answers.{finished}
use Rattle.answers.specs.declared.Fault.{Fault}
use Rattle.read_table.specs.declared.Reading.{Reading}
use Rattle.answers.specs.Numbers.{refusal_number}

-- the words of an accepted table; a refused one has none
abbrev pub tree_tape : Read → List ℕ
tree_tape (accepted t) = tape t
tree_tape (refused number place) = []

-- a tape for a text: where the text is no longer than a table may be, the tape has a word for each byte
pub record LongEnough (text : Bytes) (tape : List ℕ) : Type 0 where
  pub room : length text ≤ max_table → length text ≤ length tape

-- number, place and functions, as they are answered
abbrev pub reading_words : Result Reading Fault → List ℕ
reading_words (Ok r) = answered finished 0 r.functions
reading_words (Err fault) = answered (refusal_number fault.refusal) fault.place 0

-- the words of an accepted table, and none of a refused one
abbrev pub words_read : Result Reading Fault → ℕ
words_read (Ok r) = r.words
words_read (Err fault) = 0

-- a text was read: what is answered, how many words its tree has, and that the tape begins with them
pub record Reads (text : Bytes) (r : Result Reading Fault) (tape' : List ℕ) : Type 0 where
  pub answer : reading_words r ≡ read_answer (read text)
  pub words : words_read r ≡ length (tree_tape (read text))
  pub tape : take (words_read r) tape' ≡ tree_tape (read text)
