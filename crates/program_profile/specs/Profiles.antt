-- The functions of a table text, and their names on its tape.
use Rattle.std.specs.Prelude.{ℕ, ◌+◌, ◌*◌, ◌≤◌, ◌<◌, List, [], T, length, get_or}
use Rattle.meaning.specs.Choice.{Name, every}
use Rattle.meaning.specs.Allowed.{is_byte, max_functions, max_name, names_of}
use Rattle.meaning.specs.Reading.{Read, accepted, refused}
use Rattle.tape_words.specs.Words.{head_name}
use Rattle.program_printing.specs.Texts.{number_cells, total_word}

-- the cells at most of a function's line: its number, its name and a blank, its applications; and of all lines with the
-- total
abbrev pub line_cells : ℕ
line_cells = number_cells + (max_name + 1) + number_cells

abbrev pub profile_cells : ℕ
profile_cells = line_cells * max_functions + (length total_word + number_cells)

-- the names of an accepted table's functions; a refused one has none
abbrev pub names_read : Read → List Name
names_read (accepted t) = names_of t
names_read (refused number place) = []

-- the word at a place of the tape has a name after it that is a table's: it is made of bytes, and is no longer than a
-- name may be
pub record NameSpelled (tape : List ℕ) (head : ℕ) : Type 0 where
  pub inside : head < length tape
  pub bytes : T (every is_byte (head_name tape head))
  pub short : length (head_name tape head) ≤ max_name

abbrev pub AllSpelled : List ℕ → List ℕ → Type 0
AllSpelled tape heads = (k : ℕ) → k < length heads → NameSpelled tape (get_or heads k 0)
