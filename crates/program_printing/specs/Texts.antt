-- What is printed of a refusal, of a result and of the applications of each function: 01, the last paragraph of 'Runs
-- to hold on to', and 02, T-01.
use Rattle.std.specs.Prelude.{ℕ, zero, suc, ◌+◌, ◌/◌, ◌%◌, ◌≤◌, ◌≡◌, List, [], ◌∷◌, ◌++◌, ltb, length}
use Rattle.meaning.specs.Choice.{Bytes, Name, pick}
use Rattle.meaning.specs.Ascii.{space, line_feed, digit_zero}
use Rattle.meaning.specs.Leaving.{over}
use Rattle.byte_writing.specs.declared.ByteWriter.{ByteWriter}
use Rattle.byte_writing.specs.Put.{Put}
use Rattle.byte_writing.specs.Wrote.{Wrote}

-- a number in decimal, if it has no more digits than this
unfoldable pub numeral_of : ℕ → ℕ → Bytes
numeral_of zero n = []
numeral_of (suc more) n =
    let before = numeral_of more (n / 10) in
    pick (ltb n 10) [] before ++ (digit_zero + n % 10) ∷ []

abbrev pub numeral : ℕ → Bytes
numeral n = numeral_of (suc n) n

-- a number, and the byte after it
abbrev pub number_then : ℕ → ℕ → Bytes
number_then n after = numeral n ++ after ∷ []

-- its cells at most: a number of the code has up to 20 digits
abbrev pub number_cells : ℕ
number_cells = 21

-- "For a refused table it prints number and place only"
abbrev pub refusal_text : ℕ → ℕ → Bytes
refusal_text number place = number_then number space ++ number_then place line_feed

-- "prints answer, function, steps; the record; the result and a line end"
abbrev pub result_text : ℕ → ℕ → ℕ → Bytes → Bytes → Bytes
result_text answer function steps emissions text =
    number_then answer space
    ++ (number_then function space ++ (number_then steps line_feed ++ (emissions ++ (text ++ line_feed ∷ []))))

-- 02, T-01: "After the result the program prints a line for each function in declaration order, with number, name and
-- applications"
abbrev pub profile_line : ℕ → Name → ℕ → Bytes
profile_line number name applications =
    number_then number space ++ (name ++ (space ∷ number_then applications line_feed))

-- the lines of functions numbered on after `before`, with as many counts
unfoldable pub profile_lines : ℕ → List Name → List ℕ → Bytes
profile_lines before [] counts = []
profile_lines before (name ∷ names) [] = []
profile_lines before (name ∷ names) (applications ∷ counts) =
    profile_line (suc before) name applications ++ profile_lines (suc before) names counts

-- "then `total` and the steps"
abbrev pub total_word : Bytes
total_word = 116 ∷ 111 ∷ 116 ∷ 97 ∷ 108 ∷ space ∷ []

abbrev pub profile_text : List Name → List ℕ → ℕ → Bytes
profile_text names counts steps = profile_lines 0 names counts ++ (total_word ++ number_then steps line_feed)

-- a text stands at the front of the cells, and those after it are as they were
pub record Prints (text old : Bytes) (count : ℕ) (new : Bytes) : Type 0 where
  pub size : count ≡ length text
  pub cells : new ≡ over text old

-- bytes are written, so many at most
pub record PutAtMost (most at : ℕ) (old bytes : Bytes) (next : ℕ) (new : Bytes) : Type 0 where
  pub put : Put at old bytes next new
  pub near : next ≤ at + most

-- a writer is given bytes, so many at most
pub record WroteAtMost (most : ℕ) (old : ByteWriter) (bytes : Bytes) (new : ByteWriter) : Type 0 where
  pub wrote : Wrote old bytes new
  pub near : new.at ≤ old.at + most
