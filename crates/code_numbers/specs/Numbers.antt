-- What each operand of a code word counts, and the words before a sentence's tests, under the names of the code.
use Rattle.std.specs.Prelude.{ℕ, ◌*◌}

-- what every operand is below
abbrev pub operand : ℕ
operand = 256

-- what one of the first operand counts in a word, one of the second, and one of the third
abbrev pub first : ℕ
first = operand

abbrev pub second : ℕ
second = first * operand

abbrev pub third : ℕ
third = second * operand

-- how many words a sentence has before its tests
abbrev pub sentence_head : ℕ
sentence_head = 2
