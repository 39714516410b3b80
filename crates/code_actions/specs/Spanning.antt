-- Spans, as the code works them out from a pattern's lengths: meaning's passages and rests; and which
-- e-variable ends the pattern.
use Rattle.std.specs.Prelude.{ℕ, ◌+◌, ◌≤◌, Bool, true, false, eqb}
use Rattle.meaning.specs.Allowed.{max_letters}
use Rattle.meaning.specs.Instructions.{Length, null, whole, left, right, Span as MeantSpan}
use Rattle.meaning.specs.Translation.{Stand as MeantStand, at_start, after_first, after_second}
use Rattle.tape_words.specs.declared.tape.Parts.{Parts}
use Rattle.tape_words.specs.declared.tape.Parts.TheVariants.{Zero, One, Two}
use Rattle.code_patterns.specs.declared.pattern.Lengths.{Lengths}
use Rattle.code_actions.specs.declared.spans.Stand.{Stand}
use Rattle.code_actions.specs.declared.spans.Stand.TheVariants.{AtStart, AfterFirst, AfterSecond}
use Rattle.code_actions.specs.declared.spans.FieldLength.{FieldLength}
use Rattle.code_actions.specs.declared.spans.FieldLength.TheVariants.{Null, Whole, Left, Right}
use Rattle.code_actions.specs.declared.spans.Span.{Span}

abbrev pub meant_stand : Stand → MeantStand
meant_stand AtStart = at_start
meant_stand AfterFirst = after_first
meant_stand AfterSecond = after_second

abbrev pub length_meant : FieldLength → Length
length_meant Null = null
length_meant Whole = whole
length_meant Left = left
length_meant Right = right

abbrev pub span_meant : Span → MeantSpan
span_meant s = record { register = length_meant s.register; add = s.add; back = s.back }

abbrev pub code_span : FieldLength → ℕ → ℕ → Span
code_span register add back = record { register = register; add = add; back = back }

-- from where p stands to an e-variable, which is the pattern's first or not
abbrev pub gap_by : Parts → Lengths → Bool → Stand → Span
gap_by Zero l first w = code_span Null 0 0
gap_by One l first w = code_span Null l.first 0
gap_by Two l true w = code_span Null l.first 0
gap_by Two l false AtStart = code_span Left l.second 0
gap_by Two l false AfterFirst = code_span Null l.second 0
gap_by Two l false AfterSecond = code_span Null 0 0

-- the e-variable itself
abbrev pub piece_span : Parts → Lengths → Bool → Span
piece_span Zero l first = code_span Null 0 0
piece_span One l first = code_span Whole 0 (l.first + l.second)
piece_span Two l true = code_span Left 0 l.first
piece_span Two l false = code_span Right 0 (l.second + l.third)

-- where p stands after it
abbrev pub stand_after : Parts → Bool → Stand → Stand
stand_after Zero first w = w
stand_after One first w = AfterFirst
stand_after Two true w = AfterFirst
stand_after Two false w = AfterSecond

-- the rest of the field
abbrev pub rest_by : Parts → Lengths → Stand → Span
rest_by Zero l w = code_span Whole 0 0
rest_by One l AtStart = code_span Whole 0 0
rest_by One l AfterFirst = code_span Null l.second 0
rest_by One l AfterSecond = code_span Null 0 0
rest_by Two l AtStart = code_span Whole 0 0
rest_by Two l AfterFirst = code_span Right 0 0
rest_by Two l AfterSecond = code_span Null l.third 0

-- an e-variable, which is the pattern's first or not, is its last, and no template comes after it
abbrev pub ends_by : Parts → Lengths → Bool → Bool
ends_by Zero l first = false
ends_by One l first = eqb l.second 0
ends_by Two l true = false
ends_by Two l false = eqb l.third 0

-- a span's numbers fit a word's operands
pub record SmallSpan (s : Span) : Type 0 where
  pub add : s.add ≤ max_letters
  pub back : s.back ≤ max_letters
