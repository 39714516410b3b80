-- Names and identifiers in the text.
use Rattle.std.specs.Prelude.{ℕ, suc, ◌≤◌, List, [], ◌∷◌, map, length, Option, Some, None, option_map}
use Rattle.meaning.specs.Choice.{Bytes, Name, pick, same_bytes}
use Rattle.read_tokens.specs.View.{span_text}
use Rattle.read_tokens.specs.declared.Span.{Span}

-- a part that lies in the text
pub record Inside (text : Bytes) (s : Span) : Type 0 where
  pub forward : s.from ≤ s.past
  pub inside : s.past ≤ length text

-- the most e-variables of a pattern
abbrev pub max_parts : ℕ
max_parts = 2

-- the names that are these parts of the text
abbrev pub names_in : Bytes → List Span → List Name
names_in text xs = map (span_text text) xs

-- the place of the first such name, counted from 0, if there is one
unfoldable pub place_in : Name → List Name → Option ℕ
place_in x [] = None
place_in x (y ∷ ys) = let later = option_map suc (place_in x ys) in pick (same_bytes x y) (Some 0) later
