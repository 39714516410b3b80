-- Looks along the tokens of a text, from left to right and with no memory but a flag: what stands before and after a
-- sign, which names stand there, how many sentences begin, and the sentence that the tokens end in.
use Rattle.std.specs.Prelude.{ℕ, ◌+◌, Bool, false, not, List, [], ◌∷◌, ◌++◌}
use Rattle.std.proofs.Math.Option.{Option, none, some}
use Rattle.meaning.specs.Choice.{Name, pick, both, either}
use Rattle.meaning.specs.Tree.{Element}
use Rattle.meaning.specs.Tokens.{Token, Placed, left_brace, right_brace, semicolon, comma, equals, less_than, is_sign}
use Rattle.meaning.specs.Tokens.{name_of, item_of, begins}
use Rattle.meaning.specs.Grammar.{elements_of}

-- those before the first that passes, after the first, and after the last, with those since it so far; how many pass
unfoldable pub before_first : (Token → Bool) → List Placed → List Placed
before_first f [] = []
before_first f (t ∷ ts) = pick (f t.token) [] (t ∷ before_first f ts)

unfoldable pub past_first : (Token → Bool) → List Placed → List Placed
past_first f [] = []
past_first f (t ∷ ts) = pick (f t.token) ts (past_first f ts)

unfoldable pub after_last : List Placed → (Token → Bool) → List Placed → List Placed
after_last so f [] = so
after_last so f (t ∷ ts) = after_last (pick (f t.token) [] (so ++ t ∷ [])) f ts

unfoldable pub count : (Token → Bool) → List Placed → ℕ
count f [] = 0
count f (t ∷ ts) = pick (f t.token) 1 0 + count f ts

-- a function's name, if the token is one
abbrev pub to_list : Option Name → List Name
to_list none = []
to_list (some n) = n ∷ []

-- the names that stand right after a `<`, or the others, as a test on that says; the flag says whether a `<` stands
-- right before the tokens
unfoldable pub names_from : (Bool → Bool) → Bool → List Placed → List Name
names_from wanted after [] = []
names_from wanted after (t ∷ ts) =
    pick (wanted after) (to_list (name_of t.token)) [] ++ names_from wanted (is_sign less_than t.token) ts

abbrev pub called : List Placed → List Name
called ts = names_from (λ after. after) false ts

abbrev pub declared_names : List Placed → List Name
declared_names ts = names_from not false ts

-- how many sentences begin: with a token that one can begin with, right after a `{` or a `;`; the flag says whether one
-- of these stands right before the tokens
abbrev pub leads : Token → Bool
leads token = either (is_sign left_brace token) (is_sign semicolon token)

unfoldable pub begun_from : Bool → List Placed → ℕ
begun_from led [] = 0
begun_from led (t ∷ ts) = pick (both led (begins t.token)) 1 0 + begun_from (leads t.token) ts

abbrev pub sentences_begun : List Placed → ℕ
sentences_begun ts = begun_from false ts

-- characters and variables
unfoldable pub elements_in : List Placed → List Element
elements_in [] = []
elements_in (t ∷ ts) = elements_of (item_of t.token) ++ elements_in ts

-- THE SENTENCE THAT THE TOKENS END IN

abbrev pub parting : Token → Bool
parting token = either (is_sign right_brace token) (leads token)

abbrev pub sentence_in : List Placed → List Placed
sentence_in ts = after_last [] parting ts

-- before its `=` and after it; of what stands before, the pattern and the conditions
abbrev pub left_side : List Placed → List Placed
left_side ts = before_first (is_sign equals) (sentence_in ts)

abbrev pub right_side : List Placed → List Placed
right_side ts = past_first (is_sign equals) (sentence_in ts)

abbrev pub pattern_in : List Placed → List Element
pattern_in ts = elements_in (before_first (is_sign comma) (left_side ts))

abbrev pub conditions_in : List Placed → List Placed
conditions_in ts = past_first (is_sign comma) (left_side ts)
