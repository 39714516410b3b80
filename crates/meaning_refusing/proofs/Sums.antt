-- What the looks along the tokens up to a place come to, as one record that the next token changes, and the number of their lowest fault by it: a
-- device of the proofs, which go along the tokens with the reader.
use Prim.Native.Nat.{ℕ, suc, ◌+◌}
use mathlib.Core.Path.{◌≡◌, refl}
use mathlib.Core.Bool.{Bool, true, false, not}
use mathlib.Core.List.{List, [], ◌∷◌, ◌++◌}
use mathlib.Core.Option.{Option, none, some}
use lib.Dec.{leb}
use lib.ListN.{length}
use Rattle.meaning.specs.Choice.{Name, pick, both, either, is_some, every}
use Rattle.meaning.specs.Tree.{Element}
use Rattle.meaning.specs.Names.{is_predicate, is_reserved}
use Rattle.meaning.specs.Answers.{malformed_token, not_allowed_here, over_limit, wrong_name, wrong_pattern_variable, wrong_later_variable}
use Rattle.meaning.specs.Allowed.{max_letters, max_symbols, max_conditions, max_items, max_nesting, symbols_of, parts_of, letters_in, parted}
use Rattle.meaning.specs.Allowed.{distinct}
use Rattle.meaning.specs.Allowed.{member}
use Rattle.meaning.specs.Tokens.{Token, Placed, comma, equals, less_than, greater_than, is_sign, name_of, Item, characters, symbol_item, part_item}
use Rattle.meaning.specs.Tokens.{no_item}
use Rattle.meaning.specs.Tokens.{item_of, begins}
use Rattle.meaning.specs.Grammar.{elements_of}
use Rattle.meaning.specs.Reading.{fault_unless}
use Rattle.meaning_refusing.specs.Looking.{leads, parting}
use Rattle.meaning_refusing.specs.Faults.{is_malformed, Quota, short_token, coming_after_each}
use Rattle.meaning_refusing.proofs.Stages.{Stage, start, step, going}

-- the sentence that the tokens end in
pub record SentenceSum : Type 0 where
  -- whether its `,` and its `=` have come
  pub any_comma : Bool
  pub any_equals : Bool
  pub pattern : List Element
  pub commas : ℕ
  -- in its conditions: characters and variables, names right after a `<`, whether a `<` stands last
  pub middle : List Element
  pub predicates : List Name
  pub middle_bracket : Bool
  -- in its expression the same, and how many `<` and `>`
  pub items : List Element
  pub calls : List Name
  pub right_bracket : Bool
  pub opens : ℕ
  pub closes : ℕ

pub record Sum : Type 0 where
  pub stage : Stage
  pub formed : Bool
  pub short : Bool
  pub names : List Name
  pub begun : ℕ
  -- whether a `<` stands last; whether a `{` or a `;` does
  pub bracket : Bool
  pub led : Bool
  pub sentence : SentenceSum

abbrev pub no_sentence : SentenceSum
no_sentence =
    record {
      any_comma = false;
      any_equals = false;
      pattern = [];
      commas = 0;
      middle = [];
      predicates = [];
      middle_bracket = false;
      items = [];
      calls = [];
      right_bracket = false;
      opens = 0;
      closes = 0;
    }

abbrev pub add_name : Option Name → List Name → List Name
add_name none names = names
add_name (some n) names = names ++ n ∷ []

abbrev pub add_item : Item → List Element → List Element
add_item (characters text) es = es ++ elements_of (characters text)
add_item (symbol_item x) es = es ++ elements_of (symbol_item x)
add_item (part_item x) es = es ++ elements_of (part_item x)
add_item no_item es = es

-- the token belongs to the left side, to the pattern, to the conditions
abbrev pub leftward : SentenceSum → Token → Bool
leftward s token = not (either s.any_equals (is_sign equals token))

abbrev pub patterned : SentenceSum → Token → Bool
patterned s token = both (leftward s token) (not (either s.any_comma (is_sign comma token)))

abbrev pub middling : SentenceSum → Token → Bool
middling s token = both (leftward s token) s.any_comma

abbrev pub grow : SentenceSum → Token → SentenceSum
grow s token =
    record {
      any_comma = pick (both (leftward s token) (is_sign comma token)) true s.any_comma;
      any_equals = either s.any_equals (is_sign equals token);
      pattern = pick (patterned s token) (add_item (item_of token) s.pattern) s.pattern;
      commas = pick (both (leftward s token) (is_sign comma token)) (suc s.commas) s.commas;
      middle = pick (middling s token) (add_item (item_of token) s.middle) s.middle;
      predicates = pick (both (middling s token) s.middle_bracket) (add_name (name_of token) s.predicates) s.predicates;
      middle_bracket = pick (middling s token) (is_sign less_than token) s.middle_bracket;
      items = pick s.any_equals (add_item (item_of token) s.items) s.items;
      calls = pick (both s.any_equals s.right_bracket) (add_name (name_of token) s.calls) s.calls;
      right_bracket = pick s.any_equals (is_sign less_than token) s.right_bracket;
      opens = pick (both s.any_equals (is_sign less_than token)) (suc s.opens) s.opens;
      closes = pick (both s.any_equals (is_sign greater_than token)) (suc s.closes) s.closes;
    }

abbrev pub next : Sum → Placed → Sum
next m t =
    record {
      stage = step m.stage t;
      formed = both m.formed (not (is_malformed t.token));
      short = both m.short (short_token t.token);
      names = pick (not m.bracket) (add_name (name_of t.token) m.names) m.names;
      begun = pick (both m.led (begins t.token)) (suc m.begun) m.begun;
      bracket = is_sign less_than t.token;
      led = leads t.token;
      sentence = pick (parting t.token) no_sentence (grow m.sentence t.token);
    }

abbrev pub at_first : Sum
at_first =
    record { stage = start; formed = true; short = true; names = []; begun = 0; bracket = false; led = false; sentence = no_sentence }

unfoldable pub tally_from : Sum → List Placed → Sum
tally_from m [] = m
tally_from m (t ∷ ts) = tally_from (next m t) ts

abbrev pub tally : List Placed → Sum
tally ts = tally_from at_first ts

pub tally-more : (m : Sum) (b : List Placed) (t : Placed) → tally_from m (b ++ t ∷ []) ≡ next (tally_from m b) t
unfolding tally_from
tally-more m [] t = refl
tally-more m (u ∷ b) t = tally-more (next m u) b t

-- THE TESTS

unfoldable pub table_limits : Quota → List Name → ℕ → Bool
table_limits quota names begun = both (leb (length names) quota.functions) (leb begun quota.sentences)

unfoldable pub pattern_limits : List Element → Bool
pattern_limits p = both (leb (letters_in p) max_letters) (leb (length (symbols_of p)) max_symbols)

unfoldable pub item_limits : List Element → ℕ → ℕ → Bool
item_limits items opens closes = both (leb (length items + opens) max_items) (leb opens (closes + max_nesting))

unfoldable pub declared_right : List Name → Bool
declared_right names = both (distinct names) (every (λ n. not (is_reserved n)) names)

unfoldable pub predicates_right : List Name → Bool
predicates_right names = every is_predicate names

unfoldable pub calls_right : List Name → Bool
calls_right names = every (λ n. not (is_predicate n)) names

unfoldable pub pattern_right : List Element → Bool
pattern_right p = both (distinct (symbols_of p ++ parts_of p)) (parted p)

unfoldable pub symbols_right : List Element → List Element → Bool
symbols_right p es = every (λ x. member x (symbols_of p)) (symbols_of es)

unfoldable pub parts_known : List Element → List Element → Bool
parts_known p es = every (λ x. member x (parts_of p)) (parts_of es)

-- conditions name variables of the pattern, in any order
unfoldable pub middle_right : List Element → List Element → Bool
middle_right p es = both (symbols_right p es) (parts_known p es)

unfoldable pub parts_right : List Element → List Element → Bool
parts_right p es = is_some (coming_after_each (parts_of es) (parts_of p))

-- the number of the lowest fault, or 0
abbrev pub number : Quota → Sum → ℕ
number quota m =
    fault_unless m.formed malformed_token
    (fault_unless (going m.stage) not_allowed_here
    (fault_unless
    (both m.short
    (both (table_limits quota m.names m.begun)
    (both (pattern_limits m.sentence.pattern)
    (both (leb m.sentence.commas max_conditions)
    (item_limits m.sentence.items m.sentence.opens m.sentence.closes)))))
    over_limit
    (fault_unless
    (both (declared_right m.names) (both (predicates_right m.sentence.predicates) (calls_right m.sentence.calls)))
    wrong_name
    (fault_unless (pattern_right m.sentence.pattern) wrong_pattern_variable
    (fault_unless
    (both (middle_right m.sentence.pattern m.sentence.middle)
    (both (symbols_right m.sentence.pattern m.sentence.items) (parts_right m.sentence.pattern m.sentence.items)))
    wrong_later_variable 0)))))
