-- Which texts are refused, with which number and at which place: told by what stands in the tokens up to a place, not
-- by a reader. 01, 'Where each thing is checked': "For 2 to 7 the leftmost token decides, then the lowest number." So
-- the shortest beginning of the tokens that has a fault decides, and then the lowest of its faults.
use Rattle.std.specs.Prelude.{ℕ, ◌+◌, ◌-◌, ◌≤◌, ◌<◌, ◌≡◌, Bool, true, false, not, List, [], ◌∷◌, ◌++◌, leb, length}
use Rattle.std.proofs.Math.Option.{Option, none, some}
use Rattle.meaning.specs.Choice.{Bytes, Name, pick, both, either, is_some, every}
use Rattle.meaning.specs.Tree.{Table}
use Rattle.meaning.specs.Names.{is_predicate, is_built_in, is_reserved}
use Rattle.meaning.specs.Answers.{table_too_long, malformed_token, not_allowed_here, over_limit, wrong_name}
use Rattle.meaning.specs.Answers.{wrong_pattern_variable, wrong_later_variable, undeclared_name}
use Rattle.meaning.specs.Allowed.{max_table, max_functions, max_sentences, max_name, max_identifier, max_letters, max_symbols}
use Rattle.meaning.specs.Allowed.{max_conditions, max_items, max_nesting, symbols_of, parts_of, letters_in, parted, distinct}
use Rattle.meaning.specs.Allowed.{member, coming_after, where_some}
use Rattle.meaning.specs.Tokens.{Token, function_name, word, quoted, sign, text_end, malformed, Placed, tokens, comma}
use Rattle.meaning.specs.Tokens.{less_than, greater_than, is_sign, name_of, Item, characters, symbol_item, part_item, no_item}
use Rattle.meaning.specs.Tokens.{item_of}
use Rattle.meaning.specs.Grammar.{standing, IsProgram}
use Rattle.meaning_refusing.specs.Looking.{count, declared_names, called, sentences_begun, elements_in, left_side}
use Rattle.meaning_refusing.specs.Looking.{right_side}
use Rattle.meaning_refusing.specs.Looking.{pattern_in, conditions_in}

-- 2: "comment or string without an end, escape not listed or over 255, bare double quote in a string, `<` with no
-- letter right after it"

abbrev pub is_malformed : Token → Bool
is_malformed (function_name n) = false
is_malformed (word w) = false
is_malformed (quoted text) = false
is_malformed (sign b) = false
is_malformed text_end = false
is_malformed malformed = true

abbrev pub well_formed : List Placed → Bool
well_formed ts = every (λ t. not (is_malformed t.token)) ts

-- 3: "not allowed here by the grammar"

-- Tokens that are the same to 3: which name stands where a name may is a matter of 5, and whether anything stands
-- between two e-variables one of 6.
pub data Like : List Placed → List Placed → Type 0 where
  nothing : Like [] []
  same : {t : Placed} {ts us : List Placed} → Like ts us → Like (t ∷ ts) (t ∷ us)
  other_name : {n m : Name} {place past : ℕ} {ts us : List Placed}
      → Like ts us
      → Like (standing (function_name n) place past ∷ ts) (standing (function_name m) place past ∷ us)
  empty_string : {place past : ℕ} {ts us : List Placed} → Like ts us → Like ts (standing (quoted []) place past ∷ us)

-- some tokens go on from these to a program of the grammar
pub record Viable (ts : List Placed) : Type 0 where
  pub more : List Placed
  pub like : List Placed
  pub alike : Like (ts ++ more) like
  pub tree : Table
  pub derived : IsProgram like tree

-- 4: "passes another limit"

-- how many functions and sentences a text may have: 01's limits, or what others before it leave of them
pub record Quota : Type 0 where
  pub functions : ℕ
  pub sentences : ℕ

abbrev pub quota_after : ℕ → ℕ → Quota
quota_after functions_before sentences_before =
    record { functions = max_functions - functions_before; sentences = max_sentences - sentences_before }

-- "identifier after s or e 8"
abbrev pub short_item : Item → Bool
short_item (characters text) = true
short_item (symbol_item x) = leb (length x) max_identifier
short_item (part_item x) = leb (length x) max_identifier
short_item no_item = true

-- "name 24 bytes"
abbrev pub short_name : Option Name → Bool
short_name none = true
short_name (some n) = leb (length n) max_name

abbrev pub short_token : Token → Bool
short_token token = both (short_name (name_of token)) (short_item (item_of token))

-- "64 functions; 512 sentences in all; ... pattern 64 characters and s-variables, of which 16 different; 8 conditions;
-- expression 128 items (character, variable, call), those inside calls included", "at most 16 calls one inside
-- another": a call counts from its `<` on, and those stand one inside another whose `>` hasn't come.
abbrev pub within_limits : Quota → List Placed → Bool
within_limits quota ts =
    both (every (λ t. short_token t.token) ts)
    (both (leb (length (declared_names ts)) quota.functions)
    (both (leb (sentences_begun ts) quota.sentences)
    (both (leb (letters_in (pattern_in ts)) max_letters)
    (both (leb (length (symbols_of (pattern_in ts))) max_symbols)
    (both (leb (count (is_sign comma) (left_side ts)) max_conditions)
    (both (leb (length (elements_in (right_side ts)) + count (is_sign less_than) (right_side ts)) max_items)
    (leb (count (is_sign less_than) (right_side ts)) (count (is_sign greater_than) (right_side ts) + max_nesting))))))))

-- 5: "declared twice, reserved, condition on no predicate, predicate called"

abbrev pub right_names : List Placed → Bool
right_names ts =
    both (distinct (declared_names ts))
    (both (every (λ n. not (is_reserved n)) (declared_names ts))
    (both (every is_predicate (called (conditions_in ts)))
    (every (λ n. not (is_predicate n)) (called (right_side ts)))))

-- 6: "s and e share an identifier, e twice, nothing between two e"

abbrev pub right_pattern : List Placed → Bool
right_pattern ts = both (distinct (symbols_of (pattern_in ts) ++ parts_of (pattern_in ts))) (parted (pattern_in ts))

-- 7: "not in the pattern, or e repeated or out of order", of which "repetition and order look at the expression alone"
-- (T-03)

-- the e-variables that may still come after some, or none where one of these is repeated, out of order or not the
-- pattern's
unfoldable pub coming_after_each : List Name → List Name → Option (List Name)
coming_after_each [] coming = some coming
coming_after_each (x ∷ xs) coming = where_some (coming_after x coming) (coming_after_each xs)

abbrev pub right_later : List Placed → Bool
right_later ts =
    both (every (λ x. member x (symbols_of (pattern_in ts))) (symbols_of (elements_in (conditions_in ts))))
    (both (every (λ x. member x (parts_of (pattern_in ts))) (parts_of (elements_in (conditions_in ts))))
    (both (every (λ x. member x (symbols_of (pattern_in ts))) (symbols_of (elements_in (right_side ts))))
    (is_some (coming_after_each (parts_of (elements_in (right_side ts))) (parts_of (pattern_in ts))))))

-- FAULTS

-- the faults of tokens up to a place, by number
pub data Fault (quota : Quota) (ts : List Placed) : ℕ → Type 0 where
  not_formed : well_formed ts ≡ false → Fault quota ts malformed_token
  not_viable : (Viable ts → ⊥) → Fault quota ts not_allowed_here
  not_within : within_limits quota ts ≡ false → Fault quota ts over_limit
  not_named : right_names ts ≡ false → Fault quota ts wrong_name
  not_pattern : right_pattern ts ≡ false → Fault quota ts wrong_pattern_variable
  not_later : right_later ts ≡ false → Fault quota ts wrong_later_variable

-- no beginning of the tokens has a fault
abbrev pub Faultless : Quota → List Placed → Type 0
Faultless quota ts = (us vs : List Placed) → ts ≡ us ++ vs → (n : ℕ) → Fault quota us n → ⊥

-- the tokens are faultless up to one at a place, and a number is the lowest of the faults that it brings
pub record FirstFault (quota : Quota) (ts : List Placed) (n k : ℕ) : Type 0 where
  pub before : List Placed
  pub token : Placed
  pub after : List Placed
  pub shape : ts ≡ before ++ token ∷ after
  pub place : token.place ≡ k
  pub sound : Faultless quota before
  pub fault : Fault quota (before ++ token ∷ []) n
  pub lowest : (m : ℕ) → m < n → Fault quota (before ++ token ∷ []) m → ⊥

-- 8: "first called name that is undeclared"

-- no predicate's name, not built in and none of the declared ones
abbrev pub is_unknown : List Name → Name → Bool
is_unknown known n = not (either (is_predicate n) (either (is_built_in n) (member n known)))

abbrev pub unknown_name : List Name → Option Name → Bool
unknown_name known none = false
unknown_name known (some n) = is_unknown known n

-- the place of the first such name right after a `<`; the flag says whether a `<` stands right before the tokens
unfoldable pub unknown_from : List Name → Bool → List Placed → Option ℕ
unknown_from known after [] = none
unknown_from known after (t ∷ ts) =
    let later = unknown_from known (is_sign less_than t.token) ts in
    pick (both after (unknown_name known (name_of t.token))) (some t.place) later

abbrev pub undeclared : List Placed → Option ℕ
undeclared ts = unknown_from (declared_names ts) false ts

-- REFUSED TEXTS

-- 01's table, 1 to 8: "before reading", "at a token", "after reading"
pub data RefusedWithin (quota : Quota) (text : Bytes) : ℕ → ℕ → Type 0 where
  too_long : max_table < length text → RefusedWithin quota text table_too_long 0
  at_token : {n k : ℕ} → length text ≤ max_table → FirstFault quota (tokens text) n k → RefusedWithin quota text n k
  after_reading : {k : ℕ}
      → length text ≤ max_table
      → Faultless quota (tokens text)
      → undeclared (tokens text) ≡ some k
      → RefusedWithin quota text undeclared_name k

-- a text by itself
abbrev pub Refused : Bytes → ℕ → ℕ → Type 0
Refused = RefusedWithin (quota_after 0 0)
