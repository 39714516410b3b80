-- Number 8 by the tokens: what a tree says of its declared and called names, the tokens that derive it say.
use Prim.Native.Nat.{ℕ, suc}
use mathlib.Core.Path.{◌≡◌, refl, sym, ap, ◌∙◌}
use mathlib.Core.Bool.{Bool, true, false, not}
use mathlib.Core.List.{List, [], ◌∷◌}
use mathlib.Core.Option.{Option, none, some}
use native.Mathlib.Omega.{arith}
use borrow.Author.Tests.{lt-ltb, not-true}
use lib.Dec.{ltb}
use Rattle.meaning.specs.Choice.{Bytes, Name, pick, both, either, every, or_else, is_some, same_bytes}
use Rattle.meaning.specs.Names.{is_predicate, is_built_in, is_reserved, number_from, is_known}
use Rattle.meaning.specs.Tree.{Element, Subject, Condition, Expression, end, then_character, then_symbol, then_part, then_call, Sentence, Function}
use Rattle.meaning.specs.Tree.{Table}
use Rattle.meaning.specs.Allowed.{is_byte, member, names_of, allowed_function, allowed_sentence, allowed_pattern, allowed_conditions, spelled_items}
use Rattle.meaning.specs.Allowed.{spelled_name, some_sentence, symbols_of, parts_of}
use Rattle.meaning.specs.Tokens.{Token, function_name, quoted, Placed, less_than, is_sign, name_of}
use Rattle.meaning.specs.Grammar.{standing, symbol_word, part_word, then_characters, IsLetters, string_letters, variable_letter, IsTemplate}
use Rattle.meaning.specs.Grammar.{letters_alone}
use Rattle.meaning.specs.Grammar.{letters_then, IsTemplateOrNone, no_template, some_template, IsPattern, no_part, one_part, two_parts, IsSubject}
use Rattle.meaning.specs.Grammar.{symbol_subject, part_subject, IsCondition, is_condition, IsConditions, no_conditions, condition_then, IsExpression}
use Rattle.meaning.specs.Grammar.{no_items, string_then, symbol_then, part_then, call_then, IsSentence, is_sentence, IsSentences, last_sentence}
use Rattle.meaning.specs.Grammar.{last_sentence_parted, sentence_then, IsFunction, is_function, IsProgram, no_functions, function_then}
use Rattle.meaning.specs.Grammar.{function_parted_then}
use Rattle.meaning.specs.Reading.{unknown_call, unknown_in_sentences, unknown_in}
use Rattle.meaning_accepting.proofs.Reading.Basics.{both_left, both_right}
use Rattle.meaning_refusing.specs.Looking.{names_from, declared_names}
use Rattle.meaning_refusing.specs.Faults.{is_unknown, unknown_from, undeclared}

-- LOOKS ALONG TOKENS AND TREES

-- a look along tokens, which a flag tells whether a `<` stands right before them; what a name does that is declared, and one that is called
record Look (R : Type 0) : Type 0 where
  scan : Bool → List Placed → R
  declare : Name → R → R
  call_it : ℕ → Name → R → R
  quiet : (t : Placed) (ts : List Placed) → name_of t.token ≡ none → scan false (t ∷ ts) ≡ scan (is_sign less_than t.token) ts
  predicate : (n : Name) (place past : ℕ) (ts : List Placed) → is_predicate n ≡ true
      → scan true (standing (function_name n) place past ∷ ts) ≡ scan false ts
  declares : (n : Name) (place past : ℕ) (ts : List Placed) → scan false (standing (function_name n) place past ∷ ts) ≡ declare n (scan false ts)
  calls : (n : Name) (place past : ℕ) (ts : List Placed) → scan true (standing (function_name n) place past ∷ ts) ≡ call_it place n (scan false ts)

module _ {R : Type 0} (k : Look R) where
  unfoldable over_expression : Expression → R → R
  over_expression end r = r
  over_expression (then_character c e) r = over_expression e r
  over_expression (then_symbol x e) r = over_expression e r
  over_expression (then_part x e) r = over_expression e r
  over_expression (then_call place n a e) r = k.call_it place n (over_expression a (over_expression e r))

  unfoldable over_sentences : List Sentence → R → R
  over_sentences [] r = r
  over_sentences (s ∷ ss) r = over_expression s.expression (over_sentences ss r)

  unfoldable over_table : Table → R → R
  over_table [] r = r
  over_table (f ∷ fs) r = k.declare f.name (over_sentences f.sentences (over_table fs r))

  abbrev from : List Placed → R
  from ts = k.scan false ts

  letters-scan : {token : Token} {p : List Element} (place past : ℕ) (ts : List Placed) → IsLetters token p
      → from (standing token place past ∷ ts) ≡ from ts
  letters-scan place past ts (string_letters {text = text}) = k.quiet (standing (quoted text) place past) ts refl
  letters-scan place past ts (variable_letter {b = b} {x = x}) = k.quiet (standing (symbol_word b x) place past) ts refl

  template-scan : {ts rest : List Placed} {p : List Element} → IsTemplate ts p rest → from ts ≡ from rest
  template-scan (letters_alone {place = place} {past = past} {rest = rest} l) = letters-scan place past rest l
  template-scan (letters_then {place = place} {past = past} {ts = ts} l d) = letters-scan place past ts l ∙ template-scan d

  optional-scan : {ts rest : List Placed} {p : List Element} → IsTemplateOrNone ts p rest → from ts ≡ from rest
  optional-scan no_template = refl
  optional-scan (some_template d) = template-scan d

  pattern-scan : {ts rest : List Placed} {p : List Element} → IsPattern ts p rest → from ts ≡ from rest
  pattern-scan (no_part d) = optional-scan d
  pattern-scan (one_part d e) = optional-scan d ∙ (k.quiet _ _ refl ∙ optional-scan e)
  pattern-scan (two_parts d e f) = optional-scan d ∙ (k.quiet _ _ refl ∙ (template-scan e ∙ (k.quiet _ _ refl ∙ optional-scan f)))

  subject-scan : {token : Token} {v : Subject} (place past : ℕ) (ts : List Placed) → IsSubject token v
      → from (standing token place past ∷ ts) ≡ from ts
  subject-scan place past ts (symbol_subject {b = b} {x = x}) = k.quiet (standing (symbol_word b x) place past) ts refl
  subject-scan place past ts (part_subject {b = b} {x = x}) = k.quiet (standing (part_word b x) place past) ts refl

  condition-scan : {ts rest : List Placed} {c : Condition} → IsCondition ts c rest → from ts ≡ from rest
  condition-scan (is_condition {n = n} known is) =
      k.quiet _ _ refl
      ∙ (k.predicate n _ _ _ (ap is_some known) ∙ (subject-scan _ _ _ is ∙ (k.quiet _ _ refl ∙ (k.quiet _ _ refl ∙ k.quiet _ _ refl))))

  conditions-scan : {ts rest : List Placed} {cs : List Condition} → IsConditions ts cs rest → from ts ≡ from rest
  conditions-scan no_conditions = refl
  conditions-scan (condition_then c d) = k.quiet _ _ refl ∙ (condition-scan c ∙ conditions-scan d)

  over-written : (text : Bytes) (e : Expression) (r : R) → over_expression (then_characters text e) r ≡ over_expression e r
  unfolding then_characters over_expression
  over-written [] e r = refl
  over-written (c ∷ text) e r = over-written text e r

  expression-scan : {ts rest : List Placed} {e : Expression} → IsExpression ts e rest → from ts ≡ over_expression e (from rest)
  unfolding over_expression
  expression-scan no_items = refl
  expression-scan {rest = rest} (string_then {text = text} {e = e} d) = k.quiet _ _ refl ∙ (expression-scan d ∙ sym (over-written text e (from rest)))
  expression-scan (symbol_then d) = k.quiet _ _ refl ∙ expression-scan d
  expression-scan (part_then d) = k.quiet _ _ refl ∙ expression-scan d
  expression-scan (call_then {at₂ = at₂} {n = n} {a = a} d e) =
      k.quiet _ _ refl
      ∙ (k.calls n _ _ _ ∙ ap (k.call_it at₂ n) (expression-scan d ∙ ap (over_expression a) (k.quiet _ _ refl ∙ expression-scan e)))

  sentence-scan : {ts rest : List Placed} {s : Sentence} → IsSentence ts s rest → from ts ≡ over_expression s.expression (from rest)
  sentence-scan (is_sentence d e f) = pattern-scan d ∙ (conditions-scan e ∙ (k.quiet _ _ refl ∙ expression-scan f))

  sentences-scan : {ts rest : List Placed} {ss : List Sentence} → IsSentences ts ss rest → from ts ≡ over_sentences ss (from rest)
  unfolding over_sentences
  sentences-scan (last_sentence {s = s} d) = sentence-scan d ∙ ap (over_expression s.expression) (k.quiet _ _ refl)
  sentences-scan (last_sentence_parted {s = s} d) = sentence-scan d ∙ ap (over_expression s.expression) (k.quiet _ _ refl ∙ k.quiet _ _ refl)
  sentences-scan (sentence_then {s = s} d e) = sentence-scan d ∙ ap (over_expression s.expression) (k.quiet _ _ refl ∙ sentences-scan e)

  function-scan : {ts rest : List Placed} {f : Function} → IsFunction ts f rest
      → from ts ≡ k.declare f.name (over_sentences f.sentences (from rest))
  function-scan (is_function {n = n} d) = k.declares n _ _ _ ∙ ap (k.declare n) (k.quiet _ _ refl ∙ sentences-scan d)

  program-scan : {ts : List Placed} {t : Table} → IsProgram ts t → from ts ≡ over_table t (from [])
  unfolding over_table
  program-scan no_functions = k.quiet _ _ refl
  program-scan (function_then {f = f} d e) = function-scan d ∙ ap (λ z. k.declare f.name (over_sentences f.sentences z)) (program-scan e)
  program-scan (function_parted_then {f = f} d e) =
      function-scan d ∙ ap (λ z. k.declare f.name (over_sentences f.sentences z)) (k.quiet _ _ refl ∙ program-scan e)

-- DECLARED NAMES

declared_look : Look (List Name)
unfolding names_from
declared_look =
    record {
      scan = names_from not;
      declare = λ n names. n ∷ names;
      call_it = λ place n names. names;
      quiet = λ t ts e. rw e;
      predicate = λ n place past ts e. refl;
      declares = λ n place past ts. refl;
      calls = λ n place past ts. refl;
    }

declared-expression : (e : Expression) (r : List Name) → over_expression declared_look e r ≡ r
unfolding over_expression declared_look
declared-expression end r = refl
declared-expression (then_character c e) r = declared-expression e r
declared-expression (then_symbol x e) r = declared-expression e r
declared-expression (then_part x e) r = declared-expression e r
declared-expression (then_call place n a e) r = declared-expression a _ ∙ declared-expression e r

declared-sentences : (ss : List Sentence) (r : List Name) → over_sentences declared_look ss r ≡ r
unfolding over_sentences
declared-sentences [] r = refl
declared-sentences (s ∷ ss) r = declared-expression s.expression _ ∙ declared-sentences ss r

declared-table : (t : Table) → over_table declared_look t [] ≡ names_of t
unfolding over_table declared_look
declared-table [] = refl
declared-table (f ∷ t) = ap (λ z. f.name ∷ z) (declared-sentences f.sentences _ ∙ declared-table t)

declared-names : {ts : List Placed} {t : Table} → IsProgram ts t → declared_names ts ≡ names_of t
unfolding declared_look names_from
declared-names {t = t} d = program-scan declared_look d ∙ declared-table t

-- CALLED NAMES

number-member : (count : ℕ) (t : Table) (n : Name) → ltb 0 (number_from count t n) ≡ member n (names_of t)
unfolding number_from member
number-member count [] n = refl
number-member count (f ∷ t) n = by-same (same_bytes n f.name) (number-member (suc count) t n)
  where
    by-same : (q : Bool) → ltb 0 (number_from (suc count) t n) ≡ member n (names_of t)
        → ltb 0 (pick q (suc count) (number_from (suc count) t n)) ≡ either q (member n (names_of t))
    by-same true e = lt-ltb 0 (suc count) (omega arith)
    by-same false e = e

else-assoc : (o p q : Option ℕ) → or_else o (or_else p q) ≡ or_else (or_else o p) q
else-assoc (some a) p q = refl
else-assoc none p q = refl

sentence-spelled : (s : Sentence) → allowed_sentence s ≡ true → spelled_items (symbols_of s.pattern) s.expression ≡ true
sentence-spelled s e =
    both_left (spelled_items (symbols_of s.pattern) s.expression) _
    (both_right (allowed_conditions (symbols_of s.pattern) (parts_of s.pattern) s.conditions) _ (both_right (allowed_pattern s.pattern) _ e))

function-sentences : (f : Function) → allowed_function f ≡ true → every allowed_sentence f.sentences ≡ true
function-sentences f e = both_right (some_sentence f.sentences) _ (both_right (both (spelled_name f.name) (not (is_reserved f.name))) _ e)

module _ (known : List Name) where
  unknown_look : Look (Option ℕ)
  unfolding unknown_from
  unknown_look =
      record {
        scan = unknown_from known;
        declare = λ n r. r;
        call_it = λ place n r. pick (is_unknown known n) (some place) r;
        quiet = λ t ts e. refl;
        predicate = λ n place past ts e. rw e;
        declares = λ n place past ts. refl;
        calls = λ n place past ts. refl;
      }

  module _ (t : Table) (same : known ≡ names_of t) where
    call_step : (n : Name) (place : ℕ) (o p r : Option ℕ) → not (is_predicate n) ≡ true
        → pick (is_unknown known n) (some place) (or_else o (or_else p r))
        ≡ or_else (pick (is_known t n) (or_else o p) (some place)) r
    call_step n place o p r e =
        rw (not-true (is_predicate n) e, same, number-member 0 t n) (by-test (either (is_built_in n) (member n (names_of t))))
      where
        by-test : (q : Bool) → pick (not q) (some place) (or_else o (or_else p r)) ≡ or_else (pick q (or_else o p) (some place)) r
        by-test true = else-assoc o p r
        by-test false = refl

    unknown-expression : (symbols : List Name) (e : Expression) (r : Option ℕ) → spelled_items symbols e ≡ true
        → over_expression unknown_look e r ≡ or_else (unknown_call t e) r
    unfolding over_expression unknown_look unknown_call spelled_items
    unknown-expression symbols end r s = refl
    unknown-expression symbols (then_character c e) r s = unknown-expression symbols e r (both_right (is_byte c) _ s)
    unknown-expression symbols (then_symbol x e) r s = unknown-expression symbols e r (both_right (member x symbols) _ s)
    unknown-expression symbols (then_part x e) r s = unknown-expression symbols e r s
    unknown-expression symbols (then_call place n a e) r s =
        let names = both_left (both (spelled_name n) (not (is_predicate n))) _ s in
        let rest = both_right (both (spelled_name n) (not (is_predicate n))) _ s in
        ap (pick (is_unknown known n) (some place))
        (unknown-expression symbols a _ (both_left (spelled_items symbols a) _ rest)
        ∙ ap (or_else (unknown_call t a)) (unknown-expression symbols e r (both_right (spelled_items symbols a) _ rest)))
        ∙ call_step n place (unknown_call t a) (unknown_call t e) r (both_right (spelled_name n) _ names)

    unknown-sentences : (ss : List Sentence) (r : Option ℕ) → every allowed_sentence ss ≡ true
        → over_sentences unknown_look ss r ≡ or_else (unknown_in_sentences t ss) r
    unfolding over_sentences unknown_in_sentences every
    unknown-sentences [] r s = refl
    unknown-sentences (x ∷ ss) r s =
        unknown-expression (symbols_of x.pattern) x.expression _ (sentence-spelled x (both_left (allowed_sentence x) _ s))
        ∙ (ap (or_else (unknown_call t x.expression)) (unknown-sentences ss r (both_right (allowed_sentence x) _ s))
        ∙ else-assoc (unknown_call t x.expression) (unknown_in_sentences t ss) r)

    unknown-table : (fs : Table) → every allowed_function fs ≡ true → over_table unknown_look fs none ≡ unknown_in t fs
    unfolding over_table unknown_look unknown_in every
    unknown-table [] s = refl
    unknown-table (f ∷ fs) s =
        unknown-sentences f.sentences _ (function-sentences f (both_left (allowed_function f) _ s))
        ∙ ap (or_else (unknown_in_sentences t f.sentences)) (unknown-table fs (both_right (allowed_function f) _ s))

-- the first unknown call of a tree is the first of the tokens that derive it
pub unknown-program : (ts : List Placed) (t : Table) → IsProgram ts t → every allowed_function t ≡ true → undeclared ts ≡ unknown_in t t
unfolding unknown_look unknown_from
unknown-program ts t d a = program-scan (unknown_look (declared_names ts)) d ∙ unknown-table (declared_names ts) t (declared-names d) t a
