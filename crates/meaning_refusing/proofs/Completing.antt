-- Tokens that have not failed go on to a program: what may follow at each stage, by the grammar, and one token put before it.
use Prim.Native.Nat.{ℕ, zero, suc, ◌+◌}
use mathlib.Core.Path.{◌≡◌, refl, sym, subst}
use mathlib.Core.Bool.{Bool, true, false}
use mathlib.Core.List.{List, [], ◌∷◌, ◌++◌}
use mathlib.Core.Option.{Option, none, some}
use native.Mathlib.Omega.{arith}
use borrow.Author.Tests.{eqb-true, ltb-true}
use lib.Dec.{ltb, eqb}
use Rattle.meaning.specs.Choice.{Bytes, Name, pick, is_some, same_bytes}
use Rattle.meaning.specs.Classes.{Class, digit, class_name}
use Rattle.meaning.specs.Tree.{Element, Subject, Condition, Expression, Sentence, Table}
use Rattle.meaning.specs.Names.{predicate_of, class_named}
use Rattle.meaning.specs.Tokens.{left_brace, right_brace, semicolon, comma, colon, equals, less_than, greater_than, Token, function_name, quoted}
use Rattle.meaning.specs.Tokens.{sign}
use Rattle.meaning.specs.Tokens.{text_end, Placed}
use Rattle.meaning.specs.Grammar.{standing, part_word, truth_string, IsLetters, string_letters, variable_letter, IsTemplate, letters_alone}
use Rattle.meaning.specs.Grammar.{letters_then}
use Rattle.meaning.specs.Grammar.{IsTemplateOrNone, no_template, some_template, IsPattern, no_part, one_part, two_parts, IsSubject, symbol_subject}
use Rattle.meaning.specs.Grammar.{part_subject, is_condition, IsConditions, no_conditions, condition_then, IsExpression, no_items, string_then}
use Rattle.meaning.specs.Grammar.{symbol_then}
use Rattle.meaning.specs.Grammar.{part_then, call_then, is_sentence, IsSentences, last_sentence, last_sentence_parted, sentence_then, is_function}
use Rattle.meaning.specs.Grammar.{IsProgram}
use Rattle.meaning.specs.Grammar.{no_functions, function_then, function_parted_then}
use Rattle.meaning.specs.Reading.{is_sign, is_text_end, name_of, item_of, truth_of}
use Rattle.meaning_accepting.proofs.Reading.Basics.{sign_of, name-of, standing-as, TokenView, a_string, a_symbol, a_part, another, view}
use Rattle.meaning_accepting.proofs.Reading.Conditions.{truth-of}
use Rattle.meaning_refusing.specs.Faults.{Like, nothing, same, other_name, empty_string, Viable}
use Rattle.meaning_refusing.proofs.Stages.{end_of, Stage, start, after_function, named, opened, after_semicolon, in_pattern, after_condition}
use Rattle.meaning_refusing.proofs.Stages.{at_bracket, at_predicate, at_variable, at_close, at_colon, at_truth, in_expression, at_called, finished}
use Rattle.meaning_refusing.proofs.Stages.{failed, outside_step, condition_step, pattern_step, subject_step, end_step, step, run}

-- WHAT MAY FOLLOW

data AfterFunction : List Placed → Type 0 where
  others : {us : List Placed} {t : Table} → IsProgram us t → AfterFunction us
  spare : {us : List Placed} {t : Table} {place past : ℕ} → IsProgram us t → AfterFunction (standing (sign semicolon) place past ∷ us)

data InFunction : List Placed → Type 0 where
  sentences_then : {us rest : List Placed} {ss : List Sentence} → IsSentences us ss rest → AfterFunction rest → InFunction us

data AfterName : List Placed → Type 0 where
  brace : {us : List Placed} {place past : ℕ} → InFunction us → AfterName (standing (sign left_brace) place past ∷ us)

data AfterSemicolon : List Placed → Type 0 where
  further : {us : List Placed} → InFunction us → AfterSemicolon us
  closing : {us : List Placed} {place past : ℕ} → AfterFunction us → AfterSemicolon (standing (sign right_brace) place past ∷ us)

data InExpression : ℕ → List Placed → Type 0 where
  last_then : {us rest : List Placed} {e : Expression} {place past : ℕ}
      → IsExpression us e (standing (sign right_brace) place past ∷ rest) → AfterFunction rest → InExpression 0 us
  parted_then : {us rest : List Placed} {e : Expression} {place past : ℕ}
      → IsExpression us e (standing (sign semicolon) place past ∷ rest) → AfterSemicolon rest → InExpression 0 us
  argument_then : {depth : ℕ} {us rest : List Placed} {e : Expression} {place past : ℕ}
      → IsExpression us e (standing (sign greater_than) place past ∷ rest) → InExpression depth rest → InExpression (suc depth) us

data AtCalled : ℕ → List Placed → Type 0 where
  called : {depth : ℕ} {us : List Placed} {n : Name} {place past : ℕ} → InExpression (suc depth) us
      → AtCalled depth (standing (function_name n) place past ∷ us)

data InConditions : List Placed → Type 0 where
  conditions_then : {us rest : List Placed} {cs : List Condition} {place past : ℕ}
      → IsConditions us cs (standing (sign equals) place past ∷ rest) → InExpression 0 rest → InConditions us

data AtTruth : List Placed → Type 0 where
  truth_then : (truth : Bool) {us : List Placed} {place : ℕ} → InConditions us → AtTruth (truth_string truth place ∷ us)

data AtColon : List Placed → Type 0 where
  colon_then : {us : List Placed} {place past : ℕ} → AtTruth us → AtColon (standing (sign colon) place past ∷ us)

data AtClose : List Placed → Type 0 where
  close_then : {us : List Placed} {place past : ℕ} → AtColon us → AtClose (standing (sign greater_than) place past ∷ us)

data AtVariable : List Placed → Type 0 where
  variable_then : {us : List Placed} {t : Token} {v : Subject} {place past : ℕ} → IsSubject t v → AtClose us → AtVariable (standing t place past ∷ us)

data AtPredicate : List Placed → Type 0 where
  predicate_then : {us : List Placed} {n : Name} {class : Class} {place past : ℕ}
      → predicate_of n ≡ some class → AtVariable us → AtPredicate (standing (function_name n) place past ∷ us)

data AtBracket : List Placed → Type 0 where
  bracket_then : {us : List Placed} {place past : ℕ} → AtPredicate us → AtBracket (standing (sign less_than) place past ∷ us)

data InPattern : ℕ → List Placed → Type 0 where
  whole_then : {us rest : List Placed} {p : List Element} → IsPattern us p rest → InConditions rest → InPattern 0 us
  part_there : {us ts rest : List Placed} {p q : List Element} {b place past : ℕ} {x : Bytes}
      → IsTemplate us p (standing (part_word b x) place past ∷ ts) → IsTemplateOrNone ts q rest → InConditions rest → InPattern 1 us
  no_more_parts : {n : ℕ} {us rest : List Placed} {p : List Element} → IsTemplateOrNone us p rest → InConditions rest → InPattern (suc n) us

Follows : Stage → List Placed → Type 0
Follows start us = (t : Table) × IsProgram us t
Follows after_function us = AfterFunction us
Follows named us = AfterName us
Follows opened us = InFunction us
Follows after_semicolon us = AfterSemicolon us
Follows (in_pattern n) us = InPattern n us
Follows after_condition us = InConditions us
Follows at_bracket us = AtBracket us
Follows at_predicate us = AtPredicate us
Follows at_variable us = AtVariable us
Follows at_close us = AtClose us
Follows at_colon us = AtColon us
Follows at_truth us = AtTruth us
Follows (in_expression depth) us = InExpression depth us
Follows (at_called depth) us = AtCalled depth us
Follows finished us = us ≡ []
Follows failed us = ⊥

-- ONE TOKEN BEFORE

program-before : {us : List Placed} (n : Name) (place past : ℕ) → AfterName us →
    (t : Table) × IsProgram (standing (function_name n) place past ∷ us) t
program-before n place past (brace (sentences_then d (others e))) = (_, function_then (is_function d) e)
program-before n place past (brace (sentences_then d (spare e))) = (_, function_parted_then (is_function d) e)

-- a sentence from what its parts are
sentence-before : {us rest rest₁ : List Placed} {p : List Element} {cs : List Condition} {place past : ℕ}
    → IsPattern us p rest → IsConditions rest cs (standing (sign equals) place past ∷ rest₁) → InExpression 0 rest₁ → InFunction us
sentence-before d c (last_then e a) = sentences_then (last_sentence (is_sentence d c e)) a
sentence-before d c (parted_then e (further (sentences_then ds a))) = sentences_then (sentence_then (is_sentence d c e) ds) a
sentence-before d c (parted_then e (closing a)) = sentences_then (last_sentence_parted (is_sentence d c e)) a

pattern-before : {us : List Placed} → InPattern 0 us → InFunction us
pattern-before (whole_then d (conditions_then c e)) = sentence-before d c e

-- letters before a pattern
letters-optional : {token : Token} {p q : List Element} {us rest : List Placed} (place past : ℕ) → IsLetters token p → IsTemplateOrNone us q rest
    → (r : List Element) × IsTemplateOrNone (standing token place past ∷ us) r rest
letters-optional place past l no_template = (_, some_template (letters_alone l))
letters-optional place past l (some_template d) = (_, some_template (letters_then l d))

letters-whole : {token : Token} {p q : List Element} {us rest : List Placed} (place past : ℕ) → IsLetters token p → IsPattern us q rest
    → (r : List Element) × IsPattern (standing token place past ∷ us) r rest
letters-whole place past l (no_part d) = (_, no_part (letters-optional place past l d).1)
letters-whole place past l (one_part d e) = (_, one_part (letters-optional place past l d).1 e)
letters-whole place past l (two_parts d e f) = (_, two_parts (letters-optional place past l d).1 e f)

letters-before : (n : ℕ) {token : Token} {p : List Element} {us : List Placed} (place past : ℕ) → IsLetters token p → InPattern n us
    → InPattern n (standing token place past ∷ us)
letters-before zero place past l (whole_then d c) = whole_then (letters-whole place past l d).1 c
letters-before (suc n) place past l (part_there d e c) = part_there (letters_then l d) e c
letters-before (suc n) place past l (no_more_parts d c) = no_more_parts (letters-optional place past l d).1 c

-- tokens that go on, with what stands for them in the grammar
record Goes (X : List Placed → Type 0) (ts : List Placed) : Type 0 where
  like : List Placed
  alike : Like ts like
  follows : X like

goes : {X : List Placed → Type 0} (t : Placed) {ts us : List Placed} → Like ts us → X (t ∷ us) → Goes X (t ∷ ts)
goes t {us = us} l x = record { like = t ∷ us; alike = same l; follows = x }

-- an e-variable before a pattern; an empty string is put behind it where another comes
part-before : (n : ℕ) (b : ℕ) (x : Bytes) (place past : ℕ) {ts us : List Placed} → ltb n 2 ≡ true → Like ts us → InPattern (suc n) us
    → Goes (InPattern n) (standing (part_word b x) place past ∷ ts)
part-before zero b x place past e l (part_there d f c) = goes _ l (whole_then (two_parts no_template d f) c)
part-before zero b x place past e l (no_more_parts d c) = goes _ l (whole_then (one_part no_template d) c)
part-before (suc zero) b x place past e l (no_more_parts d c) =
    record {
      like = standing (quoted []) 0 0 ∷ standing (part_word b x) place past ∷ _;
      alike = empty_string (same l);
      follows = part_there (letters_alone string_letters) d c;
    }
part-before (suc (suc n)) b x place past e l d = absurd (omega (arith, ltb-true (suc (suc n)) 2 e))

-- a condition from its parts
condition-before : {us : List Placed} (place past : ℕ) → AtBracket us → InConditions (standing (sign comma) place past ∷ us)
condition-before place past (bracket_then (predicate_then k (variable_then is (close_then (colon_then (truth_then truth (conditions_then c e))))))) =
    conditions_then (condition_then (is_condition {truth = truth} k is) c) e

-- items before an expression
item-before : (depth : ℕ) {token : Token} {us : List Placed} (place past : ℕ)
    → ((e : Expression) (rest : List Placed) → IsExpression us e rest → (f : Expression) × IsExpression (standing token place past ∷ us) f rest)
    → InExpression depth us → InExpression depth (standing token place past ∷ us)
item-before zero place past add (last_then e a) = last_then (add _ _ e).1 a
item-before zero place past add (parted_then e a) = parted_then (add _ _ e).1 a
item-before (suc depth) place past add (argument_then e a) = argument_then (add _ _ e).1 a

call-before : (depth : ℕ) {us : List Placed} (place past : ℕ) → AtCalled depth us → InExpression depth (standing (sign less_than) place past ∷ us)
call-before zero place past (called (argument_then e (last_then f a))) = last_then (call_then e f) a
call-before zero place past (called (argument_then e (parted_then f a))) = parted_then (call_then e f) a
call-before (suc depth) place past (called (argument_then e (argument_then f a))) = argument_then (call_then e f) a

-- A TOKEN BY ITS TEST

sign-before : (X : List Placed → Type 0) (c : ℕ) (t : Placed) (s other : Stage) {us : List Placed} (b : Bool) → is_sign c t.token ≡ b
    → Follows (pick b s other) us
    → (Follows s us → X (standing (sign c) t.place t.past ∷ us)) → (Follows other us → X (t ∷ us)) → X (t ∷ us)
sign-before X c t s other {us} true p f yes₁ no₁ = subst (λ z. X (z ∷ us)) (sym (standing-as t (sign_of c t.token p))) (yes₁ f)
sign-before X c t s other false p f yes₁ no₁ = no₁ f

-- what follows after a name
name-before : (X : List Placed → Type 0) (t : Placed) (s other : Stage) {ts us : List Placed} (o : Option Name) → name_of t.token ≡ o → Like ts us
    → Follows (pick (is_some o) s other) us
    → ((n : Name) → Follows s us → Goes X (standing (function_name n) t.place t.past ∷ ts)) → (Follows other us → Goes X (t ∷ ts))
    → Goes X (t ∷ ts)
name-before X t s other {ts} (some n) p l f yes₁ no₁ = subst (λ z. Goes X (z ∷ ts)) (sym (standing-as t (name-of t.token p))) (yes₁ n f)
name-before X t s other none p l f yes₁ no₁ = no₁ f

end_before : (t : Placed) {us : List Placed} (b : Bool) → is_text_end t.token ≡ b → Follows (pick b finished failed) us
    → (x : Table) × IsProgram (t ∷ us) x
unfolding Follows
end_before t true p f = ([], rw (standing-as t (end_of t.token p), f) no_functions)
end_before t false p f = absurd f

outside-before : (t : Placed) {ts us : List Placed} → Like ts us → Follows (outside_step t.token) us
    → Goes (λ us. (x : Table) × IsProgram us x) (t ∷ ts)
unfolding Follows
outside-before t l f =
    name-before (λ us. (x : Table) × IsProgram us x) t named (pick (is_text_end t.token) finished failed) (name_of t.token) refl l f
    (λ n a. goes _ l (program-before n t.place t.past a))
    (λ o. goes t l (end_before t (is_text_end t.token) refl o))

conditions-before : (t : Placed) {us : List Placed} → Follows (condition_step t.token) us → InConditions (t ∷ us)
unfolding Follows
conditions-before t f =
    sign-before InConditions comma t at_bracket _ (is_sign comma t.token) refl f (condition-before t.place t.past)
    (λ g.
    sign-before InConditions equals t (in_expression 0) failed (is_sign equals t.token) refl g (λ e. conditions_then no_conditions e) (λ o. absurd o))

no_items_lem : (n : ℕ) {us : List Placed} → InConditions us → InPattern n us
no_items_lem zero c = whole_then (no_part no_template) c
no_items_lem (suc n) c = no_more_parts no_template c

pattern-step : (n : ℕ) {token : Token} (place past : ℕ) → TokenView token → {ts us : List Placed} → Like ts us → Follows (pattern_step n token) us
    → Goes (InPattern n) (standing token place past ∷ ts)
unfolding Follows
pattern-step n place past (a_string text) l f = goes _ l (letters-before n place past string_letters f)
pattern-step n place past (a_symbol b x) l f = goes _ l (letters-before n place past variable_letter f)
pattern-step n place past (a_part b x) {ts} {us} l f = go (ltb n 2) refl f
  where
    go : (c : Bool) → ltb n 2 ≡ c → Follows (pick c (in_pattern (suc n)) failed) us → Goes (InPattern n) (standing (part_word b x) place past ∷ ts)
    go true p f = part-before n b x place past p l f
    go false p f = absurd f
pattern-step n place past (another token i) l f = goes _ l (no_items_lem n (conditions-before (standing token place past) (rw i at f)))

subject-step : {token : Token} (place past : ℕ) → TokenView token → {us : List Placed} → Follows (subject_step (item_of token)) us
    → AtVariable (standing token place past ∷ us)
unfolding Follows
subject-step place past (a_string text) f = absurd f
subject-step place past (a_symbol b x) f = variable_then symbol_subject f
subject-step place past (a_part b x) f = variable_then part_subject f
subject-step place past (another token i) f = absurd (rw i at f)

truth-step : (t : Placed) {us : List Placed} (o : Option Bool) → truth_of t.token (eqb t.past (t.place + 3)) ≡ o
    → Follows (pick (is_some o) after_condition failed) us → AtTruth (t ∷ us)
unfolding Follows
truth-step t none p f = absurd f
truth-step t {us} (some truth) p f =
    let (three, token) = truth-of t.token (eqb t.past (t.place + 3)) p in
    let past : t.past ≡ t.place + 3 = eqb-true t.past (t.place + 3) three in
    subst (λ z. AtTruth (z ∷ us)) (λ i. record { token = sym token i; place = t.place; past = sym past i }) (truth_then truth f)

ends : (depth : ℕ) (t : Placed) {us : List Placed} → Follows (end_step depth t.token) us → InExpression depth (t ∷ us)
unfolding Follows
ends zero t f =
    sign-before (InExpression 0) semicolon t after_semicolon _ (is_sign semicolon t.token) refl f (λ a. parted_then no_items a)
    (λ g.
    sign-before (InExpression 0) right_brace t after_function failed (is_sign right_brace t.token) refl g (λ a. last_then no_items a) (λ o. absurd o))
ends (suc depth) t f =
    sign-before (InExpression (suc depth)) greater_than t (in_expression depth) failed (is_sign greater_than t.token) refl f
    (λ a. argument_then no_items a) (λ o. absurd o)

expression-step : (depth : ℕ) {token : Token} (place past : ℕ) → TokenView token → {us : List Placed}
    → Follows (step (in_expression depth) (standing token place past)) us → InExpression depth (standing token place past ∷ us)
unfolding Follows
expression-step depth place past (a_string text) f = item-before depth place past (λ e rest d. (_, string_then d)) f
expression-step depth place past (a_symbol b x) f = item-before depth place past (λ e rest d. (_, symbol_then d)) f
expression-step depth place past (a_part b x) f = item-before depth place past (λ e rest d. (_, part_then d)) f
expression-step depth place past (another token i) f =
    let t = standing token place past in
    sign-before (InExpression depth) less_than t (at_called depth) (end_step depth token) (is_sign less_than token) refl (rw i at f)
    (call-before depth place past) (ends depth t)

after-before : (t : Placed) {ts us : List Placed} → Like ts us → (b : Bool) → is_sign semicolon t.token ≡ b
    → Follows (pick b start (outside_step t.token)) us → Goes AfterFunction (t ∷ ts)
unfolding Follows
after-before t {ts} {us} l true p f =
    goes t l (subst (λ z. AfterFunction (z ∷ us)) (sym (standing-as t (sign_of semicolon t.token p))) (spare f.1))
after-before t l false p f =
    let g = outside-before t l f in
    record { like = g.like; alike = g.alike; follows = others g.follows.1 }

semicolon-before : (t : Placed) {ts us : List Placed} → Like ts us → (b : Bool) → is_sign right_brace t.token ≡ b
    → Follows (pick b after_function (pattern_step 0 t.token)) us → Goes AfterSemicolon (t ∷ ts)
unfolding Follows
semicolon-before t {ts} {us} l true p f =
    goes t l (subst (λ z. AfterSemicolon (z ∷ us)) (sym (standing-as t (sign_of right_brace t.token p))) (closing f))
semicolon-before t l false p f =
    let g = pattern-step 0 t.place t.past (view t.token) l f in
    record { like = g.like; alike = g.alike; follows = further (pattern-before g.follows) }

-- a predicate's name stands for any
predicate-before : (n : Name) (place past : ℕ) {ts us : List Placed} → Like ts us → AtVariable us
    → Goes AtPredicate (standing (function_name n) place past ∷ ts)
unfolding class_named same_bytes
predicate-before n place past {us = us} l a =
    record {
      like = standing (function_name (class_name digit)) place past ∷ us;
      alike = other_name l;
      follows = predicate_then {class = digit} refl a;
    }

-- what follows one token after a stage follows the stage, with the token before it
before : (s : Stage) (t : Placed) {ts us : List Placed} → Like ts us → Follows (step s t) us → Goes (Follows s) (t ∷ ts)
unfolding Follows
before start t l f = outside-before t l f
before after_function t l f = after-before t l (is_sign semicolon t.token) refl f
before named t l f = goes t l (sign-before AfterName left_brace t opened failed (is_sign left_brace t.token) refl f (λ a. brace a) (λ o. absurd o))
before opened t l f =
    let g = pattern-step 0 t.place t.past (view t.token) l f in
    record { like = g.like; alike = g.alike; follows = pattern-before g.follows }
before after_semicolon t l f = semicolon-before t l (is_sign right_brace t.token) refl f
before (in_pattern n) t l f = pattern-step n t.place t.past (view t.token) l f
before after_condition t l f = goes t l (conditions-before t f)
before at_bracket t l f =
    goes t l (sign-before AtBracket less_than t at_predicate failed (is_sign less_than t.token) refl f (λ a. bracket_then a) (λ o. absurd o))
before at_predicate t l f =
    name-before AtPredicate t at_variable failed (name_of t.token) refl l f (λ n a. predicate-before n t.place t.past l a) (λ o. absurd o)
before at_variable t l f = goes t l (subject-step t.place t.past (view t.token) f)
before at_close t l f =
    goes t l (sign-before AtClose greater_than t at_colon failed (is_sign greater_than t.token) refl f (λ a. close_then a) (λ o. absurd o))
before at_colon t l f = goes t l (sign-before AtColon colon t at_truth failed (is_sign colon t.token) refl f (λ a. colon_then a) (λ o. absurd o))
before at_truth t l f = goes t l (truth-step t (truth_of t.token (eqb t.past (t.place + 3))) refl f)
before (in_expression depth) t l f = goes t l (expression-step depth t.place t.past (view t.token) f)
before (at_called depth) t l f =
    name-before (AtCalled depth) t (in_expression (suc depth)) failed (name_of t.token) refl l f (λ n a. goes _ l (called a)) (λ o. absurd o)
before finished t l f = absurd f
before failed t l f = absurd f

-- SOMETHING FOLLOWS

like-itself : (ts : List Placed) → Like ts ts
like-itself [] = nothing
like-itself (t ∷ ts) = same (like-itself ts)

-- a mark of some length
abbrev mark : Token → Placed
mark token = standing token 0 0

after-function : AfterFunction (mark text_end ∷ [])
after-function = others no_functions

in-expression : (depth : ℕ) → (us : List Placed) × InExpression depth us
in-expression zero = (_, last_then {place = 0} {past = 0} no_items after-function)
in-expression (suc depth) = (_, argument_then {place = 0} {past = 0} no_items (in-expression depth).1)

in-conditions : (us : List Placed) × InConditions us
in-conditions = (_, conditions_then {place = 0} {past = 0} no_conditions (in-expression 0).1)

in-pattern : (n : ℕ) → (us : List Placed) × InPattern n us
in-pattern n = (_, no_items_lem n in-conditions.1)

at-truth : (us : List Placed) × AtTruth us
at-truth = (_, truth_then true {place = 0} in-conditions.1)

at-colon : (us : List Placed) × AtColon us
at-colon = (_, colon_then {place = 0} {past = 0} at-truth.1)

at-close : (us : List Placed) × AtClose us
at-close = (_, close_then {place = 0} {past = 0} at-colon.1)

at-variable : (us : List Placed) × AtVariable us
at-variable = (_, variable_then {place = 0} {past = 0} (symbol_subject {b = 49} {x = []}) at-close.1)

at-predicate : (us : List Placed) × AtPredicate us
unfolding class_named same_bytes
at-predicate = (_, predicate_then {n = class_name digit} {class = digit} {place = 0} {past = 0} refl at-variable.1)

something : (s : Stage) → (s ≡ failed → ⊥) → (us : List Placed) × Follows s us
unfolding Follows
something start h = (_, ([], no_functions {place = 0} {past = 0}))
something after_function h = (_, after-function)
something named h = (_, brace {place = 0} {past = 0} (pattern-before (in-pattern 0).1))
something opened h = (_, pattern-before (in-pattern 0).1)
something after_semicolon h = (_, further (pattern-before (in-pattern 0).1))
something (in_pattern n) h = in-pattern n
something after_condition h = in-conditions
something at_bracket h = (_, bracket_then {place = 0} {past = 0} at-predicate.1)
something at_predicate h = at-predicate
something at_variable h = at-variable
something at_close h = at-close
something at_colon h = at-colon
something at_truth h = at-truth
something (in_expression depth) h = in-expression depth
something (at_called depth) h = (_, called {n = []} {place = 0} {past = 0} (in-expression (suc depth)).1)
something finished h = ([], refl)
something failed h = absurd (h refl)

completes : (s : Stage) (ts more : List Placed) → Follows (run s ts) more → Goes (Follows s) (ts ++ more)
unfolding run
completes s [] more f = record { like = more; alike = like-itself more; follows = f }
completes s (t ∷ ts) more f =
    let g = completes (step s t) ts more f in
    before s t g.alike g.follows

-- tokens that have not failed go on to a program
pub runs-viable : (ts : List Placed) → (run start ts ≡ failed → ⊥) → Viable ts
unfolding Follows
runs-viable ts h =
    let (more, f) = something (run start ts) h in
    let g = completes start ts more f in
    record { more = more; like = g.like; alike = g.alike; tree = g.follows.0; derived = g.follows.1 }
