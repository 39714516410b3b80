-- How far tokens are in the grammar, as stages that one token leads from to the next: a device of the proofs. The grammar's programs lead to the end.
use Prim.Native.Nat.{ℕ, zero, suc, ◌+◌}
use mathlib.Core.Path.{◌≡◌, refl, sym, ap, ◌∙◌}
use mathlib.Core.Bool.{Bool, true, false}
use mathlib.Core.List.{List, [], ◌∷◌, ◌++◌}
use native.Mathlib.Omega.{arith}
use borrow.Author.Tests.{eq-eqb, eqb-true}
use lib.Dec.{ltb, eqb}
use Rattle.meaning.specs.Choice.{Name, pick, is_some, either, same_bytes}
use Rattle.meaning.specs.Tree.{Element, Subject, Condition, Expression, Sentence, Function, Table}
use Rattle.meaning.specs.Tokens.{left_brace, right_brace, semicolon, comma, colon, equals, less_than, greater_than, Token, function_name, word}
use Rattle.meaning.specs.Tokens.{quoted}
use Rattle.meaning.specs.Tokens.{sign, text_end, malformed, Placed}
use Rattle.meaning.specs.Grammar.{standing, IsLetters, string_letters, variable_letter, IsTemplate, letters_alone, letters_then, IsTemplateOrNone}
use Rattle.meaning.specs.Grammar.{no_template, some_template, IsPattern, no_part, one_part, two_parts, IsSubject, symbol_subject, part_subject}
use Rattle.meaning.specs.Grammar.{IsCondition}
use Rattle.meaning.specs.Grammar.{is_condition, IsConditions, no_conditions, condition_then, IsExpression, no_items, string_then, symbol_then}
use Rattle.meaning.specs.Grammar.{part_then}
use Rattle.meaning.specs.Grammar.{call_then, IsSentence, is_sentence, IsSentences, last_sentence, last_sentence_parted, sentence_then, IsFunction}
use Rattle.meaning.specs.Grammar.{is_function, IsProgram, no_functions, function_then, function_parted_then}
use Rattle.meaning.specs.Reading.{is_sign, is_text_end, name_of, Item, characters, symbol_item, part_item, no_item, item_of, is_item, truth_of}
use Rattle.meaning.specs.Reading.{begins}
use Rattle.meaning_accepting.proofs.Reading.Basics.{impossible, sign_of}
use Rattle.meaning_accepting.proofs.Reading.Sentences.{Begins, sentence-begins}
use Rattle.meaning_refusing.specs.Faults.{Like, nothing, same, other_name, empty_string, Viable}

pub data Stage : Type 0 where
  start after_function named opened after_semicolon : Stage
  in_pattern : ℕ → Stage
  after_condition at_bracket at_predicate at_variable at_close at_colon at_truth : Stage
  in_expression at_called : ℕ → Stage
  finished failed : Stage

abbrev pub outside_step : Token → Stage
outside_step token = pick (is_some (name_of token)) named (pick (is_text_end token) finished failed)

abbrev pub condition_step : Token → Stage
condition_step token = pick (is_sign comma token) at_bracket (pick (is_sign equals token) (in_expression 0) failed)

abbrev pub item_step : ℕ → Item → Stage → Stage
item_step n (characters text) other = in_pattern n
item_step n (symbol_item x) other = in_pattern n
item_step n (part_item x) other = pick (ltb n 2) (in_pattern (suc n)) failed
item_step n no_item other = other

abbrev pub pattern_step : ℕ → Token → Stage
pattern_step n token = item_step n (item_of token) (condition_step token)

abbrev pub subject_step : Item → Stage
subject_step (characters text) = failed
subject_step (symbol_item x) = at_close
subject_step (part_item x) = at_close
subject_step no_item = failed

abbrev pub end_step : ℕ → Token → Stage
end_step zero token = pick (is_sign semicolon token) after_semicolon (pick (is_sign right_brace token) after_function failed)
end_step (suc depth) token = pick (is_sign greater_than token) (in_expression depth) failed

abbrev pub step : Stage → Placed → Stage
step start t = outside_step t.token
step after_function t = pick (is_sign semicolon t.token) start (outside_step t.token)
step named t = pick (is_sign left_brace t.token) opened failed
step opened t = pattern_step 0 t.token
step after_semicolon t = pick (is_sign right_brace t.token) after_function (pattern_step 0 t.token)
step (in_pattern n) t = pattern_step n t.token
step after_condition t = condition_step t.token
step at_bracket t = pick (is_sign less_than t.token) at_predicate failed
step at_predicate t = pick (is_some (name_of t.token)) at_variable failed
step at_variable t = subject_step (item_of t.token)
step at_close t = pick (is_sign greater_than t.token) at_colon failed
step at_colon t = pick (is_sign colon t.token) at_truth failed
step at_truth t = pick (is_some (truth_of t.token (eqb t.past (t.place + 3)))) after_condition failed
step (in_expression depth) t =
    pick (is_item (item_of t.token)) (in_expression depth) (pick (is_sign less_than t.token) (at_called depth) (end_step depth t.token))
step (at_called depth) t = pick (is_some (name_of t.token)) (in_expression (suc depth)) failed
step finished t = failed
step failed t = failed

-- the tokens may still go on to a program
abbrev pub going : Stage → Bool
going start = true
going after_function = true
going named = true
going opened = true
going after_semicolon = true
going (in_pattern n) = true
going after_condition = true
going at_bracket = true
going at_predicate = true
going at_variable = true
going at_close = true
going at_colon = true
going at_truth = true
going (in_expression depth) = true
going (at_called depth) = true
going finished = true
going failed = false

pub going-failed : (s : Stage) → going s ≡ false → s ≡ failed
going-failed start e = impossible (sym e)
going-failed after_function e = impossible (sym e)
going-failed named e = impossible (sym e)
going-failed opened e = impossible (sym e)
going-failed after_semicolon e = impossible (sym e)
going-failed (in_pattern n) e = impossible (sym e)
going-failed after_condition e = impossible (sym e)
going-failed at_bracket e = impossible (sym e)
going-failed at_predicate e = impossible (sym e)
going-failed at_variable e = impossible (sym e)
going-failed at_close e = impossible (sym e)
going-failed at_colon e = impossible (sym e)
going-failed at_truth e = impossible (sym e)
going-failed (in_expression n) e = impossible (sym e)
going-failed (at_called n) e = impossible (sym e)
going-failed finished e = impossible (sym e)
going-failed failed e = refl

unfoldable pub run : Stage → List Placed → Stage
run s [] = s
run s (t ∷ ts) = run (step s t) ts

pub run-append : (s : Stage) (a b : List Placed) → run s (a ++ b) ≡ run (run s a) b
unfolding run
run-append s [] b = refl
run-append s (t ∷ a) b = run-append (step s t) a b

pub run-failed : (ts : List Placed) → run failed ts ≡ failed
unfolding run
run-failed [] = refl
run-failed (t ∷ ts) = run-failed ts

pub end_of : (token : Token) → is_text_end token ≡ true → token ≡ text_end
end_of (function_name n) e = impossible e
end_of (word w) e = impossible e
end_of (quoted text) e = impossible e
end_of (sign b) e = impossible e
end_of text_end e = refl
end_of malformed e = impossible e

-- THE GRAMMAR LEADS ON

letters-lead : (n : ℕ) {token : Token} {p : List Element} (place past : ℕ) → IsLetters token p
    → step (in_pattern n) (standing token place past) ≡ in_pattern n
letters-lead n place past string_letters = refl
letters-lead n place past variable_letter = refl

template-leads : (n : ℕ) {ts rest : List Placed} {p : List Element} → IsTemplate ts p rest → run (in_pattern n) ts ≡ run (in_pattern n) rest
unfolding run
template-leads n (letters_alone {place = place} {past = past} l) = rw (letters-lead n place past l)
template-leads n (letters_then {place = place} {past = past} l d) = rw (letters-lead n place past l) (template-leads n d)

optional-leads : (n : ℕ) {ts rest : List Placed} {p : List Element} → IsTemplateOrNone ts p rest → run (in_pattern n) ts ≡ run (in_pattern n) rest
optional-leads n no_template = refl
optional-leads n (some_template d) = template-leads n d

pattern-leads : {ts rest : List Placed} {p : List Element} → IsPattern ts p rest → (n : ℕ) × (run (in_pattern 0) ts ≡ run (in_pattern n) rest)
unfolding run
pattern-leads (no_part d) = (0, optional-leads 0 d)
pattern-leads (one_part d e) = (1, optional-leads 0 d ∙ optional-leads 1 e)
pattern-leads (two_parts d e f) = (2, optional-leads 0 d ∙ (template-leads 1 e ∙ optional-leads 2 f))

subject-leads : {token : Token} {v : Subject} → IsSubject token v → subject_step (item_of token) ≡ at_close
subject-leads symbol_subject = refl
subject-leads part_subject = refl

condition-leads : {ts rest : List Placed} {c : Condition} → IsCondition ts c rest → run at_bracket ts ≡ run after_condition rest
unfolding run same_bytes
condition-leads (is_condition {truth = true} {at₆ = at₆} known is) = rw (subject-leads is, eq-eqb (at₆ + 3) (at₆ + 3) refl)
condition-leads (is_condition {truth = false} {at₆ = at₆} known is) = rw (subject-leads is, eq-eqb (at₆ + 3) (at₆ + 3) refl)

-- after a pattern or after a condition
conditions-lead : (s : Stage) → ((place past : ℕ) → step s (standing (sign comma) place past) ≡ at_bracket)
    → ((place past : ℕ) → step s (standing (sign equals) place past) ≡ in_expression 0)
    → {ts rest : List Placed} {cs : List Condition} {place past : ℕ} → IsConditions ts cs (standing (sign equals) place past ∷ rest)
    → run s ts ≡ run (in_expression 0) rest
unfolding run
conditions-lead s on-comma on-equals {place = place} {past = past} no_conditions = rw (on-equals place past)
conditions-lead s on-comma on-equals (condition_then {place = place} {past = past} c d) =
    rw (on-comma place past) (condition-leads c ∙ conditions-lead after_condition (λ at end. refl) (λ at end. refl) d)

expression-leads : (depth : ℕ) {ts rest : List Placed} {e : Expression} → IsExpression ts e rest
    → run (in_expression depth) ts ≡ run (in_expression depth) rest
unfolding run
expression-leads depth no_items = refl
expression-leads depth (string_then d) = expression-leads depth d
expression-leads depth (symbol_then d) = expression-leads depth d
expression-leads depth (part_then d) = expression-leads depth d
expression-leads depth (call_then d e) = expression-leads (suc depth) d ∙ expression-leads depth e

sentence-leads : {ts rest : List Placed} {s : Sentence} → IsSentence ts s rest → run (in_pattern 0) ts ≡ run (in_expression 0) rest
sentence-leads (is_sentence d e f) =
    let p = pattern-leads d in
    p.1 ∙ (conditions-lead (in_pattern p.0) (λ at end. refl) (λ at end. refl) e ∙ expression-leads 0 f)

no-brace : (token : Token) → begins token ≡ true → is_sign right_brace token ≡ false
no-brace (function_name n) e = refl
no-brace (word w) e = refl
no-brace (quoted text) e = refl
no-brace (sign b) e = go (eqb b comma) refl (eqb b equals) refl e
  where
    go : (x : Bool) → eqb b comma ≡ x → (y : Bool) → eqb b equals ≡ y → either x y ≡ true → eqb b right_brace ≡ false
    go true p y q e = rw (eqb-true b comma p)
    go false p true q e = rw (eqb-true b equals q)
    go false p false q e = impossible e
no-brace text_end e = refl
no-brace malformed e = refl

begun : {ts : List Placed} → Begins ts → (run opened ts ≡ run (in_pattern 0) ts) × (run after_semicolon ts ≡ run (in_pattern 0) ts)
unfolding run
begun {ts} b = rw b.shape (refl, rw (no-brace b.first.token b.beginning))

sentences-lead : {ts rest : List Placed} {ss : List Sentence} → IsSentences ts ss rest
    → (run opened ts ≡ run after_function rest) × (run after_semicolon ts ≡ run after_function rest)
unfolding run
sentences-lead (last_sentence d) = let b = begun (sentence-begins d) in (b.0 ∙ sentence-leads d, b.1 ∙ sentence-leads d)
sentences-lead (last_sentence_parted d) = let b = begun (sentence-begins d) in (b.0 ∙ sentence-leads d, b.1 ∙ sentence-leads d)
sentences-lead (sentence_then d e) =
    let b = begun (sentence-begins d) in
    let later = (sentences-lead e).1 in
    (b.0 ∙ (sentence-leads d ∙ later), b.1 ∙ (sentence-leads d ∙ later))

function-leads : {ts rest : List Placed} {f : Function} → IsFunction ts f rest
    → (run start ts ≡ run after_function rest) × (run after_function ts ≡ run after_function rest)
unfolding run
function-leads (is_function d) = ((sentences-lead d).0, (sentences-lead d).0)

program-leads : {ts : List Placed} {t : Table} → IsProgram ts t → (run start ts ≡ finished) × (run after_function ts ≡ finished)
unfolding run
program-leads no_functions = (refl, refl)
program-leads (function_then d e) = let f = function-leads d in let g = (program-leads e).1 in (f.0 ∙ g, f.1 ∙ g)
program-leads (function_parted_then d e) = let f = function-leads d in let g = (program-leads e).0 in (f.0 ∙ g, f.1 ∙ g)

-- LIKE TOKENS LEAD ALIKE

pub failed-finished : {A : Type 0} → failed ≡ finished → A
failed-finished e = let z : ◌≡◌ {A = ℕ} 0 1 = cc in absurd (omega arith)

name-alike : (s : Stage) (n m : Name) (place past : ℕ) → step s (standing (function_name n) place past) ≡
    step s (standing (function_name m) place past)
name-alike start n m place past = refl
name-alike after_function n m place past = refl
name-alike named n m place past = refl
name-alike opened n m place past = refl
name-alike after_semicolon n m place past = refl
name-alike (in_pattern k) n m place past = refl
name-alike after_condition n m place past = refl
name-alike at_bracket n m place past = refl
name-alike at_predicate n m place past = refl
name-alike at_variable n m place past = refl
name-alike at_close n m place past = refl
name-alike at_colon n m place past = refl
name-alike at_truth n m place past = refl
name-alike (in_expression zero) n m place past = refl
name-alike (in_expression (suc k)) n m place past = refl
name-alike (at_called k) n m place past = refl
name-alike finished n m place past = refl
name-alike failed n m place past = refl

-- the pattern's stage leads to the end only where a sentence's beginning does
from-pattern : (ts : List Placed) → run (in_pattern 0) ts ≡ finished → (run opened ts ≡ finished) × (run after_semicolon ts ≡ finished)
unfolding run
from-pattern [] e = let z : ◌≡◌ {A = ℕ} 0 1 = cc in absurd (omega arith)
from-pattern (t ∷ ts) e = (e, go (is_sign right_brace t.token) refl)
  where
    go : (b : Bool) → is_sign right_brace t.token ≡ b → run (pick b after_function (pattern_step 0 t.token)) ts ≡ finished
    go true p = failed-finished (sym (run-failed ts) ∙ (ap (λ z. run (pattern_step 0 z) ts) (sym (sign_of right_brace t.token p)) ∙ e))
    go false p = e

-- an empty string that a program may have can be left out
without-empty : (s : Stage) (place past : ℕ) (ts : List Placed) → run (step s (standing (quoted []) place past)) ts ≡ finished → run s ts ≡ finished
unfolding same_bytes
without-empty start place past ts e = failed-finished (sym (run-failed ts) ∙ e)
without-empty after_function place past ts e = failed-finished (sym (run-failed ts) ∙ e)
without-empty named place past ts e = failed-finished (sym (run-failed ts) ∙ e)
without-empty opened place past ts e = (from-pattern ts e).0
without-empty after_semicolon place past ts e = (from-pattern ts e).1
without-empty (in_pattern k) place past ts e = e
without-empty after_condition place past ts e = failed-finished (sym (run-failed ts) ∙ e)
without-empty at_bracket place past ts e = failed-finished (sym (run-failed ts) ∙ e)
without-empty at_predicate place past ts e = failed-finished (sym (run-failed ts) ∙ e)
without-empty at_variable place past ts e = failed-finished (sym (run-failed ts) ∙ e)
without-empty at_close place past ts e = failed-finished (sym (run-failed ts) ∙ e)
without-empty at_colon place past ts e = failed-finished (sym (run-failed ts) ∙ e)
without-empty at_truth place past ts e = failed-finished (sym (run-failed ts) ∙ go (eqb past (place + 3)) e)
  where
    go : (b : Bool) → run (pick (is_some (truth_of (quoted []) b)) after_condition failed) ts ≡ finished → run failed ts ≡ finished
    go true e = e
    go false e = e
without-empty (in_expression k) place past ts e = e
without-empty (at_called k) place past ts e = failed-finished (sym (run-failed ts) ∙ e)
without-empty finished place past ts e = failed-finished (sym (run-failed ts) ∙ e)
without-empty failed place past ts e = failed-finished (sym (run-failed ts) ∙ e)

like-leads : (s : Stage) {ts us : List Placed} → Like ts us → run s us ≡ finished → run s ts ≡ finished
unfolding run
like-leads s nothing e = e
like-leads s (same {t = t} l) e = like-leads (step s t) l e
like-leads s (other_name {n = n} {m = m} {place = place} {past = past} l) e =
    like-leads (step s (standing (function_name n) place past)) l (rw (name-alike s n m place past) e)
like-leads s (empty_string {place = place} {past = past} {ts = ts} l) e =
    without-empty s place past ts (like-leads (step s (standing (quoted []) place past)) l e)

-- tokens that go on to a program have not failed
pub viable-runs : (ts : List Placed) → Viable ts → run start ts ≡ failed → ⊥
viable-runs ts v e =
    let whole : run start (ts ++ v.more) ≡ finished = like-leads start v.alike (program-leads v.derived).0 in
    failed-finished
    (sym (run-failed v.more) ∙ (ap (λ z. run z v.more) (sym e) ∙ (sym (run-append start ts v.more) ∙ whole)))
