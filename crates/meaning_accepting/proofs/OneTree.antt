-- The grammar gives one tree: tokens that derive two trees derive the same one, whatever the limits and rules say of it. At each point the first
-- token that is left tells which of the grammar's rules comes next, so two derivations of the same tokens go by the same rules.
use Prim.Native.Nat.{ℕ}
use mathlib.Core.Path.{◌≡◌, refl, sym, ap, ◌∙◌}
use mathlib.Core.Bool.{Bool, true, false}
use mathlib.Core.List.{List, [], ◌∷◌}
use native.Mathlib.Omega.{arith}
use lib.Dec.{eqb}
use Rattle.meaning.specs.Tree.{Element, Subject, Condition, Expression, Sentence, Function, Table}
use Rattle.meaning.specs.Tokens.{Token, function_name, word, quoted, sign, text_end, malformed, Placed}
use Rattle.meaning.specs.Grammar.{standing, truth_byte, IsSubject, symbol_subject, part_subject, IsCondition, is_condition, IsConditions}
use Rattle.meaning.specs.Grammar.{no_conditions}
use Rattle.meaning.specs.Grammar.{condition_then, IsSentence, is_sentence, IsSentences, last_sentence, last_sentence_parted, sentence_then}
use Rattle.meaning.specs.Grammar.{IsFunction}
use Rattle.meaning.specs.Grammar.{is_function, IsProgram, no_functions, function_then, function_parted_then}
use Rattle.meaning.specs.Reading.{item_of, is_item, is_sign, is_text_end}
use Rattle.meaning_accepting.proofs.Reading.Basics.{impossible}
use Rattle.meaning_accepting.proofs.Reading.Patterns.{IsItems, no_more, item_then, pattern-items}
use Rattle.meaning_accepting.proofs.Reading.ExpressionsComplete.{IsItemed, nothing_more, one_item_then, called_then, itemed, Ends, ends_with}

-- what two derivations give is the same, and so are the tokens that they leave
record Same {A : Type 0} (a b : A) (rest left : List Placed) : Type 0 where
  value : a ≡ b
  after : rest ≡ left

-- what the first tokens of the same lists have is the same
record Firsts (t u : Placed) (ts us : List Placed) : Type 0 where
  token : t.token ≡ u.token
  place : t.place ≡ u.place
  tail : ts ≡ us

firsts : {t u : Placed} {ts us : List Placed} → t ∷ ts ≡ u ∷ us → Firsts t u ts us
firsts {t} {u} e =
    let same : t ≡ u = cc in
    record { token = ap (λ z. z.token) same; place = ap (λ z. z.place) same; tail = cc }

-- lists of tokens are not the same where a test tells their first tokens apart
apart : {B : Type 0} (test : Token → Bool) {t u : Placed} {ts us : List Placed} → t ∷ ts ≡ u ∷ us
    → test t.token ≡ false → test u.token ≡ true → B
apart test e fails passes = let clash : false ≡ true = cc in impossible clash

abbrev an_item : Token → Bool
an_item t = is_item (item_of t)

-- PATTERNS

same-items : {ts us rest left : List Placed} {p q : List Element}
    → IsItems ts p rest → IsItems us q left → ts ≡ us → Ends rest → Ends left → Same p q rest left
same-items no_more no_more e h k = record { value = refl; after = e }
same-items no_more (item_then i d) e h k = apart an_item (sym h.shape ∙ e) h.none-item i
same-items (item_then i d) no_more e h k = apart an_item (sym k.shape ∙ sym e) k.none-item i
same-items (item_then {ts = ts} i d) (item_then {ts = us} j f) e h k =
    let tail : ts ≡ us = cc in
    let r = same-items d f tail h k in
    record { value = cc r.value; after = r.after }

-- EXPRESSIONS

same-expressions : {ts us rest left : List Placed} {a b : Expression}
    → IsItemed ts a rest → IsItemed us b left → ts ≡ us → Ends rest → Ends left → Same a b rest left
same-expressions nothing_more nothing_more e h k = record { value = refl; after = e }
same-expressions nothing_more (one_item_then i d) e h k = apart an_item (sym h.shape ∙ e) h.none-item i
same-expressions nothing_more (called_then a d) e h k = apart (is_sign 60) (sym h.shape ∙ e) h.none-call refl
same-expressions (one_item_then i d) nothing_more e h k = apart an_item (sym k.shape ∙ sym e) k.none-item i
same-expressions (one_item_then {ts = ts} i d) (one_item_then {ts = us} j f) e h k =
    let tail : ts ≡ us = cc in
    let r = same-expressions d f tail h k in
    record { value = cc r.value; after = r.after }
same-expressions (one_item_then i d) (called_then b f) e h k = apart an_item (sym e) refl i
same-expressions (called_then a d) nothing_more e h k = apart (is_sign 60) (sym k.shape ∙ sym e) k.none-call refl
same-expressions (called_then a d) (one_item_then j f) e h k = apart an_item e refl j
same-expressions (called_then {ts = ts} {ts₁ = ts₁} {at₃ = at₃} {past₃ = past₃} a d)
    (called_then {ts = us} {ts₁ = us₁} {at₃ = bt₃} {past₃ = qast₃} b f)
    e h k =
    let name = firsts (firsts e).tail in
    let r = same-expressions a b name.tail (ends_with 62 at₃ past₃ ts₁ refl) (ends_with 62 bt₃ qast₃ us₁ refl) in
    let after : ts₁ ≡ us₁ = cc r.after in
    let s = same-expressions d f after h k in
    record { value = cc (r.value, s.value); after = s.after }

-- CONDITIONS

same_truth : (a b : Bool) → truth_byte a ≡ truth_byte b → a ≡ b
same_truth true true e = refl
same_truth true false e = absurd (omega arith)
same_truth false true e = absurd (omega arith)
same_truth false false e = refl

same-subject : {t u : Token} {v w : Subject} → IsSubject t v → IsSubject u w → t ≡ u → v ≡ w
same-subject symbol_subject symbol_subject e = cc
same-subject symbol_subject part_subject e = let clash : ◌≡◌ {A = ℕ} 115 101 = cc in absurd (omega arith)
same-subject part_subject symbol_subject e = let clash : ◌≡◌ {A = ℕ} 101 115 = cc in absurd (omega arith)
same-subject part_subject part_subject e = cc

same-condition : {ts us rest left : List Placed} {c d : Condition}
    → IsCondition ts c rest → IsCondition us d left → ts ≡ us → Same c d rest left
same-condition (is_condition {truth = truth} p v) (is_condition {truth = other} q w) e =
    let name = firsts (firsts e).tail in
    let variable = firsts name.tail in
    let subjects = same-subject v w variable.token in
    let closing = firsts (firsts (firsts variable.tail).tail).tail in
    let byte : truth_byte truth ≡ truth_byte other = cc in
    let same = same_truth truth other byte in
    record { value = cc; after = cc }

-- what comes after the conditions is an `=`
record Equals (ts : List Placed) : Type 0 where
  place : ℕ
  past : ℕ
  others : List Placed
  shape : ts ≡ standing (sign 61) place past ∷ others

same-conditions : {ts us rest left : List Placed} {cs ds : List Condition}
    → IsConditions ts cs rest → IsConditions us ds left → ts ≡ us → Equals rest → Equals left → Same cs ds rest left
same-conditions no_conditions no_conditions e h k = record { value = refl; after = e }
same-conditions no_conditions (condition_then c d) e h k = apart (is_sign 44) (sym h.shape ∙ e) refl refl
same-conditions (condition_then c d) no_conditions e h k = apart (is_sign 44) (sym k.shape ∙ sym e) refl refl
same-conditions (condition_then {ts = ts} c d) (condition_then {ts = us} b f) e h k =
    let tail : ts ≡ us = cc in
    let r = same-condition c b tail in
    let s = same-conditions d f r.after h k in
    record { value = cc (r.value, s.value); after = s.after }

-- conditions and the `=` after them begin with no item and no call
conditions-end : {ts rest : List Placed} {cs : List Condition} → IsConditions ts cs rest → Equals rest → Ends ts
conditions-end (no_conditions) h = rw h.shape (ends_with 61 h.place h.past h.others refl)
conditions-end (condition_then {ts = ts} {place = place} {past = past} c d) h = ends_with 44 place past ts refl

-- SENTENCES

same-sentence : {ts us rest left : List Placed} {s r : Sentence}
    → IsSentence ts s rest → IsSentence us r left → ts ≡ us → Ends rest → Ends left → Same s r rest left
same-sentence (is_sentence {ts₂ = ts₂} p c x) (is_sentence {ts₂ = us₂} q d y) e h k =
    let first : Equals _ = record { place = _; past = _; others = ts₂; shape = refl } in
    let second : Equals _ = record { place = _; past = _; others = us₂; shape = refl } in
    let patterns = same-items (pattern-items p) (pattern-items q) e (conditions-end c first) (conditions-end d second) in
    let conditions = same-conditions c d patterns.after first second in
    let tail : ts₂ ≡ us₂ = cc conditions.after in
    let expressions = same-expressions (itemed x) (itemed y) tail h k in
    record { value = cc (patterns.value, conditions.value, expressions.value); after = expressions.after }

-- WHAT A RULE CAN'T BEGIN WITH

abbrev begins_with : ℕ → List Placed → Bool
begins_with c [] = false
begins_with c (t ∷ ts) = is_sign c t.token

-- lists of tokens are not the same where only one begins with a sign
otherwise : {B : Type 0} (c : ℕ) {ts us : List Placed} → ts ≡ us → begins_with c ts ≡ false → begins_with c us ≡ true → B
otherwise c e without with = impossible (sym without ∙ (ap (begins_with c) e ∙ with))

item-no-sign : (c : ℕ) (t : Token) → an_item t ≡ true → is_sign c t ≡ false
item-no-sign c (function_name n) i = refl
item-no-sign c (word w) i = refl
item-no-sign c (quoted text) i = refl
item-no-sign c (sign b) i = impossible i
item-no-sign c text_end i = refl
item-no-sign c malformed i = refl

-- a sentence begins with an item, a `,` or an `=`, and so with no `}`
items-begin : {ts rest : List Placed} {p : List Element} → IsItems ts p rest → begins_with 125 rest ≡ false → begins_with 125 ts ≡ false
items-begin no_more h = h
items-begin (item_then {t = t} i d) h = item-no-sign 125 t.token i

conditions-begin : {ts rest : List Placed} {cs : List Condition} → IsConditions ts cs rest → begins_with 125 rest ≡ false → begins_with 125 ts ≡ false
conditions-begin no_conditions h = h
conditions-begin (condition_then c d) h = refl

sentence-begins : {ts rest : List Placed} {s : Sentence} → IsSentence ts s rest → begins_with 125 ts ≡ false
sentence-begins (is_sentence p c x) = items-begin (pattern-items p) (conditions-begin c refl)

sentences-begin : {ts rest : List Placed} {ss : List Sentence} → IsSentences ts ss rest → begins_with 125 ts ≡ false
sentences-begin (last_sentence d) = sentence-begins d
sentences-begin (last_sentence_parted d) = sentence-begins d
sentences-begin (sentence_then d ds) = sentence-begins d

-- a program begins with a name, or is at the end of the text
program-begins : {ts : List Placed} {t : Table} → IsProgram ts t → begins_with 59 ts ≡ false
program-begins no_functions = refl
program-begins (function_then (is_function d) e) = refl
program-begins (function_parted_then (is_function d) e) = refl

-- FUNCTIONS

-- a sentence up to the sign after it, which is `;` or `}`
same-up-to : {ts us rest left : List Placed} {s r : Sentence} {c place past d place₁ past₁ : ℕ}
    → IsSentence ts s (standing (sign c) place past ∷ rest) → IsSentence us r (standing (sign d) place₁ past₁ ∷ left) → ts ≡ us
    → eqb c 60 ≡ false → eqb d 60 ≡ false → Same s r (standing (sign c) place past ∷ rest) (standing (sign d) place₁ past₁ ∷ left)
same-up-to {rest = rest} {left = left} {c = c} {place = place} {past = past} {d = d} {place₁ = place₁} {past₁ = past₁} a b e p q =
    same-sentence a b e (ends_with c place past rest p) (ends_with d place₁ past₁ left q)

same-sentences : {ts us rest left : List Placed} {ss rs : List Sentence}
    → IsSentences ts ss rest → IsSentences us rs left → ts ≡ us → Same ss rs rest left
same-sentences (last_sentence a) (last_sentence b) e =
    let r = same-up-to a b e refl refl in
    record { value = cc r.value; after = (firsts r.after).tail }
same-sentences (last_sentence a) (last_sentence_parted b) e = apart (is_sign 59) (same-up-to a b e refl refl).after refl refl
same-sentences (last_sentence a) (sentence_then b g) e = apart (is_sign 59) (same-up-to a b e refl refl).after refl refl
same-sentences (last_sentence_parted a) (last_sentence b) e = apart (is_sign 125) (same-up-to a b e refl refl).after refl refl
same-sentences (last_sentence_parted a) (last_sentence_parted b) e =
    let r = same-up-to a b e refl refl in
    record { value = cc r.value; after = (firsts (firsts r.after).tail).tail }
same-sentences (last_sentence_parted a) (sentence_then b g) e =
    otherwise 125 (sym (firsts (same-up-to a b e refl refl).after).tail) (sentences-begin g) refl
same-sentences (sentence_then a f) (last_sentence b) e = apart (is_sign 125) (same-up-to a b e refl refl).after refl refl
same-sentences (sentence_then a f) (last_sentence_parted b) e =
    otherwise 125 (firsts (same-up-to a b e refl refl).after).tail (sentences-begin f) refl
same-sentences (sentence_then a f) (sentence_then b g) e =
    let r = same-up-to a b e refl refl in
    let s = same-sentences f g (firsts r.after).tail in
    record { value = cc (r.value, s.value); after = s.after }

same-function : {ts us rest left : List Placed} {f g : Function} → IsFunction ts f rest → IsFunction us g left → ts ≡ us → Same f g rest left
same-function (is_function a) (is_function b) e =
    let name = firsts e in
    let s = same-sentences a b (firsts name.tail).tail in
    record { value = cc s.value; after = s.after }

-- THE PROGRAM

pub same-program : {ts us : List Placed} {t u : Table} → IsProgram ts t → IsProgram us u → ts ≡ us → t ≡ u
same-program no_functions no_functions e = refl
same-program no_functions (function_then (is_function b) g) e = apart is_text_end (sym e) refl refl
same-program no_functions (function_parted_then (is_function b) g) e = apart is_text_end (sym e) refl refl
same-program (function_then (is_function a) f) no_functions e = apart is_text_end e refl refl
same-program (function_then a f) (function_then b g) e = let r = same-function a b e in cc (r.value, same-program f g r.after)
same-program (function_then a f) (function_parted_then b g) e = otherwise 59 (same-function a b e).after (program-begins f) refl
same-program (function_parted_then (is_function a) f) no_functions e = apart is_text_end e refl refl
same-program (function_parted_then a f) (function_then b g) e = otherwise 59 (sym (same-function a b e).after) (program-begins g) refl
same-program (function_parted_then a f) (function_parted_then b g) e =
    let r = same-function a b e in
    cc (r.value, same-program f g (firsts r.after).tail)
