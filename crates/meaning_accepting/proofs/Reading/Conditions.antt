-- The conditions' reader reads exactly the allowed conditions of the grammar.
use Prim.Native.Nat.{ℕ, zero, suc, ◌+◌, ◌≤◌}
use mathlib.Core.Path.{◌≡◌, refl, sym, ap, ◌∙◌, subst}
use mathlib.Core.Bool.{Bool, true, false}
use mathlib.Core.List.{List, [], ◌∷◌}
use mathlib.Core.Option.{Option, none, some}
use native.Mathlib.Omega.{arith}
use borrow.Author.Tests.{eqb-true, eq-eqb}
use lib.Dec.{leb, eqb}
use lib.ListN.{length}
use Rattle.meaning.specs.Choice.{Bytes, Name, pick, every, same_bytes}
use Rattle.meaning.specs.Classes.{Class, class_name, classes}
use Rattle.meaning.specs.Tree.{Subject, of_symbol, of_part, Condition}
use Rattle.meaning.specs.Names.{predicate_of, class_named}
use Rattle.meaning.specs.Allowed.{member, of_pattern, all_of_pattern, spelled_identifier, max_identifier, max_name}
use Rattle.meaning.specs.Tokens.{Token, function_name, word, quoted, sign, text_end, malformed, Placed}
use Rattle.meaning.specs.Grammar.{standing, truth_byte, truth_string, IsSubject, symbol_subject, part_subject, IsCondition, is_condition}
use Rattle.meaning.specs.Grammar.{IsConditions}
use Rattle.meaning.specs.Grammar.{no_conditions, condition_then}
use Rattle.meaning.specs.Reading.{Parsed, stopped, parsed, follow, where_faultless, is_sign, pass_subject, subject_fault, pass_truth, truth_on}
use Rattle.meaning.specs.Reading.{truth_of}
use Rattle.meaning.specs.Reading.{truth_in, with_class, parse_condition, at_comma, parse_conditions, pass, pass_name, length_fault}
use Rattle.meaning_accepting.proofs.Reading.Basics.{both_left, both_right, both_true, impossible, no_value, never_both, check-parsed, passed}
use Rattle.meaning_accepting.proofs.Reading.Basics.{Followed, follow-parsed, Passed, pass-parsed, NamePassed, name-parsed, TokenView, a_string}
use Rattle.meaning_accepting.proofs.Reading.Basics.{a_symbol, a_part, another, view, sign_of, standing-as}
use Rattle.meaning.proofs.Laws.Choosing.{same_bytes_lem}
use Rattle.meaning.proofs.Laws.Words.{by-class}
use Rattle.meaning_accepting.proofs.Reading.Lists.{member-every}
use Rattle.meaning_accepting.proofs.Reading.Sound.{sound_tokens, sound-rest, spelled-identifier-short}

pub record SubjectPassed (A : Type 0) (symbols parts : List Name) (ts : List Placed) (next : Subject → List Placed → Parsed A)
    (v : A) (rest : List Placed) : Type 0 where
  pub token : Token
  pub subject : Subject
  pub is : IsSubject token subject
  pub place : ℕ
  pub past : ℕ
  pub tail : List Placed
  pub shape : ts ≡ standing token place past ∷ tail
  pub known : of_pattern symbols parts subject ≡ true
  pub after : next subject tail ≡ parsed v rest

subject-known : (names : List Name) (x : Name) → subject_fault names x ≡ 0 → member x names ≡ true
subject-known names x e =
    (passed (member x names) 7 0 (omega arith) (passed (leb (length x) max_identifier) 4 _ (omega arith) e).1).0

-- a variable of either kind, which has no fault among the names of its kind
variable-step : {A : Type 0} (symbols parts names : List Name) (x : Name) {token : Token} {on : Subject} (place past : ℕ) (ts : List Placed)
    (next : Subject → List Placed → Parsed A) {v : A} {rest : List Placed}
    → IsSubject token on → of_pattern symbols parts on ≡ member x names
    → where_faultless (subject_fault names x) (standing token place past) (next on ts) ≡ parsed v rest
    → SubjectPassed A symbols parts (standing token place past ∷ ts) next v rest
variable-step symbols parts names x {token} {on} place past ts next is same e =
    let (faultless, after) = check-parsed (subject_fault names x) (standing token place past) (next on ts) e in
    record {
      token = token;
      subject = on;
      is = is;
      place = place;
      past = past;
      tail = ts;
      shape = refl;
      known = same ∙ subject-known names x faultless;
      after = after;
    }

subject-step : {A : Type 0} (symbols parts : List Name) {token : Token} (place past : ℕ) (ts : List Placed) (next : Subject → List Placed → Parsed A)
    {v : A} {rest : List Placed}
    → TokenView token
    → pass_subject symbols parts (standing token place past ∷ ts) next ≡ parsed v rest
    → SubjectPassed A symbols parts (standing token place past ∷ ts) next v rest
subject-step symbols parts place past ts next {v} {rest} (a_string text) e = never_both 3 place v rest e
subject-step symbols parts place past ts next (a_symbol b x) e = variable-step symbols parts symbols (b ∷ x) place past ts next symbol_subject refl e
subject-step symbols parts place past ts next (a_part b x) e = variable-step symbols parts parts (b ∷ x) place past ts next part_subject refl e
subject-step symbols parts place past ts next {v} {rest} (another token n) e = never_both _ place v rest (rw n at e)

subject-parsed : {A : Type 0} (symbols parts : List Name) (ts : List Placed) (next : Subject → List Placed → Parsed A) {v : A} {rest : List Placed}
    → pass_subject symbols parts ts next ≡ parsed v rest → SubjectPassed A symbols parts ts next v rest
subject-parsed symbols parts [] next {v} {rest} e = never_both 0 0 v rest e
subject-parsed symbols parts (t ∷ ts) next e = subject-step symbols parts t.place t.past ts next (view t.token) e

-- the two closing strings
truth-text : (truth : Bool) (text : Bytes) (a b : Bool) → same_bytes text (84 ∷ []) ≡ a → same_bytes text (70 ∷ []) ≡ b
    → pick a (some true) (pick b (some false) none) ≡ some truth → text ≡ truth_byte truth ∷ []
truth-text true text true b p q e = same_bytes_lem text (84 ∷ []) p
truth-text false text true b p q e = let z : true ≡ false = cc in impossible (sym z)
truth-text true text false true p q e = let z : false ≡ true = cc in impossible z
truth-text false text false true p q e = same_bytes_lem text (70 ∷ []) q
truth-text truth text false false p q e = no_value e

truth-three : (three truth : Bool) (text : Bytes) → pick three (truth_in text) none ≡ some truth
    → (three ≡ true) × (quoted text ≡ quoted (truth_byte truth ∷ []))
truth-three true truth text e = (refl, ap quoted (truth-text truth text (same_bytes text (84 ∷ [])) (same_bytes text (70 ∷ [])) refl refl e))
truth-three false truth text e = no_value e

pub truth-of : (t : Token) (three : Bool) {truth : Bool} → truth_of t three ≡ some truth → (three ≡ true) × (t ≡ quoted (truth_byte truth ∷ []))
truth-of (function_name n) three e = no_value e
truth-of (word w) three e = no_value e
truth-of (quoted text) three {truth} e = truth-three three truth text e
truth-of (sign b) three e = no_value e
truth-of text_end three e = no_value e
truth-of malformed three e = no_value e

pub record TruthPassed (A : Type 0) (ts : List Placed) (next : Bool → List Placed → Parsed A) (v : A) (rest : List Placed) : Type 0 where
  pub truth : Bool
  pub place : ℕ
  pub tail : List Placed
  pub shape : ts ≡ truth_string truth place ∷ tail
  pub after : next truth tail ≡ parsed v rest

truth-step : {A : Type 0} (o : Option Bool) (t : Placed) (ts : List Placed) (next : Bool → List Placed → Parsed A) {v : A} {rest : List Placed}
    → truth_of t.token (eqb t.past (t.place + 3)) ≡ o
    → truth_on o t (λ truth. next truth ts) ≡ parsed v rest
    → TruthPassed A (t ∷ ts) next v rest
truth-step none t ts next {v} {rest} p e = never_both _ t.place v rest e
truth-step (some truth) t ts next p e =
    let (three, token) = truth-of t.token (eqb t.past (t.place + 3)) p in
    let past : t.past ≡ t.place + 3 = eqb-true t.past (t.place + 3) three in
    record {
      truth = truth;
      place = t.place;
      tail = ts;
      shape = λ i. record { token = token i; place = t.place; past = past i } ∷ ts;
      after = e;
    }

truth-parsed : {A : Type 0} (ts : List Placed) (next : Bool → List Placed → Parsed A) {v : A} {rest : List Placed}
    → pass_truth ts next ≡ parsed v rest → TruthPassed A ts next v rest
truth-parsed [] next {v} {rest} e = never_both 0 0 v rest e
truth-parsed (t ∷ ts) next e = truth-step (truth_of t.token (eqb t.past (t.place + 3))) t ts next refl e

class-parsed : {A : Type 0} (o : Option Class) (place : ℕ) (next : Class → Parsed A) {v : A} {rest : List Placed}
    → with_class o place next ≡ parsed v rest → (class : Class) × (o ≡ some class) × (next class ≡ parsed v rest)
class-parsed none place next {v} {rest} e = never_both 5 place v rest e
class-parsed (some class) place next e = (class, refl, e)

-- THE STEPS OF A CONDITION

abbrev pub after_truth : Class → Subject → Bool → List Placed → Parsed Condition
after_truth class v truth rest = parsed (record { predicate = class; subject = v; expected = truth }) rest

abbrev pub after_colon : Class → Subject → List Placed → Parsed Condition
after_colon class v ts = pass_truth ts (after_truth class v)

abbrev pub after_close : Class → Subject → List Placed → Parsed Condition
after_close class v ts = pass 58 ts (after_colon class v)

abbrev pub after_variable : Class → Subject → List Placed → Parsed Condition
after_variable class v ts = pass 62 ts (after_close class v)

abbrev pub after_predicate : List Name → List Name → ℕ → Name → List Placed → Parsed Condition
after_predicate symbols parts place n ts = with_class (predicate_of n) place (λ class. pass_subject symbols parts ts (after_variable class))

abbrev pub after_open : List Name → List Name → List Placed → Parsed Condition
after_open symbols parts ts = pass_name (λ n. length_fault n 0) ts (after_predicate symbols parts)

-- the end of a condition: `>` `:` and the closing string
record Closing (class : Class) (v : Subject) (ts : List Placed) (c : Condition) (rest : List Placed) : Type 0 where
  truth : Bool
  at₄ : ℕ
  past₄ : ℕ
  at₅ : ℕ
  past₅ : ℕ
  at₆ : ℕ
  shape : ts ≡ standing (sign 62) at₄ past₄ ∷ standing (sign 58) at₅ past₅ ∷ truth_string truth at₆ ∷ rest
  value : record { predicate = class; subject = v; expected = truth } ≡ c

module _ {class : Class} {v : Subject} {c : Condition} {rest : List Placed} where
  closing-truth : {ts : List Placed}
      → (p₄ : Passed Condition 62 ts (after_close class v) c rest)
      → (p₅ : Passed Condition 58 p₄.tail (after_colon class v) c rest)
      → TruthPassed Condition p₅.tail (after_truth class v) c rest
      → Closing class v ts c rest
  closing-truth p₄ p₅ p₆ =
      let e = p₆.after in
      let left : p₆.tail ≡ rest = cc in
      record {
        truth = p₆.truth;
        at₄ = p₄.place;
        past₄ = p₄.past;
        at₅ = p₅.place;
        past₅ = p₅.past;
        at₆ = p₆.place;
        shape =
            p₄.shape
            ∙ ap (λ z. standing (sign 62) p₄.place p₄.past ∷ z)
            (p₅.shape
            ∙ ap (λ z. standing (sign 58) p₅.place p₅.past ∷ z) (p₆.shape ∙ ap (λ z. truth_string p₆.truth p₆.place ∷ z) left));
        value = cc;
      }

  closing : (ts : List Placed) → after_variable class v ts ≡ parsed c rest → Closing class v ts c rest
  closing ts e =
      let p₄ = pass-parsed 62 ts (after_close class v) e in
      let p₅ = pass-parsed 58 p₄.tail (after_colon class v) p₄.after in
      closing-truth p₄ p₅ (truth-parsed p₅.tail (after_truth class v) p₅.after)

pub record ConditionRead (symbols parts : List Name) (ts : List Placed) (c : Condition) (rest : List Placed) : Type 0 where
  pub derived : IsCondition ts c rest
  pub known : of_pattern symbols parts c.subject ≡ true
  pub sound : sound_tokens rest ≡ true

sound-six : (t₁ t₂ t₃ t₄ t₅ t₆ : Placed) (rest : List Placed) → sound_tokens (t₁ ∷ t₂ ∷ t₃ ∷ t₄ ∷ t₅ ∷ t₆ ∷ rest) ≡ true → sound_tokens rest ≡ true
sound-six t₁ t₂ t₃ t₄ t₅ t₆ rest s =
    sound-rest _ _ (sound-rest _ _ (sound-rest _ _ (sound-rest _ _ (sound-rest _ _ (sound-rest _ _ s)))))

module _ (symbols parts : List Name) {c : Condition} {rest : List Placed} where
  condition-whole : {ts : List Placed} → sound_tokens ts ≡ true
      → (p₁ : Passed Condition 60 ts (after_open symbols parts) c rest)
      → (p₂ : NamePassed Condition (λ n. length_fault n 0) p₁.tail (after_predicate symbols parts) c rest)
      → (class : Class) → predicate_of p₂.name ≡ some class
      → (p₃ : SubjectPassed Condition symbols parts p₂.tail (after_variable class) c rest)
      → Closing class p₃.subject p₃.tail c rest
      → ConditionRead symbols parts ts c rest
  condition-whole {ts} s p₁ p₂ class known p₃ p₄ =
      let shape =
      p₁.shape
      ∙ ap (λ z. standing (sign 60) p₁.place p₁.past ∷ z)
      (p₂.shape
      ∙ ap (λ z. standing (function_name p₂.name) p₂.place p₂.past ∷ z)
      (p₃.shape ∙ ap (λ z. standing p₃.token p₃.place p₃.past ∷ z) p₄.shape))
      in
      record {
        derived = rw (shape, ← p₄.value) (is_condition known p₃.is);
        known = rw (← p₄.value) p₃.known;
        sound = sound-six _ _ _ _ _ _ rest (rw shape at s);
      }

  condition-sound : (ts : List Placed) → sound_tokens ts ≡ true → parse_condition symbols parts ts ≡ parsed c rest →
      ConditionRead symbols parts ts c rest
  unfolding parse_condition
  condition-sound ts s e =
      let p₁ = pass-parsed 60 ts (after_open symbols parts) e in
      let p₂ = name-parsed (λ n. length_fault n 0) p₁.tail (after_predicate symbols parts) p₁.after in
      let k = class-parsed (predicate_of p₂.name) p₂.place (λ class. pass_subject symbols parts p₂.tail (after_variable class)) p₂.after in
      let p₃ = subject-parsed symbols parts p₂.tail (after_variable k.0) k.2 in
      condition-whole s p₁ p₂ k.0 k.1 p₃ (closing {class = k.0} {v = p₃.subject} p₃.tail p₃.after)

-- PREDICATES' NAMES

named-class : (cs : List Class) (n : Name) {class : Class} → class_named cs n ≡ some class → n ≡ class_name class
unfolding class_named
named-class [] n e = no_value e
named-class (c ∷ cs) n {class} e = go (same_bytes n (class_name c)) refl e (λ later. named-class cs n later)
  where
    go : (b : Bool) → same_bytes n (class_name c) ≡ b → pick b (some c) (class_named cs n) ≡ some class
        → (class_named cs n ≡ some class → n ≡ class_name class) → n ≡ class_name class
    go true same e later =
        let one : c ≡ class = cc in
        same_bytes_lem n (class_name c) same ∙ ap class_name one
    go false same e later = later e

class-name-short : (class : Class) → leb (length (class_name class)) max_name ≡ true
class-name-short = by-class (λ k. leb (length (class_name k)) max_name ≡ true) refl refl refl refl refl

predicate-short : (n : Name) {class : Class} → predicate_of n ≡ some class → leb (length n) max_name ≡ true
predicate-short n {class} e = rw (named-class classes n e) (class-name-short class)

-- THE READER PASSES WHAT THE GRAMMAR ALLOWS

truth-passed : {A : Type 0} (truth : Bool) (place : ℕ) (ts : List Placed) (next : Bool → List Placed → Parsed A)
    → pass_truth (truth_string truth place ∷ ts) next ≡ next truth ts
unfolding same_bytes
truth-passed true place ts next = rw (eq-eqb (place + 3) (place + 3) refl)
truth-passed false place ts next = rw (eq-eqb (place + 3) (place + 3) refl)

member-short : (names : List Name) → every spelled_identifier names ≡ true → (x : Name) → member x names ≡ true → leb (length x) max_identifier ≡ true
member-short names s x m = spelled-identifier-short x (member-every spelled_identifier x names s m)

pub condition-complete : (symbols parts : List Name) → every spelled_identifier symbols ≡ true → every spelled_identifier parts ≡ true
    → {ts rest : List Placed} {c : Condition} → IsCondition ts c rest → of_pattern symbols parts c.subject ≡ true
    → parse_condition symbols parts ts ≡ parsed c rest
unfolding parse_condition
condition-complete symbols parts s q
    (is_condition {n = n} {class = class} {truth = truth} {rest = rest} {at₆ = at₆} known (symbol_subject {b = b} {x = x})) m =
    rw (predicate-short n known, known, member-short symbols s (b ∷ x) m, m) (truth-passed truth at₆ rest (after_truth class (of_symbol (b ∷ x))))
condition-complete symbols parts s q
    (is_condition {n = n} {class = class} {truth = truth} {rest = rest} {at₆ = at₆} known (part_subject {b = b} {x = x})) m =
    rw (predicate-short n known, known, member-short parts q (b ∷ x) m, m) (truth-passed truth at₆ rest (after_truth class (of_part (b ∷ x))))

-- CONDITIONS ONE AFTER ANOTHER

data AtComma (ts : List Placed) (next : Placed → List Placed → Parsed (List Condition)) (cs : List Condition) (rest : List Placed) : Type 0 where
  without : [] ≡ cs → ts ≡ rest → AtComma ts next cs rest
  with : (place past : ℕ) (tail : List Placed) → ts ≡ standing (sign 44) place past ∷ tail
      → next (standing (sign 44) place past) tail ≡ parsed cs rest → AtComma ts next cs rest

comma-step : (b : Bool) (t : Placed) (ts : List Placed) (next : Placed → List Placed → Parsed (List Condition)) {cs : List Condition}
    {rest : List Placed}
    → is_sign 44 t.token ≡ b
    → pick b (next t ts) (parsed [] (t ∷ ts)) ≡ parsed cs rest
    → AtComma (t ∷ ts) next cs rest
comma-step true t ts next {cs} {rest} p e =
    let same = standing-as t (sign_of 44 t.token p) in
    with t.place t.past ts (ap (λ z. z ∷ ts) same) (subst (λ z. next z ts ≡ parsed cs rest) same e)
comma-step false t ts next p e = without (cc) (cc)

at-comma : (ts : List Placed) (next : Placed → List Placed → Parsed (List Condition)) {cs : List Condition} {rest : List Placed}
    → at_comma ts next ≡ parsed cs rest → AtComma ts next cs rest
at-comma [] next {cs} {rest} e = never_both 0 0 cs rest e
at-comma (t ∷ ts) next e = comma-step (is_sign 44 t.token) t ts next refl e

pub record ConditionsRead (left : ℕ) (symbols parts : List Name) (ts : List Placed) (cs : List Condition) (rest : List Placed) : Type 0 where
  pub derived : IsConditions ts cs rest
  pub known : all_of_pattern symbols parts cs ≡ true
  pub few : length cs ≤ left
  pub sound : sound_tokens rest ≡ true

without-comma : (left : ℕ) (symbols parts : List Name) {ts : List Placed} {cs : List Condition} {rest : List Placed}
    → sound_tokens ts ≡ true → [] ≡ cs → ts ≡ rest → ConditionsRead left symbols parts ts cs rest
unfolding every
without-comma left symbols parts {ts} {cs} {rest} s e l =
    record {
      derived = rw (← e, l) no_conditions;
      known = rw (← e);
      few = rw (← e) (omega arith);
      sound = rw l at s;
    }

abbrev pub after_conditions : Condition → List Condition → List Placed → Parsed (List Condition)
after_conditions c cs rest = parsed (c ∷ cs) rest

abbrev pub after_condition : ℕ → List Name → List Name → Condition → List Placed → Parsed (List Condition)
after_condition left symbols parts c ts = follow (parse_conditions left symbols parts ts) (after_conditions c)

abbrev pub after_comma : ℕ → List Name → List Name → Placed → List Placed → Parsed (List Condition)
after_comma left symbols parts comma ts = follow (parse_condition symbols parts ts) (after_condition left symbols parts)

module _ (left : ℕ) (symbols parts : List Name) {cs : List Condition} {rest : List Placed}
    (later : (ts : List Placed) (cs : List Condition) (rest : List Placed)
    → sound_tokens ts ≡ true → parse_conditions left symbols parts ts ≡ parsed cs rest → ConditionsRead left symbols parts ts cs rest)
  where
    with-conditions : (place past : ℕ) {ts between : List Placed} (c : Condition)
        → ConditionRead symbols parts ts c between
        → (q : Followed (List Condition) (List Condition) (parse_conditions left symbols parts between) (after_conditions c) cs rest)
        → ConditionsRead left symbols parts between q.value q.between
        → ConditionsRead (suc left) symbols parts (standing (sign 44) place past ∷ ts) cs rest
    unfolding every
    with-conditions place past {ts} c r q d =
        let after = q.after in
        let whole : c ∷ q.value ≡ cs = cc in
        let left : q.between ≡ rest = cc in
        record {
          derived = rw (← whole, ← left) (condition_then r.derived d.derived);
          known = rw (← whole) (both_true r.known d.known);
          few = rw (← whole) (omega (arith, d.few));
          sound = rw left at d.sound;
        }

    with-comma : (place past : ℕ) (ts : List Placed) → sound_tokens ts ≡ true
        → after_comma left symbols parts (standing (sign 44) place past) ts ≡ parsed cs rest
        → ConditionsRead (suc left) symbols parts (standing (sign 44) place past ∷ ts) cs rest
    with-comma place past ts s e =
        let p = follow-parsed (parse_condition symbols parts ts) (after_condition left symbols parts) e in
        let r = condition-sound symbols parts ts s p.before in
        let q = follow-parsed (parse_conditions left symbols parts p.between) (after_conditions p.value) p.after in
        with-conditions place past p.value r q (later p.between q.value q.between r.sound q.before)

    conditions-step : {ts : List Placed} → sound_tokens ts ≡ true → AtComma ts (after_comma left symbols parts) cs rest
        → ConditionsRead (suc left) symbols parts ts cs rest
    conditions-step s (without e l) = without-comma (suc left) symbols parts s e l
    conditions-step s (with place past tail shape e) =
        rw shape (with-comma place past tail (sound-rest (standing (sign 44) place past) tail (rw shape at s)) e)

abbrev pub over_comma : Placed → List Placed → Parsed (List Condition)
over_comma comma rest = stopped 4 comma.place

conditions-none : (symbols parts : List Name) {ts : List Placed} {cs : List Condition} {rest : List Placed}
    → sound_tokens ts ≡ true → AtComma ts over_comma cs rest → ConditionsRead zero symbols parts ts cs rest
conditions-none symbols parts s (without e l) = without-comma zero symbols parts s e l
conditions-none symbols parts {cs = cs} {rest = rest} s (with place past tail shape e) = never_both 4 place cs rest e

-- what the conditions' reader reads are conditions of the grammar, on variables of the pattern
pub conditions-sound : (left : ℕ) (symbols parts : List Name) (ts : List Placed) {cs : List Condition} {rest : List Placed}
    → sound_tokens ts ≡ true → parse_conditions left symbols parts ts ≡ parsed cs rest → ConditionsRead left symbols parts ts cs rest
unfolding parse_conditions
conditions-sound zero symbols parts ts s e = conditions-none symbols parts s (at-comma ts over_comma e)
conditions-sound (suc left) symbols parts ts s e =
    conditions-step left symbols parts (λ us ds more t f. conditions-sound left symbols parts us {cs = ds} {rest = more} t f) s
    (at-comma ts (after_comma left symbols parts) e)

-- conditions that the grammar allows, on variables of the pattern, are read
pub conditions-complete : (left : ℕ) (symbols parts : List Name) → every spelled_identifier symbols ≡ true → every spelled_identifier parts ≡ true
    → {ts rest : List Placed} {cs : List Condition} → IsConditions ts cs rest
    → (h : Placed) (more : List Placed) → rest ≡ h ∷ more → is_sign 44 h.token ≡ false
    → all_of_pattern symbols parts cs ≡ true → length cs ≤ left
    → parse_conditions left symbols parts ts ≡ parsed cs rest
unfolding parse_conditions every
conditions-complete zero symbols parts s q no_conditions h more e n k l = rw (e, n)
conditions-complete (suc left) symbols parts s q no_conditions h more e n k l = rw (e, n)
conditions-complete zero symbols parts s q (condition_then d ds) h more e n k l = absurd (omega arith)
conditions-complete (suc left) symbols parts s q (condition_then {c = c} {cs = cs} d ds) h more e n k l =
    rw (
      condition-complete symbols parts s q d (both_left (of_pattern symbols parts c.subject) (all_of_pattern symbols parts cs) k),
      conditions-complete left symbols parts s q ds h more e n (both_right (of_pattern symbols parts c.subject) (all_of_pattern symbols parts cs) k)
          (omega arith),
    )
