-- What a passed test, a passed token and a result say: the small laws that the theorems about reading are put together from.
use Prim.Native.Nat.{ℕ, zero, suc, ◌<◌}
use mathlib.Core.Path.{◌≡◌, refl, sym, ap, subst}
use mathlib.Core.Bool.{Bool, true, false, false≢true}
use mathlib.Core.List.{List, [], ◌∷◌}
use mathlib.Core.Option.{Option, none, some}
use native.Mathlib.Omega.{arith}
use borrow.Author.Tests.{eqb-true}
use lib.Dec.{eqb}
use Rattle.meaning.specs.Choice.{Bytes, Name, both}
use Rattle.meaning.specs.Tokens.{Token, function_name, word, quoted, sign, text_end, malformed, Placed}
use Rattle.meaning.specs.Reading.{Parsed, stopped, parsed, follow, where_faultless, whether, fault_unless, is_sign, name_of, pass, pass_name, name_on}
use Rattle.meaning.specs.Reading.{no_item, item_of}
use Rattle.meaning.specs.Grammar.{standing, symbol_word, part_word}
use Rattle.meaning.proofs.Laws.Choosing.{both-parts}

-- TESTS

pub both_left : (a b : Bool) → both a b ≡ true → a ≡ true
both_left a b e = (both-parts a b e).0

pub both_right : (a b : Bool) → both a b ≡ true → b ≡ true
both_right a b e = (both-parts a b e).1

pub both_true : {a b : Bool} → a ≡ true → b ≡ true → both a b ≡ true
both_true p q = rw (p, q)

pub impossible : {A : Type 0} → false ≡ true → A
impossible e = absurd (false≢true e)

pub no_value : {A : Type 0} {B : Type 0} {a : A} → ◌≡◌ {A = Option A} none (some a) → B
no_value e = let z : ◌≡◌ {A = ℕ} 0 1 = cc in absurd (omega arith)

-- RESULTS

pub never_both : {A : Type 0} {B : Type 0} (n k : ℕ) (v : A) (rest : List Placed) → ◌≡◌ {A = Parsed A} (stopped n k) (parsed v rest) → B
never_both n k v rest e = let z : ◌≡◌ {A = ℕ} 0 1 = cc in absurd (omega arith)

-- the two parts of a reading that goes on after the first
pub record Followed (A B : Type 0) (first : Parsed A) (next : A → List Placed → Parsed B) (v : B) (rest : List Placed) : Type 0 where
  pub value : A
  pub between : List Placed
  pub before : first ≡ parsed value between
  pub after : next value between ≡ parsed v rest

pub follow-parsed : {A B : Type 0} (first : Parsed A) (next : A → List Placed → Parsed B) {v : B} {rest : List Placed}
    → follow first next ≡ parsed v rest → Followed A B first next v rest
follow-parsed (stopped n k) next {v} {rest} e = never_both n k v rest e
follow-parsed (parsed a ts) next e = record { value = a; between = ts; before = refl; after = e }

pub check-parsed : {A : Type 0} (n : ℕ) (t : Placed) (later : Parsed A) {v : A} {rest : List Placed}
    → where_faultless n t later ≡ parsed v rest → (n ≡ 0) × (later ≡ parsed v rest)
check-parsed zero t later e = (refl, e)
check-parsed (suc n) t later {v} {rest} e = never_both (suc n) t.place v rest e

pub whether-parsed : {A : Type 0} (b : Bool) (t : Placed) (later : Parsed A) {v : A} {rest : List Placed}
    → whether b t later ≡ parsed v rest → (b ≡ true) × (later ≡ parsed v rest)
whether-parsed true t later e = (refl, e)
whether-parsed false t later {v} {rest} e = never_both _ t.place v rest e

-- a fault of number 0 is none: its test passes, and so do those after it
pub passed : (b : Bool) (n later : ℕ) → 0 < n → fault_unless b n later ≡ 0 → (b ≡ true) × (later ≡ 0)
passed true n later p e = (refl, e)
passed false n later p e = absurd (omega arith)

-- TOKENS

pub sign_of : (c : ℕ) (t : Token) → is_sign c t ≡ true → t ≡ sign c
sign_of c (function_name n) e = impossible e
sign_of c (word w) e = impossible e
sign_of c (quoted text) e = impossible e
sign_of c (sign b) e = ap sign (eqb-true b c e)
sign_of c text_end e = impossible e
sign_of c malformed e = impossible e

pub name-of : (t : Token) {n : Name} → name_of t ≡ some n → t ≡ function_name n
name-of (function_name n) e = cc
name-of (word w) e = no_value e
name-of (quoted text) e = no_value e
name-of (sign b) e = no_value e
name-of text_end e = no_value e
name-of malformed e = no_value e

-- what a token is among the items
pub data TokenView : Token → Type 0 where
  a_string : (text : Bytes) → TokenView (quoted text)
  a_symbol : (b : ℕ) (x : Bytes) → TokenView (symbol_word b x)
  a_part : (b : ℕ) (x : Bytes) → TokenView (part_word b x)
  another : (token : Token) → item_of token ≡ no_item → TokenView token

word-view : (b c : ℕ) (x : Bytes) (s e : Bool) → eqb b 115 ≡ s → eqb b 101 ≡ e → TokenView (word (b ∷ c ∷ x))
word-view b c x true e p q = subst (λ z. TokenView (word (z ∷ c ∷ x))) (sym (eqb-true b 115 p)) (a_symbol c x)
word-view b c x false true p q = subst (λ z. TokenView (word (z ∷ c ∷ x))) (sym (eqb-true b 101 q)) (a_part c x)
word-view b c x false false p q = another (word (b ∷ c ∷ x)) (rw (p, q))

pub view : (token : Token) → TokenView token
view (function_name n) = another (function_name n) refl
view (word []) = another (word []) refl
view (word (b ∷ [])) = another (word (b ∷ [])) refl
view (word (b ∷ c ∷ x)) = word-view b c x (eqb b 115) (eqb b 101) refl refl
view (quoted text) = a_string text
view (sign b) = another (sign b) refl
view text_end = another text_end refl
view malformed = another malformed refl

-- READERS OF ONE TOKEN

pub standing-as : (t : Placed) {token : Token} → t.token ≡ token → t ≡ standing token t.place t.past
standing-as t e = λ i. record { token = e i; place = t.place; past = t.past }

pub record Passed (A : Type 0) (c : ℕ) (ts : List Placed) (next : List Placed → Parsed A) (v : A) (rest : List Placed) : Type 0 where
  pub place : ℕ
  pub past : ℕ
  pub tail : List Placed
  pub shape : ts ≡ standing (sign c) place past ∷ tail
  pub after : next tail ≡ parsed v rest

pub pass-parsed : {A : Type 0} (c : ℕ) (ts : List Placed) (next : List Placed → Parsed A) {v : A} {rest : List Placed}
    → pass c ts next ≡ parsed v rest → Passed A c ts next v rest
pass-parsed c [] next {v} {rest} e = never_both 0 0 v rest e
pass-parsed c (t ∷ ts) next e =
    let (there, after) = whether-parsed (is_sign c t.token) t (next ts) e in
    record { place = t.place; past = t.past; tail = ts; shape = ap (λ z. z ∷ ts) (standing-as t (sign_of c t.token there)); after = after }

pub record NamePassed (A : Type 0) (fault : Name → ℕ) (ts : List Placed) (next : ℕ → Name → List Placed → Parsed A) (v : A) (rest : List Placed) :
    Type 0 where
  pub name : Name
  pub place : ℕ
  pub past : ℕ
  pub tail : List Placed
  pub shape : ts ≡ standing (function_name name) place past ∷ tail
  pub faultless : fault name ≡ 0
  pub after : next place name tail ≡ parsed v rest

name-step : {A : Type 0} (fault : Name → ℕ) (o : Option Name) (t : Placed) (ts : List Placed) (next : ℕ → Name → List Placed → Parsed A) {v : A}
    {rest : List Placed}
    → name_of t.token ≡ o
    → name_on o fault t (λ n. next t.place n ts) ≡ parsed v rest
    → NamePassed A fault (t ∷ ts) next v rest
name-step fault none t ts next {v} {rest} p e = never_both _ t.place v rest e
name-step fault (some n) t ts next p e =
    let (faultless, after) = check-parsed (fault n) t (next t.place n ts) e in
    record {
      name = n;
      place = t.place;
      past = t.past;
      tail = ts;
      shape = ap (λ z. z ∷ ts) (standing-as t (name-of t.token p));
      faultless = faultless;
      after = after;
    }

pub name-parsed : {A : Type 0} (fault : Name → ℕ) (ts : List Placed) (next : ℕ → Name → List Placed → Parsed A) {v : A} {rest : List Placed}
    → pass_name fault ts next ≡ parsed v rest → NamePassed A fault ts next v rest
name-parsed fault [] next {v} {rest} e = never_both 0 0 v rest e
name-parsed fault (t ∷ ts) next e = name-step fault (name_of t.token) t ts next refl e
