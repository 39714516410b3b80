-- The pattern's reader reads exactly the allowed patterns of the grammar.
use Prim.Native.Nat.{ℕ, ◌≤◌}
use mathlib.Core.Path.{◌≡◌, refl, sym, ap, ◌∙◌, subst}
use mathlib.Core.Bool.{Bool, true, false}
use mathlib.Core.List.{List, [], ◌∷◌, ◌++◌, append_assoc, append-nil}
use native.Mathlib.Omega.{arith}
use lib.ListN.{length}
use Rattle.meaning.specs.Choice.{Bytes, Name, pick}
use Rattle.meaning.specs.Tree.{Element, letter, part}
use Rattle.meaning.specs.Allowed.{parts_of, parted}
use Rattle.meaning.specs.Tokens.{Token, Placed}
use Rattle.meaning.specs.Grammar.{standing, symbol_word, part_word, characters_of, IsLetters, string_letters, variable_letter, IsTemplate}
use Rattle.meaning.specs.Grammar.{letters_alone}
use Rattle.meaning.specs.Grammar.{letters_then, IsTemplateOrNone, no_template, some_template, IsPattern, no_part, one_part, two_parts}
use Rattle.meaning.specs.Reading.{parsed, where_faultless, Item, no_item, item_of, is_item, elements_of, pattern_fault, parse_pattern}
use Rattle.meaning.proofs.Laws.Choosing.{no-cons}
use Rattle.meaning_accepting.proofs.Reading.Basics.{impossible, never_both, check-parsed, TokenView, a_string, a_symbol, a_part, another, view}
use Rattle.meaning_accepting.proofs.Reading.Sound.{sound_tokens, sound-first, sound-rest, item-sound}
use Rattle.meaning_accepting.proofs.Reading.PatternFacts.{PatternFacts, parts-append, characters-parts}
use Rattle.meaning_accepting.proofs.Reading.PatternItems.{item-allowed, item-faultless, facts-before}

-- items one after another, with nothing asked of their number
pub data IsItems : List Placed → List Element → List Placed → Type 0 where
  no_more : {ts : List Placed} → IsItems ts [] ts
  item_then : {t : Placed} {ts rest : List Placed} {q : List Element}
      → is_item (item_of t.token) ≡ true
      → IsItems ts q rest
      → IsItems (t ∷ ts) (elements_of (item_of t.token) ++ q) rest

-- THE READER AND THE ITEMS

pub record PatternRead (before : List Element) (ts : List Placed) (p : List Element) (rest : List Placed) : Type 0 where
  pub elements : List Element
  pub whole : p ≡ before ++ elements
  pub items : IsItems ts elements rest
  pub facts : PatternFacts p
  pub sound : sound_tokens rest ≡ true

module _ (before : List Element) (t : Placed) (ts : List Placed) {p : List Element} {rest : List Placed} where
  pattern-step : (b : Bool) → is_item (item_of t.token) ≡ b → PatternFacts before → sound_tokens (t ∷ ts) ≡ true
      → (PatternFacts (before ++ elements_of (item_of t.token)) → sound_tokens ts ≡ true
      → parse_pattern (before ++ elements_of (item_of t.token)) ts ≡ parsed p rest
      → PatternRead (before ++ elements_of (item_of t.token)) ts p rest)
      → pick b (where_faultless (pattern_fault before (item_of t.token)) t (parse_pattern (before ++ elements_of (item_of t.token)) ts))
      (parsed before (t ∷ ts))
      ≡ parsed p rest
      → PatternRead before (t ∷ ts) p rest
  pattern-step true i f s later e =
      let item = item_of t.token in
      let (faultless, after) = check-parsed (pattern_fault before item) t _ e in
      let r = later (item-allowed before item f (item-sound t.token (sound-first t ts s)) faultless) (sound-rest t ts s) after in
      record {
        elements = elements_of item ++ r.elements;
        whole = r.whole ∙ append_assoc before (elements_of item) r.elements;
        items = item_then i r.items;
        facts = r.facts;
        sound = r.sound;
      }
  pattern-step false i f s later e =
      let same : before ≡ p = cc in
      let left : t ∷ ts ≡ rest = cc in
      record {
        elements = [];
        whole = sym same ∙ sym (append-nil before);
        items = subst (λ z. IsItems (t ∷ ts) [] z) left no_more;
        facts = subst PatternFacts same f;
        sound = subst (λ z. sound_tokens z ≡ true) left s;
      }

pub pattern-sound : (before : List Element) (ts : List Placed) {p : List Element} {rest : List Placed}
    → PatternFacts before → sound_tokens ts ≡ true → parse_pattern before ts ≡ parsed p rest → PatternRead before ts p rest
unfolding parse_pattern
pattern-sound before [] {p} {rest} f s e = never_both 0 0 p rest e
pattern-sound before (t ∷ ts) f s e =
    pattern-step before t ts (is_item (item_of t.token)) refl f s (pattern-sound (before ++ elements_of (item_of t.token)) ts) e

-- the reader passes the items, up to a token that is none
pub pattern-complete : (before : List Element) {ts rest : List Placed} {q : List Element}
    → IsItems ts q rest → (h : Placed) (more : List Placed) → rest ≡ h ∷ more → is_item (item_of h.token) ≡ false
    → PatternFacts (before ++ q) → parse_pattern before ts ≡ parsed (before ++ q) rest
unfolding parse_pattern
pattern-complete before (no_more {ts = ts}) h more e n f = rw (e, append-nil before, n)
pattern-complete before (item_then {t = t} {ts = ts} {q = q} i d) h more e n f =
    let item = item_of t.token in
    let f₁ : PatternFacts ((before ++ elements_of item) ++ q) = rw (append_assoc before (elements_of item) q) f in
    rw (i, item-faultless before item (facts-before (before ++ elements_of item) q f₁), ← append_assoc before (elements_of item) q)
    (pattern-complete (before ++ elements_of item) d h more e n f₁)

-- ITEMS AND THE GRAMMAR

pub items-append : {ts between rest : List Placed} {p q : List Element}
    → IsItems ts p between → IsItems between q rest → IsItems ts (p ++ q) rest
items-append no_more b = b
items-append {q = q} (item_then {t = t} {q = p} i a) b =
    rw (append_assoc (elements_of (item_of t.token)) p q) (item_then i (items-append a b))

one-item : (t : Placed) {ts : List Placed} → is_item (item_of t.token) ≡ true → IsItems (t ∷ ts) (elements_of (item_of t.token)) ts
one-item t {ts} i = subst (λ z. IsItems (t ∷ ts) z ts) (append-nil (elements_of (item_of t.token))) (item_then i no_more)

letters-items : {token : Token} {p : List Element} (place past : ℕ) {ts : List Placed} → IsLetters token p →
    IsItems (standing token place past ∷ ts) p ts
letters-items place past (string_letters {text = text}) = one-item (standing _ place past) refl
letters-items place past (variable_letter {b = b} {x = x}) = one-item (standing (symbol_word b x) place past) refl

template-items : {ts rest : List Placed} {p : List Element} → IsTemplate ts p rest → IsItems ts p rest
template-items (letters_alone {place = place} {past = past} l) = letters-items place past l
template-items (letters_then {place = place} {past = past} l d) = items-append (letters-items place past l) (template-items d)

optional-items : {ts rest : List Placed} {p : List Element} → IsTemplateOrNone ts p rest → IsItems ts p rest
optional-items no_template = no_more
optional-items (some_template d) = template-items d

part-item : (b : ℕ) (x : Bytes) (place past : ℕ) {ts rest : List Placed} {q : List Element}
    → IsItems ts q rest → IsItems (standing (part_word b x) place past ∷ ts) (part (b ∷ x) ∷ q) rest
part-item b x place past d = item_then {t = standing (part_word b x) place past} refl d

pub pattern-items : {ts rest : List Placed} {p : List Element} → IsPattern ts p rest → IsItems ts p rest
pattern-items (no_part d) = optional-items d
pattern-items (one_part {b = b} {place = place} {past = past} {x = x} d₁ d₂) =
    items-append (optional-items d₁) (part-item b x place past (optional-items d₂))
pattern-items (two_parts {b = b} {place = place} {past = past} {c = c} {place₁ = place₁} {past₁ = past₁} {x = x} {y = y} d₁ d₂ d₃) =
    items-append (optional-items d₁)
    (part-item b x place past (items-append (template-items d₂) (part-item c y place₁ past₁ (optional-items d₃))))

-- FROM ITEMS TO THE GRAMMAR

add-letters : {token : Token} {p q : List Element} (place past : ℕ) {ts rest : List Placed}
    → IsLetters token p → IsTemplateOrNone ts q rest → IsTemplateOrNone (standing token place past ∷ ts) (p ++ q) rest
add-letters {p = p} place past {ts} l no_template = rw (append-nil p) (some_template (letters_alone l))
add-letters place past l (some_template d) = some_template (letters_then l d)

-- items up to the first e-variable, or all of them where there is none
pub record Cut (ts : List Placed) (q : List Element) (rest : List Placed) (x : Name) (xs : List Name) : Type 0 where
  pub first : List Element
  pub byte : ℕ
  pub bytes : Bytes
  pub place : ℕ
  pub past : ℕ
  pub between : List Placed
  pub last : List Element
  pub name : x ≡ byte ∷ bytes
  pub shape : q ≡ first ++ part (byte ∷ bytes) ∷ last
  pub before : IsTemplateOrNone ts first (standing (part_word byte bytes) place past ∷ between)
  pub letters : parts_of first ≡ []
  pub after : IsItems between last rest
  pub later : parts_of last ≡ xs

no-item : {B : Type 0} (item : Item) → item ≡ no_item → is_item item ≡ true → B
no-item item e i = impossible (rw e at i)

parts-past-characters : (text : Bytes) (q : List Element) → parts_of (characters_of text ++ q) ≡ parts_of q
parts-past-characters text q = rw (parts-append (characters_of text) q, characters-parts text)

template-step : {token : Token} (place past : ℕ) → TokenView token → is_item (item_of token) ≡ true
    → {ts rest : List Placed} {q : List Element} → parts_of (elements_of (item_of token) ++ q) ≡ []
    → (parts_of q ≡ [] → IsTemplateOrNone ts q rest)
    → IsTemplateOrNone (standing token place past ∷ ts) (elements_of (item_of token) ++ q) rest
unfolding parts_of
template-step place past (a_string text) i {q = q} e later =
    add-letters place past string_letters (later (sym (parts-past-characters text q) ∙ e))
template-step place past (a_symbol b x) i e later = add-letters place past variable_letter (later e)
template-step place past (a_part b x) i e later = no-cons (sym e)
template-step place past (another token n) i e later = no-item (item_of token) n i

-- items without an e-variable are a template or none
pub items-template : {ts rest : List Placed} {q : List Element} → IsItems ts q rest → parts_of q ≡ [] → IsTemplateOrNone ts q rest
items-template no_more e = no_template
items-template (item_then {t = t} i d) e = template-step t.place t.past (view t.token) i e (λ later. items-template d later)

cut-letters : {token : Token} {p : List Element} (place past : ℕ) → IsLetters token p → parts_of p ≡ []
    → {ts rest : List Placed} {q : List Element} {x : Name} {xs : List Name}
    → Cut ts q rest x xs → Cut (standing token place past ∷ ts) (p ++ q) rest x xs
cut-letters {p = p} place past l n c =
    record {
      first = p ++ c.first;
      byte = c.byte;
      bytes = c.bytes;
      place = c.place;
      past = c.past;
      between = c.between;
      last = c.last;
      name = c.name;
      shape = ap (λ z. p ++ z) c.shape ∙ sym (append_assoc p c.first (part (c.byte ∷ c.bytes) ∷ c.last));
      before = add-letters place past l c.before;
      letters = rw (parts-append p c.first, n, c.letters);
      after = c.after;
      later = c.later;
    }

cut_step : {token : Token} (place past : ℕ) → TokenView token → is_item (item_of token) ≡ true
    → {ts rest : List Placed} {q : List Element} {x : Name} {xs : List Name} → parts_of (elements_of (item_of token) ++ q) ≡ x ∷ xs
    → IsItems ts q rest
    → (parts_of q ≡ x ∷ xs → Cut ts q rest x xs)
    → Cut (standing token place past ∷ ts) (elements_of (item_of token) ++ q) rest x xs
unfolding parts_of
cut_step place past (a_string text) i {q = q} e d later =
    cut-letters place past string_letters (characters-parts text) (later (sym (parts-past-characters text q) ∙ e))
cut_step place past (a_symbol b x) i e d later = cut-letters place past variable_letter refl (later e)
cut_step place past (a_part b x) i {ts = ts} {q = q} {x = y} {xs = ys} e d later =
    let same : b ∷ x ≡ y = cc in
    let rest : parts_of q ≡ ys = cc in
    record {
      first = [];
      byte = b;
      bytes = x;
      place = place;
      past = past;
      between = ts;
      last = q;
      name = sym same;
      shape = refl;
      before = no_template;
      letters = refl;
      after = d;
      later = rest;
    }
cut_step place past (another token n) i e d later = no-item (item_of token) n i

-- items with an e-variable are cut at the first
cut : {ts rest : List Placed} {q : List Element} {x : Name} {xs : List Name} → IsItems ts q rest → parts_of q ≡ x ∷ xs → Cut ts q rest x xs
unfolding parts_of
cut no_more e = no-cons e
cut (item_then {t = t} i d) e = cut_step t.place t.past (view t.token) i e d (λ later. cut d later)

parted-past : (p q : List Element) → parts_of p ≡ [] → parted (p ++ q) ≡ parted q
unfolding parts_of parted
parted-past [] q e = refl
parted-past (letter l ∷ p) q e = parted-past p q e
parted-past (part x ∷ p) q e = no-cons (sym e)

-- a template stands between two e-variables that are parted
middle : (x y : Name) (q : List Element) {p : List Element} {ts rest : List Placed} → IsTemplateOrNone ts p rest
    → parted (part x ∷ (p ++ part y ∷ q)) ≡ true → IsTemplate ts p rest
unfolding parted
middle x y q no_template e = impossible e
middle x y q (some_template d) e = d

two-parts : {ts rest : List Placed} {q : List Element} {x y : Name} → parted q ≡ true
    → (c : Cut ts q rest x (y ∷ [])) → Cut c.between c.last rest y [] → IsPattern ts q rest
two-parts {x = x} {y = y} a c d =
    let whole = c.shape ∙ ap (λ z. c.first ++ part (c.byte ∷ c.bytes) ∷ z) d.shape in
    let apart =
    sym (parted-past c.first (part (c.byte ∷ c.bytes) ∷ (d.first ++ part (d.byte ∷ d.bytes) ∷ d.last)) c.letters)
    ∙ (ap parted (sym whole) ∙ a)
    in
    rw whole (two_parts c.before (middle (c.byte ∷ c.bytes) (d.byte ∷ d.bytes) d.last d.before apart)
    (items-template d.after d.later))

from_cut : {ts rest : List Placed} {q : List Element} {x : Name} (xs : List Name) → length (x ∷ xs) ≤ 2 → parted q ≡ true
    → Cut ts q rest x xs → IsPattern ts q rest
from_cut [] n a c = rw c.shape (one_part c.before (items-template c.after c.later))
from_cut (y ∷ []) n a c = two-parts a c (cut c.after c.later)
from_cut (y ∷ z ∷ zs) n a c = absurd (omega arith)

from-items : {ts rest : List Placed} {q : List Element} (xs : List Name) → parts_of q ≡ xs → length xs ≤ 2 → parted q ≡ true
    → IsItems ts q rest → IsPattern ts q rest
from-items [] e n a d = no_part (items-template d e)
from-items (x ∷ xs) e n a d = from_cut xs n a (cut d e)

-- items that an allowed pattern has are a pattern of the grammar
pub items-pattern : {ts rest : List Placed} {q : List Element} → PatternFacts q → IsItems ts q rest → IsPattern ts q rest
items-pattern {q = q} f d = from-items (parts_of q) refl f.few f.apart d
