-- Every allowed expression of the grammar is read, however large the bound, if it is no less than the number of tokens.
use Prim.Native.Nat.{ℕ, zero, suc, ◌+◌, ◌≤◌}
use mathlib.Core.Path.{◌≡◌, refl, ap}
use mathlib.Core.Bool.{Bool, true, false, not}
use mathlib.Core.List.{List, ◌∷◌}
use mathlib.Core.Option.{some}
use native.Mathlib.Omega.{arith}
use borrow.Author.Tests.{le-leb, lt-ltb}
use lib.Dec.{eqb}
use lib.ListN.{length}
use Rattle.meaning.specs.Choice.{Name, both, every}
use Rattle.meaning.specs.Tree.{Expression, end, then_character, then_symbol, then_part, then_call}
use Rattle.meaning.specs.Names.{is_predicate}
use Rattle.meaning.specs.Allowed.{items_in, nesting, spelled_items, spelled_name, coming_after, coming_after_all, spelled_identifier, max_items}
use Rattle.meaning.specs.Allowed.{max_nesting}
use Rattle.meaning.specs.Tokens.{function_name, quoted, sign, Placed}
use Rattle.meaning.specs.Grammar.{standing, symbol_word, part_word, IsExpression, no_items, string_then, symbol_then, part_then, call_then}
use Rattle.meaning.specs.Reading.{parsed, item_of, is_item, then_item, is_sign, Progress, past_item, past_call, call_fault, called_fault}
use Rattle.meaning.specs.Reading.{parse_expression}
use Rattle.meaning.proofs.Laws.Choosing.{both_some}
use Rattle.meaning_accepting.proofs.Reading.Basics.{both_left, both_right}
use Rattle.meaning_accepting.proofs.Reading.Sound.{spelled-name-short}
use Rattle.meaning_accepting.proofs.Reading.ExpressionItems.{Leads, item-led, coming-every}

-- WHAT LEADS WITHIN THE LIMITS

leads-end : (symbols : List Name) (depth : ℕ) (so then : Progress) → Leads symbols depth so end then → so ≡ then
unfolding items_in coming_after_all
leads-end symbols depth so then l =
    let order = l.order in
    let items : so.items ≡ then.items = let p = l.items in omega arith in
    let coming : so.coming ≡ then.coming = cc in
    λ i. record { items = items i; coming = coming i }

coming-all-every : (f : Name → Bool) (e : Expression) (coming : List Name) {then : List Name}
    → every f coming ≡ true → coming_after_all e coming ≡ some then → every f then ≡ true
unfolding coming_after_all
coming-all-every f end coming {then} h e = let same : coming ≡ then = cc in rw same at h
coming-all-every f (then_character c e) coming h p = coming-all-every f e coming h p
coming-all-every f (then_symbol x e) coming h p = coming-all-every f e coming h p
coming-all-every f (then_part x e) coming h p =
    let w = both_some (coming_after x coming) (coming_after_all e) p in
    coming-all-every f e w.middle (coming-every f x coming h w.first).1 w.second
coming-all-every f (then_call place n a e) coming h p =
    let w = both_some (coming_after_all a coming) (coming_after_all e) p in
    coming-all-every f e w.middle (coming-all-every f a coming h w.first) w.second

-- a call of an expression that leads within the limits passes its tests
record CallLed (symbols : List Name) (depth : ℕ) (so : Progress) (n : Name) (a e : Expression) (then : Progress) : Type 0 where
  between : Progress
  faultless : call_fault depth so ≡ 0
  named : called_fault n ≡ 0
  coming : every spelled_identifier between.coming ≡ true
  inner : Leads symbols (suc depth) (past_call so) a between
  outer : Leads symbols depth between e then

call-led : (symbols : List Name) (depth : ℕ) (so : Progress) (place : ℕ) (n : Name) (a e : Expression) (then : Progress)
    → every spelled_identifier so.coming ≡ true
    → Leads symbols depth so (then_call place n a e) then → CallLed symbols depth so n a e then
unfolding items_in coming_after_all spelled_items nesting
call-led symbols depth so place n a e then c l =
    let w = both_some (coming_after_all a so.coming) (coming_after_all e) l.order in
    let items = l.items in
    let room = l.room in
    let deep = l.deep in
    let name = both_left (both (spelled_name n) (not (is_predicate n))) (both (spelled_items symbols a) (spelled_items symbols e)) l.spelled in
    let inside = both_right (both (spelled_name n) (not (is_predicate n))) (both (spelled_items symbols a) (spelled_items symbols e)) l.spelled in
    record {
      between = record { items = so.items + 1 + items_in a; coming = w.middle };
      faultless = rw (lt-ltb depth max_nesting (omega arith), le-leb (so.items + 1) max_items (omega arith));
      named =
          rw (spelled-name-short n (both_left (spelled_name n) (not (is_predicate n)) name), both_right (spelled_name n) (not (is_predicate n)) name);
      coming = coming-all-every spelled_identifier a so.coming c w.first;
      inner =
          record {
            items = refl;
            room = omega arith;
            order = w.first;
            spelled = both_left (spelled_items symbols a) (spelled_items symbols e) inside;
            deep = omega arith;
          };
      outer =
          record {
            items = omega arith;
            room = l.room;
            order = w.second;
            spelled = both_right (spelled_items symbols a) (spelled_items symbols e) inside;
            deep = omega arith;
          };
    }

-- ITEMS

-- the grammar's expressions, where strings and variables are one kind of item
pub data IsItemed : List Placed → Expression → List Placed → Type 0 where
  nothing_more : {ts : List Placed} → IsItemed ts end ts
  one_item_then : {t : Placed} {ts rest : List Placed} {e : Expression}
      → is_item (item_of t.token) ≡ true
      → IsItemed ts e rest
      → IsItemed (t ∷ ts) (then_item (item_of t.token) e) rest
  called_then : {ts ts₁ rest : List Placed} {at₁ past₁ at₂ past₂ at₃ past₃ : ℕ} {n : Name} {a e : Expression}
      → IsItemed ts a (standing (sign 62) at₃ past₃ ∷ ts₁)
      → IsItemed ts₁ e rest
      → IsItemed (standing (sign 60) at₁ past₁ ∷ standing (function_name n) at₂ past₂ ∷ ts) (then_call at₂ n a e) rest

pub itemed : {ts rest : List Placed} {e : Expression} → IsExpression ts e rest → IsItemed ts e rest
itemed no_items = nothing_more
itemed (string_then {place = place} {past = past} {text = text} d) = one_item_then {t = standing (quoted text) place past} refl (itemed d)
itemed (symbol_then {place = place} {past = past} {b = b} {x = x} d) = one_item_then {t = standing (symbol_word b x) place past} refl (itemed d)
itemed (part_then {place = place} {past = past} {b = b} {x = x} d) = one_item_then {t = standing (part_word b x) place past} refl (itemed d)
itemed (call_then k d) = called_then (itemed k) (itemed d)

-- every step eats a token
itemed-shorter : {ts rest : List Placed} {e : Expression} → IsItemed ts e rest → length rest ≤ length ts
itemed-shorter nothing_more = omega arith
itemed-shorter (one_item_then item d) = omega (arith, itemed-shorter d)
itemed-shorter (called_then k d) = omega (arith, itemed-shorter d, itemed-shorter k)

-- READING

-- the next token begins no item and no call
pub record Ends (rest : List Placed) : Type 0 where
  pub first : Placed
  pub others : List Placed
  pub shape : rest ≡ first ∷ others
  pub none-item : is_item (item_of first.token) ≡ false
  pub none-call : is_sign 60 first.token ≡ false

pub ends_with : (c place past : ℕ) (rest : List Placed) → eqb c 60 ≡ false → Ends (standing (sign c) place past ∷ rest)
ends_with c place past rest e = record { first = standing (sign c) place past; others = rest; shape = refl; none-item = refl; none-call = e }

module _ (symbols : List Name) (s : every spelled_identifier symbols ≡ true) where
  pub itemed-complete : {ts rest : List Placed} {e : Expression} → IsItemed ts e rest → Ends rest
      → (bound depth : ℕ) (so then : Progress) → every spelled_identifier so.coming ≡ true → length ts ≤ bound
      → Leads symbols depth so e then
      → parse_expression bound symbols depth so ts ≡ parsed (record { expression = e; progress = then }) rest
  unfolding parse_expression
  itemed-complete (nothing_more {ts = ts}) h zero depth so then c b l = absurd (omega (arith, ap length h.shape))
  itemed-complete (one_item_then item d) h zero depth so then c b l = absurd (omega arith)
  itemed-complete (called_then k d) h zero depth so then c b l = absurd (omega arith)
  itemed-complete nothing_more h (suc bound) depth so then c b l = rw (h.shape, h.none-item, h.none-call, leads-end symbols depth so then l)
  itemed-complete (one_item_then {t = t} {e = e} item d) h (suc bound) depth so then c b l =
      let i = item-led symbols depth so (item_of t.token) e then s c l in
      rw (item, i.faultless, itemed-complete d h bound depth (past_item (item_of t.token) so) then i.coming (omega arith) i.leads)
  itemed-complete (called_then {ts₁ = ts₁} {at₂ = at₂} {at₃ = at₃} {past₃ = past₃} {n = n} {a = a} {e = e} k d) h (suc bound) depth so then c b l =
      let i = call-led symbols depth so at₂ n a e then c l in
      rw (
        i.faultless,
        i.named,
        itemed-complete k (ends_with 62 at₃ past₃ ts₁ refl) bound (suc depth) (past_call so) i.between c (omega arith) i.inner,
        itemed-complete d h bound depth i.between then i.coming (omega (arith, itemed-shorter k)) i.outer,
      )
