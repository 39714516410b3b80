-- The two readers of expressions and calls read exactly the allowed expressions of the grammar.
use Prim.Native.Nat.{ℕ, zero, suc, ◌+◌, ◌≤◌}
use mathlib.Core.Path.{◌≡◌, refl, ap, ◌∙◌}
use mathlib.Core.Bool.{Bool, true, false, not}
use mathlib.Core.List.{List, [], ◌∷◌}
use native.Mathlib.Omega.{arith}
use borrow.Author.Tests.{leb-true, ltb-true}
use lib.Dec.{leb, ltb}
use lib.ListN.{length}
use Rattle.meaning.specs.Choice.{Name, pick, both}
use Rattle.meaning.specs.Tree.{Expression, end, then_call}
use Rattle.meaning.specs.Names.{is_predicate}
use Rattle.meaning.specs.Allowed.{items_in, nesting, spelled_items, spelled_name, coming_after_all, max_items, max_nesting, max_name}
use Rattle.meaning.specs.Tokens.{Token, function_name, sign, Placed}
use Rattle.meaning.specs.Grammar.{standing, IsExpression, no_items, string_then, symbol_then, part_then, call_then}
use Rattle.meaning.specs.Reading.{Parsed, stopped, parsed, follow, where_faultless, pass, pass_name, item_of, is_item, is_sign, Progress, Items}
use Rattle.meaning.specs.Reading.{Called}
use Rattle.meaning.specs.Reading.{past_item, past_call, item_fault, call_fault, called_fault, then_item, with_first, parse_call, parse_expression}
use Rattle.meaning_accepting.proofs.Reading.Basics.{both_left, both_right, both_true, impossible, never_both, check-parsed, passed, Followed}
use Rattle.meaning_accepting.proofs.Reading.Basics.{follow-parsed, Passed, pass-parsed, NamePassed, name-parsed, TokenView, a_string, a_symbol}
use Rattle.meaning_accepting.proofs.Reading.Basics.{a_part, another, view, sign_of, standing-as}
use Rattle.meaning_accepting.proofs.Reading.Sound.{sound_tokens, sound-first, sound-rest, item-sound, name-spelled}
use Rattle.meaning_accepting.proofs.Reading.ExpressionItems.{Leads, item-fits, item-leads}

-- READING

pub record ExpressionRead (symbols : List Name) (depth : ℕ) (so : Progress) (ts : List Placed) (i : Items) (rest : List Placed) : Type 0 where
  pub derived : IsExpression ts i.expression rest
  pub leads : Leads symbols depth so i.expression i.progress
  pub sound : sound_tokens rest ≡ true

pub record CallRead (symbols : List Name) (depth : ℕ) (so : Progress) (ts : List Placed) (c : Called) (rest : List Placed) : Type 0 where
  pub derived : (e : Expression) (more : List Placed) → IsExpression rest e more →
      IsExpression ts (then_call c.place c.name c.argument e) more
  pub leads : Leads symbols (suc depth) (past_call so) c.argument c.progress
  pub spelled : both (spelled_name c.name) (not (is_predicate c.name)) ≡ true
  pub sound : sound_tokens rest ≡ true

first-parsed : (first : Expression → Expression) (r : Parsed Items) {i : Items} {rest : List Placed} → with_first first r ≡ parsed i rest
    → (j : Items) × (r ≡ parsed j rest) × (record { expression = first j.expression; progress = j.progress } ≡ i)
first-parsed first (stopped n k) {i} {rest} e = never_both n k i rest e
first-parsed first (parsed j ts) {i} {rest} e =
    let left : ts ≡ rest = cc in
    (j, ap (λ z. parsed j z) left, cc)

item-derived : {token : Token} (place past : ℕ) → TokenView token → is_item (item_of token) ≡ true
    → {ts rest : List Placed} {e : Expression} → IsExpression ts e rest →
    IsExpression (standing token place past ∷ ts) (then_item (item_of token) e) rest
item-derived place past (a_string text) i d = string_then d
item-derived place past (a_symbol b x) i d = symbol_then d
item-derived place past (a_part b x) i d = part_then d
item-derived place past (another token n) i d = impossible (rw n at i)

-- a call before an expression
call-leads : (symbols : List Name) (depth : ℕ) (so : Progress) (c : Called) (e : Expression) (then : Progress)
    → Leads symbols (suc depth) (past_call so) c.argument c.progress
    → both (spelled_name c.name) (not (is_predicate c.name)) ≡ true
    → Leads symbols depth c.progress e then
    → Leads symbols depth so (then_call c.place c.name c.argument e) then
unfolding items_in coming_after_all spelled_items nesting
call-leads symbols depth so c e then a s l =
    record {
      items = let p = a.items in let q = l.items in omega arith;
      room = l.room;
      order = rw a.order l.order;
      spelled = both_true s (both_true a.spelled l.spelled);
      deep = let p = a.deep in let q = l.deep in omega arith;
    }

abbrev pub Reader : Type 0
Reader = ℕ → Progress → List Placed → Parsed Items

abbrev pub Sound : Reader → List Name → Type 0
Sound next symbols =
    (depth : ℕ) (so : Progress) (ts : List Placed) (i : Items) (rest : List Placed)
    → so.items ≤ max_items → depth ≤ max_nesting → sound_tokens ts ≡ true
    → next depth so ts ≡ parsed i rest → ExpressionRead symbols depth so ts i rest

abbrev pub closed : ℕ → Name → Items → List Placed → Parsed Called
closed place n given rest = parsed (record { place = place; name = n; argument = given.expression; progress = given.progress }) rest

abbrev pub closing : ℕ → Name → Items → List Placed → Parsed Called
closing place n given ts = pass 62 ts (closed place n given)

abbrev pub argued : Reader → ℕ → Progress → ℕ → Name → List Placed → Parsed Called
argued next depth so place n ts = follow (next (suc depth) (past_call so) ts) (closing place n)

module _ (next : Reader) (symbols : List Name) (later : Sound next symbols) (depth : ℕ) (so : Progress) where
  module _ {c : Called} {rest : List Placed} where
    call-closed : {t : Placed} {ts : List Placed} → t.token ≡ sign 60
        → (p : NamePassed Called called_fault ts (argued next depth so) c rest)
        → sound_tokens (standing (function_name p.name) p.place p.past ∷ p.tail) ≡ true
        → (q : Followed Items Called (next (suc depth) (past_call so) p.tail) (closing p.place p.name) c rest)
        → ExpressionRead symbols (suc depth) (past_call so) p.tail q.value q.between
        → Passed Called 62 q.between (closed p.place p.name q.value) c rest
        → CallRead symbols depth so (t ∷ ts) c rest
    call-closed {t} {ts} o p s q a r =
        let end = r.after in
        let left : r.tail ≡ rest = cc in
        let made : record { place = p.place; name = p.name; argument = q.value.expression; progress = q.value.progress } ≡ c = cc in
        let (short, unreserved) = passed (leb (length p.name) max_name) 4 _ (omega arith) p.faultless in
        let shape : q.between ≡ standing (sign 62) r.place r.past ∷ rest = r.shape ∙
        ap (λ z. standing (sign 62) r.place r.past ∷ z) left in
        record {
          derived = λ e more d. rw (p.shape, standing-as t o, ← made) (call_then (rw shape at a.derived) d);
          leads = rw (← made) a.leads;
          spelled =
              rw (← made)
              (both_true (name-spelled p.name (sound-first (standing (function_name p.name) p.place p.past) p.tail s) short)
              (passed (not (is_predicate p.name)) 5 0 (omega arith) unreserved).0);
          sound = sound-rest (standing (sign 62) r.place r.past) rest (rw shape at a.sound);
        }

    call-sound : (t : Placed) (ts : List Placed) → t.token ≡ sign 60 → sound_tokens ts ≡ true
        → parse_call next depth so t ts ≡ parsed c rest → CallRead symbols depth so (t ∷ ts) c rest
    call-sound t ts o s e =
        let named = pass_name called_fault ts (argued next depth so) in
        let (z, after) = check-parsed (call_fault depth so) t named e in
        let p = name-parsed called_fault ts (argued next depth so) after in
        let limits = (passed (both (ltb depth max_nesting) (leb (so.items + 1) max_items)) 4 0 (omega arith) z).0 in
        let deep = ltb-true depth max_nesting (both_left (ltb depth max_nesting) (leb (so.items + 1) max_items) limits) in
        let room = leb-true (so.items + 1) max_items (both_right (ltb depth max_nesting) (leb (so.items + 1) max_items) limits) in
        let sound : sound_tokens (standing (function_name p.name) p.place p.past ∷ p.tail) ≡ true = rw p.shape at s in
        let q = follow-parsed (next (suc depth) (past_call so) p.tail) (closing p.place p.name) p.after in
        call-closed o p sound q
        (later (suc depth) (past_call so) p.tail q.value q.between room deep
        (sound-rest (standing (function_name p.name) p.place p.past) p.tail sound) q.before)
        (pass-parsed 62 q.between (closed p.place p.name q.value) q.after)

  -- what comes after a call
  abbrev outside : Called → List Placed → Parsed Items
  outside c rest = with_first (then_call c.place c.name c.argument) (next depth c.progress rest)

  module _ {i : Items} {rest : List Placed} where
    after-item : (t : Placed) (ts : List Placed) → is_item (item_of t.token) ≡ true → depth ≤ max_nesting → sound_tokens (t ∷ ts) ≡ true
        → item_fault symbols so (item_of t.token) ≡ 0
        → with_first (then_item (item_of t.token)) (next depth (past_item (item_of t.token) so) ts) ≡ parsed i rest
        → ExpressionRead symbols depth so (t ∷ ts) i rest
    after-item t ts b d s z e =
        let item = item_of t.token in
        let f = item-fits symbols so item (item-sound t.token (sound-first t ts s)) b z in
        let (j, before, made) = first-parsed (then_item item) (next depth (past_item item so) ts) e in
        let r = later depth (past_item item so) ts j rest f.room d (sound-rest t ts s) before in
        record {
          derived = rw (← made) (item-derived t.place t.past (view t.token) b r.derived);
          leads = rw (← made) (item-leads symbols depth so item j.expression j.progress f r.leads);
          sound = r.sound;
        }

    after_call : (t : Placed) (ts : List Placed) → is_sign 60 t.token ≡ true → depth ≤ max_nesting → sound_tokens (t ∷ ts) ≡ true
        → (p : Followed Called Items (parse_call next depth so t ts) outside i rest)
        → CallRead symbols depth so (t ∷ ts) p.value p.between
        → ExpressionRead symbols depth so (t ∷ ts) i rest
    after_call t ts o d s p r =
        let c = p.value in
        let (j, before, made) = first-parsed (then_call c.place c.name c.argument) (next depth c.progress p.between) p.after in
        let l = later depth c.progress p.between j rest r.leads.room d r.sound before in
        record {
          derived = rw (← made) (r.derived j.expression rest l.derived);
          leads = rw (← made) (call-leads symbols depth so c j.expression j.progress r.leads r.spelled l.leads);
          sound = l.sound;
        }

    at-end : (t : Placed) (ts : List Placed) → so.items ≤ max_items → depth ≤ max_nesting → sound_tokens (t ∷ ts) ≡ true
        → parsed (record { expression = end; progress = so }) (t ∷ ts) ≡ parsed i rest → ExpressionRead symbols depth so (t ∷ ts) i rest
    unfolding items_in coming_after_all spelled_items nesting
    at-end t ts m d s e =
        let left : t ∷ ts ≡ rest = cc in
        let made : record { expression = end; progress = so } ≡ i = cc in
        record {
          derived = rw (← made, ← left) no_items;
          leads = rw (← made) (record { items = omega arith; room = m; order = refl; spelled = refl; deep = omega arith });
          sound = rw (← left) s;
        }

    expression-step : (t : Placed) (ts : List Placed) (a b : Bool) → is_item (item_of t.token) ≡ a → is_sign 60 t.token ≡ b
        → so.items ≤ max_items → depth ≤ max_nesting → sound_tokens (t ∷ ts) ≡ true
        → pick a
        (where_faultless (item_fault symbols so (item_of t.token)) t
        (with_first (then_item (item_of t.token)) (next depth (past_item (item_of t.token) so) ts)))
        (pick b (follow (parse_call next depth so t ts) outside) (parsed (record { expression = end; progress = so }) (t ∷ ts)))
        ≡ parsed i rest
        → ExpressionRead symbols depth so (t ∷ ts) i rest
    expression-step t ts true b p q m d s e =
        let (z, after) = check-parsed (item_fault symbols so (item_of t.token)) t _ e in
        after-item t ts p d s z after
    expression-step t ts false true p q m d s e =
        let f = follow-parsed (parse_call next depth so t ts) outside e in
        after_call t ts q d s f (call-sound t ts (sign_of 60 t.token q) (sound-rest t ts s) f.before)
    expression-step t ts false false p q m d s e = at-end t ts m d s e

-- what the expression's reader reads is an expression of the grammar and leads within the limits
pub expression-sound : (bound : ℕ) (symbols : List Name) → Sound (parse_expression bound symbols) symbols
unfolding parse_expression
expression-sound zero symbols depth so ts i rest m d s e = never_both 0 0 i rest e
expression-sound (suc bound) symbols depth so [] i rest m d s e = never_both 0 0 i rest e
expression-sound (suc bound) symbols depth so (t ∷ ts) i rest m d s e =
    expression-step (parse_expression bound symbols) symbols (expression-sound bound symbols) depth so t ts
    (is_item (item_of t.token)) (is_sign 60 t.token) refl refl m d s e
