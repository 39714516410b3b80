-- What an expression brings to the progress of its sentence, and what one more item or call does to it.
use Prim.Native.Nat.{ℕ, ◌+◌, ◌≤◌}
use mathlib.Core.Path.{◌≡◌, refl, sym, ◌∙◌}
use mathlib.Core.Bool.{Bool, true, false}
use mathlib.Core.List.{List, [], ◌∷◌}
use mathlib.Core.Option.{Option, none, some}
use native.Mathlib.Nat.{zero-add, suc-add}
use native.Mathlib.Omega.{arith}
use borrow.Author.Tests.{leb-true, le-leb}
use lib.Dec.{leb}
use lib.ListN.{length}
use Rattle.meaning.specs.Choice.{Bytes, Name, pick, both, every, is_some, same_bytes}
use Rattle.meaning.specs.Tree.{Expression}
use Rattle.meaning.specs.Allowed.{is_byte, member, items_in, nesting, spelled_items, coming_after, coming_after_all, where_some, spelled_identifier}
use Rattle.meaning.specs.Allowed.{max_items}
use Rattle.meaning.specs.Allowed.{max_nesting, max_identifier}
use Rattle.meaning.specs.Grammar.{then_characters}
use Rattle.meaning.specs.Reading.{Item, characters, symbol_item, part_item, no_item, is_item, Progress, item_count, coming_past, coming_or, past_item}
use Rattle.meaning.specs.Reading.{item_fault, fault_unless, then_item}
use Rattle.meaning_accepting.proofs.Reading.Basics.{both_left, both_right, both_true, impossible, no_value, passed}
use Rattle.meaning.proofs.Laws.Choosing.{both_some, same_bytes_lem}
use Rattle.meaning_accepting.proofs.Reading.Lists.{both-assoc, member-every}
use Rattle.meaning_accepting.proofs.Reading.Sound.{sound_item, spelled-identifier-short}

-- an expression with so many calls round it leads from one progress to another within the limits
pub record Leads (symbols : List Name) (depth : ℕ) (so : Progress) (e : Expression) (then : Progress) : Type 0 where
  pub items : then.items ≡ so.items + items_in e
  pub room : then.items ≤ max_items
  pub order : coming_after_all e so.coming ≡ some then.coming
  pub spelled : spelled_items symbols e ≡ true
  pub deep : nesting e + depth ≤ max_nesting

-- STRINGS

written-items : (text : Bytes) (e : Expression) → items_in (then_characters text e) ≡ length text + items_in e
unfolding then_characters items_in
written-items [] e = sym (zero-add (items_in e))
written-items (c ∷ text) e = rw (written-items text e) (sym (suc-add (length text) (items_in e)))

written-nesting : (text : Bytes) (e : Expression) → nesting (then_characters text e) ≡ nesting e
unfolding then_characters nesting
written-nesting [] e = refl
written-nesting (c ∷ text) e = written-nesting text e

written-spelled : (symbols : List Name) (text : Bytes) (e : Expression)
    → spelled_items symbols (then_characters text e) ≡ both (every is_byte text) (spelled_items symbols e)
unfolding then_characters spelled_items every
written-spelled symbols [] e = refl
written-spelled symbols (c ∷ text) e =
    rw (written-spelled symbols text e) (sym (both-assoc (is_byte c) (every is_byte text) (spelled_items symbols e)))

written-order : (text : Bytes) (e : Expression) (coming : List Name) → coming_after_all (then_characters text e) coming ≡ coming_after_all e coming
unfolding then_characters coming_after_all
written-order [] e coming = refl
written-order (c ∷ text) e coming = written-order text e coming

-- ANY ITEM

abbrev item_spelled : List Name → Item → Bool
item_spelled symbols (characters text) = every is_byte text
item_spelled symbols (symbol_item x) = member x symbols
item_spelled symbols (part_item x) = true
item_spelled symbols no_item = true

abbrev item_coming : Item → List Name → Option (List Name)
item_coming (characters text) coming = some coming
item_coming (symbol_item x) coming = some coming
item_coming (part_item x) coming = coming_after x coming
item_coming no_item coming = some coming

item-items : (item : Item) (e : Expression) → items_in (then_item item e) ≡ item_count item + items_in e
unfolding items_in
item-items (characters text) e = written-items text e
item-items (symbol_item x) e = omega arith
item-items (part_item x) e = omega arith
item-items no_item e = omega arith

pub item-nesting : (item : Item) (e : Expression) → nesting (then_item item e) ≡ nesting e
unfolding nesting
item-nesting (characters text) e = written-nesting text e
item-nesting (symbol_item x) e = refl
item-nesting (part_item x) e = refl
item-nesting no_item e = refl

item-spelled : (symbols : List Name) (item : Item) (e : Expression)
    → spelled_items symbols (then_item item e) ≡ both (item_spelled symbols item) (spelled_items symbols e)
unfolding spelled_items
item-spelled symbols (characters text) e = written-spelled symbols text e
item-spelled symbols (symbol_item x) e = refl
item-spelled symbols (part_item x) e = refl
item-spelled symbols no_item e = refl

item-order : (item : Item) (e : Expression) (coming : List Name)
    → coming_after_all (then_item item e) coming ≡ where_some (item_coming item coming) (coming_after_all e)
unfolding coming_after_all
item-order (characters text) e coming = written-order text e coming
item-order (symbol_item x) e coming = refl
item-order (part_item x) e coming = refl
item-order no_item e coming = refl

some_or : (o : Option (List Name)) → is_some o ≡ true → o ≡ some (coming_or o)
some_or none e = impossible e
some_or (some coming) e = refl

-- what the tests of an item say
pub record ItemFits (symbols : List Name) (so : Progress) (item : Item) : Type 0 where
  pub room : so.items + item_count item ≤ max_items
  pub spelled : item_spelled symbols item ≡ true
  pub order : item_coming item so.coming ≡ some (coming_past item so.coming)

-- an identifier is short, there is room for one more item, and no later fault
variable-room : (x : Name) (items later : ℕ) → fault_unless (both (leb (length x) max_identifier) (leb (items + 1) max_items)) 4 later ≡ 0
    → (items + 1 ≤ max_items) × (later ≡ 0)
variable-room x items later z =
    let limits : Bool = both (leb (length x) max_identifier) (leb (items + 1) max_items) in
    let (fits, others) = passed limits 4 later (omega arith) z in
    (leb-true _ _ (both_right (leb (length x) max_identifier) _ fits), others)

pub item-fits : (symbols : List Name) (so : Progress) (item : Item) → sound_item item ≡ true → is_item item ≡ true
    → item_fault symbols so item ≡ 0 → ItemFits symbols so item
item-fits symbols so (characters text) s i z =
    record { room = leb-true _ _ (passed (leb (so.items + length text) max_items) 4 0 (omega arith) z).0; spelled = s; order = refl }
item-fits symbols so (symbol_item x) s i z =
    let (room, known) = variable-room x so.items _ z in
    record { room = room; spelled = (passed (member x symbols) 7 0 (omega arith) known).0; order = refl }
item-fits symbols so (part_item x) s i z =
    let (room, comes) = variable-room x so.items _ z in
    record {
      room = room;
      spelled = refl;
      order = some_or (coming_after x so.coming) (passed (is_some (coming_after x so.coming)) 7 0 (omega arith) comes).0;
    }
item-fits symbols so no_item s i z = impossible i

-- an item before an expression
pub item-leads : (symbols : List Name) (depth : ℕ) (so : Progress) (item : Item) (e : Expression) (then : Progress)
    → ItemFits symbols so item → Leads symbols depth (past_item item so) e then → Leads symbols depth so (then_item item e) then
item-leads symbols depth so item e then f l =
    record {
      items = l.items ∙ rw (item-items item e) (omega arith);
      room = l.room;
      order = rw (item-order item e so.coming, f.order) l.order;
      spelled = rw (item-spelled symbols item e) (both_true f.spelled l.spelled);
      deep = rw (item-nesting item e) l.deep;
    }

-- THE OTHER WAY ROUND

-- the e-variables that may still come stay well spelled, and one that comes is one of them
coming-step : (f : Name → Bool) (b : Bool) (x y : Name) (ys : List Name) (later : Option (List Name)) {then : List Name} → same_bytes x y ≡ b
    → every f (y ∷ ys) ≡ true → pick b (some ys) later ≡ some then
    → (later ≡ some then → (f x ≡ true) × (every f then ≡ true)) → (f x ≡ true) × (every f then ≡ true)
unfolding every
coming-step f true x y ys later {then} same h e go =
    let one : ys ≡ then = cc in
    (rw (same_bytes_lem x y same) (both_left (f y) (every f ys) h), rw (← one) (both_right (f y) (every f ys) h))
coming-step f false x y ys later same h e go = go e

pub coming-every : (f : Name → Bool) (x : Name) (coming : List Name) {then : List Name}
    → every f coming ≡ true → coming_after x coming ≡ some then → (f x ≡ true) × (every f then ≡ true)
unfolding coming_after every
coming-every f x [] h e = no_value e
coming-every f x (y ∷ ys) h e =
    coming-step f (same_bytes x y) x y ys (coming_after x ys) refl h e (λ g. coming-every f x ys (both_right (f y) (every f ys) h) g)

-- an item of an expression that leads within the limits passes its tests
pub record ItemLed (symbols : List Name) (depth : ℕ) (so : Progress) (item : Item) (e : Expression) (then : Progress) : Type 0 where
  pub faultless : item_fault symbols so item ≡ 0
  pub coming : every spelled_identifier (past_item item so).coming ≡ true
  pub leads : Leads symbols depth (past_item item so) e then

coming-past : (item : Item) (coming : List Name) {a : List Name} → item_coming item coming ≡ some a → coming_past item coming ≡ a
coming-past (characters text) coming e = cc
coming-past (symbol_item x) coming e = cc
coming-past (part_item x) coming e = rw e
coming-past no_item coming e = cc

past-every : (item : Item) (coming : List Name) {a : List Name} → item_coming item coming ≡ some a
    → every spelled_identifier coming ≡ true → every spelled_identifier (coming_past item coming) ≡ true
past-every (characters text) coming e s = s
past-every (symbol_item x) coming e s = s
past-every (part_item x) coming e s = rw e (coming-every spelled_identifier x coming s e).1
past-every no_item coming e s = s

item-faultless : (symbols : List Name) (so : Progress) (item : Item) {a : List Name}
    → every spelled_identifier symbols ≡ true → every spelled_identifier so.coming ≡ true
    → so.items + item_count item ≤ max_items → item_spelled symbols item ≡ true → item_coming item so.coming ≡ some a
    → item_fault symbols so item ≡ 0
item-faultless symbols so (characters text) s c r k o = rw (le-leb (so.items + length text) max_items r)
item-faultless symbols so (symbol_item x) s c r k o =
    rw (spelled-identifier-short x (member-every spelled_identifier x symbols s k), le-leb (so.items + 1) max_items r, k)
item-faultless symbols so (part_item x) s c r k o =
    rw (spelled-identifier-short x (coming-every spelled_identifier x so.coming c o).0, le-leb (so.items + 1) max_items r, o)
item-faultless symbols so no_item s c r k o = refl

pub item-led : (symbols : List Name) (depth : ℕ) (so : Progress) (item : Item) (e : Expression) (then : Progress)
    → every spelled_identifier symbols ≡ true → every spelled_identifier so.coming ≡ true
    → Leads symbols depth so (then_item item e) then → ItemLed symbols depth so item e then
item-led symbols depth so item e then s c l =
    let order = both_some (item_coming item so.coming) (coming_after_all e) (rw (item-order item e so.coming) at l.order) in
    let spelled = rw (item-spelled symbols item e) at l.spelled in
    let items = rw (item-items item e) at l.items in
    let room = l.room in
    record {
      faultless =
          item-faultless symbols so item s c (omega arith) (both_left (item_spelled symbols item) (spelled_items symbols e) spelled) order.first;
      coming = past-every item so.coming order.first c;
      leads =
          record {
            items = omega arith;
            room = l.room;
            order = rw (coming-past item so.coming order.first) order.second;
            spelled = both_right (item_spelled symbols item) (spelled_items symbols e) spelled;
            deep = rw (item-nesting item e) at l.deep;
          };
    }
