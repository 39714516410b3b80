-- The expression's reader: a string, an s-variable and an e-variable joined to the expression.
use Prim.Native.Nat.{ℕ, suc, ◌+◌, ◌-◌, ◌*◌, ◌≤◌, ◌<◌}
use mathlib.Core.Path.{◌≡◌, refl, sym, ◌∙◌, ap}
use mathlib.Core.Bool.{Bool, true, false}
use mathlib.Core.List.{List, [], ◌∷◌}
use mathlib.Core.Logic.{inl, inr}
use mathlib.Core.Option.{Option, none, some}
use native.Mathlib.Omega.{arith}
use lib.Dec.{T, leb}
use lib.ListN.{length, take, drop, length-drop, length-take}
use lib.Seq.{drop-drop, take_all}
use borrow.Author.Tests.{lt-leb, le-leb}
use Rattle.std.specs.Prelude as Code
use Rattle.std.specs.Prelude.{Result, Ok, Err, Some, MatchResult, option_map}
use Rattle.meaning.specs.Choice.{Bytes, Name, pick, both, is_some, every, same_bytes}
use Rattle.meaning.specs.Answers.{over_limit, wrong_later_variable}
use Rattle.meaning.specs.Allowed.{max_identifier, coming_after, max_items}
use Rattle.tape_layout.specs.Tape.{named, kind_width, part_word, symbol_word}
use Rattle.meaning.specs.Reading as Reading
use Rattle.meaning.specs.Reading.{Item, characters, symbol_item, part_item, subject_fault, fault_unless}
use Rattle.read_tokens.specs.View as View
use Rattle.read_tokens.specs.View.{characters_in, quotation_at}
use Rattle.read_tokens.specs.declared.Span.{Span}
use Rattle.read_tokens.specs.declared.Placed.{Placed}
use Rattle.answers.specs.declared.Refusal.{Refusal}
use Rattle.answers.specs.declared.Refusal.TheVariants.{OverLimit, WrongLaterVariable}
use Rattle.answers.specs.declared.Fault.{Fault}
use Rattle.read_bookkeeping.specs.declared.variables.Variables.{Variables}
use Rattle.read_functions.specs.declared.expressions.ExpressionCounts.{ExpressionCounts}
use Rattle.read_bookkeeping.specs.Tables.{names_in, place_in, max_parts}
use Rattle.answers.specs.Numbers.{refusal_number}
use Rattle.read_bookkeeping.specs.Written.{WroteOnTape, string_from, is_quiet, Went}
use Rattle.read_bookkeeping.specs.Items.{part_spans, symbol_names, Identifier, StringAt}
use Rattle.read_functions.specs.Expressions.{progress_at, Going, item_tape, VariableTaken, TakenInExpression, WrongInExpression}
use Rattle.read_functions.specs.Expressions.{JoinsItem, TokenJoined, JoinsToken}
use Rattle.read_bookkeeping.proofs.Finding.{those_after, place_coming}
use Rattle.read_bookkeeping.proofs.Declaring.{names-length, names-drop}
use Rattle.read_bookkeeping.proofs.Lengths.{too_long, short-enough, within}
use Rattle.read_bookkeeping.proofs.Items.{ItemHere}
use Rattle.read_bookkeeping.proofs.Itemed.{string-went, string-quiet, variable-went, variable-quiet}
use Rattle.read_bookkeeping.proofs.Items.{identifier-inside}
use Rattle.read_functions.proofs.Onward.{going-after}

-- an item with a fault
wrongs : {text : Bytes} {v : Variables} {s : ExpressionCounts} {tape : List ℕ} {item : Item} {place past : ℕ} {tape' : List ℕ} {fault : Fault}
    → Reading.item_fault (symbol_names text v) (progress_at text v s) item ≡ refusal_number fault.refusal
    → fault.place ≡ place
    → JoinsItem text v s tape item place past tape' (Err fault)
wrongs f p = record { gives = record { number = f; place = p } }

-- STRINGS

module _ {text : Bytes} {v : Variables} {s : ExpressionCounts} {place past count : ℕ}
    (p : Going text v s × StringAt text s.at place past count) where
  abbrev string : Item
  string = characters (characters_in (quotation_at text place))

  pub string-many : max_items < s.items + count → {tape tape' : List ℕ}
      → JoinsItem text v s tape string place past tape' (Err (record { refusal = OverLimit; place = place }))
  string-many w = wrongs (rw (p.1.counted, lt-leb (s.items + count) max_items w)) refl

  pub string-joined : s.items + count ≤ max_items → {tape tape' : List ℕ} {words : ℕ}
      → WroteOnTape tape s.words (characters_in (string_from text (place + 1))) words tape' ×
      T (every is_quiet (characters_in (string_from text (place + 1))))
      → JoinsItem text v s tape string place past tape'
      (Ok (record { at = past; words = words; items = s.items + count; passed = s.passed }))
  string-joined few w =
      let g = p.0 in
      let o = string-went g.ready p.1 w.0 in
      record {
        gives =
            record {
              going = going-after g o few g.passed;
              at = refl;
              went = o;
              quiet = string-quiet g.ready p.1 w.1;
              fault = rw (p.1.counted, le-leb (s.items + count) max_items few);
              progress = rw p.1.counted;
            };
      }

-- VARIABLES

module _ {text : Bytes} {v : Variables} {s : ExpressionCounts} {x : Span} (place : ℕ)
    (p : Going text v s × Identifier text s.at x) where
  abbrev name : Name
  name = View.span_text text x

  abbrev short : Bool
  short = leb (length name) max_identifier

  -- refused with this
  abbrev Refuses : Item → Refusal → List ℕ → List ℕ → Type 0
  Refuses item refusal tape tape' = JoinsItem text v s tape item place x.past tape' (Err (record { refusal = refusal; place = place }))

  -- too many items, whatever else
  many : {is : Bool} → short ≡ is → max_items ≤ s.items → both short (leb (s.items + 1) max_items) ≡ false
  many {is = true} e m = rw (e, lt-leb (s.items + 1) max_items (omega arith))
  many {is = false} e m = rw e

  pub variable-many : {item : Item}
      → (both short (leb (s.items + 1) max_items) ≡ false
      → Reading.item_fault (symbol_names text v) (progress_at text v s) item ≡
      over_limit)
      → max_items ≤ s.items
      → {tape tape' : List ℕ} → Refuses item OverLimit tape tape'
  variable-many limited m = wrongs (limited (many refl m)) refl

  pub part-long : max_identifier < x.past - x.from → {tape tape' : List ℕ} → Refuses (part_item name) OverLimit tape tape'
  part-long l = wrongs (rw (too_long text x (identifier-inside p.1) max_identifier l)) refl

  few-items : s.items < max_items → leb (s.items + 1) max_items ≡ true
  few-items m = le-leb (s.items + 1) max_items (omega arith)

  -- an s-variable that has room: what is wrong with it later is wrong with it here
  symbol-like : (m : s.items < max_items) → {is : Bool} → short ≡ is
      → Reading.item_fault (symbol_names text v) (progress_at text v s) (symbol_item name)
      ≡ subject_fault (symbol_names text v) name
  symbol-like m {is = true} e = rw (e, few-items m)
  symbol-like m {is = false} e = rw e

  pub symbol-bad : s.items < max_items → {fault : Fault} → refusal_number fault.refusal ≡ subject_fault (symbol_names text v) name
      → fault.place ≡ place
      → {tape tape' : List ℕ} → JoinsItem text v s tape (symbol_item name) place x.past tape' (Err fault)
  symbol-bad m e h = wrongs (symbol-like m refl ∙ sym e) h

  -- a variable that has no fault, as an item of a kind
  variable-joined : s.items < max_items → x.past - x.from ≤ max_identifier → (item : Item) (kind : ℕ) → item_tape item ≡ named kind name → kind ≤ 2
      → {passed : ℕ} → passed ≤ length (part_spans v)
      → Reading.item_fault (symbol_names text v) (progress_at text v s) item ≡ 0
      → Reading.past_item item (progress_at text v s) ≡ record { items = s.items + 1; coming = names_in text (drop passed (part_spans v)) }
      → {tape tape' : List ℕ} {next : ExpressionCounts} → VariableTaken text s x (kind * kind_width) passed tape tape' next
      → JoinsItem text v s tape item place x.past tape' (Ok next)
  variable-joined m brief item kind q low h f e {tape} {tape'} {next} taken =
      let g = p.0 in
      let o : Went text s.at s.words tape x.past next.words tape' (item_tape item) =
      rw q (variable-went g.ready p.1 kind refl taken.wrote) in
      record {
        gives =
            rw taken.same
            (record {
              going = going-after g o (omega arith) h;
              at = refl;
              went = o;
              quiet = rw q (variable-quiet g.ready p.1 kind (omega arith) taken.quiet);
              fault = f;
              progress = e;
            });
      }

  pub symbol-joined : s.items < max_items → subject_fault (symbol_names text v) name ≡ 0 → {tape tape' : List ℕ} {next : ExpressionCounts}
      → VariableTaken text s x symbol_word s.passed tape tape' next
      → JoinsItem text v s tape (symbol_item name) place x.past tape' (Ok next)
  symbol-joined m f taken =
      variable-joined m (within text x (identifier-inside p.1) max_identifier 3 _ f) (symbol_item name) 1 refl (omega arith) p.0.passed
      (symbol-like m refl ∙ f) refl taken

-- the parts from one on, to the last
pub from-on : {A : Type 0} (n : ℕ) (xs : List A) → take (length xs - n) (drop n xs) ≡ drop n xs
from-on n xs = take_all (length xs - n) (drop n xs) (omega (arith, length-drop n xs))

-- an e-variable that has room was looked for among those that may still come
pub record Sought (text : Bytes) (v : Variables) (s : ExpressionCounts) (x : Span) (r : Code.Option ℕ) : Type 0 where
  pub here : Going text v s × Identifier text s.at x
  pub few : s.items < max_items
  pub brief : x.past - x.from ≤ max_identifier
  pub found : r ≡ place_in (View.span_text text x) (progress_at text v s).coming

found-below : (x : Name) (names : List Name) {place : ℕ} → place_in x names ≡ Code.Some place → place < length names
unfolding place_in
found-below x [] e = let z : ◌≡◌ {A = ℕ} 0 1 = cc in absurd (omega arith)
found-below x (y ∷ ys) {place} e = by (same_bytes x y) (place_in x ys) (λ k q. found-below x ys q) e
  where
    by : (same : Bool) (o : Code.Option ℕ) → ((k : ℕ) → o ≡ Code.Some k → k < length ys)
        → pick same (Code.Some 0) (option_map suc o) ≡ Code.Some place
        → place < suc (length ys)
    by true o h q = let z : 0 ≡ place = cc in omega arith
    by false Code.None h q = let z : ◌≡◌ {A = ℕ} 0 1 = cc in absurd (omega arith)
    by false (Code.Some k) h q = let z : suc k ≡ place = cc in omega (arith, h k refl)

module _ {text : Bytes} {v : Variables} {s : ExpressionCounts} {x : Span} {r : Code.Option ℕ} (place : ℕ) (q : Sought text v s x r) where
  abbrev sought : Name
  sought = View.span_text text x

  abbrev those : List Name
  those = (progress_at text v s).coming

  after-it : {r' : Code.Option ℕ} → r ≡ r' → coming_after sought those ≡ those_after those r'
  after-it e = place_coming sought those ∙ rw (sym q.found ∙ e)

  fault-is : {is : Bool} → is_some (coming_after sought those) ≡ is
      → Reading.item_fault (symbol_names text v) (progress_at text v s) (part_item sought)
      ≡ fault_unless is wrong_later_variable 0
  fault-is e = rw (short-enough text x (identifier-inside q.here.1) max_identifier q.brief, few-items place q.here q.few, e)

  pub part-unknown : r ≡ Code.None → {tape tape' : List ℕ} → Refuses place q.here (part_item sought) WrongLaterVariable tape tape'
  part-unknown e = wrongs (fault-is {is = false} (rw (after-it e))) refl

  module _ {found : ℕ} (e : r ≡ Code.Some found) where
    abbrev those-after : List Span
    those-after = drop (s.passed + found + 1) (part_spans v)

    below : found < length (drop s.passed (part_spans v))
    below = rw (names-length text (drop s.passed (part_spans v))) at (found-below sought those (sym q.found ∙ e))

    names-left : drop (suc found) those ≡ names_in text those-after
    names-left =
        let n : s.passed + suc found ≡ s.passed + found + 1 = omega arith in
        sym (names-drop text (suc found) (drop s.passed (part_spans v)))
        ∙ ap (names_in text) (drop-drop (suc found) s.passed (part_spans v) ∙ rw n)

    pub part-passed : s.passed + found + 1 ≤ length (part_spans v)
    part-passed = omega (arith, below, length-drop s.passed (part_spans v))

    pub part-few : s.passed + found + 1 ≤ max_parts
    part-few = omega (arith, part-passed, length-take v.part_count v.parts, v.few_parts)

    pub part-joined : {tape tape' : List ℕ} {next : ExpressionCounts}
        → VariableTaken text s x part_word (s.passed + found + 1) tape tape' next
        → JoinsItem text v s tape (part_item sought) place x.past tape' (Ok next)
    part-joined taken =
        variable-joined place q.here q.few q.brief (part_item sought) 2 refl (omega arith) part-passed
        (fault-is {is = true} (rw (after-it e)))
        (rw (after-it e, names-left))
        taken

-- TOKENS

-- what comes of the item comes of the token
module _ {text : Bytes} {v : Variables} {s : ExpressionCounts} {tape : List ℕ} {t : Placed} {item : Item} {past : ℕ} {tape' : List ℕ}
    (h : ItemHere text t item past) where
  pub joins : {next : ExpressionCounts} → JoinsItem text v s tape item t.place past tape' (Ok next) → JoinsToken text v s tape t tape' (Ok (Some next))
  joins a = record { gives = (rw (h.is, ← h.ends) a.gives, rw h.is h.some) }

  pub joins-not : {fault : Fault} → JoinsItem text v s tape item t.place past tape' (Err fault) → JoinsToken text v s tape t tape' (Err fault)
  joins-not a = record { gives = inl (rw h.is a.gives, rw h.is h.some) }
