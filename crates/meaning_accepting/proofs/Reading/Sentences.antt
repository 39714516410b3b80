-- The sentence's reader reads exactly the allowed sentences of the grammar.
use Prim.Native.Nat.{ℕ}
use mathlib.Core.Path.{◌≡◌, refl, sym, ap, subst}
use mathlib.Core.Bool.{Bool, true, false}
use mathlib.Core.List.{List, [], ◌∷◌, ◌++◌}
use native.Mathlib.Omega.{arith}
use borrow.Author.Tests.{leb-true, le-leb}
use lib.Dec.{leb}
use lib.ListN.{length}
use Rattle.meaning.specs.Choice.{Name, pick, every, is_some}
use Rattle.meaning.specs.Tree.{character, symbol, Element, letter, part, Condition, Expression, Sentence}
use Rattle.meaning.specs.Allowed.{spelled_element, spelled_identifier, member, added, symbols_of, symbols_from, parts_of, letters_in, parted}
use Rattle.meaning.specs.Allowed.{distinct}
use Rattle.meaning.specs.Allowed.{items_in, nesting, spelled_items, coming_after_all, max_items, max_nesting, max_conditions, allowed_pattern}
use Rattle.meaning.specs.Allowed.{all_of_pattern}
use Rattle.meaning.specs.Allowed.{allowed_conditions, allowed_expression, allowed_sentence}
use Rattle.meaning.specs.Tokens.{sign, Placed}
use Rattle.meaning.specs.Grammar.{standing, IsPattern, IsConditions, no_conditions, condition_then, IsSentence, is_sentence}
use Rattle.meaning.specs.Reading.{Parsed, parsed, follow, pass, item_of, is_item, begins, Progress, Items, parse_pattern, parse_conditions}
use Rattle.meaning.specs.Reading.{parse_expression, parse_sentence}
use Rattle.meaning.proofs.Laws.Choosing.{given-some}
use Rattle.meaning_accepting.proofs.Reading.Basics.{both_left, both_right, both_true, Followed, follow-parsed, Passed, pass-parsed}
use Rattle.meaning_accepting.proofs.Reading.Lists.{every_append}
use Rattle.meaning_accepting.proofs.Reading.Sound.{sound_tokens, sound-rest}
use Rattle.meaning_accepting.proofs.Reading.PatternFacts.{PatternFacts, pattern-facts, facts-pattern}
use Rattle.meaning_accepting.proofs.Reading.Patterns.{IsItems, no_more, item_then, PatternRead, pattern-sound, pattern-complete, pattern-items}
use Rattle.meaning_accepting.proofs.Reading.Patterns.{items-pattern}
use Rattle.meaning_accepting.proofs.Reading.Conditions.{ConditionsRead, conditions-sound, conditions-complete}
use Rattle.meaning_accepting.proofs.Reading.ExpressionItems.{Leads}
use Rattle.meaning_accepting.proofs.Reading.Expressions.{ExpressionRead, expression-sound}
use Rattle.meaning_accepting.proofs.Reading.ExpressionsComplete.{itemed, Ends, itemed-complete}

-- the empty pattern is allowed
empty-facts : PatternFacts []
unfolding every parts_of parted distinct symbols_from letters_in
empty-facts = record { spelled = refl; few = omega arith; apart = refl; different = refl; short = omega arith; known = omega arith }

-- IDENTIFIERS OF A PATTERN

added-spelled : (b : Bool) (x : Name) (known : List Name) → spelled_identifier x ≡ true → every spelled_identifier known ≡ true
    → every spelled_identifier (pick b known (known ++ x ∷ [])) ≡ true
unfolding every
added-spelled true x known s k = k
added-spelled false x known s k = rw (every_append spelled_identifier known (x ∷ [])) (both_true k (both_true s refl))

pub symbols-spelled : (known : List Name) (p : List Element) → every spelled_identifier known ≡ true → every spelled_element p ≡ true
    → every spelled_identifier (symbols_from known p) ≡ true
unfolding every symbols_from
symbols-spelled known [] k s = k
symbols-spelled known (letter (character c) ∷ p) k s =
    symbols-spelled known p k (both_right (spelled_element (letter (character c))) (every spelled_element p) s)
symbols-spelled known (letter (symbol x) ∷ p) k s =
    symbols-spelled (added x known) p
    (added-spelled (member x known) x known (both_left (spelled_identifier x) (every spelled_element p) s) k)
    (both_right (spelled_identifier x) (every spelled_element p) s)
symbols-spelled known (part x ∷ p) k s = symbols-spelled known p k (both_right (spelled_identifier x) (every spelled_element p) s)

pub parts-spelled : (p : List Element) → every spelled_element p ≡ true → every spelled_identifier (parts_of p) ≡ true
unfolding every parts_of
parts-spelled [] s = refl
parts-spelled (letter l ∷ p) s = parts-spelled p (both_right (spelled_element (letter l)) (every spelled_element p) s)
parts-spelled (part x ∷ p) s =
    both_true (both_left (spelled_identifier x) (every spelled_element p) s)
    (parts-spelled p (both_right (spelled_identifier x) (every spelled_element p) s))

-- AN EXPRESSION FROM THE BEGINNING

abbrev pub start : List Name → Progress
start parts = record { items = 0; coming = parts }

leads-allowed : (symbols parts : List Name) (e : Expression) (then : Progress) → Leads symbols 0 (start parts) e then →
    allowed_expression symbols parts e ≡ true
leads-allowed symbols parts e then l =
    let items = l.items in
    let room = l.room in
    let deep = l.deep in
    both_true l.spelled
    (both_true (ap is_some l.order) (both_true (le-leb (items_in e) max_items (omega arith)) (le-leb (nesting e) max_nesting (omega arith))))

allowed-leads : (symbols parts : List Name) (e : Expression) → allowed_expression symbols parts e ≡ true
    → (then : Progress) × Leads symbols 0 (start parts) e then
allowed-leads symbols parts e a =
    let a₁ = both_right (spelled_items symbols e) _ a in
    let a₂ = both_right (is_some (coming_after_all e parts)) _ a₁ in
    let order = given-some (coming_after_all e parts) (both_left (is_some (coming_after_all e parts)) _ a₁) in
    let room = leb-true (items_in e) max_items (both_left (leb (items_in e) max_items) (leb (nesting e) max_nesting) a₂) in
    let deep = leb-true (nesting e) max_nesting (both_right (leb (items_in e) max_items) (leb (nesting e) max_nesting) a₂) in (
      record { items = items_in e; coming = order.value },
      record {
        items = omega arith;
        room = room;
        order = order.is;
        spelled = both_left (spelled_items symbols e) _ a;
        deep = omega arith;
      },
    )

-- THE SENTENCE

pub record SentenceRead (ts : List Placed) (s : Sentence) (rest : List Placed) : Type 0 where
  pub derived : IsSentence ts s rest
  pub allowed : allowed_sentence s ≡ true
  pub sound : sound_tokens rest ≡ true

abbrev pub after_expression : List Element → List Condition → Items → List Placed → Parsed Sentence
after_expression p cs e rest = parsed (record { pattern = p; conditions = cs; expression = e.expression }) rest

abbrev pub after_equals : List Element → List Condition → List Placed → Parsed Sentence
after_equals p cs ts = follow (parse_expression (length ts) (symbols_of p) 0 (start (parts_of p)) ts) (after_expression p cs)

abbrev pub after_conditions : List Element → List Condition → List Placed → Parsed Sentence
after_conditions p cs ts = pass 61 ts (after_equals p cs)

abbrev pub after_pattern : List Element → List Placed → Parsed Sentence
after_pattern p ts = follow (parse_conditions max_conditions (symbols_of p) (parts_of p) ts) (after_conditions p)

module _ {ts : List Placed} {s : Sentence} {rest : List Placed} where
  sentence-whole : (p : Followed (List Element) Sentence (parse_pattern [] ts) after_pattern s rest)
      → PatternRead [] ts p.value p.between
      → (q : Followed (List Condition) Sentence (parse_conditions max_conditions (symbols_of p.value) (parts_of p.value) p.between)
      (after_conditions p.value) s rest)
      → ConditionsRead max_conditions (symbols_of p.value) (parts_of p.value) p.between q.value q.between
      → (r : Passed Sentence 61 q.between (after_equals p.value q.value) s rest)
      → (e : Followed Items Sentence (parse_expression (length r.tail) (symbols_of p.value) 0 (start (parts_of p.value)) r.tail)
      (after_expression p.value q.value) s rest)
      → ExpressionRead (symbols_of p.value) 0 (start (parts_of p.value)) r.tail e.value e.between
      → SentenceRead ts s rest
  sentence-whole p d₁ q d₂ r e d₃ =
      let end = e.after in
      let left : e.between ≡ rest = cc in
      let made : record { pattern = p.value; conditions = q.value; expression = e.value.expression } ≡ s = cc in
      let parse_pattern = subst (λ z. IsPattern ts z p.between) (sym d₁.whole) (items-pattern (rw d₁.whole at d₁.facts) d₁.items) in
      record {
        derived = rw (← made, ← left) (is_sentence parse_pattern (rw r.shape at d₂.derived) d₃.derived);
        allowed =
            rw (← made)
            (both_true (facts-pattern p.value d₁.facts)
            (both_true (both_true d₂.known (le-leb (length q.value) max_conditions d₂.few))
            (leads-allowed (symbols_of p.value) (parts_of p.value) e.value.expression e.value.progress d₃.leads)));
        sound = rw left at d₃.sound;
      }

-- what the sentence's reader reads is an allowed sentence of the grammar
pub sentence-sound : (ts : List Placed) {s : Sentence} {rest : List Placed} → sound_tokens ts ≡ true → parse_sentence ts ≡ parsed s rest →
    SentenceRead ts s rest
unfolding parse_sentence
sentence-sound ts t read =
    let p = follow-parsed (parse_pattern [] ts) after_pattern read in
    let d₁ = pattern-sound [] ts empty-facts t p.before in
    let symbols = symbols_of p.value in
    let parts = start (parts_of p.value) in
    let q = follow-parsed (parse_conditions max_conditions symbols (parts_of p.value) p.between) (after_conditions p.value) p.after in
    let d₂ = conditions-sound max_conditions symbols (parts_of p.value) p.between d₁.sound q.before in
    let r = pass-parsed 61 q.between (after_equals p.value q.value) q.after in
    let e = follow-parsed (parse_expression (length r.tail) symbols 0 parts r.tail) (after_expression p.value q.value) r.after in
    sentence-whole p d₁ q d₂ r e
    (expression-sound (length r.tail) symbols 0 parts r.tail e.value e.between (omega arith) (omega arith)
    (sound-rest (standing (sign 61) r.place r.past) r.tail (rw r.shape at d₂.sound)) e.before)

-- EVERY ALLOWED SENTENCE IS READ

-- after a pattern comes a token that is no item
record Parts (ts : List Placed) : Type 0 where
  first : Placed
  others : List Placed
  shape : ts ≡ first ∷ others
  none-item : is_item (item_of first.token) ≡ false
  beginning : begins first.token ≡ true

sign-first : (c place past : ℕ) (ts : List Placed) → begins (sign c) ≡ true → Parts (standing (sign c) place past ∷ ts)
sign-first c place past ts b = record { first = standing (sign c) place past; others = ts; shape = refl; none-item = refl; beginning = b }

conditions-first : {ts rest : List Placed} {cs : List Condition} → IsConditions ts cs rest → Parts rest → Parts ts
conditions-first no_conditions h = h
conditions-first (condition_then {ts = ts} {place = place} {past = past} d ds) h = sign-first 44 place past ts refl

pub sentence-complete : {ts rest : List Placed} {s : Sentence} → IsSentence ts s rest → Ends rest → allowed_sentence s ≡ true → parse_sentence ts ≡
    parsed s rest
unfolding parse_sentence every
sentence-complete (is_sentence {ts = ts} {ts₂ = ts₂} {place = place} {past = past} {p = p} {cs = cs} {e = e} d₁ d₂ d₃) h a =
    let f = pattern-facts p (both_left (allowed_pattern p) _ a) in
    let a₁ = both_right (allowed_pattern p) _ a in
    let first = conditions-first d₂ (sign-first 61 place past ts₂ refl) in
    let symbols = symbols-spelled [] p refl f.spelled in
    let known = both_left (allowed_conditions (symbols_of p) (parts_of p) cs) _ a₁ in
    let (then, leads) = allowed-leads (symbols_of p) (parts_of p) e (both_right (allowed_conditions (symbols_of p) (parts_of p) cs) _ a₁) in
    rw (
      pattern-complete [] (pattern-items d₁) first.first first.others first.shape first.none-item f,
      conditions-complete max_conditions (symbols_of p) (parts_of p) symbols (parts-spelled p f.spelled) d₂ (standing (sign 61) place past) ts₂ refl
          refl
          (both_left (all_of_pattern (symbols_of p) (parts_of p) cs) (leb (length cs) max_conditions) known)
          (leb-true (length cs) max_conditions (both_right (all_of_pattern (symbols_of p) (parts_of p) cs) (leb (length cs) max_conditions) known)),
      itemed-complete (symbols_of p) symbols (itemed d₃) h (length ts₂) 0 (start (parts_of p)) then (parts-spelled p f.spelled) (omega arith) leads,
    )

-- a sentence begins with a token that a sentence can begin with
pub record Begins (ts : List Placed) : Type 0 where
  pub first : Placed
  pub others : List Placed
  pub shape : ts ≡ first ∷ others
  pub beginning : begins first.token ≡ true

items-first : {ts rest : List Placed} {p : List Element} → IsItems ts p rest → Parts rest → Begins ts
items-first no_more h = record { first = h.first; others = h.others; shape = h.shape; beginning = h.beginning }
items-first (item_then {t = t} {ts = ts} i d) h = record { first = t; others = ts; shape = refl; beginning = rw i }

pub sentence-begins : {ts rest : List Placed} {s : Sentence} → IsSentence ts s rest → Begins ts
sentence-begins (is_sentence {ts₂ = ts₂} {place = place} {past = past} d₁ d₂ d₃) =
    items-first (pattern-items d₁) (conditions-first d₂ (sign-first 61 place past ts₂ refl))
