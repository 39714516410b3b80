-- A pattern is listed as an expression without calls, so its tokens are its items in order, and with 01's rules a pattern of the grammar.
use Prim.Native.Nat.{ℕ}
use native.Mathlib.Omega.{arith}
use mathlib.Core.Path.{◌≡◌, refl, sym, ap, ◌∙◌}
use mathlib.Core.Bool.{true}
use mathlib.Core.List.{List, [], ◌∷◌, ◌++◌}
use Rattle.meaning.specs.Choice.{Bytes, every}
use Rattle.meaning.specs.Tree.{character, symbol, Element, letter, part, Expression, end, then_character, then_symbol, then_part, then_call, unplaced}
use Rattle.meaning.specs.Allowed.{is_byte, spelled_element, spelled_identifier, nesting, allowed_pattern}
use Rattle.meaning.specs.Tokens.{inside, Placed}
use Rattle.meaning.specs.Grammar.{characters_of, then_characters, IsPattern}
use Rattle.meaning.specs.Listing.{Quoted, unquoted, close_quote, quoted_character, after_character, symbol_text, part_text, pattern_text}
use Rattle.meaning.specs.Listing.{expression_text}
use Rattle.meaning.specs.Reading.{Item, characters, symbol_item, part_item, no_item, item_of, elements_of, then_item}
use Rattle.meaning_accepting.proofs.Reading.Basics.{both_left, both_right, both_true}
use Rattle.meaning_accepting.proofs.Reading.PatternFacts.{pattern-facts}
use Rattle.meaning_accepting.proofs.Reading.ExpressionItems.{item-nesting}
use Rattle.meaning_accepting.proofs.Reading.Patterns.{IsItems, no_more, item_then, items-pattern}
use Rattle.meaning_accepting.proofs.Reading.ExpressionsComplete.{IsItemed, nothing_more, one_item_then, called_then, itemed}
use Rattle.meaning_accepting.proofs.RoundTrip.Remaining.{remaining}
use Rattle.meaning_accepting.proofs.RoundTrip.Words.{Parted}
use Rattle.meaning_accepting.proofs.RoundTrip.Legible.{legible}
use Rattle.meaning_accepting.proofs.RoundTrip.Places.{nesting-unplaced}
use Rattle.meaning_accepting.proofs.RoundTrip.Expressions.{expression-listed}

-- FROM A PATTERN TO AN EXPRESSION

as_expression : List Element → Expression
as_expression [] = end
as_expression (letter (character c) ∷ es) = then_character c (as_expression es)
as_expression (letter (symbol x) ∷ es) = then_symbol x (as_expression es)
as_expression (part x ∷ es) = then_part x (as_expression es)

listed-alike : (state : Quoted) (es : List Element) → pattern_text state es ≡ expression_text state (as_expression es)
unfolding as_expression pattern_text expression_text
listed-alike state [] = refl
listed-alike state (letter (character c) ∷ es) = ap (λ z. quoted_character state c ++ z) (listed-alike (after_character state c) es)
listed-alike state (letter (symbol x) ∷ es) = ap (λ z. close_quote state ++ (symbol_text x ++ z)) (listed-alike unquoted es)
listed-alike state (part x ∷ es) = ap (λ z. close_quote state ++ (part_text x ++ z)) (listed-alike unquoted es)

pattern-legible : (es : List Element) → every spelled_element es ≡ true → legible (as_expression es) ≡ true
unfolding as_expression every legible
pattern-legible [] spelled = refl
pattern-legible (letter (character c) ∷ es) spelled =
    both_true (both_left (is_byte c) _ spelled) (pattern-legible es (both_right (is_byte c) _ spelled))
pattern-legible (letter (symbol x) ∷ es) spelled =
    both_true (both_left (spelled_identifier x) _ spelled) (pattern-legible es (both_right (spelled_identifier x) _ spelled))
pattern-legible (part x ∷ es) spelled =
    both_true (both_left (spelled_identifier x) _ spelled) (pattern-legible es (both_right (spelled_identifier x) _ spelled))

-- AND BACK

-- an expression's items up to its first call
elements_in : Expression → List Element
elements_in end = []
elements_in (then_character c e) = letter (character c) ∷ elements_in e
elements_in (then_symbol x e) = letter (symbol x) ∷ elements_in e
elements_in (then_part x e) = part x ∷ elements_in e
elements_in (then_call place n a e) = []

elements-unplaced : (e : Expression) → elements_in (unplaced e) ≡ elements_in e
unfolding elements_in unplaced
elements-unplaced end = refl
elements-unplaced (then_character c e) = ap (λ z. letter (character c) ∷ z) (elements-unplaced e)
elements-unplaced (then_symbol x e) = ap (λ z. letter (symbol x) ∷ z) (elements-unplaced e)
elements-unplaced (then_part x e) = ap (λ z. part x ∷ z) (elements-unplaced e)
elements-unplaced (then_call place n a e) = refl

elements-written : (text : Bytes) (e : Expression) → elements_in (then_characters text e) ≡ characters_of text ++ elements_in e
unfolding elements_in then_characters
elements-written [] e = refl
elements-written (c ∷ text) e = ap (λ z. letter (character c) ∷ z) (elements-written text e)

elements-back : (es : List Element) → elements_in (as_expression es) ≡ es
unfolding elements_in as_expression
elements-back [] = refl
elements-back (letter (character c) ∷ es) = ap (λ z. letter (character c) ∷ z) (elements-back es)
elements-back (letter (symbol x) ∷ es) = ap (λ z. letter (symbol x) ∷ z) (elements-back es)
elements-back (part x ∷ es) = ap (λ z. part x ∷ z) (elements-back es)

no-calls : (es : List Element) → nesting (as_expression es) ≡ 0
unfolding nesting as_expression
no-calls [] = refl
no-calls (letter (character c) ∷ es) = no-calls es
no-calls (letter (symbol x) ∷ es) = no-calls es
no-calls (part x ∷ es) = no-calls es

-- the tokens of an expression without calls are its items in order
elements-item : (item : Item) (e : Expression) → elements_in (then_item item e) ≡ elements_of item ++ elements_in e
unfolding elements_in
elements-item (characters text) e = elements-written text e
elements-item (symbol_item x) e = refl
elements-item (part_item x) e = refl
elements-item no_item e = refl

expression-items : {ts rest : List Placed} {e : Expression} → IsItemed ts e rest → nesting e ≡ 0 → IsItems ts (elements_in e) rest
unfolding elements_in nesting
expression-items nothing_more none = no_more
expression-items (one_item_then {t = t} {e = e} item d) none =
    rw (elements-item (item_of t.token) e) (item_then {t = t} item (expression-items d (sym (item-nesting (item_of t.token) e) ∙ none)))
expression-items (called_then k d) none = absurd (omega arith)

-- THE PATTERN

pub record PatternListed (at : ℕ) (bytes : Bytes) (p : List Element) (rest : Bytes) : Type 0 where
  pub past : ℕ
  pub derived : IsPattern (remaining inside at bytes) p (remaining inside past rest)

pub pattern-listed : (p : List Element) → allowed_pattern p ≡ true → (rest : Bytes) → Parted rest → (at : ℕ) →
    PatternListed at (pattern_text unquoted p ++ rest) p rest
pattern-listed p allows rest parted at =
    let facts = pattern-facts p allows in
    let listed = expression-listed (as_expression p) (pattern-legible p facts.spelled) rest parted at in
    let none = sym (nesting-unplaced listed.tree) ∙ (ap nesting listed.same ∙ (nesting-unplaced (as_expression p) ∙ no-calls p)) in
    let back = sym (elements-unplaced listed.tree) ∙ (ap elements_in listed.same ∙ (elements-unplaced (as_expression p) ∙ elements-back p)) in
    rw (listed-alike unquoted p)
    record { past = listed.past; derived = items-pattern facts (rw back at (expression-items (itemed listed.derived) none)) }
