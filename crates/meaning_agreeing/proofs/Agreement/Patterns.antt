-- The matcher on a pattern that is seen as templates round its e-variables: a template's letters come off one by one, a remainder of fixed length
-- leaves one cut for the last e-variable, and a text that is too short never fits.
use Prim.Native.Nat.{ℕ, suc, ◌+◌, ◌≤◌, ◌<◌}
use native.Mathlib.Omega.{arith}
use mathlib.Core.Path.{◌≡◌, refl, sym, ◌∙◌}
use mathlib.Core.Logic.{◌≢◌}
use mathlib.Core.Bool.{Bool, true, false}
use mathlib.Core.List.{List, [], ◌∷◌, ◌++◌, append-nil, append_assoc}
use mathlib.Core.Option.{Option, none, some}
use lib.Dec.{eqb}
use lib.ListN.{length, length-append}
use Rattle.meaning.specs.Choice.{Bytes, Name, Named, guard, or_else}
use Rattle.meaning.specs.Tree.{Letter, character, symbol, Element, letter, part, Condition}
use Rattle.meaning.specs.Rewriting.{Bindings, take_symbol, shortest, with_symbols, with_part, match_rest, match}
use Rattle.meaning.specs.Allowed.{where_some, parts_of, letters_in}
use Rattle.meaning.specs.Translation.{Shape, fixed, open₁, open₂, with_letter, cut_at, shape_of, at_start}
use Rattle.meaning.proofs.Laws.Choosing.{where-same, where-none, where-again}
use Rattle.meaning_agreeing.proofs.Agreement.Standing.{coming_at}
use Rattle.meaning_agreeing.proofs.Agreement.Templates.{letter_match, template_match}

-- THE PATTERN OF A SHAPE

unfoldable pub templated : List Letter → List Element → List Element
templated [] es = es
templated (l ∷ ls) es = letter l ∷ templated ls es

abbrev pub elements_of : Shape → List Element
elements_of (fixed t) = templated t []
elements_of (open₁ h x t) = templated h (part x ∷ templated t [])
elements_of (open₂ h x m y t) = templated h (part x ∷ templated m (part y ∷ templated t []))

parts-templated : (ls : List Letter) (es : List Element) → parts_of (templated ls es) ≡ parts_of es
unfolding templated parts_of
parts-templated [] es = refl
parts-templated (l ∷ ls) es = parts-templated ls es

pub parts-shape : (s : Shape) → parts_of (elements_of s) ≡ coming_at s at_start
unfolding parts_of
parts-shape (fixed t) = parts-templated t []
parts-shape (open₁ h x t) = rw (parts-templated h (part x ∷ templated t []), parts-templated t [])
parts-shape (open₂ h x m y t) =
    rw (parts-templated h (part x ∷ templated m (part y ∷ templated t [])), parts-templated m (part y ∷ templated t []), parts-templated t [])

-- how many letters a pattern asks for
pub letters-templated : (ls : List Letter) (es : List Element) → letters_in (templated ls es) ≡ length ls + letters_in es
unfolding templated letters_in
letters-templated [] es = omega arith
letters-templated (l ∷ ls) es = omega (arith, letters-templated ls es)

pub letters-part : (ls : List Letter) (x : Name) (t : List Letter) → letters_in (templated ls (part x ∷ templated t [])) ≡ length ls + length t
unfolding letters_in
letters-part ls x t = rw (letters-templated ls (part x ∷ templated t []), letters-templated t []) (omega arith)

-- a letter or an e-variable put before a shape is put before its pattern
elements-letter : (l : Letter) (s : Shape) → elements_of (with_letter l s) ≡ letter l ∷ elements_of s
unfolding templated
elements-letter l (fixed t) = refl
elements-letter l (open₁ h x t) = refl
elements-letter l (open₂ h x m y t) = refl

elements-part : (x : Name) (s : Shape) → length (coming_at s at_start) ≤ 1 → elements_of (cut_at x s) ≡ part x ∷ elements_of s
unfolding templated
elements-part x (fixed t) h = refl
elements-part x (open₁ m y t) h = refl
elements-part x (open₂ h y m z t) few = absurd (omega arith)

-- a pattern of at most two e-variables is its templates round them
pub elements-shape : (es : List Element) → length (parts_of es) ≤ 2 → elements_of (shape_of es) ≡ es
unfolding shape_of parts_of templated
elements-shape [] few = refl
elements-shape (letter l ∷ es) few = rw (elements-letter l (shape_of es), elements-shape es few)
elements-shape (part x ∷ es) few =
    let fewer : length (parts_of es) ≤ 1 = omega arith in
    let same = elements-shape es (omega arith) in
    rw (elements-part x (shape_of es) (rw (← (parts-shape (shape_of es)), same) fewer), same)

-- ONE LETTER

-- a letter takes a byte, and the rest of the pattern the rest of the text
match-letter : (l : Letter) (es : List Element) (cs : List Condition) (b : ℕ) (text : Bytes) (bound : Bindings) →
    match (letter l ∷ es) cs (b ∷ text) bound ≡ where_some (letter_match l b bound.symbols) (λ known. match es cs text (with_symbols bound known))
unfolding match
match-letter (character c) es cs b text bound = guarded (eqb c b)
  where
    guarded : (q : Bool) → guard q (match es cs text bound) ≡
        where_some (guard q (some bound.symbols)) (λ known. match es cs text (with_symbols bound known))
    guarded true = refl
    guarded false = refl
match-letter (symbol x) es cs b text bound = taken (take_symbol x b bound.symbols)
  where
    taken : (o : Option (List (Named ℕ))) → match_rest (match es cs text) bound o ≡
        where_some o (λ known. match es cs text (with_symbols bound known))
    taken none = refl
    taken (some known) = refl

match-nothing : (l : Letter) (es : List Element) (cs : List Condition) (bound : Bindings) → match (letter l ∷ es) cs [] bound ≡ none
unfolding match
match-nothing (character c) es cs bound = refl
match-nothing (symbol x) es cs bound = refl

-- a letter helps nothing where the rest never fits
match_none : (l : Letter) (es : List Element) (cs : List Condition) (b : ℕ) (text : Bytes) (bound : Bindings) →
    ((bound : Bindings) → match es cs text bound ≡ none) →
    match (letter l ∷ es) cs (b ∷ text) bound ≡ none
match_none l es cs b text bound h = match-letter l es cs b text bound ∙
    where-none (letter_match l b bound.symbols) _ (λ known. h (with_symbols bound known))

-- WHAT NEVER FITS

-- no cut fits
pub shortest-none : {A : Type 0} (k : Bytes → Bytes → Option A) (n : ℕ) (taken rest : Bytes) → length rest < n →
    ((taken rest : Bytes) → length rest < n → k taken rest ≡ none) → shortest k taken rest ≡ none
unfolding shortest
shortest-none k n taken [] few h = h taken [] few
shortest-none k n taken (b ∷ rest) few h = rw (h taken (b ∷ rest) few, shortest-none k n (taken ++ b ∷ []) rest (omega arith) h)

-- a text shorter than the letters of the pattern
pub match-short : (es : List Element) (cs : List Condition) (text : Bytes) (bound : Bindings) → length text < letters_in es → match es cs text bound ≡
    none
unfolding match letters_in
match-short [] cs text bound few = absurd (omega arith)
match-short (letter l ∷ es) cs [] bound few = match-nothing l es cs bound
match-short (letter l ∷ es) cs (b ∷ text) bound few = match_none l es cs b text bound (λ bound. match-short es cs text bound (omega arith))
match-short (part x ∷ es) cs text bound few = shortest-none _ (letters_in es) [] text few
    (λ piece rest less. match-short es cs rest (with_part bound x piece) less)

-- a template alone takes as many bytes as it has letters
pub match-exact : (ls : List Letter) (cs : List Condition) (text : Bytes) (bound : Bindings) → length text ≢ length ls →
    match (templated ls []) cs text bound ≡ none
unfolding match templated
match-exact [] cs [] bound other = absurd (other refl)
match-exact [] cs (b ∷ text) bound other = refl
match-exact (l ∷ ls) cs [] bound other = match-nothing l (templated ls []) cs bound
match-exact (l ∷ ls) cs (b ∷ text) bound other = match_none l (templated ls []) cs b text bound (λ bound. match-exact ls cs text bound (omega arith))

-- WHAT FITS

pub either-none : {A : Type 0} (o : Option A) → or_else o none ≡ o
either-none none = refl
either-none (some a) = refl

-- a remainder of fixed length leaves one cut
pub shortest-one : {A : Type 0} (k : Bytes → Bytes → Option A) (taken piece last : Bytes) →
    ((taken rest : Bytes) → length rest ≢ length last → k taken rest ≡ none) →
    shortest k taken (piece ++ last) ≡ k (taken ++ piece) last
unfolding shortest
shortest-one k taken [] [] h = rw append-nil
shortest-one k taken [] (b ∷ last) h =
    rw (shortest-none k (suc (length last)) (taken ++ b ∷ []) last (omega arith) (λ taken rest less. h taken rest (omega arith)), append-nil taken)
    (either-none (k taken (b ∷ last)))
shortest-one k taken (b ∷ piece) last h =
    rw (h taken (b ∷ (piece ++ last)) (rw length-append (omega arith)), shortest-one k (taken ++ b ∷ []) piece last h, append_assoc)

-- a template's letters come off
pub match-template : (ls : List Letter) (es : List Element) (cs : List Condition) (bytes more : Bytes) (bound : Bindings) → length bytes ≡ length ls →
    match (templated ls es) cs (bytes ++ more) bound ≡ where_some (template_match ls bytes bound.symbols)
    (λ known. match es cs more (with_symbols bound known))
unfolding templated template_match
match-template [] es cs [] more bound size = refl
match-template [] es cs (b ∷ bytes) more bound size = absurd (omega arith)
match-template (l ∷ ls) es cs [] more bound size = absurd (omega arith)
match-template (l ∷ ls) es cs (b ∷ bytes) more bound size =
    match-letter l (templated ls es) cs b (bytes ++ more) bound ∙
    where-same (letter_match l b bound.symbols) _ _ (λ known. match-template ls es cs bytes more (with_symbols bound known) (omega arith)) ∙
    sym (where-again (letter_match l b bound.symbols) (template_match ls bytes) (λ known. match es cs more (with_symbols bound known)))
