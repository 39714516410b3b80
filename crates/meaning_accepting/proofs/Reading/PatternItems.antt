-- One more item of a pattern: it has no fault exactly where the pattern stays allowed with it.
use Prim.Native.Nat.{◌+◌, ◌≤◌, ◌<◌}
use mathlib.Core.Path.{◌≡◌, refl, sym, ap, ◌∙◌}
use mathlib.Core.Bool.{Bool, true, false, not}
use mathlib.Core.List.{List, [], ◌∷◌, ◌++◌, append_assoc, append-nil}
use native.Mathlib.Nat.{add-zero}
use native.Mathlib.Omega.{arith}
use borrow.Author.Tests.{leb-true, le-leb, ltb-true, lt-ltb}
use lib.Dec.{leb, ltb}
use lib.ListN.{length, length-append}
use Rattle.meaning.specs.Choice.{Bytes, Name, pick, both, every}
use Rattle.meaning.specs.Tree.{character, symbol, Element, letter, part}
use Rattle.meaning.specs.Allowed.{is_byte, spelled_element, spelled_identifier, symbols_of, symbols_from, parts_of, letters_in, parted, distinct}
use Rattle.meaning.specs.Allowed.{member}
use Rattle.meaning.specs.Allowed.{added, max_letters, max_symbols, max_identifier}
use Rattle.meaning.specs.Grammar.{characters_of}
use Rattle.meaning.specs.Reading.{Item, characters, symbol_item, part_item, no_item, elements_of, pattern_fault, ends_in_part}
use Rattle.meaning.proofs.Laws.Choosing.{both-parts}
use Rattle.meaning_accepting.proofs.Reading.Basics.{both_left, both_right, both_true, passed}
use Rattle.meaning_accepting.proofs.Reading.Lists.{every_append, both-comm, distinct-after, distinct-between, distinct_apart}
use Rattle.meaning_accepting.proofs.Reading.Sound.{sound_item, identifier-spelled, spelled-identifier-short}
use Rattle.meaning_accepting.proofs.Reading.PatternFacts.{PatternFacts, parts-append, letters-append, symbols-append, parted-letter}
use Rattle.meaning_accepting.proofs.Reading.PatternFacts.{parted-part, characters-parts, characters-letters, characters-symbols}
use Rattle.meaning_accepting.proofs.Reading.PatternFacts.{characters-spelled, parted-characters}

spelled-one : (a : List Element) (e : Element) → every spelled_element (a ++ e ∷ []) ≡ both (every spelled_element a) (spelled_element e)
unfolding every
spelled-one a e = every_append spelled_element a (e ∷ []) ∙ ap (both (every spelled_element a)) (both-comm (spelled_element e) true)

-- the elements before the last one, and the last one
spelled-both : (a : List Element) (e : Element) → PatternFacts (a ++ e ∷ []) → (every spelled_element a ≡ true) × (spelled_element e ≡ true)
spelled-both a e f = both-parts (every spelled_element a) (spelled_element e) (rw (spelled-one a e) at f.spelled)

-- CHARACTERS

module _ (a : List Element) (text : Bytes) where
  pub characters-same-parts : parts_of (a ++ characters_of text) ≡ parts_of a
  characters-same-parts = rw (parts-append, characters-parts, append-nil)

  pub characters-same-symbols : symbols_of (a ++ characters_of text) ≡ symbols_of a
  characters-same-symbols = rw (symbols-append, characters-symbols)

  pub characters-more-letters : letters_in (a ++ characters_of text) ≡ letters_in a + length text
  characters-more-letters = rw (letters-append, characters-letters)

  characters-all-spelled : every spelled_element (a ++ characters_of text) ≡ both (every spelled_element a) (every is_byte text)
  characters-all-spelled = rw (every_append, characters-spelled)

  characters-allowed : PatternFacts a → every is_byte text ≡ true → letters_in a + length text ≤ max_letters → PatternFacts (a ++ characters_of text)
  characters-allowed f s l =
      record {
        spelled = rw characters-all-spelled (both_true f.spelled s);
        few = rw characters-same-parts f.few;
        apart = parted-characters a text ∙ f.apart;
        different = rw (characters-same-symbols, characters-same-parts) f.different;
        short = rw characters-more-letters l;
        known = rw characters-same-symbols f.known;
      }

  characters-before : PatternFacts (a ++ characters_of text) → PatternFacts a
  characters-before f =
      record {
        spelled = both_left (every spelled_element a) (every is_byte text) (rw characters-all-spelled at f.spelled);
        few = rw characters-same-parts at f.few;
        apart = sym (parted-characters a text) ∙ f.apart;
        different = rw (characters-same-symbols, characters-same-parts) at f.different;
        short = omega (arith, (rw characters-more-letters at f.short));
        known = rw characters-same-symbols at f.known;
      }

  characters-fit : PatternFacts (a ++ characters_of text) → letters_in a + length text ≤ max_letters
  characters-fit f = rw characters-more-letters at f.short

-- AN S-VARIABLE

pub added-different : (b : Bool) (x : Name) (xs ys : List Name) → member x xs ≡ b → distinct (xs ++ ys) ≡ true → not (member x ys) ≡ true
    → distinct (pick b xs (xs ++ x ∷ []) ++ ys) ≡ true
added-different true x xs ys m d n = d
added-different false x xs ys m d n = rw (distinct-between x xs ys m) (both_true d n)

pub added-before : (b : Bool) (x : Name) (xs ys : List Name) → member x xs ≡ b
    → distinct (pick b xs (xs ++ x ∷ []) ++ ys) ≡ true → (distinct (xs ++ ys) ≡ true) × (not (member x ys) ≡ true)
added-before true x xs ys m d = (d, ap not (distinct_apart x xs ys d m))
added-before false x xs ys m d = both-parts (distinct (xs ++ ys)) (not (member x ys)) (rw (distinct-between x xs ys m) at d)

added-longer : (b : Bool) (x : Name) (xs : List Name) → length xs ≤ length (pick b xs (xs ++ x ∷ []))
added-longer true x xs = omega arith
added-longer false x xs = rw (length-append xs (x ∷ [])) (omega arith)

module _ (a : List Element) (x : Name) where
  pub symbol-same-parts : parts_of (a ++ letter (symbol x) ∷ []) ≡ parts_of a
  unfolding parts_of
  symbol-same-parts = rw (parts-append a (letter (symbol x) ∷ []), append-nil)

  pub symbol-adds : symbols_of (a ++ letter (symbol x) ∷ []) ≡ added x (symbols_of a)
  unfolding symbols_from
  symbol-adds = symbols-append [] a (letter (symbol x) ∷ [])

  pub symbol-more-letters : letters_in (a ++ letter (symbol x) ∷ []) ≡ letters_in a + 1
  unfolding letters_in
  symbol-more-letters = letters-append a (letter (symbol x) ∷ [])

  symbol-allowed : PatternFacts a → spelled_identifier x ≡ true → letters_in a + 1 ≤ max_letters
      → length (added x (symbols_of a)) ≤ max_symbols → not (member x (parts_of a)) ≡ true → PatternFacts (a ++ letter (symbol x) ∷ [])
  symbol-allowed f s l k n =
      record {
        spelled = rw (spelled-one a (letter (symbol x))) (both_true f.spelled s);
        few = rw symbol-same-parts f.few;
        apart = parted-letter a (symbol x) ∙ f.apart;
        different =
            rw (symbol-adds, symbol-same-parts)
            (added-different (member x (symbols_of a)) x (symbols_of a) (parts_of a) refl f.different n);
        short = rw symbol-more-letters l;
        known = rw symbol-adds k;
      }

  symbol-different : PatternFacts (a ++ letter (symbol x) ∷ []) →
      (distinct (symbols_of a ++ parts_of a) ≡ true) × (not (member x (parts_of a)) ≡ true)
  symbol-different f =
      added-before (member x (symbols_of a)) x (symbols_of a) (parts_of a) refl (rw (symbol-adds, symbol-same-parts) at f.different)

  symbol-before : PatternFacts (a ++ letter (symbol x) ∷ []) → PatternFacts a
  symbol-before f =
      record {
        spelled = (spelled-both a (letter (symbol x)) f).0;
        few = rw symbol-same-parts at f.few;
        apart = sym (parted-letter a (symbol x)) ∙ f.apart;
        different = (symbol-different f).0;
        short = omega (arith, (rw symbol-more-letters at f.short));
        known = omega (arith, (rw symbol-adds at f.known), added-longer (member x (symbols_of a)) x (symbols_of a));
      }

  symbol-fits : PatternFacts (a ++ letter (symbol x) ∷ []) → pattern_fault a (symbol_item x) ≡ 0
  symbol-fits f =
      rw (
        spelled-identifier-short x (spelled-both a (letter (symbol x)) f).1,
        le-leb (letters_in a + 1) max_letters (rw symbol-more-letters at f.short),
        le-leb (length (added x (symbols_of a))) max_symbols (rw symbol-adds at f.known),
        (symbol-different f).1,
      )

-- AN E-VARIABLE

module _ (a : List Element) (x : Name) where
  pub part-adds : parts_of (a ++ part x ∷ []) ≡ parts_of a ++ x ∷ []
  unfolding parts_of
  part-adds = parts-append a (part x ∷ [])

  pub part-same-symbols : symbols_of (a ++ part x ∷ []) ≡ symbols_of a
  unfolding symbols_from
  part-same-symbols = symbols-append [] a (part x ∷ [])

  pub part-same-letters : letters_in (a ++ part x ∷ []) ≡ letters_in a
  unfolding letters_in
  part-same-letters = letters-append a (part x ∷ []) ∙ add-zero (letters_in a)

  pub part-different : distinct (symbols_of (a ++ part x ∷ []) ++ parts_of (a ++ part x ∷ []))
      ≡ both (distinct (symbols_of a ++ parts_of a)) (not (member x (symbols_of a ++ parts_of a)))
  part-different =
      rw (part-same-symbols, part-adds, ← append_assoc (symbols_of a) (parts_of a) (x ∷ [])) (distinct-after x (symbols_of a ++ parts_of a))

  pub part_length : length (parts_of (a ++ part x ∷ [])) ≡ length (parts_of a) + 1
  part_length = rw part-adds (length-append (parts_of a) (x ∷ []))

  part-allowed : PatternFacts a → spelled_identifier x ≡ true → length (parts_of a) < 2
      → not (member x (symbols_of a ++ parts_of a)) ≡ true → not (ends_in_part a) ≡ true → PatternFacts (a ++ part x ∷ [])
  part-allowed f s l n e =
      record {
        spelled = rw (spelled-one a (part x)) (both_true f.spelled s);
        few = rw part_length (omega arith);
        apart = rw (parted-part a x) (both_true f.apart e);
        different = rw part-different (both_true f.different n);
        short = rw part-same-letters f.short;
        known = rw part-same-symbols f.known;
      }

  part_apart : PatternFacts (a ++ part x ∷ []) → (parted a ≡ true) × (not (ends_in_part a) ≡ true)
  part_apart f = both-parts (parted a) (not (ends_in_part a)) (rw (parted-part a x) at f.apart)

  part-new : PatternFacts (a ++ part x ∷ []) → (distinct (symbols_of a ++ parts_of a) ≡ true) × (not (member x (symbols_of a ++ parts_of a)) ≡ true)
  part-new f = both-parts (distinct (symbols_of a ++ parts_of a)) (not (member x (symbols_of a ++ parts_of a))) (rw part-different at f.different)

  part-before : PatternFacts (a ++ part x ∷ []) → PatternFacts a
  part-before f =
      record {
        spelled = (spelled-both a (part x) f).0;
        few = omega (arith, (rw part_length at f.few));
        apart = (part_apart f).0;
        different = (part-new f).0;
        short = rw part-same-letters at f.short;
        known = rw part-same-symbols at f.known;
      }

  part-fits : PatternFacts (a ++ part x ∷ []) → pattern_fault a (part_item x) ≡ 0
  part-fits f =
      rw (
        lt-ltb (length (parts_of a)) 2 (omega (arith, (rw part_length at f.few))),
        spelled-identifier-short x (spelled-both a (part x) f).1,
        (part-new f).1,
        (part_apart f).1,
      )

-- ANY ITEM

-- the tests of an item that pass keep the pattern allowed
pub item-allowed : (a : List Element) (item : Item) → PatternFacts a → sound_item item ≡ true → pattern_fault a item ≡ 0
    → PatternFacts (a ++ elements_of item)
item-allowed a (characters text) f s z =
    characters-allowed a text f s (leb-true _ _ (passed (leb (letters_in a + length text) max_letters) 4 0 (omega arith) z).0)
item-allowed a (symbol_item x) f s z =
    let limits : Bool =
    both (leb (length x) max_identifier)
    (both (leb (letters_in a + 1) max_letters) (leb (length (added x (symbols_of a))) max_symbols))
    in
    let (tests, z₁) = passed limits 4 _ (omega arith) z in
    let rest = both_right (leb (length x) max_identifier) _ tests in
    symbol-allowed a x f
    (identifier-spelled x s (both_left (leb (length x) max_identifier) _ tests))
    (leb-true _ _ (both_left (leb (letters_in a + 1) max_letters) _ rest))
    (leb-true _ _ (both_right (leb (letters_in a + 1) max_letters) _ rest))
    (passed (not (member x (parts_of a))) 6 0 (omega arith) z₁).0
item-allowed a (part_item x) f s z =
    let (few, z₁) = passed (ltb (length (parts_of a)) 2) 3 _ (omega arith) z in
    let (short, z₂) = passed (leb (length x) max_identifier) 4 _ (omega arith) z₁ in
    let tests = (passed _ 6 0 (omega arith) z₂).0 in
    part-allowed a x f
    (identifier-spelled x s short)
    (ltb-true _ _ few)
    (both_left (not (member x (symbols_of a ++ parts_of a))) _ tests)
    (both_right (not (member x (symbols_of a ++ parts_of a))) _ tests)
item-allowed a no_item f s z = rw (append-nil a) f

-- an item of an allowed pattern passes its tests
pub item-faultless : (a : List Element) (item : Item) → PatternFacts (a ++ elements_of item) → pattern_fault a item ≡ 0
item-faultless a (characters text) f = rw (le-leb (letters_in a + length text) max_letters (characters-fit a text f))
item-faultless a (symbol_item x) f = symbol-fits a x f
item-faultless a (part_item x) f = part-fits a x f
item-faultless a no_item f = refl

element-before : (a : List Element) (e : Element) → PatternFacts (a ++ e ∷ []) → PatternFacts a
element-before a (letter (character c)) f = characters-before a (c ∷ []) f
element-before a (letter (symbol x)) f = symbol-before a x f
element-before a (part x) f = part-before a x f

-- the beginning of an allowed pattern is allowed
pub facts-before : (a b : List Element) → PatternFacts (a ++ b) → PatternFacts a
facts-before a [] f = rw append-nil at f
facts-before a (e ∷ b) f = element-before a e (facts-before (a ++ e ∷ []) b (rw (append_assoc a (e ∷ []) b) f))
