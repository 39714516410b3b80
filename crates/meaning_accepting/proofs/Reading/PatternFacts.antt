-- What an allowed pattern is, told by its parts, and what one more item does to it.
use Prim.Native.Nat.{◌+◌, ◌≤◌}
use mathlib.Core.Path.{◌≡◌, refl, sym, ap, ◌∙◌}
use mathlib.Core.Bool.{true, not}
use mathlib.Core.List.{List, [], ◌∷◌, ◌++◌, append_assoc, append-nil}
use native.Mathlib.Nat.{zero-add, suc-add}
use borrow.Author.Tests.{leb-true, le-leb}
use lib.Dec.{leb}
use lib.ListN.{length}
use Rattle.meaning.specs.Choice.{Bytes, Name, both, every}
use Rattle.meaning.specs.Tree.{Letter, character, symbol, Element, letter, part}
use Rattle.meaning.specs.Allowed.{is_byte, spelled_element, symbols_of, symbols_from, parts_of, letters_in, parted, distinct, added, allowed_pattern}
use Rattle.meaning.specs.Allowed.{max_letters, max_symbols}
use Rattle.meaning.specs.Grammar.{characters_of}
use Rattle.meaning.specs.Reading.{ends_in_part}
use Rattle.meaning_accepting.proofs.Reading.Basics.{both_left, both_right, both_true}

pub record PatternFacts (p : List Element) : Type 0 where
  pub spelled : every spelled_element p ≡ true
  pub few : length (parts_of p) ≤ 2
  pub apart : parted p ≡ true
  pub different : distinct (symbols_of p ++ parts_of p) ≡ true
  pub short : letters_in p ≤ max_letters
  pub known : length (symbols_of p) ≤ max_symbols

pub pattern-facts : (p : List Element) → allowed_pattern p ≡ true → PatternFacts p
pattern-facts p a =
    let a₁ = both_right (every spelled_element p) _ a in
    let a₂ = both_right (leb (length (parts_of p)) 2) _ a₁ in
    let a₃ = both_right (parted p) _ a₂ in
    let a₄ = both_right (distinct (symbols_of p ++ parts_of p)) _ a₃ in
    record {
      spelled = both_left (every spelled_element p) _ a;
      few = leb-true _ _ (both_left (leb (length (parts_of p)) 2) _ a₁);
      apart = both_left (parted p) _ a₂;
      different = both_left (distinct (symbols_of p ++ parts_of p)) _ a₃;
      short = leb-true _ _ (both_left (leb (letters_in p) max_letters) _ a₄);
      known = leb-true _ _ (both_right (leb (letters_in p) max_letters) _ a₄);
    }

pub facts-pattern : (p : List Element) → PatternFacts p → allowed_pattern p ≡ true
facts-pattern p f =
    both_true f.spelled
    (both_true (le-leb _ _ f.few)
    (both_true f.apart (both_true f.different (both_true (le-leb _ _ f.short) (le-leb _ _ f.known)))))

-- ELEMENTS ONE AFTER ANOTHER

pub parts-append : (a b : List Element) → parts_of (a ++ b) ≡ parts_of a ++ parts_of b
unfolding parts_of
parts-append [] b = refl
parts-append (letter l ∷ a) b = parts-append a b
parts-append (part x ∷ a) b = rw (parts-append a b)

pub letters-append : (a b : List Element) → letters_in (a ++ b) ≡ letters_in a + letters_in b
unfolding letters_in
letters-append [] b = sym (zero-add (letters_in b))
letters-append (letter l ∷ a) b = rw (letters-append a b) (sym (suc-add (letters_in a) (letters_in b)))
letters-append (part x ∷ a) b = letters-append a b

pub symbols-append : (known : List Name) (a b : List Element) → symbols_from known (a ++ b) ≡ symbols_from (symbols_from known a) b
unfolding symbols_from
symbols-append known [] b = refl
symbols-append known (letter (character c) ∷ a) b = symbols-append known a b
symbols-append known (letter (symbol x) ∷ a) b = symbols-append (added x known) a b
symbols-append known (part x ∷ a) b = symbols-append known a b

pub parted-letter : (a : List Element) (l : Letter) → parted (a ++ letter l ∷ []) ≡ parted a
unfolding parted
parted-letter [] l = refl
parted-letter (letter k ∷ a) l = parted-letter a l
parted-letter (part x ∷ []) l = refl
parted-letter (part x ∷ letter k ∷ a) l = parted-letter a l
parted-letter (part x ∷ part y ∷ a) l = refl

pub parted-part : (a : List Element) (x : Name) → parted (a ++ part x ∷ []) ≡ both (parted a) (not (ends_in_part a))
unfolding parted ends_in_part
parted-part [] x = refl
parted-part (letter k ∷ a) x = parted-part a x
parted-part (part y ∷ []) x = refl
parted-part (part y ∷ letter k ∷ a) x = parted-part a x
parted-part (part y ∷ part z ∷ a) x = refl

-- CHARACTERS

pub characters-parts : (text : Bytes) → parts_of (characters_of text) ≡ []
unfolding parts_of
characters-parts [] = refl
characters-parts (c ∷ text) = characters-parts text

pub characters-letters : (text : Bytes) → letters_in (characters_of text) ≡ length text
unfolding letters_in
characters-letters [] = refl
characters-letters (c ∷ text) = rw (characters-letters text)

pub characters-symbols : (known : List Name) (text : Bytes) → symbols_from known (characters_of text) ≡ known
unfolding symbols_from
characters-symbols known [] = refl
characters-symbols known (c ∷ text) = characters-symbols known text

pub characters-spelled : (text : Bytes) → every spelled_element (characters_of text) ≡ every is_byte text
unfolding every
characters-spelled [] = refl
characters-spelled (c ∷ text) = rw (characters-spelled text)

pub parted-characters : (a : List Element) (text : Bytes) → parted (a ++ characters_of text) ≡ parted a
parted-characters a [] = ap parted (append-nil a)
parted-characters a (c ∷ text) =
    ap parted (sym (append_assoc a (letter (character c) ∷ []) (characters_of text)))
    ∙ (parted-characters (a ++ letter (character c) ∷ []) text ∙ parted-letter a (character c))
