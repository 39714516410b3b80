-- What tokens bring along: names, words and characters are spelled as they must be, and nothing comes after the end of the text.
use mathlib.Core.Path.{◌≡◌, refl}
use mathlib.Core.Bool.{Bool, true, false}
use mathlib.Core.List.{List, [], ◌∷◌}
use borrow.Author.Tests.{le-leb}
use lib.Dec.{leb, eqb}
use lib.ListN.{length}
use Rattle.meaning.specs.Choice.{Bytes, Name, pick, both, every}
use Rattle.meaning.specs.Classes.{in_class, alphabetic}
use Rattle.meaning.specs.Allowed.{is_byte, word_byte, name_byte, spelled_name, spelled_identifier, max_name, max_identifier}
use Rattle.meaning.specs.Tokens.{Token, function_name, word, quoted, sign, text_end, malformed, Placed}
use Rattle.meaning.specs.Reading.{Item, characters, symbol_item, part_item, no_item, item_of, variable_of, is_text_end}
use Rattle.meaning.proofs.Laws.Spelling.{name-short, identifier-short}
use Rattle.meaning_accepting.proofs.Reading.Basics.{both_left, both_right, both_true, impossible}

-- "a letter, then letters, digits, _ or -", of any length
abbrev pub name_spelling : Name → Bool
name_spelling [] = false
name_spelling (b ∷ n) = both (in_class alphabetic b) (every name_byte n)

-- "at least one letter or digit", any number of them
abbrev pub identifier_spelling : Name → Bool
identifier_spelling [] = false
identifier_spelling (b ∷ x) = every word_byte (b ∷ x)

abbrev pub sound_token : Token → Bool
sound_token (function_name n) = name_spelling n
sound_token (word w) = every word_byte w
sound_token (quoted text) = every is_byte text
sound_token (sign b) = true
sound_token text_end = true
sound_token malformed = true

abbrev pub is_nil : List Placed → Bool
is_nil [] = true
is_nil (t ∷ ts) = false

abbrev pub ends_text : Token → List Placed → Bool
ends_text token ts = pick (is_text_end token) (is_nil ts) true

unfoldable pub sound_tokens : List Placed → Bool
sound_tokens [] = true
sound_tokens (t ∷ ts) = both (both (sound_token t.token) (ends_text t.token ts)) (sound_tokens ts)

pub sound-first : (t : Placed) (ts : List Placed) → sound_tokens (t ∷ ts) ≡ true → sound_token t.token ≡ true
unfolding sound_tokens
sound-first t ts s =
    both_left (sound_token t.token) (ends_text t.token ts)
    (both_left (both (sound_token t.token) (ends_text t.token ts)) (sound_tokens ts) s)

pub sound-rest : (t : Placed) (ts : List Placed) → sound_tokens (t ∷ ts) ≡ true → sound_tokens ts ≡ true
unfolding sound_tokens
sound-rest t ts s = both_right (both (sound_token t.token) (ends_text t.token ts)) (sound_tokens ts) s

is-nil : (ts : List Placed) → is_nil ts ≡ true → ts ≡ []
is-nil [] e = refl
is-nil (t ∷ ts) e = impossible e

-- nothing comes after the end of the text
pub sound-end : (t : Placed) (ts : List Placed) → sound_tokens (t ∷ ts) ≡ true → is_text_end t.token ≡ true → ts ≡ []
unfolding sound_tokens
sound-end t ts s e =
    is-nil ts
    (rw e at (both_right (sound_token t.token) (ends_text t.token ts)
    (both_left (both (sound_token t.token) (ends_text t.token ts)) (sound_tokens ts) s)))

-- SPELLING WITH THE LIMITS

pub name-spelled : (n : Name) → name_spelling n ≡ true → leb (length n) max_name ≡ true → spelled_name n ≡ true
name-spelled [] s l = impossible s
name-spelled (b ∷ n) s l =
    both_true (both_left (in_class alphabetic b) (every name_byte n) s)
    (both_true (both_right (in_class alphabetic b) (every name_byte n) s) l)

pub spelled-name-short : (n : Name) → spelled_name n ≡ true → leb (length n) max_name ≡ true
spelled-name-short n s = le-leb (length n) max_name (name-short n (rw s tt))

pub identifier-spelled : (x : Name) → identifier_spelling x ≡ true → leb (length x) max_identifier ≡ true → spelled_identifier x ≡ true
identifier-spelled [] s l = impossible s
identifier-spelled (b ∷ x) s l = both_true s l

pub spelled-identifier-short : (x : Name) → spelled_identifier x ≡ true → leb (length x) max_identifier ≡ true
spelled-identifier-short x s = le-leb (length x) max_identifier (identifier-short x (rw s tt))

-- ITEMS

abbrev pub sound_item : Item → Bool
sound_item (characters text) = every is_byte text
sound_item (symbol_item x) = identifier_spelling x
sound_item (part_item x) = identifier_spelling x
sound_item no_item = true

sound-choice : (p q : Bool) (x : Name) → identifier_spelling x ≡ true
    → sound_item (pick p (symbol_item x) (pick q (part_item x) no_item)) ≡ true
sound-choice true q x s = s
sound-choice false true x s = s
sound-choice false false x s = refl

sound-variable : (w : Bytes) → every word_byte w ≡ true → sound_item (variable_of w) ≡ true
unfolding every
sound-variable [] s = refl
sound-variable (b ∷ []) s = refl
sound-variable (b ∷ c ∷ x) s = sound-choice (eqb b 115) (eqb b 101) (c ∷ x) (both_right (word_byte b) (every word_byte (c ∷ x)) s)

pub item-sound : (token : Token) → sound_token token ≡ true → sound_item (item_of token) ≡ true
item-sound (function_name n) s = refl
item-sound (word w) s = sound-variable w s
item-sound (quoted text) s = s
item-sound (sign b) s = refl
item-sound text_end s = refl
item-sound malformed s = refl
