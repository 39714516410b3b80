-- Which trees a table may have: 01 'Table text' with its limits, name rules and variable rules, as tests on the tree.
use Rattle.std.specs.Prelude.{ℕ, suc, ◌+◌, max, Bool, true, false, not, List, [], ◌∷◌, ◌++◌, map, leb, ltb, eqb, length}
use Rattle.std.proofs.Math.Option.{Option, none, some}
use Rattle.meaning.specs.Choice.{Name, pick, both, either, is_some, every, same_bytes}
use Rattle.meaning.specs.Ascii.{hyphen, underscore}
use Rattle.meaning.specs.Classes.{in_class, digit, alphabetic}
use Rattle.meaning.specs.Tree.{character, symbol, Element, letter, part, Subject, of_symbol, of_part, Condition}
use Rattle.meaning.specs.Tree.{Expression, end, then_character, then_symbol, then_part, then_call, Sentence, Function}
use Rattle.meaning.specs.Tree.{Table}
use Rattle.meaning.specs.Names.{is_predicate, is_reserved, is_known}

-- "table 32,768 bytes; 64 functions; 512 sentences in all; name 24 bytes; identifier after s or e 8; pattern 64
-- characters and s-variables, of which 16 different; 8 conditions; expression 128 items (character, variable, call),
-- those inside calls included", "at most 16 calls one inside another"
abbrev pub max_table : ℕ
max_table = 32768

abbrev pub max_functions : ℕ
max_functions = 64

abbrev pub max_sentences : ℕ
max_sentences = 512

abbrev pub max_name : ℕ
max_name = 24

abbrev pub max_identifier : ℕ
max_identifier = 8

abbrev pub max_letters : ℕ
max_letters = 64

abbrev pub max_symbols : ℕ
max_symbols = 16

abbrev pub max_conditions : ℕ
max_conditions = 8

abbrev pub max_items : ℕ
max_items = 128

abbrev pub max_nesting : ℕ
max_nesting = 16

-- SPELLING

abbrev pub is_byte : ℕ → Bool
is_byte b = ltb b 256

abbrev pub word_byte : ℕ → Bool
word_byte b = either (in_class alphabetic b) (in_class digit b)

abbrev pub name_byte : ℕ → Bool
name_byte b = either (word_byte b) (either (eqb b underscore) (eqb b hyphen))

-- "Function name: a letter, then letters, digits, _ or -"
abbrev pub spelled_name : Name → Bool
spelled_name [] = false
spelled_name (b ∷ n) = both (in_class alphabetic b) (both (every name_byte n) (leb (length (b ∷ n)) max_name))

-- "at least one letter or digit"
abbrev pub spelled_identifier : Name → Bool
spelled_identifier [] = false
spelled_identifier (b ∷ x) = both (every word_byte (b ∷ x)) (leb (length (b ∷ x)) max_identifier)

-- THE PATTERN

unfoldable pub member : Name → List Name → Bool
member x [] = false
member x (y ∷ ys) = either (same_bytes x y) (member x ys)

abbrev pub added : Name → List Name → List Name
added x known = pick (member x known) known (known ++ x ∷ [])

-- the different s-variables, in the order in which the pattern first names them
unfoldable pub symbols_from : List Name → List Element → List Name
symbols_from known [] = known
symbols_from known (letter (character c) ∷ es) = symbols_from known es
symbols_from known (letter (symbol x) ∷ es) = symbols_from (added x known) es
symbols_from known (part x ∷ es) = symbols_from known es

abbrev pub symbols_of : List Element → List Name
symbols_of es = symbols_from [] es

-- the e-variables in order
unfoldable pub parts_of : List Element → List Name
parts_of [] = []
parts_of (letter l ∷ es) = parts_of es
parts_of (part x ∷ es) = x ∷ parts_of es

unfoldable pub letters_in : List Element → ℕ
letters_in [] = 0
letters_in (letter l ∷ es) = suc (letters_in es)
letters_in (part x ∷ es) = letters_in es

abbrev pub spelled_element : Element → Bool
spelled_element (letter (character c)) = is_byte c
spelled_element (letter (symbol x)) = spelled_identifier x
spelled_element (part x) = spelled_identifier x

-- "Between two e-variables at least one character or s-variable stands"
unfoldable pub parted : List Element → Bool
parted [] = true
parted (letter l ∷ es) = parted es
parted (part x ∷ []) = true
parted (part x ∷ letter l ∷ es) = parted es
parted (part x ∷ part y ∷ es) = false

-- "s and e share an identifier, e twice" are refused
unfoldable pub distinct : List Name → Bool
distinct [] = true
distinct (x ∷ xs) = both (not (member x xs)) (distinct xs)

abbrev pub allowed_pattern : List Element → Bool
allowed_pattern p =
    both (every spelled_element p)
    (both (leb (length (parts_of p)) 2)
    (both (parted p)
    (both (distinct (symbols_of p ++ parts_of p))
    (both (leb (letters_in p) max_letters)
    (leb (length (symbols_of p)) max_symbols)))))

-- CONDITIONS

-- "on an s-variable of the pattern"; of an e-variable, "one that is not in the pattern gets 7" (T-03)
abbrev pub of_pattern : List Name → List Name → Subject → Bool
of_pattern symbols parts (of_symbol x) = member x symbols
of_pattern symbols parts (of_part x) = member x parts

abbrev pub all_of_pattern : List Name → List Name → List Condition → Bool
all_of_pattern symbols parts cs = every (λ c. of_pattern symbols parts c.subject) cs

abbrev pub allowed_conditions : List Name → List Name → List Condition → Bool
allowed_conditions symbols parts cs = both (all_of_pattern symbols parts cs) (leb (length cs) max_conditions)

-- THE EXPRESSION

unfoldable pub items_in : Expression → ℕ
items_in end = 0
items_in (then_character c e) = suc (items_in e)
items_in (then_symbol x e) = suc (items_in e)
items_in (then_part x e) = suc (items_in e)
items_in (then_call place n a e) = suc (items_in a + items_in e)

-- how many calls stand one inside another
unfoldable pub nesting : Expression → ℕ
nesting end = 0
nesting (then_character c e) = nesting e
nesting (then_symbol x e) = nesting e
nesting (then_part x e) = nesting e
nesting (then_call place n a e) = max (suc (nesting a)) (nesting e)

-- characters are bytes, s-variables are the pattern's, names are spelled as names and are no predicate's
unfoldable pub spelled_items : List Name → Expression → Bool
spelled_items symbols end = true
spelled_items symbols (then_character c e) = both (is_byte c) (spelled_items symbols e)
spelled_items symbols (then_symbol x e) = both (member x symbols) (spelled_items symbols e)
spelled_items symbols (then_part x e) = spelled_items symbols e
spelled_items symbols (then_call place n a e) =
    both (both (spelled_name n) (not (is_predicate n))) (both (spelled_items symbols a) (spelled_items symbols e))

-- the e-variables that may still come after this one: "each e-variable of the pattern stands at most once in the
-- expression, in the pattern's order"
unfoldable pub coming_after : Name → List Name → Option (List Name)
coming_after x [] = none
coming_after x (y ∷ ys) = let later = coming_after x ys in pick (same_bytes x y) (some ys) later

abbrev pub where_some : {A B : Type 0} → Option A → (A → Option B) → Option B
where_some none k = none
where_some (some a) k = k a

-- the e-variables that may still come after an expression, or none where one is repeated, out of order or not the
-- pattern's
unfoldable pub coming_after_all : Expression → List Name → Option (List Name)
coming_after_all end coming = some coming
coming_after_all (then_character c e) coming = coming_after_all e coming
coming_after_all (then_symbol x e) coming = coming_after_all e coming
coming_after_all (then_part x e) coming = where_some (coming_after x coming) (coming_after_all e)
coming_after_all (then_call place n a e) coming = where_some (coming_after_all a coming) (coming_after_all e)

abbrev pub allowed_expression : List Name → List Name → Expression → Bool
allowed_expression symbols parts e =
    both (spelled_items symbols e)
    (both (is_some (coming_after_all e parts))
    (both (leb (items_in e) max_items)
    (leb (nesting e) max_nesting)))

-- SENTENCES, FUNCTIONS, THE TABLE

abbrev pub allowed_sentence : Sentence → Bool
allowed_sentence s =
    both (allowed_pattern s.pattern)
    (both (allowed_conditions (symbols_of s.pattern) (parts_of s.pattern) s.conditions)
    (allowed_expression (symbols_of s.pattern) (parts_of s.pattern) s.expression))

-- 000: a function has at least one sentence
abbrev pub some_sentence : List Sentence → Bool
some_sentence [] = false
some_sentence (s ∷ ss) = true

abbrev pub allowed_function : Function → Bool
allowed_function f =
    both (both (spelled_name f.name) (not (is_reserved f.name)))
    (both (some_sentence f.sentences) (every allowed_sentence f.sentences))

unfoldable pub sentences_in : Table → ℕ
sentences_in [] = 0
sentences_in (f ∷ fs) = length f.sentences + sentences_in fs

-- every called name is built in or declared
unfoldable pub calls_known : Table → Expression → Bool
calls_known t end = true
calls_known t (then_character c e) = calls_known t e
calls_known t (then_symbol x e) = calls_known t e
calls_known t (then_part x e) = calls_known t e
calls_known t (then_call place n a e) =
    both (is_known t n) (both (calls_known t a) (calls_known t e))

abbrev pub names_of : Table → List Name
names_of t = map (λ f. f.name) t

abbrev pub allowed : Table → Bool
allowed t =
    both (every allowed_function t)
    (both (distinct (names_of t))
    (both (leb (length t) max_functions)
    (both (leb (sentences_in t) max_sentences)
    (every (λ f. every (λ s. calls_known t s.expression) f.sentences) t))))
