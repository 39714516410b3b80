-- Worked rows of allowed trees: for each test of Allowed what just passes and what just fails.
use Prim.Native.Nat.{ℕ, zero, suc}
use Prim.Native.String.{String}
use mathlib.Core.Path.{◌≡◌, refl}
use mathlib.Core.Bool.{Bool, true, false, not}
use mathlib.Core.List.{List, [], ◌∷◌, ◌++◌, map}
use mathlib.Core.Option.{none, some}
use lib.ListN.{replicate}
use Rattle.meaning.specs.Choice.{every}
use Rattle.meaning.specs.Classes.{digit}
use Rattle.meaning.specs.Tree.{character, symbol, Element, letter, part, Subject, of_symbol, of_part, Condition}
use Rattle.meaning.specs.Tree.{Expression, end, then_character, then_symbol, then_part, then_call, Sentence, Function, Table}
use Rattle.meaning.specs.Grammar.{then_characters}
use Rattle.meaning.specs.Listing.{decimal}
use Rattle.meaning.specs.Allowed.{spelled_name, spelled_identifier, symbols_of, parts_of, letters_in, allowed_pattern, allowed_conditions}
use Rattle.meaning.specs.Allowed.{items_in, nesting, coming_after_all, allowed_expression, allowed_sentence, allowed_function, allowed}
use Rattle.meaning.proofs.Rows.Read.{bytes, again}
use Rattle.meaning.proofs.Rows.Classes.{of_each_byte, turns}
use Rattle.meaning.proofs.Rows.Tables.{x1, x2, x3, plain, function}
use Rattle.meaning.proofs.Rows.Computing.{computing}

-- a row: what a test is to say
abbrev passes : Bool → Bool
passes verdict = verdict

abbrev fails : Bool → Bool
fails verdict = not verdict

unfoldable hold : List Bool → Bool
unfolding computing then_characters
hold rows = every (λ row. row) rows

-- SPELLING

-- "a letter, then letters, digits, _ or -"
first-bytes-of-names : of_each_byte (λ b. spelled_name (b ∷ [])) ≡ turns false (65 ∷ 26 ∷ 6 ∷ 26 ∷ 133 ∷ [])
unfolding hold
first-bytes-of-names = refl

later-bytes-of-names : of_each_byte (λ b. spelled_name (65 ∷ b ∷ []))
    ≡ turns false (45 ∷ 1 ∷ 2 ∷ 10 ∷ 7 ∷ 26 ∷ 4 ∷ 1 ∷ 1 ∷ 26 ∷ 133 ∷ [])
unfolding hold
later-bytes-of-names = refl

-- "at least one letter or digit"
bytes-of-identifiers : of_each_byte (λ b. spelled_identifier (b ∷ [])) ≡ turns false (48 ∷ 10 ∷ 7 ∷ 26 ∷ 6 ∷ 26 ∷ 133 ∷ [])
unfolding hold
bytes-of-identifiers = refl

lengths :
    hold
    (fails (spelled_name [])
    ∷ passes (spelled_name (again 24 "a"))
    ∷ fails (spelled_name (again 25 "a"))
    ∷ fails (spelled_identifier [])
    ∷ passes (spelled_identifier (again 8 "1"))
    ∷ fails (spelled_identifier (again 9 "1"))
    ∷ fails (spelled_identifier (bytes "1-"))
    ∷ [])
    ≡ true
unfolding hold
lengths = refl

-- THE PATTERN

-- letters and e-variables as they are written in a table
abbrev a : Element
a = letter (character 97)

abbrev s1 : Element
s1 = letter (symbol x1)

abbrev s2 : Element
s2 = letter (symbol x2)

abbrev e1 : Element
e1 = part x1

abbrev e2 : Element
e2 = part x2

abbrev e3 : Element
e3 = part x3

-- so many different s-variables, whose identifiers are one byte each from a byte on
abbrev different : ℕ → ℕ → List Element
different zero b = []
different (suc n) b = letter (symbol (b ∷ [])) ∷ different n (suc b)

-- what is found in a pattern: each s-variable once, every e-variable, both in order; how many letters
symbols-found : symbols_of (e3 ∷ s2 ∷ a ∷ s1 ∷ s2 ∷ s1 ∷ []) ≡ x2 ∷ x1 ∷ []
unfolding hold
symbols-found = refl

parts-found : parts_of (s1 ∷ e3 ∷ a ∷ e1 ∷ e3 ∷ []) ≡ x3 ∷ x1 ∷ x3 ∷ []
unfolding hold
parts-found = refl

letters-found : letters_in (e3 ∷ s1 ∷ a ∷ s1 ∷ e1 ∷ []) ≡ 3
unfolding hold
letters-found = refl

patterns :
    hold
    (passes (allowed_pattern [])
    -- spelled as bytes and identifiers
    ∷ passes (allowed_pattern (letter (character 255) ∷ []))
    ∷ fails (allowed_pattern (letter (character 256) ∷ []))
    ∷ passes (allowed_pattern (letter (symbol (again 8 "1")) ∷ []))
    ∷ fails (allowed_pattern (letter (symbol (again 9 "1")) ∷ []))
    ∷ passes (allowed_pattern (part (again 8 "1") ∷ []))
    ∷ fails (allowed_pattern (part (again 9 "1") ∷ []))
    -- at most two e-variables, with a letter between them
    ∷ passes (allowed_pattern (e1 ∷ a ∷ e2 ∷ []))
    ∷ fails (allowed_pattern (e1 ∷ a ∷ e2 ∷ a ∷ e3 ∷ []))
    ∷ passes (allowed_pattern (a ∷ e1 ∷ s2 ∷ e3 ∷ a ∷ []))
    ∷ fails (allowed_pattern (e1 ∷ e2 ∷ []))
    ∷ fails (allowed_pattern (a ∷ e1 ∷ e2 ∷ a ∷ []))
    -- "s and e share an identifier, e twice" are refused; s twice is not
    ∷ passes (allowed_pattern (s1 ∷ s1 ∷ e2 ∷ []))
    ∷ fails (allowed_pattern (s1 ∷ e1 ∷ []))
    ∷ fails (allowed_pattern (s2 ∷ s1 ∷ e1 ∷ []))
    ∷ fails (allowed_pattern (e1 ∷ a ∷ e1 ∷ []))
    ∷ fails (allowed_pattern (s2 ∷ e1 ∷ a ∷ e1 ∷ []))
    -- 64 letters, 16 of them different s-variables
    ∷ passes (allowed_pattern (e1 ∷ replicate 64 a))
    ∷ fails (allowed_pattern (replicate 65 a))
    ∷ passes (allowed_pattern (s1 ∷ replicate 63 a))
    ∷ fails (allowed_pattern (s1 ∷ replicate 64 a))
    ∷ passes (allowed_pattern (different 16 65 ++ different 16 65))
    ∷ fails (allowed_pattern (different 17 65))
    ∷ [])
    ≡ true
unfolding hold
patterns = refl

-- CONDITIONS

abbrev ask : Subject → Condition
ask asked = record { predicate = digit; subject = asked; expected = true }

-- each on a variable of the pattern, here of s1 and e2; at most 8
abbrev conditioned : List Condition → Bool
conditioned cs = allowed_conditions (x1 ∷ []) (x2 ∷ []) cs

conditions :
    hold
    (passes (conditioned (ask (of_symbol x1) ∷ ask (of_part x2) ∷ []))
    ∷ fails (conditioned (ask (of_symbol x2) ∷ []))
    ∷ fails (conditioned (ask (of_part x1) ∷ []))
    ∷ fails (conditioned (ask (of_symbol x1) ∷ ask (of_symbol x3) ∷ []))
    ∷ passes (conditioned (replicate 8 (ask (of_symbol x1))))
    ∷ fails (conditioned (replicate 9 (ask (of_symbol x1))))
    ∷ [])
    ≡ true
unfolding hold
conditions = refl

-- THE EXPRESSION

abbrev call : String → Expression → Expression → Expression
call name argument after = then_call 0 (bytes name) argument after

-- so many characters, and so many calls one inside another, before and round an expression
abbrev characters : ℕ → Expression → Expression
characters n e = then_characters (again n "a") e

abbrev nested : ℕ → Expression → Expression
nested zero e = e
nested (suc n) e = call "F" (nested n e) end

-- 'a' s1 <F 'a' <F>> e2 <F>
abbrev mixed : Expression
mixed = then_character 97 (then_symbol x1 (call "F" (then_character 97 (nested 1 end)) (then_part x2 (nested 1 end))))

items-counted : items_in mixed ≡ 7
unfolding hold
items-counted = refl

nesting-counted :
    map nesting
    (end
    ∷ then_character 97 (nested 1 end)
    ∷ then_symbol x1 (nested 1 end)
    ∷ then_part x1 (nested 1 end)
    ∷ mixed
    ∷ call "F" end (nested 2 end)
    ∷ call "F" (nested 1 end) (nested 1 end)
    ∷ [])
    ≡ 0 ∷ 1 ∷ 1 ∷ 1 ∷ 2 ∷ 2 ∷ 2 ∷ []
unfolding hold
nesting-counted = refl

-- each e-variable at most once, in order: those that may still come after all items, with 1, 2 and 3 in the pattern
parts-to-come :
    map (λ e. coming_after_all e (x1 ∷ x2 ∷ x3 ∷ []))
    (end
    ∷ then_character 97 (then_part x1 end)
    ∷ then_symbol x1 (then_part x2 end)
    ∷ then_part x1 (then_part x2 end)
    ∷ then_part x2 (then_part x1 end)
    ∷ then_part x2 (then_part x2 end)
    ∷ call "F" (then_part x1 end) (then_part x2 end)
    ∷ call "F" (then_part x2 end) (then_part x1 end)
    ∷ call "F" (then_part x2 end) end
    ∷ [])
    ≡ some (x1 ∷ x2 ∷ x3 ∷ []) ∷ some (x2 ∷ x3 ∷ []) ∷ some (x3 ∷ []) ∷ some (x3 ∷ []) ∷ none ∷ none ∷ some (x3 ∷ []) ∷ none
    ∷ some (x3 ∷ []) ∷ []
unfolding hold
parts-to-come = refl

-- under a pattern of s1 and e2
abbrev expressed : Expression → Bool
expressed e = allowed_expression (x1 ∷ []) (x2 ∷ []) e

expressions :
    hold
    (passes (expressed mixed)
    -- characters are bytes, s-variables the pattern's, names no predicate's: outermost, in an argument and after a call
    ∷ passes (expressed (then_character 255 end))
    ∷ fails (expressed (then_character 256 end))
    ∷ fails (expressed (then_symbol x2 end))
    ∷ fails (expressed (then_character 97 (then_symbol x2 end)))
    ∷ fails (expressed (then_symbol x1 (then_symbol x2 end)))
    ∷ fails (expressed (then_part x2 (then_symbol x2 end)))
    ∷ fails (expressed (call "F" (then_symbol x2 end) end))
    ∷ fails (expressed (call "F" end (then_symbol x2 end)))
    ∷ passes (expressed (call "F-1" end end))
    ∷ fails (expressed (call "F+1" end end))
    ∷ fails (expressed (call "IsDigit" end end))
    ∷ fails (expressed (then_part x1 end))
    -- 128 items, 16 calls one inside another
    ∷ passes (expressed (characters 128 end))
    ∷ fails (expressed (characters 129 end))
    ∷ passes (expressed (nested 16 end))
    ∷ fails (expressed (nested 17 end))
    ∷ [])
    ≡ true
unfolding hold
expressions = refl

-- SENTENCES, FUNCTIONS, THE TABLE

abbrev asking : Subject → Sentence
asking asked = record { pattern = s1 ∷ e2 ∷ []; conditions = ask asked ∷ []; expression = end }

sentences :
    hold
    (passes (allowed_sentence (plain (s1 ∷ e2 ∷ []) mixed))
    ∷ fails (allowed_sentence (plain (s1 ∷ e1 ∷ []) end))
    ∷ passes (allowed_sentence (asking (of_symbol x1)))
    ∷ fails (allowed_sentence (asking (of_symbol x2)))
    ∷ passes (allowed_sentence (asking (of_part x2)))
    ∷ fails (allowed_sentence (asking (of_part x1)))
    ∷ fails (allowed_sentence (plain (s1 ∷ e2 ∷ []) (then_symbol x2 end)))
    ∷ fails (allowed_sentence (plain (s1 ∷ e2 ∷ []) (then_part x1 end)))
    ∷ [])
    ≡ true
unfolding hold
sentences = refl

-- `=`, and a sentence that calls a name
abbrev empty : Sentence
empty = plain [] end

abbrev calling : String → Sentence
calling name = plain [] (call name end end)

abbrev declared : String → List Sentence → Function
declared name ss = function (bytes name) ss

-- a name that isn't reserved, at least one sentence, all of them allowed
functions :
    hold
    (passes (allowed_function (declared "F" (empty ∷ [])))
    ∷ fails (allowed_function (declared "1" (empty ∷ [])))
    ∷ fails (allowed_function (declared "IsDigit" (empty ∷ [])))
    ∷ fails (allowed_function (declared "EmitA" (empty ∷ [])))
    ∷ fails (allowed_function (declared "DmAdd" (empty ∷ [])))
    ∷ fails (allowed_function (declared "F" []))
    ∷ fails (allowed_function (declared "F" (empty ∷ plain [] (then_part x1 end) ∷ [])))
    ∷ [])
    ≡ true
unfolding hold
functions = refl

-- so many functions with different names, A and the numbers from one on, of one sentence each
abbrev many : ℕ → ℕ → Table
many zero i = []
many (suc n) i = function (65 ∷ decimal i) (empty ∷ []) ∷ many n (suc i)

-- F and G of so many sentences each
abbrev pair : ℕ → ℕ → Table
pair m n = declared "F" (replicate m empty) ∷ declared "G" (replicate n empty) ∷ []

-- F, one sentence of which calls a name, and G of one sentence that calls another
abbrev callers : String → String → Table
callers first second = declared "F" (empty ∷ calling first ∷ []) ∷ declared "G" (calling second ∷ []) ∷ []

-- different names, 64 functions, 512 sentences in all; every called name is built in or declared
tables :
    hold
    (passes (allowed [])
    ∷ fails (allowed (declared "F" (empty ∷ []) ∷ declared "1" (empty ∷ []) ∷ []))
    ∷ fails (allowed (declared "F" (empty ∷ []) ∷ declared "F" (empty ∷ []) ∷ []))
    ∷ passes (allowed (many 64 0))
    ∷ fails (allowed (many 65 0))
    ∷ passes (allowed (pair 511 1))
    ∷ fails (allowed (pair 511 2))
    ∷ passes (allowed (callers "G" "F"))
    ∷ passes (allowed (callers "EmitA" "DmSub"))
    ∷ fails (allowed (callers "H" "F"))
    ∷ fails (allowed (callers "G" "H"))
    ∷ [])
    ≡ true
unfolding hold
tables = refl

-- a call that can't be done is found after an item of each kind, in an argument and after a call
abbrev unknown : Expression
unknown = call "H" end end

abbrev knows : Expression → Bool
knows e = allowed (declared "F" (plain (s1 ∷ e2 ∷ []) e ∷ []) ∷ [])

calls :
    hold
    (passes (knows mixed)
    ∷ fails (knows (then_character 97 unknown))
    ∷ fails (knows (then_symbol x1 unknown))
    ∷ fails (knows (then_part x2 unknown))
    ∷ fails (knows (call "F" unknown end))
    ∷ fails (knows (call "F" end unknown))
    ∷ [])
    ≡ true
unfolding hold
calls = refl
