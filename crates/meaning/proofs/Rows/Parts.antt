-- Worked rows of conditions on an e-variable (T-03): tables through reading, listing and words, then rewriting, the run without end and the code that
-- is unpacked from its words.
use Prim.Native.String.{String}
use mathlib.Core.Path.{◌≡◌, refl}
use mathlib.Core.Bool.{Bool, true, false}
use mathlib.Core.List.{List, [], ◌∷◌, map}
use lib.ListN.{take}
use Rattle.meaning.specs.Choice.{every}
use Rattle.meaning.specs.Classes.{Class, digit, upper, lower}
use Rattle.meaning.specs.Tree.{character, symbol, Element, letter, part, Subject, of_symbol, of_part, Condition, Expression, end, then_character}
use Rattle.meaning.specs.Tree.{then_symbol, then_part, Sentence, Table}
use Rattle.meaning.specs.Allowed.{allowed}
use Rattle.meaning.specs.Reading.{accepted, read}
use Rattle.meaning.specs.Listing.{pattern_text, conditions_text, expression_text, sentences_text, listing}
use Rattle.meaning.specs.Translation.{translate}
use Rattle.meaning.specs.Packing.{code_word, counts_word, pack}
use Rattle.meaning.proofs.Rows.Computing.{computing}
use Rattle.meaning.proofs.Rows.Tables.{x1, x2, all1, plain, function}
use Rattle.meaning.proofs.Rows.Read.{bytes, hold, says}
use Rattle.meaning.proofs.Rows.Starred.{Row, AllHold, ample, most, result, same}

-- THE TABLES

abbrev asks : Class → Subject → Bool → Condition
asks class v truth = record { predicate = class; subject = v; expected = truth }

abbrev when : List Element → List Condition → Expression → Sentence
when p cs e = record { pattern = p; conditions = cs; expression = e }

abbrev table_of : List Sentence → Table
table_of ss = function (70 ∷ []) ss ∷ []

abbrev parts12 : Expression
parts12 = then_part x1 (then_part x2 end)

-- two parts round an x, and a bar between them
abbrev barred : List Condition → Table
barred cs =
    table_of
    (when (part x1 ∷ letter (character 120) ∷ part x2 ∷ []) cs (then_part x1 (then_character 124 (then_part x2 end))) ∷ [])

-- 'F' is 'not every byte': it never holds on an empty part
abbrev not_digits : Table
not_digits =
    table_of
    (when all1 (asks digit (of_part x1) false ∷ []) (then_character 102 end) ∷ plain all1 (then_character 116 end) ∷ [])

-- the last part is of digits; the first is not
abbrev digits_last : Table
digits_last = barred (asks digit (of_part x2) true ∷ [])

abbrev not_digits_first : Table
not_digits_first = barred (asks digit (of_part x1) false ∷ [])

-- conditions in another order than the parts, and two on one part
abbrev mixed : Table
mixed =
    table_of
    (when (part x1 ∷ letter (character 97) ∷ part x2 ∷ [])
    (asks digit (of_part x2) true ∷ asks digit (of_part x1) false ∷ asks upper (of_part x2) false ∷ []) parts12 ∷ [])

-- templates before, between and after the parts
abbrev round₁ : Table
round₁ =
    table_of
    (when (letter (character 40) ∷ part x1 ∷ letter (character 41) ∷ []) (asks digit (of_part x1) true ∷ []) (then_part x1 end) ∷ [])

abbrev round₂ : Table
round₂ =
    table_of
    (when
    (letter (character 40) ∷ part x1 ∷ letter (character 41) ∷ letter (character 61) ∷ part x2 ∷ letter (character 46) ∷ [])
    (asks digit (of_part x1) true ∷ asks upper (of_part x2) true ∷ []) parts12 ∷ [])

-- an s-variable and an e-variable
abbrev of_both : Table
of_both =
    table_of
    (when (letter (symbol x1) ∷ part x2 ∷ []) (asks lower (of_part x2) true ∷ asks upper (of_symbol x1) true ∷ [])
    (then_part x2 (then_symbol x1 end)) ∷ [])

abbrev tables : List Table
tables = not_digits ∷ digits_last ∷ not_digits_first ∷ mixed ∷ round₁ ∷ round₂ ∷ of_both ∷ []

abbrev texts : List String
texts =
    "F{e1,<IsDigit e1>:'F'='f';e1='t'}"
    ∷ "F{e1'x'e2,<IsDigit e2>:'T'=e1'|'e2}"
    ∷ "F{e1'x'e2,<IsDigit e1>:'F'=e1'|'e2}"
    ∷ "F{e1'a'e2,<IsDigit e2>:'T',<IsDigit e1>:'F',<IsUpper e2>:'F'=e1 e2}"
    ∷ "F{'('e1')',<IsDigit e1>:'T'=e1}"
    ∷ "F{'('e1')='e2'.',<IsDigit e1>:'T',<IsUpper e2>:'T'=e1 e2}"
    ∷ "F{s1 e2,<IsLower e2>:'T',<IsUpper s1>:'T'=e2 s1}"
    ∷ []

reads : map (λ (s : String). read (bytes s)) texts ≡ map accepted tables
unfolding hold
reads = refl

lists : map listing tables ≡
    map bytes
    ("F {\ne1, <IsDigit e1>: 'F' = 'f';\ne1 = 't';\n}\n"
    ∷ "F {\ne1 'x' e2, <IsDigit e2>: 'T' = e1 '|' e2;\n}\n"
    ∷ "F {\ne1 'x' e2, <IsDigit e1>: 'F' = e1 '|' e2;\n}\n"
    ∷ "F {\ne1 'a' e2, <IsDigit e2>: 'T', <IsDigit e1>: 'F', <IsUpper e2>: 'F' = e1 e2;\n}\n"
    ∷ "F {\n'(' e1 ')', <IsDigit e1>: 'T' = e1;\n}\n"
    ∷ "F {\n'(' e1 ')=' e2 '.', <IsDigit e1>: 'T', <IsUpper e2>: 'T' = e1 e2;\n}\n"
    ∷ "F {\ns1 e2, <IsLower e2>: 'T', <IsUpper s1>: 'T' = e2 s1;\n}\n"
    ∷ [])
unfolding pattern_text conditions_text expression_text sentences_text listing
lists = refl

-- docs/CODE.md has the last of these words
words-of-digits : take 6 (pack (translate digits_last)) ≡ 1 ∷ 2 ∷ 65554 ∷ 720898 ∷ 2013266433 ∷ 71188 ∷ []
unfolding computing
words-of-digits = refl

-- Predicate over a part is word 20: the registers of start and end, 16 for 'T', 32 for each class, and the two offsets
words-of-round : pack (translate round₂) ≡
    1 ∷ 2 ∷
    code_word 18 1 2 1 ∷ counts_word 6 0 14 ∷
    code_word 1 0 0 40 ∷ code_word 1 2 0 41 ∷ code_word 1 2 1 61 ∷ code_word 1 1 1 46 ∷ code_word 20 24 1 0 ∷ code_word 20 54 2 1 ∷
    code_word 5 0 1 0 ∷ code_word 6 2 0 1 ∷ 7 ∷ code_word 5 0 2 0 ∷ code_word 6 3 0 3 ∷ 7 ∷ code_word 5 0 1 0 ∷ 15 ∷ 19 ∷ []
unfolding computing
words-of-round = refl

-- READING

-- at the variable 4 comes before 7; s and e do not stand for each other; what is no variable stays 3; no predicate is 5 at the name
refusals :
    hold
    (says "F{e1,<IsDigit e2>:'T'=}" 7 14
    ∷ says "F{e1,<IsDigit e123456789>:'T'=}" 4 14
    ∷ says "F{e12345678,<IsDigit e12345678>:'T'=}" 0 0
    ∷ says "F{sX,<IsDigit eX>:'T'=}" 7 14
    ∷ says "F{eX,<IsDigit sX>:'T'=}" 7 14
    ∷ says "F{e1,<IsFoo e2>:'T'=}" 5 6
    ∷ says "F{e1,<IsDigit 'a'>:'T'=}" 3 14
    ∷ says "F{e1,<IsDigit e>:'T'=}" 3 14
    ∷ says "F{e1,<IsDigit e1 e1>:'T'=}" 3 17
    -- conditions use no e-variable up, and are in no order: repetition and order are the expression's
    ∷ says "F{e1'a'e2,<IsDigit e2>:'T',<IsDigit e1>:'T',<IsDigit e1>:'T'=e1 e2}" 0 0
    ∷ says "F{e1'a'e2,<IsDigit e1>:'T'=e2 e1}" 7 30
    ∷ [])
    ≡ true
unfolding hold
refusals = refl

tables-allowed : every allowed tables ≡ true
unfolding computing
tables-allowed = refl

-- RUNS

-- done in one step
abbrev gives : Table → String → String → Row
gives table text given = same table (bytes text) most ample (result 0 0 1 (1 ∷ []) (bytes given) [])

-- no sentence fits
abbrev fails : Table → String → Row
fails table text = same table (bytes text) most ample (result 11 1 1 (1 ∷ []) [] [])

abbrev rows : List Row
rows =
    -- the empty part is in every class
    gives not_digits "" "t" ∷
    gives not_digits "12" "t" ∷
    gives not_digits "1a" "f" ∷
    gives not_digits "a1" "f" ∷
    gives round₁ "()" "" ∷
    gives round₁ "(42)" "42" ∷
    fails round₁ "(4x)" ∷
    fails round₁ "(x4)" ∷
    -- the leftmost place at which the conditions hold too
    gives digits_last "axbx12" "axb|12" ∷
    gives digits_last "axbx" "axb|" ∷
    gives digits_last "x" "|" ∷
    gives digits_last "x1" "|1" ∷
    fails digits_last "x1a" ∷
    gives not_digits_first "1x2x" "1x2|" ∷
    fails not_digits_first "x" ∷
    fails not_digits_first "12x" ∷
    gives mixed "xa1a2" "xa12" ∷
    fails mixed "xa" ∷
    gives round₂ "(12)=AB." "12AB" ∷
    gives round₂ "()=." "" ∷
    fails round₂ "(1)=)=AB." ∷
    gives of_both "Abc" "bcA" ∷
    fails of_both "abc" ∷
    fails of_both "AbC" ∷ []

parts-hold : AllHold rows
unfolding computing
parts-hold = refl
