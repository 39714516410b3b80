-- Worked rows of the listing, from trees: strings at every border, items, conditions and whole tables.
use Prim.Native.String.{String}
use mathlib.Core.Path.{◌≡◌, refl}
use mathlib.Core.Bool.{Bool, true, false}
use mathlib.Core.List.{List, [], ◌∷◌}
use Rattle.meaning.specs.Choice.{Bytes, Name, every, same_bytes}
use Rattle.meaning.specs.Classes.{Class, digit, blank}
use Rattle.meaning.specs.Tree.{character, symbol, Element, letter, part, of_symbol, Condition, Expression, end, then_character, then_symbol}
use Rattle.meaning.specs.Tree.{then_part, then_call}
use Rattle.meaning.specs.Grammar.{then_characters}
use Rattle.meaning.specs.Listing.{unquoted, decimal, pattern_text, conditions_text, expression_text, sentence_text, sentences_text, listing}
use Rattle.meaning.proofs.Rows.Read.{bytes}
use Rattle.meaning.proofs.Rows.Tables.{x1, x2, table_z, table_r, table_h, table_k, table_p, table_m}

-- what is listed, and how it stands
record Row : Type 0 where
  listed : Bytes
  text : Bytes

abbrev lists : Bytes → String → Row
lists listed text = record { listed = listed; text = bytes text }

hold : List Row → Bool
unfolding every same_bytes pattern_text conditions_text expression_text sentences_text listing then_characters
hold rows = every (λ r. same_bytes r.listed r.text) rows

-- STRINGS

abbrev string : Bytes → Bytes
string text = expression_text unquoted (then_characters text end)

-- "others use shortest codes, and a digit right after a code is a code too"; \t, \n and the escaped ones are no codes
codes :
    hold
    (lists (string []) ""
    ∷ lists (string (5 ∷ 55 ∷ [])) " '\\5\\55'"
    ∷ lists (string (5 ∷ 55 ∷ 48 ∷ 57 ∷ 32 ∷ 55 ∷ [])) " '\\5\\55\\48\\57 7'"
    ∷ lists (string (5 ∷ 47 ∷ 58 ∷ [])) " '\\5/:'"
    ∷ lists (string (9 ∷ 55 ∷ [])) " '\\t7'"
    ∷ lists (string (10 ∷ 55 ∷ [])) " '\\n7'"
    ∷ lists (string (5 ∷ 9 ∷ 55 ∷ [])) " '\\5\\t7'"
    ∷ lists (string (5 ∷ 39 ∷ 55 ∷ [])) " '\\5\\'7'"
    ∷ lists (string (39 ∷ 34 ∷ 92 ∷ [])) " '\\'\\\"\\\\'"
    ∷ lists (string (0 ∷ 8 ∷ 11 ∷ 31 ∷ 32 ∷ [])) " '\\0\\8\\11\\31 '"
    ∷ lists (string (126 ∷ 127 ∷ 128 ∷ 200 ∷ 255 ∷ [])) " '~\\127\\128\\200\\255'"
    ∷ [])
    ≡ true
unfolding hold
codes = refl

-- "shortest codes": no digit before the first that counts
decimals :
    hold
    (lists (decimal 0) "0"
    ∷ lists (decimal 9) "9"
    ∷ lists (decimal 10) "10"
    ∷ lists (decimal 99) "99"
    ∷ lists (decimal 100) "100"
    ∷ lists (decimal 109) "109"
    ∷ lists (decimal 199) "199"
    ∷ lists (decimal 200) "200"
    ∷ lists (decimal 255) "255"
    ∷ [])
    ≡ true
unfolding hold
decimals = refl

-- ITEMS: parted by one blank, none before `,` `;` `:` `>`; neighbouring characters join

abbrev pattern : List Element → Bytes
pattern p = pattern_text unquoted p

abbrev expression : Expression → Bytes
expression e = expression_text unquoted e

abbrev f : Name
f = 70 ∷ []

items :
    hold
    (lists (pattern []) ""
    ∷ lists (pattern (letter (character 97) ∷ letter (character 98) ∷ letter (symbol x1) ∷ letter (character 99) ∷ part x2 ∷ [])) " 'ab' s1 'c' e2"
    ∷ lists (pattern (letter (character 5) ∷ letter (symbol x1) ∷ letter (character 55) ∷ [])) " '\\5' s1 '7'"
    ∷ lists (expression (then_call 0 f end end)) " <F>"
    ∷ lists (expression (then_call 0 f (then_call 0 f (then_call 0 f end end) end) (then_call 0 f end end))) " <F <F <F>>> <F>"
    ∷ lists (expression (then_character 97 (then_call 0 f (then_character 98 end) (then_character 99 (then_symbol x1 end))))) " 'a' <F 'b'> 'c' s1"
    ∷ lists (expression (then_character 5 (then_call 0 f (then_character 55 end) (then_part x2 end)))) " '\\5' <F '7'> e2"
    ∷ [])
    ≡ true
unfolding hold
items = refl

-- SENTENCES AND TABLES

-- a condition on s1
abbrev asks : Class → Bool → Condition
asks class truth = record { predicate = class; subject = of_symbol x1; expected = truth }

abbrev sentence : List Element → List Condition → Expression → Bytes
sentence p cs e = sentence_text (record { pattern = p; conditions = cs; expression = e })

-- no blank begins the line, and no other byte goes for it: the last tree is none that is allowed
sentences :
    hold
    (lists (sentence [] [] end) "=;\n"
    ∷ lists (sentence [] [] (then_character 32 end)) "= ' ';\n"
    ∷ lists (sentence (letter (symbol x1) ∷ []) (asks digit true ∷ asks blank false ∷ []) end) "s1, <IsDigit s1>: 'T', <IsBlank s1>: 'F' =;\n"
    ∷ lists (sentence [] (asks digit true ∷ []) end) ", <IsDigit s1>: 'T' =;\n"
    ∷ [])
    ≡ true
unfolding hold
sentences = refl

-- the tables of 01's 'Runs to hold on to'
tables :
    hold
    (lists (listing []) ""
    ∷ lists (listing table_z) "F {\n'0' e1 = <F e1>;\ne1 = e1;\n}\n"
    ∷ lists (listing table_r) "G {\ns1 e2 = <G e2> s1;\n=;\n}\n"
    ∷ lists (listing table_h) "H {\ne1 s2 e3, <IsDigit s2>: 'T' = s2;\n}\n"
    ∷ lists (listing table_k) "K {\ns1 e2 s1 e3 = e2 '|' e3;\n}\n"
    ∷ lists (listing table_p) "P {\ne1 = <Q 'ab' e1>;\n}\nQ {\ne1 = e1;\n}\n"
    ∷ lists (listing table_m) "M {\ne1 = <EmitA <N e1>> <EmitB 'x'>;\n}\nN {\ne1 = <EmitC e1> 'y';\n}\n"
    ∷ [])
    ≡ true
unfolding hold
tables = refl
