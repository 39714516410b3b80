-- The listing of a tree: 01 'Table text', "Listing: `G {`, a line for each sentence ended by `;`, then `}`. Each line
-- ends with byte 10."
use Rattle.std.specs.Prelude.{ℕ, Bool, true, false, not, List, [], ◌∷◌, ◌++◌, eqb}
use Rattle.meaning.specs.Choice.{Bytes, Name, pick, both, either}
use Rattle.meaning.specs.Ascii.{tab, line_feed, space, single_quote, comma, colon, semicolon, less_than, equals}
use Rattle.meaning.specs.Ascii.{greater_than, backslash, small_e, small_n, small_s, small_t, left_brace, right_brace}
pub use Rattle.meaning.specs.Numerals.{decimal}
use Rattle.meaning.specs.Classes.{class_name, in_class, digit, within}
use Rattle.meaning.specs.Tree.{character, symbol, Element, letter, part, Subject, of_symbol, of_part, Condition}
use Rattle.meaning.specs.Tree.{Expression, end, then_character, then_symbol, then_part, then_call, Sentence, Function}
use Rattle.meaning.specs.Tree.{Table}
-- "the three escaped ones"
pub use Rattle.meaning.specs.Tokens.{is_escaped}
use Rattle.meaning.specs.Grammar.{truth_byte}

-- CHARACTERS

-- "Neighbouring characters join into one string": outside a string, in one, or in one right after a code
pub data Quoted : Type 0 where
  unquoted in_string after_code : Quoted

abbrev pub is_after_code : Quoted → Bool
is_after_code unquoted = false
is_after_code in_string = false
is_after_code after_code = true

-- "Items are parted by one blank": it stands before each item
abbrev pub open_quote : Quoted → Bytes
open_quote unquoted = space ∷ single_quote ∷ []
open_quote in_string = []
open_quote after_code = []

abbrev pub close_quote : Quoted → Bytes
close_quote unquoted = []
close_quote in_string = single_quote ∷ []
close_quote after_code = single_quote ∷ []

-- "Bytes 32 to 126 stand bare but for the three escaped ones; 9 and 10 use \t, \n; others use shortest codes, and a
-- digit right after a code is a code too."
abbrev pub is_coded : Quoted → ℕ → Bool
is_coded state c =
    both (not (either (eqb c tab) (eqb c line_feed)))
    (either (not (within 32 126 c)) (both (is_after_code state) (in_class digit c)))

abbrev pub character_text : Quoted → ℕ → Bytes
character_text state c =
    pick (is_coded state c) (backslash ∷ decimal c)
    (pick (is_escaped c) (backslash ∷ c ∷ [])
    (pick (eqb c tab) (backslash ∷ small_t ∷ [])
    (pick (eqb c line_feed) (backslash ∷ small_n ∷ [])
    (c ∷ []))))

abbrev pub after_character : Quoted → ℕ → Quoted
after_character state c = pick (is_coded state c) after_code in_string

abbrev pub quoted_character : Quoted → ℕ → Bytes
quoted_character state c = open_quote state ++ character_text state c

-- ITEMS

-- an s-variable and an e-variable after a blank
abbrev pub symbol_text : Name → Bytes
symbol_text x = space ∷ small_s ∷ x

abbrev pub part_text : Name → Bytes
part_text x = space ∷ small_e ∷ x

unfoldable pub pattern_text : Quoted → List Element → Bytes
pattern_text state [] = close_quote state
pattern_text state (letter (character c) ∷ es) = quoted_character state c ++ pattern_text (after_character state c) es
pattern_text state (letter (symbol x) ∷ es) = close_quote state ++ (symbol_text x ++ pattern_text unquoted es)
pattern_text state (part x ∷ es) = close_quote state ++ (part_text x ++ pattern_text unquoted es)

abbrev pub subject_text : Subject → Bytes
subject_text (of_symbol x) = symbol_text x
subject_text (of_part x) = part_text x

-- `, <Predicate sX>: 'T'`, "with none before `,` `;` `:` `>`"
abbrev pub condition_text : Condition → Bytes
condition_text c =
    comma ∷ space ∷ less_than ∷ (class_name c.predicate
    ++ (subject_text c.subject
    ++ greater_than ∷ colon ∷ space ∷ single_quote ∷ truth_byte c.expected ∷ single_quote ∷ []))

unfoldable pub conditions_text : List Condition → Bytes
conditions_text [] = []
conditions_text (c ∷ cs) = condition_text c ++ conditions_text cs

unfoldable pub expression_text : Quoted → Expression → Bytes
expression_text state end = close_quote state
expression_text state (then_character c e) = quoted_character state c ++ expression_text (after_character state c) e
expression_text state (then_symbol x e) = close_quote state ++ (symbol_text x ++ expression_text unquoted e)
expression_text state (then_part x e) = close_quote state ++ (part_text x ++ expression_text unquoted e)
expression_text state (then_call place n a e) =
    close_quote state ++ space ∷ less_than ∷ (n ++ (expression_text unquoted a ++ greater_than ∷ expression_text unquoted e))

-- SENTENCES AND FUNCTIONS

-- no blank stands at the beginning of a line
abbrev pub without_blank : Bytes → Bytes
without_blank [] = []
without_blank (b ∷ line) = pick (eqb b space) line (b ∷ line)

abbrev pub sentence_text : Sentence → Bytes
sentence_text s =
    without_blank
    (pattern_text unquoted s.pattern
    ++ (conditions_text s.conditions
    ++ space ∷ equals ∷ (expression_text unquoted s.expression ++ semicolon ∷ line_feed ∷ [])))

unfoldable pub sentences_text : List Sentence → Bytes
sentences_text [] = []
sentences_text (s ∷ ss) = sentence_text s ++ sentences_text ss

abbrev pub function_text : Function → Bytes
function_text f = f.name ++ space ∷ left_brace ∷ line_feed ∷ (sentences_text f.sentences ++ right_brace ∷ line_feed ∷ [])

unfoldable pub listing : Table → Bytes
listing [] = []
listing (f ∷ fs) = function_text f ++ listing fs
