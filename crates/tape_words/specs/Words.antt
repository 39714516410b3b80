-- What a word of the tape is where a pattern, conditions or an expression may go on, for any word at all.
use Rattle.std.specs.Prelude.{ℕ, ◌-◌, ◌/◌, ◌%◌, Bool, true, false, List, [], ◌∷◌, map, leb, ltb, eqb, take, drop}
use Rattle.meaning.specs.Choice.{Name, pick}
use Rattle.meaning.specs.Classes.{Class, digit, upper, lower, alphabetic, blank}
use Rattle.meaning.specs.Classes.{digit_number, upper_number, lower_number, alphabetic_number}
use Rattle.meaning.specs.Tree.{Subject, of_symbol, of_part}
use Rattle.meaning.specs.Allowed.{max_letters, max_conditions, max_items, max_nesting}
use Rattle.tape_layout.specs.Tape.{kind_width, symbol_word, part_word, condition_word, equals_word, close_word, next_word}
use Rattle.tape_layout.specs.Tape.{call_kind, call_word}
use Rattle.tape_words.specs.declared.tape.Parts.{Parts}
use Rattle.tape_words.specs.declared.tape.Parts.TheVariants.{Zero, One, Two}
use Rattle.tape_words.specs.declared.tape.Piece.{Piece}
use Rattle.tape_words.specs.declared.tape.Piece.TheVariants.{Character, SVariable, EVariable, PatternEnd}
use Rattle.tape_words.specs.declared.tape.Item.{Item}
use Rattle.tape_words.specs.declared.tape.Item.TheVariants.{Byte, Symbol, Part, Call, Pass, Close, Unclosed}
use Rattle.tape_words.specs.declared.tape.Item.TheVariants.{Stop}

-- what a word carries besides its kind: the length of the name after it
abbrev pub carried : ℕ → ℕ
carried w = w % kind_width

-- the place of a called name: the kind of a call's word counts on from `call_kind` by it
abbrev pub called_place : ℕ → ℕ
called_place w = w / kind_width - call_kind

-- a condition's variable by whether it is an e-variable
abbrev pub subject_of : Bool → Name → Subject
subject_of true x = of_part x
subject_of false x = of_symbol x

-- the name after a word, as long as the tape goes
abbrev pub name_in : List ℕ → Name
name_in [] = []
name_in (w ∷ ws) = take (carried w) ws

abbrev pub head_name : List ℕ → ℕ → Name
head_name ws p = name_in (drop p ws)

abbrev pub head_names : List ℕ → List ℕ → List Name
head_names ws ps = map (head_name ws) ps

-- IN A PATTERN, after so many letters and e-variables: at most 64 letters and two e-variables are read

abbrev pub part_piece : Parts → Piece
part_piece Zero = EVariable
part_piece One = EVariable
part_piece Two = PatternEnd

abbrev pub piece_of : ℕ → ℕ → Parts → Piece
piece_of w letters parts =
    pick (leb condition_word w) PatternEnd
    (pick (leb part_word w) (part_piece parts)
    (pick (leb max_letters letters) PatternEnd
    (pick (leb symbol_word w) SVariable Character)))

abbrev pub piece_at : List ℕ → ℕ → Parts → Piece
piece_at [] letters parts = PatternEnd
piece_at (w ∷ ws) letters parts = piece_of w letters parts

-- IN CONDITIONS: at most 8 are read

abbrev pub is_condition_word : ℕ → ℕ → Bool
is_condition_word count w = pick (leb max_conditions count) false (pick (ltb w condition_word) false (ltb w equals_word))

abbrev pub class_in : ℕ → Class
class_in n =
    pick (eqb n digit_number) digit
    (pick (eqb n upper_number) upper
    (pick (eqb n lower_number) lower
    (pick (eqb n alphabetic_number) alphabetic blank)))

-- IN AN EXPRESSION, with so many calls open and after so many items: at most 128 items are read; a call with 16 open
-- round it is passed over, and what is no item ends the open calls and the expression

abbrev pub ending_of : ℕ → ℕ → Item
ending_of w depth = pick (eqb depth 0) Stop (pick (ltb w close_word) Unclosed (pick (ltb w next_word) Close Unclosed))

abbrev pub opening_of : ℕ → Item
opening_of depth = pick (ltb depth max_nesting) Call Pass

abbrev pub item_of_word : ℕ → ℕ → ℕ → Item
item_of_word w depth items =
    pick (leb max_items items) (ending_of w depth)
    (pick (ltb w symbol_word) Byte
    (pick (ltb w part_word) Symbol
    (pick (ltb w condition_word) Part
    (pick (ltb w call_word) (ending_of w depth)
    (opening_of depth)))))

abbrev pub item_at : List ℕ → ℕ → ℕ → Item
item_at [] depth items = pick (eqb depth 0) Stop Unclosed
item_at (w ∷ ws) depth items = item_of_word w depth items
