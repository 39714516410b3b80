-- The five byte classes that conditions ask about: 01 'Table text', "Predicates: IsDigit (48 to 57), IsUpper (65 to
-- 90), IsLower (97 to 122), IsLetter (the two before), IsBlank (32, 9)"; 02, T-02, "IsBlank now holds for 10 and 13
-- besides 32 and 9". In 000 section 2.2 they are the host program's.
use Rattle.std.specs.Prelude.{ℕ, Bool, true, false, List, [], ◌∷◌, leb, eqb}
use Rattle.meaning.specs.Choice.{Name, both, either}
use Rattle.meaning.specs.Ascii.{tab, line_feed, carriage_return, space}

pub data Class : Type 0 where
  digit upper lower alphabetic blank : Class

-- from the first byte to the last, both included
abbrev pub within : ℕ → ℕ → ℕ → Bool
within low high b = both (leb low b) (leb b high)

abbrev pub is_upper : ℕ → Bool
is_upper b = within 65 90 b

abbrev pub is_lower : ℕ → Bool
is_lower b = within 97 122 b

abbrev pub in_class : Class → ℕ → Bool
in_class digit b = within 48 57 b
in_class upper b = is_upper b
in_class lower b = is_lower b
in_class alphabetic b = either (is_upper b) (is_lower b)
in_class blank b = either (either (eqb b space) (eqb b tab)) (either (eqb b line_feed) (eqb b carriage_return))

-- what is asked is so, or is not so, as expected
abbrev pub same_truth : Bool → Bool → Bool
same_truth true b = b
same_truth false true = false
same_truth false false = true

-- a class's number in the code, and its place in the class table
abbrev pub digit_number : ℕ
digit_number = 0

abbrev pub upper_number : ℕ
upper_number = 1

abbrev pub lower_number : ℕ
lower_number = 2

abbrev pub alphabetic_number : ℕ
alphabetic_number = 3

abbrev pub blank_number : ℕ
blank_number = 4

abbrev pub class_number : Class → ℕ
class_number digit = digit_number
class_number upper = upper_number
class_number lower = lower_number
class_number alphabetic = alphabetic_number
class_number blank = blank_number

-- IsDigit, IsUpper, IsLower, IsLetter, IsBlank
abbrev pub class_name : Class → Name
class_name digit = 73 ∷ 115 ∷ 68 ∷ 105 ∷ 103 ∷ 105 ∷ 116 ∷ []
class_name upper = 73 ∷ 115 ∷ 85 ∷ 112 ∷ 112 ∷ 101 ∷ 114 ∷ []
class_name lower = 73 ∷ 115 ∷ 76 ∷ 111 ∷ 119 ∷ 101 ∷ 114 ∷ []
class_name alphabetic = 73 ∷ 115 ∷ 76 ∷ 101 ∷ 116 ∷ 116 ∷ 101 ∷ 114 ∷ []
class_name blank = 73 ∷ 115 ∷ 66 ∷ 108 ∷ 97 ∷ 110 ∷ 107 ∷ []

abbrev pub classes : List Class
classes = digit ∷ upper ∷ lower ∷ alphabetic ∷ blank ∷ []

-- what may stand between tokens: 01 'Table text', "Blanks are 32, 9, 10 and 13"
abbrev pub is_blank_byte : ℕ → Bool
is_blank_byte b = either (either (eqb b space) (eqb b tab)) (either (eqb b line_feed) (eqb b carriage_return))
