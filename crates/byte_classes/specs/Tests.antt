-- The tests on a byte that the class table answers, by number, and a bit of a number.
use Rattle.std.specs.Prelude.{ℕ, suc, ◌/◌, ◌%◌, ◌^◌, ◌<◌, ◌≡◌, List, get_or, Bool, false, eqb, ltb}
use Rattle.meaning.specs.Choice.{pick, both}
use Rattle.meaning.specs.Classes.{in_class, digit, upper, lower, alphabetic, blank}
use Rattle.meaning.specs.Classes.{digit_number, upper_number, lower_number, alphabetic_number, blank_number}

-- how many bytes there are
abbrev pub byte_count : ℕ
byte_count = 256

-- how many tests the table answers: the classes by their `class_number`
abbrev pub test_count : ℕ
test_count = suc blank_number

abbrev pub class_test : ℕ → ℕ → Bool
class_test class b =
    pick (eqb class digit_number) (in_class digit b)
    (pick (eqb class upper_number) (in_class upper b)
    (pick (eqb class lower_number) (in_class lower b)
    (pick (eqb class alphabetic_number) (in_class alphabetic b)
    (pick (eqb class blank_number) (in_class blank b)
    false))))

-- a test's bit of an entry, the lowest being bit 0; there are no bits but those of the tests
unfoldable pub bit_of : ℕ → ℕ → Bool
bit_of class entry = both (ltb class test_count) (eqb (entry / 2 ^ class % 2) 1)

-- a table whose entries answer every test
pub record Answers (table : List ℕ) : Type 0 where
  pub each : (class b : ℕ) → b < byte_count → bit_of class (get_or table b 0) ≡ class_test class b
