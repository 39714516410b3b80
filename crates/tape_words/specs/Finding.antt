-- Which of a list of names is a given one, how a call of a name is done and whether it can be, and which is the name of
-- the function that recovers another.
use Rattle.std.specs.Prelude.{ℕ, ◌+◌, Bool, List, [], ◌∷◌, ◌++◌, Option, None, Some}
use Rattle.meaning.specs.Choice.{Name, pick, either, same_bytes}
use Rattle.meaning.specs.Angles.{Operation as MeantOperation, plus, minus}
use Rattle.meaning.specs.Names.{Calling as Called, as_emission, as_angles, as_function, is_built_in}
use Rattle.meaning.specs.Names.{recover_prefix, is_recovering}
use Rattle.meaning.specs.Allowed.{member}
use Rattle.code_numbers.specs.declared.operations.Operation.{Operation}
use Rattle.code_numbers.specs.declared.operations.Operation.TheVariants.{Plus, Minus}
use Rattle.tape_words.specs.declared.names.Calling.{Calling}
use Rattle.tape_words.specs.declared.names.Calling.TheVariants.{Emission, Angles, Function}

-- the number of the first, counted on from `count`; 0 where there is none
unfoldable pub number_among : ℕ → List Name → Name → ℕ
number_among count [] n = 0
number_among count (m ∷ ms) n = let later = number_among (count + 1) ms n in pick (same_bytes n m) (count + 1) later

-- a place in a list, counted from 0, by its number, counted from 1; 0 for none
abbrev pub place_number : Option ℕ → ℕ
place_number None = 0
place_number (Some k) = k + 1

abbrev pub operation_in : MeantOperation → Operation
operation_in plus = Plus
operation_in minus = Minus

abbrev pub calling_in : Called → Calling
calling_in as_emission = Emission
calling_in (as_angles op) = Angles (operation_in op)
calling_in as_function = Function

-- a call of it can be done, where functions of these names are declared
abbrev pub is_known_among : List Name → Name → Bool
is_known_among ms n = either (is_built_in n) (member n ms)

-- 02, T-04: "A function whose own name begins with Recover has none"
abbrev pub recoverer_among : List Name → Name → ℕ
recoverer_among ms n = let r = number_among 0 ms (recover_prefix ++ n) in pick (is_recovering n) 0 r
