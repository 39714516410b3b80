-- Which bytes each class has, of all 256, and how its predicate is spelled; which names mean an emission.
use Prim.Native.Nat.{ℕ, zero, suc}
use Prim.Native.String.{String}
use mathlib.Core.Path.{◌≡◌, refl}
use mathlib.Core.Bool.{Bool, true, false}
use mathlib.Core.List.{List, [], ◌∷◌, ◌++◌, map}
use mathlib.Core.Option.{none, some}
use lib.ListN.{replicate}
use Rattle.meaning.specs.Choice.{same_bytes, starts_with}
use Rattle.meaning.specs.Classes.{digit, upper, lower, alphabetic, blank, in_class, is_blank_byte, class_number, class_name}
use Rattle.meaning.specs.Names.{class_named, predicate_of, is_emission}
use Rattle.meaning.proofs.Rows.Read.{bytes}

-- so many numbers from one on
abbrev from : ℕ → ℕ → List ℕ
from first zero = []
from first (suc n) = first ∷ from (suc first) n

abbrev pub of_each_byte : (ℕ → Bool) → List Bool
of_each_byte test = map test (from 0 256)

-- so many bytes that fail, so many after them that pass, and so on
abbrev pub turns : Bool → List ℕ → List Bool
turns passes [] = []
turns true (n ∷ ns) = replicate n true ++ turns false ns
turns false (n ∷ ns) = replicate n false ++ turns true ns

-- "IsDigit (48 to 57), IsUpper (65 to 90), IsLower (97 to 122), IsLetter (the two before)"
digits : of_each_byte (in_class digit) ≡ turns false (48 ∷ 10 ∷ 198 ∷ [])
digits = refl

capitals : of_each_byte (in_class upper) ≡ turns false (65 ∷ 26 ∷ 165 ∷ [])
capitals = refl

small : of_each_byte (in_class lower) ≡ turns false (97 ∷ 26 ∷ 133 ∷ [])
small = refl

letters : of_each_byte (in_class alphabetic) ≡ turns false (65 ∷ 26 ∷ 6 ∷ 26 ∷ 133 ∷ [])
letters = refl

-- "IsBlank now holds for 10 and 13 besides 32 and 9": 11, 12, 133 and 160 are none
blanks : of_each_byte (in_class blank) ≡ turns false (9 ∷ 2 ∷ 2 ∷ 1 ∷ 18 ∷ 1 ∷ 223 ∷ [])
blanks = refl

-- "Blanks are 32, 9, 10 and 13": 11 and 12 are none
between-tokens : of_each_byte is_blank_byte ≡ turns false (9 ∷ 2 ∷ 2 ∷ 1 ∷ 18 ∷ 1 ∷ 223 ∷ [])
between-tokens = refl

-- NAMES

abbrev predicates : List String
predicates = "IsDigit" ∷ "IsUpper" ∷ "IsLower" ∷ "IsLetter" ∷ "IsBlank" ∷ []

spelled : map class_name (digit ∷ upper ∷ lower ∷ alphabetic ∷ blank ∷ []) ≡ map bytes predicates
spelled = refl

numbered : map class_number (digit ∷ upper ∷ lower ∷ alphabetic ∷ blank ∷ []) ≡ from 0 5
numbered = refl

meant : map (λ s. predicate_of (bytes s)) ("" ∷ "IsDigi" ∷ "isDigit" ∷ "IsDigits" ∷ predicates)
    ≡ none ∷ none ∷ none ∷ none ∷ map some (digit ∷ upper ∷ lower ∷ alphabetic ∷ blank ∷ [])
unfolding class_named same_bytes
meant = refl

emissions : map (λ s. is_emission (bytes s)) ("" ∷ "Emi" ∷ "Emit" ∷ "EmitA" ∷ "emit" ∷ "Demit" ∷ [])
    ≡ false ∷ false ∷ true ∷ true ∷ false ∷ false ∷ []
unfolding starts_with
emissions = refl
