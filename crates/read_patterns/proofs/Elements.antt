-- Elements at a pattern's end: whether it ends in an e-variable, and their words on the tape.
use Prim.Native.Nat.{ℕ}
use mathlib.Core.Path.{◌≡◌, refl, sym, ◌∙◌, ap}
use mathlib.Core.Bool.{Bool, true, false}
use mathlib.Core.List.{List, [], ◌∷◌, ◌++◌, append_assoc, append-nil}
use lib.Dec.{eqb, eqb-suc-zero}
use lib.ListN.{length}
use Rattle.meaning.specs.Choice.{Bytes, both}
use Rattle.meaning.specs.Tree.{character, Element, letter, part}
use Rattle.meaning.specs.Grammar.{characters_of}
use Rattle.tape_layout.specs.Tape.{element_tape, pattern_tape}
use Rattle.meaning.specs.Reading.{ends_in_part}
use Rattle.read_bookkeeping.proofs.Choosing.{both_true, both_false}

-- THE END

abbrev is_part : Element → Bool
is_part (letter l) = false
is_part (part x) = true

pub ends_with : (a : List Element) (e : Element) → ends_in_part (a ++ e ∷ []) ≡ is_part e
unfolding ends_in_part
ends_with [] (letter l) = refl
ends_with [] (part x) = refl
ends_with (letter l ∷ a) e = ends_with a e
ends_with (part x ∷ []) (letter l) = refl
ends_with (part x ∷ []) (part y) = refl
ends_with (part x ∷ e' ∷ a) e = ends_with (e' ∷ a) e

-- a string of characters closes the pattern's end, one of none leaves it
ends-characters : (cs : Bytes) (c : ℕ) (a : List Element) → ends_in_part (a ++ characters_of (c ∷ cs)) ≡ false
ends-characters [] c a = ends_with a (letter (character c))
ends-characters (d ∷ cs) c a =
    rw (← (append_assoc a (letter (character c) ∷ []) (characters_of (d ∷ cs)))) (ends-characters cs d (a ++ letter (character c) ∷ []))

pub ends-string : (a : List Element) (cs : Bytes) → ends_in_part (a ++ characters_of cs) ≡ both (ends_in_part a) (eqb (length cs) 0)
ends-string a [] = ap ends_in_part (append-nil a) ∙ both_true (ends_in_part a)
ends-string a (c ∷ cs) = ends-characters cs c a ∙ rw (eqb-suc-zero (length cs)) (both_false (ends_in_part a) refl)

-- THE TAPE

pub tape-append : (a b : List Element) → pattern_tape (a ++ b) ≡ pattern_tape a ++ pattern_tape b
unfolding pattern_tape
tape-append [] b = refl
tape-append (x ∷ a) b = rw (tape-append a b) (sym (append_assoc (element_tape x) (pattern_tape a) (pattern_tape b)))

pub tape-string : (cs : Bytes) → pattern_tape (characters_of cs) ≡ cs
unfolding pattern_tape
tape-string [] = refl
tape-string (c ∷ cs) = ap {B = Bytes} (λ (r : Bytes). c ∷ r) (tape-string cs)

pub tape-one : (e : Element) → pattern_tape (e ∷ []) ≡ element_tape e
unfolding pattern_tape
tape-one e = append-nil (element_tape e)
