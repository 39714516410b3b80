-- Laws of reading a pattern from the tape: what stands at a place, what a piece tells, passing over words, and at most two e-variables.
use Prim.Native.Nat.{ℕ, zero, suc, ◌+◌, ◌<◌, ◌≤◌}
use mathlib.Core.Path.{◌≡◌, refl, ap, ◌∙◌, subst}
use mathlib.Core.Bool.{Bool, true, false}
use mathlib.Core.List.{List, [], ◌∷◌}
use borrow.Author.Tests.{leb-false}
use lib.Dec.{leb}
use lib.ListN.{length, take, drop, get_or, drop_of_length-le}
use Rattle.meaning.specs.Choice.{Name, pick}
use Rattle.meaning.specs.Tree.{Letter, Element, letter, part}
use Rattle.meaning.specs.Allowed.{max_letters}
use Rattle.tape_layout.specs.Tape.{symbol_word, part_word, condition_word}
use Rattle.meaning.specs.Translation.{Shape, fixed, open₁, open₂, with_letter, cut_at, shape_of}
use Rattle.tape_words.specs.declared.tape.Parts.{Parts}
use Rattle.tape_words.specs.declared.tape.Parts.TheVariants.{Zero, One, Two}
use Rattle.tape_words.specs.declared.tape.Piece.{Piece}
use Rattle.tape_words.specs.declared.tape.Piece.TheVariants.{Character, SVariable, EVariable, PatternEnd}
use Rattle.tape_words.specs.Words.{carried, head_name, part_piece, piece_of, piece_at}
use Rattle.code_patterns.specs.Scans.{scanned, one_more, piece_by, pattern_on_tape}
use Rattle.meaning.proofs.Laws.Remaining.{at_place}
use Rattle.tape_words.proofs.Laws.Names.{by_place, name-skip, name-fits-here}

-- WHAT A PIECE TELLS

-- a word with its name stands on the tape
pub record Named (ws : List ℕ) (i : ℕ) : Type 0 where
  pub inside : i < length ws
  pub fits : i + 1 + length (head_name ws i) ≤ length ws

-- where there are two e-variables already no other is read
abbrev pub NotBoth : Parts → Type 0
NotBoth Zero = Unit {0}
NotBoth One = Unit {0}
NotBoth Two = ⊥

abbrev piece_tests : Bool → Bool → Bool → Bool → Parts → Piece
piece_tests a b c d parts = pick a PatternEnd (pick b (part_piece parts) (pick c PatternEnd (pick d SVariable Character)))

module _ (ws : List ℕ) (i letters : ℕ) where
  abbrev pub Told : Parts → Piece → Type 0
  Told parts Character = (i < length ws) × (letters < max_letters) × (get_or ws i 0 < symbol_word)
  Told parts SVariable = Named ws i × (letters < max_letters)
  Told parts EVariable = Named ws i × NotBoth parts
  Told parts PatternEnd = Unit {0}

  named : i < length ws → Named ws i
  named h = record { inside = h; fits = name-fits-here ws i h }

  part-told : (parts : Parts) → i < length ws → Told parts (part_piece parts)
  part-told Zero h = (named h, tt)
  part-told One h = (named h, tt)
  part-told Two h = tt

  word-told : (a b c d : Bool) (parts : Parts) → leb max_letters letters ≡ c → leb symbol_word (get_or ws i 0) ≡ d → i < length ws →
      Told parts (piece_tests a b c d parts)
  word-told true b c d parts room byte h = tt
  word-told false true c d parts room byte h = part-told parts h
  word-told false false true d parts room byte h = tt
  word-told false false false true parts room byte h = (named h, leb-false max_letters letters room)
  word-told false false false false parts room byte h = (h, leb-false max_letters letters room, leb-false symbol_word (get_or ws i 0) byte)

  pub told : (parts : Parts) (p : Piece) → piece_at (drop i ws) letters parts ≡ p → Told parts p
  told parts p e = subst (Told parts) e (by_place ws i on-tape (λ h. rw (drop_of_length-le ws h) tt))
    where
      on-tape : i < length ws → Told parts (piece_at (drop i ws) letters parts)
      on-tape h =
          let w = get_or ws i 0 in
          rw (at_place ws i h) (word-told (leb condition_word w) (leb part_word w) (leb max_letters letters) (leb symbol_word w) parts refl refl h)

-- READING

pub pattern-at : (ws : List ℕ) (i letters : ℕ) (parts : Parts) (p : Piece) → i < length ws → piece_at (drop i ws) letters parts ≡ p
    → pattern_on_tape letters parts 0 (drop i ws) ≡ piece_by p letters parts (get_or ws i 0) (drop (i + 1) ws)
    (λ l q skip. pattern_on_tape l q skip (drop (i + 1) ws))
unfolding pattern_on_tape
pattern-at ws i letters parts p h e =
    let f : piece_of (get_or ws i 0) letters parts ≡ p = rw (at_place ws i h) at e in
    rw (at_place ws i h, f)

-- where the pattern ends it is read no further
pub pattern-end : (ws : List ℕ) (i letters : ℕ) (parts : Parts) → piece_at (drop i ws) letters parts ≡ PatternEnd
    → pattern_on_tape letters parts 0 (drop i ws) ≡ scanned [] (drop i ws)
unfolding pattern_on_tape
pattern-end ws i letters parts e =
    by_place ws i (λ h. pattern-at ws i letters parts PatternEnd h e ∙ rw (at_place ws i h)) (λ h. rw (drop_of_length-le ws h))

pub pattern-skip : (letters : ℕ) (parts : Parts) (skip : ℕ) (ws : List ℕ) → pattern_on_tape letters parts skip ws ≡
    pattern_on_tape letters parts 0 (drop skip ws)
unfolding pattern_on_tape
pattern-skip letters parts zero ws = refl
pattern-skip letters parts (suc skip) [] = refl
pattern-skip letters parts (suc skip) (w ∷ ws) = pattern-skip letters parts skip ws

-- the pattern after the name of the word at a place
pub pattern-past : (letters : ℕ) (parts : Parts) (ws : List ℕ) (i : ℕ) → i < length ws
    → pattern_on_tape letters parts (carried (get_or ws i 0)) (drop (i + 1) ws) ≡ pattern_on_tape letters parts 0
    (drop (i + 1 + length (head_name ws i)) ws)
pattern-past letters parts ws i h =
    pattern-skip letters parts (carried (get_or ws i 0)) (drop (i + 1) ws) ∙ ap (pattern_on_tape letters parts 0) (name-skip ws i h)

-- AT MOST TWO E-VARIABLES

-- a pattern that has two e-variables at most, with so many before it
abbrev pub Fits : Parts → Shape → Type 0
Fits Zero s = Unit {0}
Fits One (fixed t) = Unit {0}
Fits One (open₁ h x t) = Unit {0}
Fits One (open₂ h x m y t) = ⊥
Fits Two (fixed t) = Unit {0}
Fits Two (open₁ h x t) = ⊥
Fits Two (open₂ h x m y t) = ⊥

fits-none : (parts : Parts) → Fits parts (fixed [])
fits-none Zero = tt
fits-none One = tt
fits-none Two = tt

pub fits-letter : (parts : Parts) (l : Letter) (s : Shape) → Fits parts s → Fits parts (with_letter l s)
fits-letter Zero l s h = tt
fits-letter One l (fixed t) h = tt
fits-letter One l (open₁ a x t) h = tt
fits-letter One l (open₂ a x m y t) h = h
fits-letter Two l (fixed t) h = tt
fits-letter Two l (open₁ a x t) h = h
fits-letter Two l (open₂ a x m y t) h = h

-- the elements have at most two e-variables, with so many before them
unfoldable pub AtMost : Parts → List Element → Type 0
AtMost parts [] = Unit {0}
AtMost parts (letter l ∷ es) = AtMost parts es
AtMost Zero (part x ∷ es) = AtMost One es
AtMost One (part x ∷ es) = AtMost Two es
AtMost Two (part x ∷ es) = ⊥

pub at-most-later : (parts : Parts) (x : Name) (es : List Element) → AtMost parts (part x ∷ es) → AtMost (one_more parts) es
unfolding AtMost
at-most-later Zero x es h = h
at-most-later One x es h = h
at-most-later Two x es h = absurd h

at-most-part : (parts : Parts) (w letters : ℕ) (x : Name) (es : List Element) → piece_of w letters parts ≡ EVariable → AtMost (one_more parts) es →
    AtMost parts (part x ∷ es)
unfolding AtMost
at-most-part Zero w letters x es e h = h
at-most-part One w letters x es e h = h
at-most-part Two w letters x es e h = absurd (told (w ∷ []) 0 letters Two EVariable e).1

abbrev AllAtMost : List ℕ → Type 0
AllAtMost ws = (letters : ℕ) (parts : Parts) (skip : ℕ) → AtMost parts (pattern_on_tape letters parts skip ws).value

at-most-by : (p : Piece) (letters : ℕ) (parts : Parts) (w : ℕ) (ws : List ℕ) → piece_of w letters parts ≡ p → AllAtMost ws
    → AtMost parts (piece_by p letters parts w ws (λ l q skip. pattern_on_tape l q skip ws)).value
unfolding AtMost
at-most-by Character letters parts w ws e h = h (letters + 1) parts 0
at-most-by SVariable letters parts w ws e h = h (letters + 1) parts (carried w)
at-most-by EVariable letters parts w ws e h =
    at-most-part parts w letters (take (carried w) ws) (pattern_on_tape letters (one_more parts) (carried w) ws).value e
    (h letters (one_more parts) (carried w))
at-most-by PatternEnd letters parts w ws e h = tt

pub pattern-at-most : (ws : List ℕ) (letters : ℕ) (parts : Parts) (skip : ℕ) → AtMost parts (pattern_on_tape letters parts skip ws).value
unfolding pattern_on_tape AtMost
pattern-at-most [] letters parts skip = tt
pattern-at-most (w ∷ ws) letters parts zero = at-most-by (piece_of w letters parts) letters parts w ws refl (pattern-at-most ws)
pattern-at-most (w ∷ ws) letters parts (suc skip) = pattern-at-most ws letters parts skip

cut_fits : (parts : Parts) (x : Name) (es : List Element) → AtMost parts (part x ∷ es) → Fits (one_more parts) (shape_of es) →
    Fits parts (cut_at x (shape_of es))
unfolding AtMost
cut_fits Zero x es h f = tt
cut_fits One x es h f = by_shape (shape_of es) f
  where
    by_shape : (s : Shape) → Fits Two s → Fits One (cut_at x s)
    by_shape (fixed t) f = tt
    by_shape (open₁ a y t) f = absurd f
    by_shape (open₂ a y m z t) f = absurd f
cut_fits Two x es h f = absurd h

pub at-most-fits : (parts : Parts) (es : List Element) → AtMost parts es → Fits parts (shape_of es)
unfolding AtMost shape_of
at-most-fits parts [] h = fits-none parts
at-most-fits parts (letter l ∷ es) h = fits-letter parts l (shape_of es) (at-most-fits parts es h)
at-most-fits parts (part x ∷ es) h = cut_fits parts x es h (at-most-fits (one_more parts) es (at-most-later parts x es h))

pub pattern-fits : (ws : List ℕ) (letters : ℕ) (parts : Parts) (skip : ℕ) → Fits parts (shape_of (pattern_on_tape letters parts skip ws).value)
pattern-fits ws letters parts skip = at-most-fits parts (pattern_on_tape letters parts skip ws).value (pattern-at-most ws letters parts skip)
