-- The tests that are written letter by letter, and condition by condition, are those of the pattern's shape.
use Prim.Native.Nat.{ℕ, ◌+◌}
use native.Mathlib.Numerals.{add-one}
use mathlib.Core.Path.{◌≡◌, refl, ap, ◌∙◌}
use mathlib.Core.Bool.{Bool, true, false}
use mathlib.Core.List.{List, [], ◌∷◌, map, map_congr_left}
use Rattle.meaning.specs.Choice.{Name, Named, pick, same_bytes}
use Rattle.meaning.specs.Classes.{Class}
use Rattle.meaning.specs.Tree.{Letter, Element, letter, part, Subject, of_symbol, of_part, Condition}
use Rattle.meaning.specs.Instructions.{Site, from_start, from_end, from_place}
use Rattle.meaning.specs.Translation.{Shape, fixed, open₁, open₂, with_letter, cut_at, shape_of, Tested, tested_letter, tested_template, untested}
use Rattle.meaning.specs.Translation.{tested_shape, Bounds, from_to, bounds_of, part_test, subject_test, condition_test}
use Rattle.tape_words.specs.declared.tape.Parts.{Parts}
use Rattle.tape_words.specs.declared.tape.Parts.TheVariants.{Zero, One, Two}
use Rattle.code_patterns.specs.declared.pattern.Lengths.{Lengths}
use Rattle.code_patterns.specs.Scans.{one_more, pattern_at}
use Rattle.code_patterns.specs.Measuring.{lengths_of, first_part_or}
use Rattle.code_patterns.specs.Testing.{site_at, walk, start_from}
use Rattle.code_patterns.specs.Conditioning.{Located, bounds_by, subject_test_by, condition_test_by}
use Rattle.code_patterns.proofs.Laws.Scanning.{Fits, AtMost, at-most-later, pattern-at-most, at-most-fits}

module _ (l : Lengths) where
  abbrev walk_shape : Parts → ℕ → Shape → Tested → Tested
  walk_shape k o (fixed t) d = tested_template (site_at l k) o t d
  walk_shape k o (open₁ h x t) d = tested_template (site_at l (one_more k)) 0 t (tested_template (site_at l k) o h d)
  walk_shape k o (open₂ h x m y t) d =
      tested_template (site_at l (one_more (one_more k))) 0 t (tested_template (site_at l (one_more k)) 0 m (tested_template (site_at l k) o h d))

  shape-letter : (k : Parts) (o : ℕ) (c : Letter) (s : Shape) (d : Tested)
      → walk_shape k (o + 1) s (tested_letter c (site_at l k o) d) ≡ walk_shape k o (with_letter c s) d
  unfolding tested_template
  shape-letter k o c (fixed t) d = rw add-one
  shape-letter k o c (open₁ h x t) d = rw add-one
  shape-letter k o c (open₂ h x m y t) d = rw add-one

  shape-part : (k : Parts) (o : ℕ) (x : Name) (es : List Element) (d : Tested) → AtMost k (part x ∷ es)
      → walk_shape (one_more k) 0 (shape_of es) d ≡ walk_shape k o (cut_at x (shape_of es)) d
  unfolding tested_template AtMost
  shape-part Zero o x es d h = by_shape (shape_of es) (at-most-fits One es h)
    where
      by_shape : (s : Shape) → Fits One s → walk_shape One 0 s d ≡ walk_shape Zero o (cut_at x s) d
      by_shape (fixed t) f = refl
      by_shape (open₁ m y t) f = refl
      by_shape (open₂ a y m z t) f = absurd f
  shape-part One o x es d h = by_shape (shape_of es) (at-most-fits Two es h)
    where
      by_shape : (s : Shape) → Fits Two s → walk_shape Two 0 s d ≡ walk_shape One o (cut_at x s) d
      by_shape (fixed t) f = refl
      by_shape (open₁ m y t) f = absurd f
      by_shape (open₂ a y m z t) f = absurd f
  shape-part Two o x es d h = absurd h

  walk-shape : (es : List Element) (k : Parts) (o : ℕ) (d : Tested) → AtMost k es → walk l k o es d ≡ walk_shape k o (shape_of es) d
  unfolding walk shape_of tested_template AtMost
  walk-shape [] k o d h = refl
  walk-shape (letter c ∷ es) k o d h =
      walk-shape es k (o + 1) (tested_letter c (site_at l k o) d) h ∙ shape-letter k o c (shape_of es) d
  walk-shape (part x ∷ es) k o d h = walk-shape es (one_more k) 0 d (at-most-later k x es h) ∙ shape-part k o x es d h

shape-whole : (s : Shape) → walk_shape (lengths_of s) Zero 0 s untested ≡ tested_shape s
shape-whole (fixed t) = refl
shape-whole (open₁ h x t) = refl
shape-whole (open₂ h x m y t) = refl

-- a pattern's tests and its different s-variables
pub walk-all : (ws : List ℕ) → walk (lengths_of (shape_of (pattern_at ws).value)) Zero 0 (pattern_at ws).value (start_from []) ≡
    tested_shape (shape_of (pattern_at ws).value)
walk-all ws =
    walk-shape (lengths_of (shape_of (pattern_at ws).value)) (pattern_at ws).value Zero 0 untested (pattern-at-most ws 0 Zero 0)
    ∙ shape-whole (shape_of (pattern_at ws).value)

-- CONDITIONS

-- the bounds of a part, by whether it is the pattern's first
bounds-same : (s : Shape) (x other : Name) → bounds_by (lengths_of s).parts (lengths_of s) (same_bytes x (first_part_or other s)) ≡ bounds_of s x
bounds-same (fixed t) x other = refl
bounds-same (open₁ h y t) x other = refl
bounds-same (open₂ h y m z t) x other = by_first (lengths_of (open₂ h y m z t)) (same_bytes x y)
  where
    by_first : (l : Lengths) (first : Bool)
        → bounds_by Two l first ≡ pick first (from_to (from_start l.first) (from_place 0)) (from_to (from_place l.second) (from_end l.third))
    by_first l true = refl
    by_first l false = refl

-- where a shape's variables lie; `other` stands for the first e-variable where it has none
abbrev pub located_in : Shape → Name → List (Named Site) → Located
located_in s other sites = record { lengths = lengths_of s; variable = first_part_or other s; sites = sites }

module _ (s : Shape) (other : Name) (sites : List (Named Site)) where
  subject-same : (class : Class) (expected : Bool) (v : Subject)
      → subject_test_by (located_in s other sites) class expected v ≡ subject_test s sites class expected v
  subject-same class expected (of_symbol x) = refl
  subject-same class expected (of_part x) = ap (λ (b : Bounds). part_test b class expected) (bounds-same s x other)

  pub conditions-same : (cs : List Condition) → map (condition_test_by (located_in s other sites)) cs ≡ map (condition_test s sites) cs
  conditions-same cs = map_congr_left {l = cs} (λ c m. subject-same c.predicate c.expected c.subject)
