-- Spans are meaning's, for a pattern's shape, its lengths and where p stands; and so is what ends a pattern.
use Prim.Native.Nat.{◌≤◌}
use native.Mathlib.Omega.{arith}
use mathlib.Core.Path.{◌≡◌, refl}
use mathlib.Core.Bool.{Bool, true, false}
use mathlib.Core.List.{List, [], ◌∷◌}
use lib.Dec.{eqb, eqb-suc-zero}
use lib.ListN.{length}
use Rattle.meaning.specs.Choice.{Name, pick, same_bytes}
use Rattle.meaning.specs.Tree.{Letter}
use Rattle.meaning.specs.Translation.{Shape, fixed, open₁, open₂, passage, rest_of, is_none, ends_pattern}
use Rattle.tape_words.specs.declared.tape.Parts.{Parts}
use Rattle.tape_words.specs.declared.tape.Parts.TheVariants.{Zero, One, Two}
use Rattle.code_patterns.specs.declared.pattern.Lengths.{Lengths}
use Rattle.code_actions.specs.declared.spans.Stand.{Stand}
use Rattle.code_actions.specs.declared.spans.Stand.TheVariants.{AtStart, AfterFirst, AfterSecond}
use Rattle.code_actions.specs.declared.spans.Span.{Span}
use Rattle.code_patterns.specs.Testing.{total}
use Rattle.code_patterns.specs.Measuring.{lengths_of, first_part_or}
use Rattle.code_actions.specs.Spanning.{meant_stand, span_meant, gap_by, piece_span, stand_after, rest_by, ends_by, SmallSpan}

pub rest-span : (s : Shape) (w : Stand) → span_meant (rest_by (lengths_of s).parts (lengths_of s) w) ≡ rest_of s (meant_stand w)
rest-span (fixed t) w = refl
rest-span (open₁ h x t) AtStart = refl
rest-span (open₁ h x t) AfterFirst = refl
rest-span (open₁ h x t) AfterSecond = refl
rest-span (open₂ h x m y t) AtStart = refl
rest-span (open₂ h x m y t) AfterFirst = refl
rest-span (open₂ h x m y t) AfterSecond = refl

-- the passage of an e-variable: `first` says whether it is the pattern's first
abbrev Passes : Shape → Name → Bool → Stand → Type 0
Passes s x first w =
    (span_meant (gap_by (lengths_of s).parts (lengths_of s) first w) ≡ (passage s x (meant_stand w)).gap) ×
    (span_meant (piece_span (lengths_of s).parts (lengths_of s) first) ≡ (passage s x (meant_stand w)).piece) ×
    (meant_stand (stand_after (lengths_of s).parts first w) ≡ (passage s x (meant_stand w)).after)

of_two : (h m t : List Letter) (x y z : Name) (first : Bool) (w : Stand) → same_bytes x y ≡ first → Passes (open₂ h y m z t) x first w
of_two h m t x y z true w e = rw e (refl, refl, refl)
of_two h m t x y z false AtStart e = rw e (refl, refl, refl)
of_two h m t x y z false AfterFirst e = rw e (refl, refl, refl)
of_two h m t x y z false AfterSecond e = rw e (refl, refl, refl)

pub passage-spans : (s : Shape) (x other : Name) (w : Stand) → Passes s x (same_bytes x (first_part_or other s)) w
passage-spans (fixed t) x other w = (refl, refl, refl)
passage-spans (open₁ h y t) x other w = (refl, refl, refl)
passage-spans (open₂ h y m z t) x other w = of_two h m t x y z (same_bytes x y) w refl

-- a template has no length where it has no letters
none-long : (t : List Letter) → eqb (length t) 0 ≡ is_none t
none-long [] = refl
none-long (c ∷ t) = eqb-suc-zero (length t)

pub ends_same : (s : Shape) (x other : Name) → ends_by (lengths_of s).parts (lengths_of s) (same_bytes x (first_part_or other s)) ≡ ends_pattern s x
ends_same (fixed t) x other = refl
ends_same (open₁ h y t) x other = none-long t
ends_same (open₂ h y m z t) x other = of-second (same_bytes x y)
  where
    of-second : (first : Bool) → ends_by Two (lengths_of (open₂ h y m z t)) first ≡ pick first false (is_none t)
    of-second true = refl
    of-second false = none-long t

-- HOW LARGE THEIR NUMBERS ARE

small : {s : Span} → (s.add ≤ 64) × (s.back ≤ 64) → SmallSpan s
small h = record { add = h.0; back = h.1 }

-- the span that was worked out
pub small-as : {s t : Span} → s ≡ t → SmallSpan t → SmallSpan s
small-as e h = rw e h

module _ (l : Lengths) (h : total l ≤ 64) where
  pub gap-small : (p : Parts) (first : Bool) (w : Stand) → SmallSpan (gap_by p l first w)
  gap-small Zero first w = small (omega arith)
  gap-small One first w = small (omega arith)
  gap-small Two true w = small (omega arith)
  gap-small Two false AtStart = small (omega arith)
  gap-small Two false AfterFirst = small (omega arith)
  gap-small Two false AfterSecond = small (omega arith)

  pub piece-small : (p : Parts) (first : Bool) → SmallSpan (piece_span p l first)
  piece-small Zero first = small (omega arith)
  piece-small One first = small (omega arith)
  piece-small Two true = small (omega arith)
  piece-small Two false = small (omega arith)

  pub rest-small : (p : Parts) (w : Stand) → SmallSpan (rest_by p l w)
  rest-small Zero w = small (omega arith)
  rest-small One AtStart = small (omega arith)
  rest-small One AfterFirst = small (omega arith)
  rest-small One AfterSecond = small (omega arith)
  rest-small Two AtStart = small (omega arith)
  rest-small Two AfterFirst = small (omega arith)
  rest-small Two AfterSecond = small (omega arith)
