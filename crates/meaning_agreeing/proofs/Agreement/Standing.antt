-- What a match hands to the expression: where p can stand in the field, how the spans lead from there to an e-variable and to the end, and the stored
-- values. The proofs about expressions know of a match only what stands here.
use Prim.Native.Nat.{ℕ}
use mathlib.Core.Path.{◌≡◌}
use mathlib.Core.List.{List, [], ◌∷◌, ◌++◌}
use mathlib.Core.Option.{Option, some}
use lib.Dec.{T}
use lib.ListN.{length}
use Rattle.meaning.specs.Choice.{Bytes, Name, Named, lookup, nth}
use Rattle.meaning.specs.Rewriting.{Bindings}
use Rattle.meaning.specs.Allowed.{member, coming_after}
use Rattle.meaning.specs.Instructions.{Site}
use Rattle.meaning.specs.Machine.{Local, span_of}
use Rattle.meaning.specs.Translation.{Shape, fixed, open₁, open₂, Stand, at_start, after_first, after_second, Passage, passage, rest_of, value_number}
use Rattle.meaning.proofs.Laws.Choosing.{names_in}

-- the e-variables that may still come where p stands
abbrev pub coming_at : Shape → Stand → List Name
coming_at (fixed t) w = []
coming_at (open₁ h x t) at_start = x ∷ []
coming_at (open₁ h x t) after_first = []
coming_at (open₁ h x t) after_second = []
coming_at (open₂ h x m y t) at_start = x ∷ y ∷ []
coming_at (open₂ h x m y t) after_first = y ∷ []
coming_at (open₂ h x m y t) after_second = []

-- the way from where p stands over an e-variable that may still come and the part that it has taken, `later` being those that may come after it
pub record Move (shape : Shape) (l : Local) (remaining : Stand → Bytes) (w : Stand) (way : Passage) (part : Option Bytes) (later : List Name) : Type 0
  where
    pub gap : Bytes
    pub piece : Bytes
    pub whole : remaining w ≡ gap ++ (piece ++ remaining way.after)
    pub gap_size : span_of way.gap l ≡ length gap
    pub piece_size : span_of way.piece l ≡ length piece
    pub taken : part ≡ some piece
    pub coming : coming_at shape way.after ≡ later

-- an s-variable's byte is the stored value of its number
pub record Valued (sites : List (Named Site)) (bound : Bindings) (l : Local) (x : Name) : Type 0 where
  pub byte : ℕ
  pub taken : lookup x bound.symbols ≡ some byte
  pub stored : nth (value_number sites x) l.values ≡ some byte

pub record Standing (shape : Shape) (sites : List (Named Site)) (bound : Bindings) (l : Local) : Type 0 where
  -- what remains of the field from where p stands
  pub remaining : Stand → Bytes
  pub to_end : (w : Stand) → span_of (rest_of shape w) l ≡ length (remaining w)
  pub to_part : (x : Name) (w : Stand) (later : List Name) → coming_after x (coming_at shape w) ≡ some later →
      Move shape l remaining w (passage shape x w) (lookup x bound.parts) later
  pub values : (x : Name) → T (member x (names_in sites)) → Valued sites bound l x
