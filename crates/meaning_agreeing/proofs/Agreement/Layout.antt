-- How a field lies under its templates and parts, and what that gives the expression: for no, one and two e-variables.
use Prim.Native.Nat.{ℕ, ◌+◌}
use native.Mathlib.Omega.{arith}
use mathlib.Core.Path.{◌≡◌, refl, ap}
use mathlib.Core.Bool.{Bool, true, false}
use mathlib.Core.List.{List, [], ◌∷◌, ◌++◌, append_assoc}
use mathlib.Core.Option.{none, some, some-injective, none-ne-some}
use lib.Dec.{T}
use lib.ListN.{length, length-append}
use Rattle.meaning.specs.Choice.{Bytes, Name, Named, pick, either, same_bytes, lookup}
use Rattle.meaning.specs.Tree.{Letter}
use Rattle.meaning.specs.Rewriting.{Bindings}
use Rattle.meaning.specs.Allowed.{member, coming_after}
use Rattle.meaning.specs.Instructions.{from_start, from_end, from_place}
use Rattle.meaning.specs.Machine.{Local, span_of}
use Rattle.meaning.specs.Translation.{Shape, fixed, open₁, open₂, Stand, at_start, after_first, after_second, passage_one, passage_first}
use Rattle.meaning.specs.Translation.{gap_to_second}
use Rattle.meaning.specs.Translation.{passage_second, passage, rest_of, from_to, bounds_of}
use Rattle.meaning_agreeing.proofs.Agreement.Standing.{coming_at, Move}
use Rattle.meaning_agreeing.proofs.Agreement.Cells.{Between, between-shows, end_before}

abbrev pub bindings : List (Named ℕ) → List (Named Bytes) → Bindings
bindings symbols parts = record { symbols = symbols; parts = parts }

abbrev pub taking : Name → Bytes → Named Bytes
taking x piece = record { name = x; value = piece }

-- what an application keeps once its sentence has been chosen
abbrev pub locals : ℕ → ℕ → Bytes → Local
locals size at values = record { field = size; place = at; values = values; opened = [] }

-- a Standing but for the stored values, and what conditions ask for: how the parts lie on the field, the middle template being at a place
pub record Laid (shape : Shape) (field : Bytes) (at : ℕ) (parts : List (Named Bytes)) : Type 0 where
  pub remaining : Stand → Bytes
  pub whole : remaining at_start ≡ field
  pub to_end : (values : Bytes) (w : Stand) → span_of (rest_of shape w) (locals (length field) at values) ≡ length (remaining w)
  pub to_part : (values : Bytes) (x : Name) (w : Stand) (later : List Name) → coming_after x (coming_at shape w) ≡ some later →
      Move shape (locals (length field) at values) remaining w (passage shape x w) (lookup x parts) later
  pub between : (x : Name) → T (member x (coming_at shape at_start)) → Between field at (bounds_of shape x) (lookup x parts)

-- no e-variable: p stands at the start until the end
pub laid-fixed : (t : List Letter) (ts : Bytes) → Laid (fixed t) ts 0 []
unfolding coming_after member
laid-fixed t ts =
    record {
      remaining = λ w. ts;
      whole = refl;
      to_end = λ values w. omega arith;
      to_part = λ values x w later e. absurd (none-ne-some later e);
      between = λ x m. absurd m;
    }

-- one e-variable, with part p
module _ (h : List Letter) (x : Name) (t : List Letter) (hs p ts : Bytes) (size_head : length hs ≡ length h) (size_tail : length ts ≡ length t) where
  remaining₁ : Stand → Bytes
  remaining₁ at_start = hs ++ (p ++ ts)
  remaining₁ after_first = ts
  remaining₁ after_second = []

  pub laid-open₁ : Laid (open₁ h x t) (hs ++ (p ++ ts)) 0 (taking x p ∷ [])
  unfolding remaining₁ coming_after lookup member
  laid-open₁ =
      record { remaining = remaining₁; whole = refl; to_end = to_end; to_part = to_part; between = λ y m. bounds (same_bytes y x) m }
    where
      bounds : (q : Bool) → T (either q false) →
          Between (hs ++ (p ++ ts)) 0 (from_to (from_start (length h)) (from_end (length t))) (pick q (some p) none)
      bounds true m =
          between-shows (hs ++ (p ++ ts)) hs p ts 0 refl (from_to (from_start (length h)) (from_end (length t))) (rw size_head)
          (end_before (length t) _ _ 0 (simp length-append (omega arith)))
      bounds false m = absurd m

      to_end : (values : Bytes) (w : Stand) → span_of (rest_of (open₁ h x t) w) (locals (length (hs ++ (p ++ ts))) 0 values) ≡ length (remaining₁ w)
      to_end values at_start = omega arith
      to_end values after_first = omega arith
      to_end values after_second = omega arith

      over : (values : Bytes) (q : Bool) (later : List Name) → pick q (some []) none ≡ some later →
          Move (open₁ h x t) (locals (length (hs ++ (p ++ ts))) 0 values) remaining₁ at_start (passage_one h t) (pick q (some p) none) later
      over values true later e =
          record {
            gap = hs;
            piece = p;
            whole = refl;
            gap_size = omega arith;
            piece_size = rw (length-append hs (p ++ ts), length-append p ts) (omega arith);
            taken = refl;
            coming = some-injective [] later e;
          }
      over values false later e = absurd (none-ne-some later e)

      to_part : (values : Bytes) (y : Name) (w : Stand) (later : List Name) → coming_after y (coming_at (open₁ h x t) w) ≡ some later →
          Move (open₁ h x t) (locals (length (hs ++ (p ++ ts))) 0 values) remaining₁ w (passage (open₁ h x t) y w) (lookup y (taking x p ∷ [])) later
      to_part values y at_start later e = over values (same_bytes y x) later e
      to_part values y after_first later e = absurd (none-ne-some later e)
      to_part values y after_second later e = absurd (none-ne-some later e)

-- two e-variables, with parts p and r; their names differ, so that after the first only the second is ever meant
module _ (h : List Letter) (x : Name) (m : List Letter) (y : Name) (t : List Letter) (hs p ms r ts : Bytes)
    (size_head : length hs ≡ length h) (size_middle : length ms ≡ length m) (size_tail : length ts ≡ length t)
    (apart : (z : Name) → same_bytes z x ≡ true → same_bytes z y ≡ true → ⊥) where
  abbrev field₂ : Bytes
  field₂ = hs ++ (p ++ (ms ++ (r ++ ts)))

  size₂ : length field₂ ≡ length hs + length p + length ms + length r + length ts
  size₂ = simp length-append (omega arith)

  remaining₂ : Stand → Bytes
  remaining₂ at_start = field₂
  remaining₂ after_first = ms ++ (r ++ ts)
  remaining₂ after_second = ts

  pub laid-open₂ : Laid (open₂ h x m y t) field₂ (length hs + length p) (taking x p ∷ taking y r ∷ [])
  unfolding remaining₂ coming_after lookup member
  laid-open₂ =
      record { remaining = remaining₂; whole = refl; to_end = to_end; to_part = to_part; between = λ z m. bounds (same_bytes z x) (same_bytes z y) m }
    where
      bounds : (q₁ q₂ : Bool) → T (either q₁ (either q₂ false)) →
          Between field₂ (length hs + length p)
          (pick q₁ (from_to (from_start (length h)) (from_place 0)) (from_to (from_place (length m)) (from_end (length t))))
          (pick q₁ (some p) (pick q₂ (some r) none))
      bounds true q₂ in₂ =
          between-shows field₂ hs p (ms ++ (r ++ ts)) (length hs + length p) refl (from_to (from_start (length h)) (from_place 0)) (rw size_head)
          (ap some (omega arith))
      bounds false true in₂ =
          between-shows field₂ (hs ++ (p ++ ms)) r ts (length hs + length p) (simp append_assoc)
          (from_to (from_place (length m)) (from_end (length t)))
          (ap some (simp length-append (omega arith))) (end_before (length t) _ _ (length hs + length p) (simp length-append (omega arith)))
      bounds false false in₂ = absurd in₂

      l : Bytes → Local
      l values = locals (length field₂) (length hs + length p) values

      to_end : (values : Bytes) (w : Stand) → span_of (rest_of (open₂ h x m y t) w) (l values) ≡ length (remaining₂ w)
      to_end values at_start = omega arith
      to_end values after_first = rw (size₂, length-append ms (r ++ ts), length-append r ts) (omega arith)
      to_end values after_second = omega arith

      second : (values : Bytes) (w : Stand) (gap : Bytes) (later : List Name) → remaining₂ w ≡ gap ++ (r ++ ts) →
          span_of (gap_to_second m w) (l values) ≡ length gap → [] ≡ later →
          Move (open₂ h x m y t) (l values) remaining₂ w (passage_second m t w) (some r) later
      second values w gap later whole size coming =
          record { gap = gap; piece = r; whole = whole; gap_size = size; piece_size = rw size₂ (omega arith); taken = refl; coming = coming }

      first : (values : Bytes) (q₁ q₂ : Bool) (later : List Name) → pick q₁ (some (y ∷ [])) (pick q₂ (some []) none) ≡ some later →
          Move (open₂ h x m y t) (l values) remaining₂ at_start (pick q₁ (passage_first h) (passage_second m t at_start))
          (pick q₁ (some p) (pick q₂ (some r) none)) later
      first values true q₂ later e =
          record {
            gap = hs;
            piece = p;
            whole = refl;
            gap_size = omega arith;
            piece_size = omega arith;
            taken = refl;
            coming =
                some-injective _ later e;
          }
      first values false true later e =
          second values at_start (hs ++ (p ++ ms)) later (simp append_assoc) (simp length-append (omega arith)) (some-injective [] later e)
      first values false false later e = absurd (none-ne-some later e)

      after : (values : Bytes) (q₁ q₂ : Bool) (later : List Name) → (q₁ ≡ true → q₂ ≡ true → ⊥) → pick q₂ (some []) none ≡ some later →
          Move (open₂ h x m y t) (l values) remaining₂ after_first (pick q₁ (passage_first h) (passage_second m t after_first))
          (pick q₁ (some p) (pick q₂ (some r) none)) later
      after values true true later other e = absurd (other refl refl)
      after values true false later other e = absurd (none-ne-some later e)
      after values false true later other e = second values after_first ms later refl (omega arith) (some-injective [] later e)
      after values false false later other e = absurd (none-ne-some later e)

      to_part : (values : Bytes) (z : Name) (w : Stand) (later : List Name) → coming_after z (coming_at (open₂ h x m y t) w) ≡ some later →
          Move (open₂ h x m y t) (l values) remaining₂ w (passage (open₂ h x m y t) z w) (lookup z (taking x p ∷ taking y r ∷ [])) later
      to_part values z at_start later e = first values (same_bytes z x) (same_bytes z y) later e
      to_part values z after_first later e = after values (same_bytes z x) (same_bytes z y) later (apart z) e
      to_part values z after_second later e = absurd (none-ne-some later e)
