-- What an allowed expression is to its sentence: every s-variable has its value, every e-variable may still come, every called name means something.
-- It is read off the tests of Allowed once, so that the proof about the instructions asks no test any more.
use Prim.Native.Nat.{ℕ}
use mathlib.Core.Path.{◌≡◌}
use mathlib.Core.Bool.{not}
use mathlib.Core.List.{List}
use mathlib.Core.Option.{some, some-injective}
use lib.Dec.{T}
use Rattle.meaning.specs.Choice.{Name, Named, both, lookup}
use Rattle.meaning.specs.Tree.{Expression, end, then_character, then_symbol, then_part, then_call, Table}
use Rattle.meaning.specs.Names.{is_predicate, is_known}
use Rattle.meaning.specs.Rewriting.{Bindings}
use Rattle.meaning.specs.Allowed.{is_byte, member, spelled_name, spelled_items, coming_after, coming_after_all, calls_known}
use Rattle.meaning.specs.Instructions.{Site}
use Rattle.meaning.specs.Machine.{Local}
use Rattle.meaning.specs.Translation.{Shape, Stand, passage}
use Rattle.meaning.proofs.Laws.Choosing.{names_in, both_some}
use Rattle.meaning.proofs.Laws.Choosing.{both_left, both_right, both-pair}
use Rattle.meaning_agreeing.proofs.Agreement.Standing.{coming_at, Move, Valued, Standing}

module _ (table : Table) (shape : Shape) (sites : List (Named Site)) (bound : Bindings) (l : Local) (standing : Standing shape sites bound l) where
  -- an expression from where p stands, and where p stands after it
  pub data Sound : Expression → Stand → Stand → Type 0 where
    the_end : {w : Stand} → Sound end w w
    a_character : {c : ℕ} {e : Expression} {w w₁ : Stand} → Sound e w w₁ → Sound (then_character c e) w w₁
    a_symbol : {x : Name} {e : Expression} {w w₁ : Stand} → Valued sites bound l x → Sound e w w₁ → Sound (then_symbol x e) w w₁
    a_part : {x : Name} {e : Expression} {w w₁ : Stand} {later : List Name} →
        Move shape l standing.remaining w (passage shape x w) (lookup x bound.parts) later →
        Sound e (passage shape x w).after w₁ → Sound (then_part x e) w w₁
    a_call : {place : ℕ} {n : Name} {a e : Expression} {w w₁ w₂ : Stand} → T (is_known table n) →
        Sound a w w₁ → Sound e w₁ w₂ → Sound (then_call place n a e) w w₂

  -- with the e-variables that it leaves for what comes after it
  pub record Sounds (e : Expression) (w : Stand) (later : List Name) : Type 0 where
    pub after : Stand
    pub sound : Sound e w after
    pub coming : coming_at shape after ≡ later

  pub sounds : (e : Expression) (w : Stand) (later : List Name) → T (spelled_items (names_in sites) e) → coming_after_all e (coming_at shape w) ≡
      some later →
      T (calls_known table e) → Sounds e w later
  unfolding spelled_items coming_after_all calls_known
  sounds end w later spelled coming calls = record { after = w; sound = the_end; coming = some-injective _ _ coming }
  sounds (then_character c e) w later spelled coming calls =
      let r = sounds e w later (both_right (is_byte c) (spelled_items (names_in sites) e) spelled) coming calls in
      record { after = r.after; sound = a_character r.sound; coming = r.coming }
  sounds (then_symbol x e) w later spelled coming calls =
      let r = sounds e w later (both_right (member x (names_in sites)) (spelled_items (names_in sites) e) spelled) coming calls in
      let v = standing.values x (both_left (member x (names_in sites)) (spelled_items (names_in sites) e) spelled) in
      record { after = r.after; sound = a_symbol v r.sound; coming = r.coming }
  sounds (then_part x e) w later spelled coming calls =
      let c = both_some (coming_after x (coming_at shape w)) (coming_after_all e) coming in
      let m = standing.to_part x w c.middle c.first in
      let r = sounds e (passage shape x w).after later spelled (rw m.coming c.second) calls in
      record { after = r.after; sound = a_part m r.sound; coming = r.coming }
  sounds (then_call place n a e) w later spelled coming calls =
      let known = both-pair (is_known table n) (both (calls_known table a) (calls_known table e)) calls in
      let named = both_right (both (spelled_name n) (not (is_predicate n)))
      (both (spelled_items (names_in sites) a) (spelled_items (names_in sites) e))
      spelled in
      let p = both-pair (spelled_items (names_in sites) a) (spelled_items (names_in sites) e) named in
      let k = both-pair (calls_known table a) (calls_known table e) known.1 in
      let c = both_some (coming_after_all a (coming_at shape w)) (coming_after_all e) coming in
      let q = sounds a w c.middle p.0 c.first k.0 in
      let r = sounds e q.after later p.1 (rw q.coming c.second) k.1 in
      record { after = r.after; sound = a_call known.0 q.sound r.sound; coming = r.coming }
