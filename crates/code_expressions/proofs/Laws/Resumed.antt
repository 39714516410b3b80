-- Laws of what is still to be written of an expression: each item gives its actions and leaves the rest.
use Prim.Native.Nat.{ℕ, zero, suc, ◌+◌, ◌-◌, ◌≤◌, ◌<◌}
use native.Mathlib.Numerals.{add-one}
use native.Mathlib.Omega.{arith}
use mathlib.Core.Path.{◌≡◌, refl, ap, ap₂}
use mathlib.Core.Bool.{false}
use mathlib.Core.List.{List, [], ◌∷◌}
use mathlib.Core.Option.{none}
use lib.Dec.{eqb, eqb-suc-zero}
use lib.ListN.{length, get_or, set}
use lib.Seq.{get_or-set_same, get_or-set_other}
use Rattle.meaning.specs.Choice.{Name, pick, Named}
use Rattle.meaning.specs.Tree.{Expression, end, then_character, then_symbol, then_part, then_call, Table}
use Rattle.meaning.specs.Names.{Calling, as_emission, as_angles, as_function, calling_of, number_of}
use Rattle.meaning.specs.Instructions.{Site, go, select, out, out_c, out_v, begin_seq}
use Rattle.meaning.specs.Translation.{Shape, Stand, passage, rest_of, value_number, Manner, emits, computes, replaces, nests, manner_as, is_end}
use Rattle.meaning.specs.Translation.{in_tail_position, manner_of, level_in, left_for, where_left, calling, item_actions}
use Rattle.tape_words.specs.Words.{head_name}
use Rattle.code_expressions.specs.Levels.{first_of, others_of}
use Rattle.code_expressions.specs.Resuming.{level_at, resume, open_names}

module _ (t : Table) (s : Shape) (ss : List (Named Site)) where
  pub resume-character : (ns : List Name) (c : ℕ) (e : Expression) (outer : List Expression) (w : Stand)
      → resume t s ss ns (then_character c e) outer w ≡ out_c c ∷ resume t s ss ns e outer w
  unfolding resume item_actions
  resume-character [] c e outer w = refl
  resume-character (n ∷ ns) c e outer w = refl

  pub resume-symbol : (ns : List Name) (x : Name) (e : Expression) (outer : List Expression) (w : Stand)
      → resume t s ss ns (then_symbol x e) outer w ≡ out_v (value_number ss x) ∷ resume t s ss ns e outer w
  unfolding resume item_actions
  resume-symbol [] x e outer w = refl
  resume-symbol (n ∷ ns) x e outer w = refl

  pub resume-part : (ns : List Name) (x : Name) (e : Expression) (outer : List Expression) (w : Stand)
      → resume t s ss ns (then_part x e) outer w
      ≡ where_left (left_for s (level_at t ns outer) x e) (passage s x w)
      (go (passage s x w).gap ∷ select (passage s x w).piece ∷ out ∷ resume t s ss ns e outer (passage s x w).after)
  unfolding level_at resume item_actions
  resume-part [] x e outer w = refl
  resume-part (n ∷ ns) x e outer w = refl

  pub resume-call : (ns : List Name) (place : ℕ) (n : Name) (a : Expression) (outer : List Expression) (w : Stand)
      → resume t s ss ns (then_call place n a (first_of outer)) (others_of outer) w ≡ begin_seq ∷ resume t s ss (n ∷ ns) a outer w
  unfolding level_at resume item_actions
  resume-call [] place n a outer w = refl
  resume-call (m ∷ ns) place n a outer w = refl

  pub resume-end : (n : Name) (ns : List Name) (outer : List Expression) (w : Stand)
      → resume t s ss (n ∷ ns) end outer w
      ≡ calling s (manner_of (level_at t ns (others_of outer)) (first_of outer) n) (number_of t n) n w
      (resume t s ss ns (first_of outer) (others_of outer) w)
  unfolding resume item_actions
  resume-end n ns outer w = refl

  pub resume-last : (outer : List Expression) (w : Stand) → resume t s ss [] end outer w ≡ go (rest_of s w) ∷ []
  unfolding resume item_actions
  resume-last outer w = refl

-- THE OPEN CALLS

pub open_more : (ws calls : List ℕ) (depth p : ℕ) → depth < length calls → open_names ws (set calls depth p) (depth + 1) ≡
    head_name ws p ∷ open_names ws calls depth
unfolding open_names
open_more ws calls depth p h = rw (add-one, get_or-set_same calls depth p 0 h) (ap (λ (l : List Name). head_name ws p ∷ l) (kept depth (omega arith)))
  where
    kept : (d : ℕ) → d ≤ depth → open_names ws (set calls depth p) d ≡ open_names ws calls d
    kept zero g = refl
    kept (suc d) g =
        ap₂ (λ (k : ℕ) (l : List Name). head_name ws k ∷ l) (get_or-set_other calls depth d p 0 (λ e. omega arith)) (kept d (omega arith))

pub open-less : (ws calls : List ℕ) (depth : ℕ) → 0 < depth
    → open_names ws calls depth ≡ head_name ws (get_or calls (depth - 1) 0) ∷ open_names ws calls (depth - 1)
unfolding open_names
open-less ws calls zero h = absurd (omega arith)
open-less ws calls (suc depth) h =
    let e : suc depth - 1 ≡ depth = omega arith in
    rw e

-- WHERE THEY STAND

-- no item of an argument is the last one outermost
argument-last : (k : Manner) (f : ℕ) (e : Expression) → in_tail_position (level_in k f) e ≡ false
argument-last emits f e = refl
argument-last (computes op) f e = refl
argument-last replaces f e = refl
argument-last nests f e = refl

pub open-last : (t : Table) (ws calls : List ℕ) (depth : ℕ) (outer : List Expression) (e : Expression)
    → in_tail_position (level_at t (open_names ws calls depth) outer) e ≡ pick (eqb depth 0) (is_end e) false
unfolding open_names level_at
open-last t ws calls zero outer e = refl
open-last t ws calls (suc depth) outer e =
    let n = head_name ws (get_or calls depth 0) in
    rw (eqb-suc-zero depth) (argument-last (manner_of (level_at t (open_names ws calls depth) (others_of outer)) (first_of outer) n)
    (number_of t n) e)

-- outside all calls an e-variable doesn't stay on in
pub outermost-moves : (t : Table) (s : Shape) (ws calls : List ℕ) (depth : ℕ) (outer : List Expression) (x : Name) (e : Expression) → depth ≡ 0
    → left_for s (level_at t (open_names ws calls depth) outer) x e ≡ none
unfolding open_names level_at
outermost-moves t s ws calls depth outer x e h = rw h

-- a call inside another's argument is no tail call: its last e-variable doesn't either
pub nested-moves : (t : Table) (s : Shape) (ws calls : List ℕ) (depth : ℕ) (outer : List Expression) (x : Name) (e : Expression) → 2 ≤ depth
    → left_for s (level_at t (open_names ws calls depth) outer) x e ≡ none
unfolding open_names level_at
nested-moves t s ws calls zero outer x e h = absurd (omega arith)
nested-moves t s ws calls (suc zero) outer x e h = absurd (omega arith)
nested-moves t s ws calls (suc (suc depth)) outer x e h =
    let n = head_name ws (get_or calls (suc depth) 0) in
    rw (argument-last _ _ (first_of outer)) (by_name (calling_of n) (number_of t n))
  where
    by_name : (c : Calling) (f : ℕ) → left_for s (level_in (manner_as c false) f) x e ≡ none
    by_name as_emission f = refl
    by_name (as_angles op) f = refl
    by_name as_function f = refl
