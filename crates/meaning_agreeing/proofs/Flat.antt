-- 02, T-06: "A flat table's run never reaches frame 2, so 15 can't be given." For every flat table, start, text, allowance and whatever is lent.
use Prim.Native.Nat.{ℕ, ◌≤◌, min}
use native.Mathlib.Omega.{arith}
use mathlib.Core.Path.{◌≡◌, refl, sym, ap, ◌∙◌}
use mathlib.Core.Logic.{◌↔◌}
use mathlib.Core.Bool.{Bool, true, false, not}
use mathlib.Core.List.{List, [], ◌∷◌, ◌++◌, map}
use mathlib.Core.Option.{Option, none, some, some-injective, none-ne-some}
use lib.Dec.{T, leb, leb→le}
use lib.ListN.{length, get_or}
use borrow.Author.Tests.{leb-false}
use Rattle.meaning.specs.Choice.{Bytes, Name, Named, is_some}
use Rattle.meaning.specs.Answers.{finished, frames_full, not_tail_call}
use Rattle.meaning.specs.Tree.{Expression, end, then_character, then_symbol, then_part, then_call, Sentence, Function, Table}
use Rattle.meaning.specs.Names.{number_of, recoverer_of}
use Rattle.meaning.specs.Allowed.{allowed}
use Rattle.meaning.specs.Instructions.{Site, Action}
use Rattle.meaning.specs.Runs.{Room, run_lent}
use Rattle.meaning.specs.Translation.{Shape, shape_of, tested_shape, Stand, at_start, Passage, passage, Manner, emits, replaces, nests, Level}
use Rattle.meaning.specs.Translation.{outermost}
use Rattle.meaning.specs.Translation.{in_argument, in_tail, manner_of, level_in, left_for, where_left, calling, item_actions, passes_rest, actions_of}
use Rattle.meaning.specs.Translation.{translated_sentences, translated_function, translate, computes}
use Rattle.meaning.specs.Packing.{Words, pack}
use Rattle.meaning.specs.Leaving.{Cells, room_of, leaving}
use Rattle.meaning.specs.Reading.{accepted}
use Rattle.meaning.specs.Entries.{answered, flatness, flat_answer}
use Rattle.meaning.specs.Flat.{nested_at, nested_calls, nested_sentences, nested_in, lesser, leftmost, is_flat}
use Rattle.meaning.proofs.Laws.Choosing.{no-cons}
use Rattle.meaning.proofs.Laws.Choosing.{true-passed}
use Rattle.meaning.proofs.Laws.Packable.{All, nil, cons}
use Rattle.meaning_agreeing.proofs.Laws.Known.{leaving-avoids}
use Rattle.meaning_agreeing.proofs.Laws.Framing.{any_call, sentences_call, code_calls, neither}
use Rattle.meaning_agreeing.proofs.Laws.Frames.{with_frames, any-frames, never-framed}

-- THE CODE

-- two lists that come to nothing
record Empty (xs ys : List ℕ) : Type 0 where
  first : xs ≡ []
  second : ys ≡ []

append-empty : (xs ys : List ℕ) → xs ++ ys ≡ [] → Empty xs ys
append-empty [] ys e = record { first = refl; second = e }
append-empty (x ∷ xs) ys e = no-cons (sym e)

nested-empty : (m : Manner) (place : ℕ) (xs ys : List ℕ) → nested_at m place (xs ++ ys) ≡ [] → Empty xs ys
nested-empty emits place xs ys e = append-empty xs ys e
nested-empty (computes op) place xs ys e = append-empty xs ys e
nested-empty replaces place xs ys e = append-empty xs ys e
nested-empty nests place xs ys e = no-cons (sym e)

-- in a tail call's argument the calls are as in any other
in_tail_lem : (f : ℕ) (e : Expression) → nested_calls (in_tail f) e ≡ nested_calls in_argument e
unfolding nested_calls
in_tail_lem f end = refl
in_tail_lem f (then_character c e) = in_tail_lem f e
in_tail_lem f (then_symbol x e) = in_tail_lem f e
in_tail_lem f (then_part x e) = in_tail_lem f e
in_tail_lem f (then_call place n a e) = rw (in_tail_lem f e)

in-argument : (m : Manner) (number : ℕ) (e : Expression) → nested_calls (level_in m number) e ≡ nested_calls in_argument e
in-argument emits number e = refl
in-argument (computes op) number e = refl
in-argument replaces number e = in_tail_lem number e
in-argument nests number e = refl

module _ (table : Table) (shape : Shape) (sites : List (Named Site)) where
  calling-flat : (m : Manner) (place : ℕ) (others : List ℕ) (n : Name) (w : Stand) (more : List Action) → nested_at m place others ≡ [] →
      (T (any_call more) → ⊥) → T (any_call (calling shape m (number_of table n) n w more)) → ⊥
  unfolding any_call
  calling-flat emits place others n w more e h t = h t
  calling-flat (computes op) place others n w more e h t = h t
  calling-flat replaces place others n w more e h t = t
  calling-flat nests place others n w more e h t = no-cons (sym e)

  -- a part that stays on in is followed by its tail call
  left-flat : (o : Option ℕ) (way : Passage) (moving : List Action) → (T (any_call moving) → ⊥) → T (any_call (where_left o way moving)) → ⊥
  unfolding any_call
  left-flat none way moving h t = h t
  left-flat (some f) way moving h t = t

  items-flat : (level : Level) (e : Expression) (w : Stand) (rest : Stand → List Action) → nested_calls level e ≡ [] →
      ((w₁ : Stand) → T (any_call (rest w₁)) → ⊥) → T (any_call (item_actions table shape sites level e w rest)) → ⊥
  unfolding nested_calls item_actions any_call
  items-flat level end w rest empty h t = h w t
  items-flat level (then_character c e) w rest empty h t = items-flat level e w rest empty h t
  items-flat level (then_symbol x e) w rest empty h t = items-flat level e w rest empty h t
  items-flat level (then_part x e) w rest empty h t =
      left-flat (left_for shape level x e) (passage shape x w) _ (items-flat level e (passage shape x w).after rest empty h) t
  items-flat level (then_call place n a e) w rest empty h t =
      let parts = nested-empty (manner_of level e n) place (nested_calls in_argument a) (nested_calls level e) empty in
      items-flat (level_in (manner_of level e n) (number_of table n)) a w _ (in-argument (manner_of level e n) (number_of table n) a ∙ parts.first)
      (λ w₁. calling-flat (manner_of level e n) place _ n w₁ (item_actions table shape sites level e w₁ rest) empty
      (items-flat level e w₁ rest parts.second h))
      t

  actions-flat : (e : Expression) → nested_calls outermost e ≡ [] → T (any_call (actions_of table shape sites e)) → ⊥
  unfolding any_call
  actions-flat e empty t = items-flat outermost e at_start (passes_rest shape) empty (λ w t. t) t

module _ (table : Table) where
  sentences-flat : (r : ℕ) (ss : List Sentence) → nested_sentences ss ≡ [] → T (sentences_call (translated_sentences table r ss)) → ⊥
  unfolding nested_sentences translated_sentences sentences_call
  sentences-flat r [] empty t = t
  sentences-flat r (s ∷ ss) empty t =
      let parts = append-empty (nested_calls outermost s.expression) (nested_sentences ss) empty in
      let shape = shape_of s.pattern in
      neither (any_call (actions_of table shape (tested_shape shape).sites s.expression)) (sentences_call (translated_sentences table r ss))
      (actions-flat table shape (tested_shape shape).sites s.expression parts.first) (sentences-flat r ss parts.second) t

  functions-flat : (fs : List Function) → nested_in fs ≡ [] → T (code_calls (map (translated_function table) fs)) → ⊥
  unfolding nested_in code_calls
  functions-flat [] empty t = t
  functions-flat (f ∷ fs) empty t =
      let parts = append-empty (nested_sentences f.sentences) (nested_in fs) empty in
      neither (sentences_call (translated_function table f)) (code_calls (map (translated_function table) fs))
      (sentences-flat (recoverer_of table f.name) f.sentences parts.first) (functions-flat fs parts.second) t

none-nested : (places : List ℕ) → T (not (is_some (leftmost places))) → places ≡ []
unfolding leftmost
none-nested [] t = refl
none-nested (n ∷ ns) t = absurd t

-- a flat table's code has no Call that adds a frame
pub flat-code : (table : Table) → T (is_flat table) → T (code_calls (translate table)) → ⊥
flat-code table flat = functions-flat table table (none-nested (nested_in table) flat)

-- THE RUN

module _ (table : Table) (flat : T (is_flat table)) (start : ℕ) (text : Bytes) (allowance : ℕ) where
  -- with a single frame the outcome is the one with any number: frame 2 is never asked for
  pub one-frame : (room : Room) →
      run_lent (with_frames 1 room) (translate table) start text allowance ≡ run_lent room (translate table) start text allowance
  one-frame room = any-frames room 1 (translate table) (flat-code table flat) start text allowance

  pub never-fifteen : (room : Room) → (run_lent room (translate table) start text allowance).answer ≡ frames_full → ⊥
  never-fifteen room = never-framed room (translate table) (flat-code table flat) start text allowance

  -- the packed code, whatever words follow it
  pub never-fifteen-left : T (allowed table) → (junk : Words) (cells : Cells) →
      (leaving (pack (translate table) ++ junk) start text cells allowance).result.answer ≡ frames_full → ⊥
  never-fifteen-left ok junk cells =
      leaving-avoids frames_full (omega arith) table ok junk start text cells allowance (λ declared. never-fifteen (room_of cells))

-- THE ANSWER

-- the test answers 0 exactly for a flat table
pub flat-answer : (table : Table) → (get_or (flat_answer (accepted table)) 0 0 ≡ finished) ↔ T (is_flat table)
flat-answer table = by (leftmost (nested_in table))
  where
    by : (o : Option ℕ) → (get_or (flatness o (length table)) 0 0 ≡ finished) ↔ T (not (is_some o))
    by none = (λ e. tt, λ t. refl)
    by (some place) = (λ e. absurd (omega arith), λ t. absurd t)

-- a number of a list
pub data Among (k : ℕ) : List ℕ → Type 0 where
  first : {ns : List ℕ} → Among k (k ∷ ns)
  later : {n : ℕ} {ns : List ℕ} → Among k ns → Among k (n ∷ ns)

-- a number of a list that no other is below
pub record Least (k : ℕ) (ns : List ℕ) : Type 0 where
  pub one : Among k ns
  pub lowest : All (λ n. k ≤ n) ns

least-further : (m n : ℕ) {ns : List ℕ} → n ≤ m → All (λ k. m ≤ k) ns → All (λ k. n ≤ k) ns
least-further m n h nil = nil
least-further m n h (cons {x = k} p ps) = cons {x = k} (omega arith) (least-further m n h ps)

lesser-least : (n m : ℕ) (ns : List ℕ) (b : Bool) → leb n m ≡ b → Least m ns → Least (min n m) (n ∷ ns)
lesser-least n m ns true e l =
    let low : n ≤ m = leb→le n m (true-passed (leb n m) e) in
    let least : min n m ≡ n = omega arith in
    rw least (record { one = first; lowest = cons {x = n} (omega arith) (least-further m n low l.lowest) })
lesser-least n m ns false e l =
    let high = leb-false n m e in
    let least : min n m ≡ m = omega arith in
    rw least (record { one = later l.one; lowest = cons {x = n} (omega arith) l.lowest })

leftmost-least : (ns : List ℕ) (k : ℕ) → leftmost ns ≡ some k → Least k ns
unfolding leftmost
leftmost-least [] k e = absurd (none-ne-some k e)
leftmost-least (n ∷ ns) k e = rw (← some-injective _ _ e) (by (leftmost ns) refl (leftmost-least ns))
  where
    by : (o : Option ℕ) → leftmost ns ≡ o → ((k : ℕ) → leftmost ns ≡ some k → Least k ns) → Least (lesser n o) (n ∷ ns)
    by none e least = rw (none-nested ns (rw e tt)) (record { one = first; lowest = cons {x = n} (omega arith) nil })
    by (some m) e least = lesser-least n m ns (leb n m) refl (least m e)

-- "with the place of its name, leftmost": the place that is answered is one of those calls', and none of them stands before it
pub answered-place : (table : Table) (place : ℕ) → flat_answer (accepted table) ≡ answered not_tail_call place 0 → Least place (nested_in table)
answered-place table place e = leftmost-least (nested_in table) place (by (leftmost (nested_in table)) e)
  where
    by : (o : Option ℕ) → flatness o (length table) ≡ answered not_tail_call place 0 → o ≡ some place
    by none e = let number : finished ≡ not_tail_call = ap (λ (ns : List ℕ). get_or ns 0 0) e in absurd (omega arith)
    by (some other) e = ap some (ap (λ (ns : List ℕ). get_or ns 1 0) e)
