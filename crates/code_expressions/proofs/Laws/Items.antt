-- Laws of reading an expression from the tape: what stands at a place, passing over words, and what an item tells.
use Prim.Native.Nat.{ℕ, zero, suc, ◌+◌, ◌-◌, ◌≤◌, ◌<◌}
use native.Mathlib.Omega.{arith}
use mathlib.Core.Path.{◌≡◌, refl, ap, ◌∙◌, subst}
use mathlib.Core.Bool.{Bool, true, false}
use mathlib.Core.List.{List, [], ◌∷◌}
use borrow.Author.Tests.{leb-false, ltb-true, ltb-false, eqb-true, eqb-false, ne_eqb}
use lib.Dec.{leb, ltb, eqb}
use lib.ListN.{length, drop, get_or, drop_of_length-le}
use Rattle.meaning.specs.Choice.{pick}
use Rattle.meaning.specs.Translation.{is_end}
use Rattle.tape_words.specs.declared.tape.Item.{Item}
use Rattle.tape_words.specs.declared.tape.Item.TheVariants.{Byte, Symbol, Part, Call, Pass, Close, Unclosed, Stop}
use Rattle.tape_words.specs.Words.{carried, head_name, item_of_word, item_at}
use Rattle.code_expressions.specs.Levels.{levels_ended, item_by, levels_in}
use Rattle.code_expressions.specs.Resuming.{is_stop}
use Rattle.meaning.proofs.Laws.Remaining.{at_place}
use Rattle.tape_words.proofs.Laws.Names.{by_place, name-skip}

-- nothing of it is read
abbrev pub stops : Item → Bool
stops Byte = false
stops Symbol = false
stops Part = false
stops Call = false
stops Pass = false
stops Close = false
stops Unclosed = true
stops Stop = true

-- THE TESTS THAT LEAD TO AN ITEM

abbrev end_tests : Bool → Bool → Bool → Item
end_tests z u v = pick z Stop (pick u Unclosed (pick v Close Unclosed))

abbrev item_tests : Bool → Bool → Bool → Bool → Bool → Bool → Bool → Bool → Bool → Item
item_tests a b c d e z u v y =
    pick a (end_tests z u v) (pick b Byte (pick c Symbol (pick d Part (pick e (end_tests z u v) (pick y Call Pass)))))

-- where nothing is read with a call open, nothing is read with one less open
end_below : (z u v : Bool) → stops (end_tests false u v) ≡ true → stops (end_tests z u v) ≡ true
end_below true u v h = refl
end_below false u v h = h

below-tests : (a b c d e z u v y x : Bool) → stops (item_tests a b c d e false u v y) ≡ true → stops (item_tests a b c d e z u v x) ≡ true
below-tests true b c d e z u v y x h = end_below z u v h
below-tests false true c d e z u v y x h = cc
below-tests false false true d e z u v y x h = cc
below-tests false false false true e z u v y x h = cc
below-tests false false false false true z u v y x h = end_below z u v h
below-tests false false false false false z u v true x h = cc
below-tests false false false false false z u v false x h = cc

-- WHAT AN ITEM TELLS

-- an item that is read stands on the tape and within the limit of items
pub record Reads (ws : List ℕ) (i items : ℕ) : Type 0 where
  pub inside : i < length ws
  pub room : items < 128

module _ (ws : List ℕ) (i depth items : ℕ) where
  abbrev word : ℕ
  word = get_or ws i 0

  abbrev pub Told : Item → Type 0
  Told Byte = Reads ws i items × (word < 256)
  Told Symbol = Reads ws i items
  Told Part = Reads ws i items
  Told Call = Reads ws i items × (depth < 16)
  Told Pass = Reads ws i items × (16 ≤ depth)
  Told Close = (i < length ws) × (0 < depth)
  Told Unclosed = 0 < depth
  Told Stop = depth ≡ 0

  -- past the end of the tape nothing is read
  outside : length ws ≤ i → stops (item_at (drop i ws) depth items) ≡ true
  outside h = rw (drop_of_length-le ws h) (by-test (eqb depth 0))
    where
      by-test : (t : Bool) → stops (pick t Stop Unclosed) ≡ true
      by-test true = refl
      by-test false = refl

  some-open : eqb depth 0 ≡ false → 0 < depth
  some-open e = by_zero depth (eqb-false depth 0 e)
    where
      by_zero : (d : ℕ) → (d ≡ 0 → ⊥) → 0 < d
      by_zero zero h = absurd (h refl)
      by_zero (suc d) h = omega arith

  end-told : (z u v : Bool) → eqb depth 0 ≡ z → i < length ws → Told (end_tests z u v)
  end-told true u v e h = eqb-true depth 0 e
  end-told false true v e h = some-open e
  end-told false false true e h = (h, some-open e)
  end-told false false false e h = some-open e

  word-told : (a b c d e z u v y : Bool) → leb 128 items ≡ a → ltb word 256 ≡ b → eqb depth 0 ≡ z → ltb depth 16 ≡ y → i < length ws
      → Told (item_tests a b c d e z u v y)
  word-told true b c d e z u v y few byte none deep h = end-told z u v none h
  word-told false b c d e z u v y few byte none deep h = within b c d e y byte deep
    where
      read : Reads ws i items
      read = record { inside = h; room = leb-false 128 items few }

      within : (b c d e y : Bool) → ltb word 256 ≡ b → ltb depth 16 ≡ y → Told (item_tests false b c d e z u v y)
      within true c d e y byte deep = (read, ltb-true word 256 byte)
      within false true d e y byte deep = read
      within false false true e y byte deep = read
      within false false false true y byte deep = end-told z u v none h
      within false false false false true byte deep = (read, ltb-true depth 16 deep)
      within false false false false false byte deep = (read, ltb-false depth 16 deep)

  pub told : (it : Item) → item_at (drop i ws) depth items ≡ it → Told it
  told it e = subst Told e (by_place ws i on-tape past-tape)
    where
      on-tape : i < length ws → Told (item_at (drop i ws) depth items)
      on-tape h =
          rw (at_place ws i h)
          (word-told (leb 128 items) (ltb word 256) (ltb word 512) (ltb word 768) (ltb word 2304) (eqb depth 0) (ltb word 1280) (ltb word 1536)
          (ltb depth 16)
          refl refl refl refl h)

      by-test : (z : Bool) → eqb depth 0 ≡ z → Told (pick z Stop Unclosed)
      by-test true e = eqb-true depth 0 e
      by-test false e = some-open e

      past-tape : length ws ≤ i → Told (item_at (drop i ws) depth items)
      past-tape h = rw (drop_of_length-le ws h) (by-test (eqb depth 0) refl)

-- READING

pub levels-at : (ws : List ℕ) (i depth items : ℕ) (it : Item) → i < length ws → item_at (drop i ws) depth items ≡ it
    → levels_in depth items 0 (drop i ws) ≡ item_by it depth items (get_or ws i 0) (drop (i + 1) ws)
    (λ d n skip. levels_in d n skip (drop (i + 1) ws))
unfolding levels_in
levels-at ws i depth items it h e =
    let f : item_of_word (get_or ws i 0) depth items ≡ it = rw (at_place ws i h) at e in
    rw (at_place ws i h, f)

pub levels-skip : (depth items skip : ℕ) (ws : List ℕ) → levels_in depth items skip ws ≡ levels_in depth items 0 (drop skip ws)
unfolding levels_in
levels-skip depth items zero ws = refl
levels-skip depth items (suc skip) [] = refl
levels-skip depth items (suc skip) (w ∷ ws) = levels-skip depth items skip ws

pub levels-past : (depth items : ℕ) (ws : List ℕ) (i : ℕ) → i < length ws
    → levels_in depth items (carried (get_or ws i 0)) (drop (i + 1) ws) ≡ levels_in depth items 0 (drop (i + 1 + length (head_name ws i)) ws)
levels-past depth items ws i h =
    levels-skip depth items (carried (get_or ws i 0)) (drop (i + 1) ws) ∙ ap (levels_in depth items 0) (name-skip ws i h)

pub levels-stop : (ws : List ℕ) (i depth items : ℕ) → stops (item_at (drop i ws) depth items) ≡ true → levels_in depth items 0 (drop i ws) ≡
    levels_ended (drop i ws)
unfolding levels_in
levels-stop ws i depth items e =
    by_place ws i (λ h. at-word h (item_at (drop i ws) depth items) refl e) (λ h. rw (drop_of_length-le ws h))
  where
    at-word : i < length ws → (it : Item) → item_at (drop i ws) depth items ≡ it → stops it ≡ true → levels_in depth items 0 (drop i ws) ≡
        levels_ended (drop i ws)
    at-word h Byte f s = cc
    at-word h Symbol f s = cc
    at-word h Part f s = cc
    at-word h Call f s = cc
    at-word h Pass f s = cc
    at-word h Close f s = cc
    at-word h Unclosed f s = levels-at ws i depth items Unclosed h f ∙ rw (at_place ws i h)
    at-word h Stop f s = levels-at ws i depth items Stop h f ∙ rw (at_place ws i h)

-- where an open call ends for want of words, nothing is read outside it either
pub stops-below : (ws : List ℕ) (i depth items : ℕ) → item_at (drop i ws) depth items ≡ Unclosed
    → stops (item_at (drop i ws) (depth - 1) items) ≡ true
stops-below ws i depth items e =
    by_place ws i
    (λ h.
    let w = get_or ws i 0 in
    let deep : eqb depth 0 ≡ false = ne_eqb depth 0 (λ z. omega (arith, told ws i depth items Unclosed e)) in
    let now : stops (item_of_word w depth items) ≡ true = rw (at_place ws i h) at (ap stops e) in
    rw (at_place ws i h)
    (below-tests (leb 128 items) (ltb w 256) (ltb w 512) (ltb w 768) (ltb w 2304) (eqb (depth - 1) 0) (ltb w 1280) (ltb w 1536) (ltb depth 16)
    (ltb (depth - 1) 16)
    (rw deep at now)))
    (λ h. outside ws i (depth - 1) items h)

-- nothing follows outermost where nothing is read
pub last-item : (ws : List ℕ) (i items : ℕ) → is_end (levels_in 0 items 0 (drop i ws)).current ≡ is_stop (item_at (drop i ws) 0 items)
unfolding levels_in
last-item ws i items = by-list (drop i ws)
  where
    by_tests : (a b c d e : Bool) (w : ℕ) (r : List ℕ)
        → is_end (item_by (item_tests a b c d e true false false true) 0 items w r (λ d n skip. levels_in d n skip r)).current
        ≡ is_stop (item_tests a b c d e true false false true)
    by_tests true b c d e w r = refl
    by_tests false true c d e w r = refl
    by_tests false false true d e w r = refl
    by_tests false false false true e w r = refl
    by_tests false false false false true w r = refl
    by_tests false false false false false w r = refl

    by-list : (l : List ℕ) → is_end (levels_in 0 items 0 l).current ≡ is_stop (item_at l 0 items)
    by-list [] = refl
    by-list (w ∷ r) = by_tests (leb 128 items) (ltb w 256) (ltb w 512) (ltb w 768) (ltb w 2304) w r
