-- Laws of writing conditions: each step keeps what the words come to.
use Prim.Native.Nat.{ℕ, zero, suc, ◌+◌, ◌/◌, ◌%◌, ◌≤◌, ◌<◌}
use native.Mathlib.Omega.{arith}
use mathlib.Core.Path.{◌≡◌, refl, sym, ap, ◌∙◌}
use mathlib.Core.Bool.{Bool, true, false}
use mathlib.Core.List.{List, [], ◌∷◌}
use lib.Dec.{leb, ltb}
use lib.ListN.{length, take, drop, get_or, drop_of_length-le, get_or-eq_default}
use lib.Seq.{drop-drop}
use borrow.Author.Tests.{eq-eqb, ne_eqb, le-leb, lt-leb, leb-false}
use Rattle.std.specs.Prelude.{Option, None, Some, unwrap_or}
use mathlib.Core.Option.{Option as Found}
use Rattle.meaning.specs.Choice.{Name, pick, same_bytes, lookup}
use Rattle.meaning.specs.Tree.{Condition}
use Rattle.meaning.specs.Instructions.{Site as MeantSite, from_start, predicate}
use Rattle.meaning.specs.Translation.{site_or, Bounds, part_test}
use Rattle.meaning.specs.Allowed.{max_conditions}
use Rattle.meaning.specs.Packing.{test_word}
use Rattle.tape_layout.specs.Tape.{class_count, condition_part, condition_word, equals_word}
use Rattle.code_patterns.specs.declared.sites.Site.{Site}
use Rattle.code_patterns.specs.declared.bounds.PartBounds.{PartBounds}
use Rattle.code_patterns.specs.declared.conditions.Conditions.{Conditions}
use Rattle.tape_words.specs.Words.{carried, is_condition_word, class_in}
use Rattle.code_patterns.specs.Scans.{Scan, scanned, prepended, condition_of, condition_in, condition_by, conditions_on_tape}
use Rattle.code_words.specs.declared.CodeWriter.{CodeWriter}
use Rattle.code_words.specs.Writer.{Written, StillToWrite}
use Rattle.code_patterns.specs.Testing.{site_meant, site_found, expected_in}
use Rattle.code_patterns.specs.Conditioning.{Located, bounds_meant, bounds_by, condition_test_by, condition_at, coming}
use Rattle.code_patterns.specs.Conditioning.{condition_words, condition_done, InConditions, ConditionsOn, ConditionsAll}
use Rattle.meaning.proofs.Laws.Remaining.{at_place}
use Rattle.tape_words.proofs.Laws.Lists.{drop-again, reached, take_again}
use Rattle.tape_words.proofs.Laws.Names.{by_place}
use Rattle.code_words.proofs.Laws.Writers.{still_refl, still-trans, still-words, still-wrote, still_end}

-- READING

pub conditions-at : (ws : List ℕ) (i count : ℕ) (b : Bool) → i < length ws → condition_at count (drop i ws) ≡ b
    → conditions_on_tape count 0 (drop i ws) ≡ condition_by b count (get_or ws i 0) (drop (i + 1) ws)
    (λ n skip. conditions_on_tape n skip (drop (i + 1) ws))
unfolding conditions_on_tape
conditions-at ws i count b h e =
    let f : is_condition_word count (get_or ws i 0) ≡ b = rw (at_place ws i h) at e in
    rw (at_place ws i h, f)

pub conditions-end : (ws : List ℕ) (i count : ℕ) → condition_at count (drop i ws) ≡ false → conditions_on_tape count 0 (drop i ws) ≡
    scanned [] (drop i ws)
unfolding conditions_on_tape
conditions-end ws i count e =
    by_place ws i (λ h. conditions-at ws i count false h e ∙ rw (at_place ws i h)) (λ h. rw (drop_of_length-le ws h))

pub conditions-skip : (count skip : ℕ) (ws : List ℕ) → conditions_on_tape count skip ws ≡ conditions_on_tape count 0 (drop skip ws)
unfolding conditions_on_tape
conditions-skip count zero ws = refl
conditions-skip count (suc skip) [] = refl
conditions-skip count (suc skip) (w ∷ ws) = conditions-skip count skip ws

pub condition-inside : (ws : List ℕ) (i count : ℕ) → condition_at count (drop i ws) ≡ true → i < length ws
condition-inside ws i count e =
    by_place ws i (λ h. h) (λ h. absurd (let f : false ≡ true = rw (drop_of_length-le ws h) at e in let z : ◌≡◌ {A = ℕ} 0 1 = cc in omega arith))

-- there was room for one more
pub condition-room : (ws : List ℕ) (i count : ℕ) → condition_at count (drop i ws) ≡ true → count < max_conditions
condition-room ws i count e =
    let w = get_or ws i 0 in
    let f : is_condition_word count w ≡ true = rw (at_place ws i (condition-inside ws i count e)) at e in
    leb-false max_conditions count (by-test (leb max_conditions count) (pick (ltb w condition_word) false (ltb w equals_word)) f)
  where
    by-test : (a b : Bool) → pick a false b ≡ true → a ≡ false
    by-test true b g = absurd (let z : ◌≡◌ {A = ℕ} 0 1 = cc in omega arith)
    by-test false b g = refl

pub conditions-full : (count : ℕ) (l : List ℕ) → max_conditions ≤ count → false ≡ condition_at count l
conditions-full count [] h = refl
conditions-full count (w ∷ l) h = rw (le-leb max_conditions count h)

-- by the word at a place, 0 past the end
pub condition-by-word : (ws : List ℕ) (i count : ℕ) {code_word : ℕ} {r : Bool} → count < max_conditions → code_word ≡ get_or ws i 0
    → r ≡ pick (ltb code_word condition_word) false (ltb code_word equals_word) → r ≡ condition_at count (drop i ws)
condition-by-word ws i count h e f =
    f ∙ rw e (by_place ws i (λ k. rw (at_place ws i k, lt-leb max_conditions count h)) (λ k. rw (drop_of_length-le ws k, get_or-eq_default ws 0 k)))

-- ITS WORD

-- the test of a condition on an e-variable, and on an s-variable, from what the code worked out
module _ (known : Located) (n : ℕ) (x : Name) where
  pub part-asked : (b : PartBounds) {is : Bool} {r : ℕ} → n / condition_part % 2 ≡ 1 → is ≡ same_bytes x known.variable
      → bounds_meant b ≡ bounds_by known.lengths.parts known.lengths is
      → r ≡ test_word (part_test (bounds_meant b) (class_in (n % class_count)) (expected_in n))
      → r ≡ test_word (condition_test_by known (condition_of n x))
  part-asked b k is f e =
      e ∙ ap (λ (x : Bounds). test_word (part_test x (class_in (n % class_count)) (expected_in n))) f ∙ rw (eq-eqb (n / condition_part % 2) 1 k, ← is)

  pub symbol-asked : (s : Site) {r : ℕ} → (n / condition_part % 2 ≡ 1 → ⊥) → site_meant s ≡ site_or (lookup x known.sites)
      → r ≡ test_word (predicate (site_meant s) (class_in (n % class_count)) (expected_in n))
      → r ≡ test_word (condition_test_by known (condition_of n x))
  symbol-asked s k f e =
      e ∙ ap (λ (x : MeantSite). test_word (predicate x (class_in (n % class_count)) (expected_in n))) f ∙ rw (ne_eqb (n / condition_part % 2) 1 k)

-- p's own cell, where no s-variable has the name
pub site-or : (found : Option Site) (s : Site) {o : Found MeantSite} → site_found found ≡ o → site_meant s ≡ from_start 0
    → site_meant (unwrap_or found s) ≡ site_or o
site-or None s e h = rw (← e) h
site-or (Some r) s e h = rw (← e) refl

-- THE STEPS

-- a condition stands on the tape, and so does its variable's name
pub condition-told : {ws : List ℕ} {c : Conditions} {at : ℕ} → InConditions ws c at → condition_at c.count (drop c.next ws) ≡ true → (n : ℕ)
    → (c.next < length ws) × (c.next + 1 + length (take n (drop (c.next + 1) ws)) ≤ length ws)
condition-told {ws} {c} within e n =
    let inside = condition-inside ws c.next c.count e in
    (inside, omega (arith, reached n (c.next + 1) ws))

module _ (ws : List ℕ) (known : Located) (c : Conditions) (w : CodeWriter) (within : InConditions ws c w.at) where
  abbrev here : ℕ
  here = get_or ws c.next 0

  abbrev name : Name
  name = take (carried here / 20) (drop (c.next + 1) ws)

  pub condition-on : (w' : CodeWriter) → condition_at c.count (drop c.next ws) ≡ true
      → Written w (test_word (condition_test_by known (condition_of (carried here) name)) ∷ []) w'
      → ConditionsOn ws known w c w' (condition_done c (length name))
  condition-on w' e wrote =
      let (inside, fits) = condition-told within e (carried here / 20) in
      let room = condition-room ws c.next c.count e in
      let after : drop (carried here / 20) (drop (c.next + 1) ws) ≡ drop (c.next + 1 + length name) ws =
      sym (drop-again (carried here / 20) (drop (c.next + 1) ws)) ∙ drop-drop (length name) (c.next + 1) ws in
      let now : coming ws c ≡ prepended (condition_in here (drop (c.next + 1) ws)) (coming ws (condition_done c (length name))) =
      conditions-at ws c.next c.count true inside e
      ∙ rw (conditions-skip (c.count + 1) (carried here / 20) (drop (c.next + 1) ws), after) in
      record {
        same = still-wrote _ (still-words (still_refl w _) (ap (condition_words known) now)) wrote;
        rest = sym (ap (λ (s : Scan (List Condition)). s.rest) now);
        within = record { count = omega arith; next = fits; place = omega (arith, wrote.put.next, within.place) };
        ahead = omega arith;
        grown = omega (arith, wrote.put.next);
      }

  -- the same from what the code worked out
  pub condition-written : {w' : CodeWriter} {read size test : ℕ} → condition_at c.count (drop c.next ws) ≡ true → read ≡ here
      → size ≡ length (take (carried read / 20) (drop (c.next + 1) ws))
      → test ≡ test_word (condition_test_by known (condition_of (carried read) (take size (drop (c.next + 1) ws))))
      → Written w (test ∷ []) w' → ConditionsOn ws known w c w' (condition_done c size)
  condition-written {w'} {read} {size} {test} e ew es et wrote =
      let long : size ≡ length name = es ∙ ap (λ (v : ℕ). length (take (carried v / 20) (drop (c.next + 1) ws))) ew in
      let named : take size (drop (c.next + 1) ws) ≡ name =
      ap (λ (k : ℕ). take k (drop (c.next + 1) ws)) long ∙ take_again (carried here / 20) (drop (c.next + 1) ws) in
      let tested : test ≡ test_word (condition_test_by known (condition_of (carried here) name)) =
      et ∙ ap (λ (v : ℕ). test_word (condition_test_by known (condition_of (carried v) (take size (drop (c.next + 1) ws))))) ew
      ∙ ap (λ (x : Name). test_word (condition_test_by known (condition_of (carried here) x))) named in
      rw long (condition-on w' e (rw (← tested) wrote))

-- ALL OF THEM

pub record ConditionsSoFar (ws : List ℕ) (known : Located) (start : ℕ) (w₀ w : CodeWriter) (c : Conditions) : Type 0 where
  pub same : StillToWrite w₀ (condition_words known (conditions_on_tape 0 0 (drop start ws))) w (condition_words known (coming ws c))
  pub rest : (coming ws c).rest ≡ (conditions_on_tape 0 0 (drop start ws)).rest
  pub within : InConditions ws c w.at
  pub grown : w.at ≤ w₀.at + c.count

pub conditions-go-on : {ws : List ℕ} {known : Located} {start : ℕ} {w₀ w w' : CodeWriter} {c r : Conditions}
    → ConditionsSoFar ws known start w₀ w c → ConditionsOn ws known w c w' r →
    ConditionsSoFar ws known start w₀ w' r
conditions-go-on s o =
    record {
      same = still-trans s.same o.same;
      rest = o.rest ∙ s.rest;
      within = o.within;
      grown = omega (arith, s.grown, o.grown);
    }

pub conditions-all : {ws : List ℕ} {known : Located} {start : ℕ} {w₀ w : CodeWriter} {c : Conditions} {b : Bool}
    → ConditionsSoFar ws known start w₀ w c → b ≡ condition_at c.count (drop c.next ws) → b ≡ false
    → ConditionsAll ws known start w₀ w c
conditions-all {ws} {known} {c = c} s asked none =
    let over = conditions-end ws c.next c.count (sym asked ∙ none) in
    record {
      wrote = still_end (still-words s.same (ap (condition_words known) over));
      rest = sym (ap (λ (r : Scan (List Condition)). r.rest) over) ∙ s.rest;
      next = s.within.next;
      grown = omega (arith, s.grown, s.within.count);
    }
