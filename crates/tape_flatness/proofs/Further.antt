-- Words that open no call further left than one that is found: the scan ends with that one.
use Prim.Native.Nat.{ℕ, zero, suc, ◌+◌, ◌-◌, ◌*◌, ◌≤◌, ◌<◌}
use native.Mathlib.Omega.{arith}
use native.Mathlib.Decide.{dec_le}
use mathlib.Core.Path.{◌≡◌, refl, ap}
use mathlib.Core.Bool.{Bool, true, false, not, ◌||◌, ◌&&◌, true≢false}
use mathlib.Core.List.{List, [], ◌∷◌}
use lib.Dec.{leb, ltb}
use lib.ListN.{length, drop, get_or, length-drop}
use lib.Seq.{get_or-drop}
use borrow.Author.Tests.{leb-true, ltb-false}
use Rattle.meaning.specs.Choice.{pick}
use Rattle.meaning.specs.Names.{is_built_in}
use Rattle.tape_words.specs.Words.{called_place, name_in}
use Rattle.tape_flatness.specs.Scanned.{earlier, only_if, opens_call, closes_call, item_follows, declared_call, called_size, CallScan}
use Rattle.tape_flatness.specs.Scanned.{out_of_calls, in_call, leftmost_by, call_opened, call_closed, passed_word, scanned_calls, NoneFurtherLeft}

-- one more word
module _ (call w : ℕ) (q : leb 2304 w && ltb w ((call + 9 - 1) * 256) ≡ false) where
  not_left : opens_call w ≡ true → call ≤ suc (called_place w)
  not_left o =
      let l : (call + 9 - 1) * 256 ≤ w = ltb-false w _ (rw o at q) in
      omega (arith, l, leb-true 2304 w o)

pub further-one : (call : ℕ) (ws : List ℕ) (from at : ℕ) (any : Bool) → (any ≡ false → NoneFurtherLeft call ws from at) → {w : ℕ} → w ≡ get_or ws at 0
    → any || (leb 2304 w && ltb w ((call + 9 - 1) * 256)) ≡ false → NoneFurtherLeft call ws from (at + 1)
further-one call ws from at true n e q k f g = absurd (true≢false q)
further-one call ws from at false n {w = w} e q k f g =
    elim (dec_le at k) [ yes h ↦ here k (omega arith) | no h ↦ n refl k f (omega arith) ]
  where
    here : (k : ℕ) → at ≡ k → opens_call (get_or ws k 0) ≡ true → call ≤ suc (called_place (get_or ws k 0))
    here k p = rw (← p, ← e) (not_left call w q)

-- a call that changes nothing where the other is found
abbrev Farther : ℕ → ℕ → Type 0
Farther found call = earlier call found ≡ found

only-farther : (found : ℕ) (b : Bool) (call : ℕ) → Farther found call → Farther found (only_if b call)
only-farther found true call h = h
only-farther found false call h = refl

farther-right : (found place : ℕ) → (found ≡ 0 → ⊥) → found ≤ suc place → Farther found (suc place)
farther-right zero place h k = absurd (h refl)
farther-right (suc f) place h k = ap suc (omega arith)

-- such a state
abbrev Found : ℕ → CallScan → Type 0
Found found (out_of_calls leftmost) = leftmost ≡ found
Found found (in_call more outermost leftmost) = (leftmost ≡ found) × Farther found outermost

found-told : (found : ℕ) (s : CallScan) → Found found s → leftmost_by s ≡ found
found-told found (out_of_calls leftmost) h = h
found-told found (in_call more outermost leftmost) h = h.0

found-opened : (found call : ℕ) (s : CallScan) → Farther found call → Found found s → Found found (call_opened call s)
found-opened found call (out_of_calls leftmost) k h = (h, k)
found-opened found call (in_call more outermost leftmost) k h = (rw h.0 k, h.1)

found-closed : (found : ℕ) (followed : Bool) (s : CallScan) → Found found s → Found found (call_closed followed s)
found-closed found followed (out_of_calls leftmost) h = h
found-closed found followed (in_call zero outermost leftmost) h = rw h.0 (only-farther found followed outermost h.1)
found-closed found followed (in_call (suc more) outermost leftmost) h = h

module _ (found : ℕ) (some : found ≡ 0 → ⊥) where
  found_passed : (w : ℕ) (ws : List ℕ) (s : CallScan) → (opens_call w ≡ true → found ≤ suc (called_place w)) → Found found s
      → Found found (passed_word (w ∷ ws) s)
  found_passed w ws s k h = by (opens_call w) (closes_call w) k
    where
      by : (opens closes : Bool) → (opens ≡ true → found ≤ suc (called_place w))
          → Found found (pick opens (call_opened (declared_call (w ∷ ws)) s) (pick closes (call_closed (item_follows ws) s) s))
      by true closes k =
          found-opened found (declared_call (w ∷ ws)) s
          (only-farther found (not (is_built_in (name_in (w ∷ ws)))) (suc (called_place w)) (farther-right found (called_place w) some (k refl))) h
      by false true k = found-closed found (item_follows ws) s h
      by false false k = h

  scan-settled : (name : ℕ) (ws : List ℕ) (s : CallScan) → NoneFurtherLeft found ws 0 (length ws) → Found found s → scanned_calls name ws s ≡ found
  unfolding scanned_calls
  scan-settled zero [] s k h = found-told found s h
  scan-settled zero (w ∷ ws) s k h =
      scan-settled (called_size w) ws (passed_word (w ∷ ws) s) (λ i f g. k (suc i) (omega arith) (omega arith))
      (found_passed w ws s (k 0 (omega arith) (omega arith)) h)
  scan-settled (suc name) [] s k h = found-told found s h
  scan-settled (suc name) (w ∷ ws) s k h = scan-settled name ws s (λ i f g. k (suc i) (omega arith) (omega arith)) h

  pub rest-settled : (ws : List ℕ) (i : ℕ) → NoneFurtherLeft found ws i (length ws) → scanned_calls 0 (drop i ws) (out_of_calls found) ≡ found
  rest-settled ws i k =
      scan-settled 0 (drop i ws) (out_of_calls found)
      (λ j f g. rw (get_or-drop i ws j 0) (k (i + j) (omega arith) (within j g))) refl
    where
      within : (j : ℕ) → j < length (drop i ws) → i + j < length ws
      within j g = omega (arith, length-drop i ws)
