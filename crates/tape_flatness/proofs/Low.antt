-- Words below a bound: one after another they are passed, and change nothing in a scan.
use Prim.Native.Nat.{ℕ, zero, suc, ◌+◌, ◌-◌, ◌≤◌, ◌<◌}
use native.Mathlib.Omega.{arith}
use native.Mathlib.Decide.{dec_le}
use mathlib.Core.Path.{◌≡◌, refl, ◌∙◌, ap}
use mathlib.Core.List.{List}
use lib.Bits.{bit_or, and_le_l, and_le_r, or_add_and}
use lib.ListN.{length, take, drop, get_or, length-take}
use lib.Seq.{get_or-drop}
use Rattle.std.proofs.lemmas.List.{get_or-take}
use borrow.Author.Tests.{lt-leb}
use Rattle.tape_flatness.specs.Scanned.{Below, opens_call, CallScan, out_of_calls, in_call, scanned_calls, ArgumentPassed}
use Rattle.tape_flatness.proofs.Passing.{closes_here, outer-stays, stays-low}

pub below-joins : {bound : ℕ} {ws : List ℕ} {from at past : ℕ} → Below bound ws from at → Below bound ws at past → Below bound ws from past
below-joins {bound = bound} {ws = ws} {at = at} b d =
    record {
      onward = omega (arith, b.onward, d.onward);
      inside = d.inside;
      below = λ k f g. elim (dec_le at k) [ yes h ↦ d.below k h g | no h ↦ b.below k f (omega arith) ];
    }

pub below_one : {bound : ℕ} {ws : List ℕ} {from : ℕ} (at : ℕ) → Below bound ws from at → at < length ws → {w : ℕ} → w ≡ get_or ws at 0 → w < bound
    → Below bound ws from (at + 1)
below_one {bound = bound} {ws = ws} at b h {w = w} e l =
    below-joins b (record { onward = omega arith; inside = omega (arith, h); below = λ k f g. here k (omega arith) })
  where
    here : (k : ℕ) → at ≡ k → get_or ws k 0 < bound
    here k q = rw (← q, ← e) l

pub below_less : {bound more : ℕ} {ws : List ℕ} {from past : ℕ} → Below bound ws from past → bound ≤ more → Below more ws from past
below_less b h = record { onward = b.onward; inside = b.inside; below = λ k f g. omega (arith, b.below k f g) }

-- words that are joined bit by bit: one more
pub joined-one : {ws : List ℕ} {from : ℕ} (all k : ℕ) → Below (all + 1) ws from (from + k) → from + k < length ws
    → {word : ℕ} → word ≡ get_or ws (from + k) 0 → Below (bit_or all word + 1) ws from (from + (k + 1))
joined-one {from = from} all k b h {word = word} e =
    let sum = or_add_and all word in
    let end : from + k + 1 ≡ from + (k + 1) = omega arith in
    rw (← end)
    (below_one (from + k) (below_less b (omega (arith, sum, and_le_r all word))) h e (omega (arith, sum, and_le_l all word)))

-- the words of a part of the tape
pub part-word : (ws : List ℕ) (from n i : ℕ) → i < length (take (from + n - from) (drop from ws))
    → get_or (take (from + n - from) (drop from ws)) i 0 ≡ get_or ws (from + i) 0
part-word ws from n i h =
    let l : i < from + n - from = omega (arith, length-take (from + n - from) (drop from ws)) in
    get_or-take (from + n - from) (drop from ws) i 0 l ∙ get_or-drop from ws i 0

-- IN A SCAN

abbrev pub Unchanged : List ℕ → ℕ → ℕ → Type 0
Unchanged ws from past = (s : CallScan) → scanned_calls 0 (drop from ws) s ≡ scanned_calls 0 (drop past ws) s

same-along : (f : ℕ → ℕ) (from n : ℕ) → ((k : ℕ) → from ≤ k → k < from + n → f k ≡ f (k + 1)) → f from ≡ f (from + n)
same-along f from zero h =
    let e : from ≡ from + zero = omega arith in
    ap f e
same-along f from (suc n) h =
    let e : from + n + 1 ≡ from + suc n = omega arith in
    same-along f from n (λ k a b. h k a (omega arith)) ∙ h (from + n) (omega arith) (omega arith) ∙ ap f e

module _ {bound : ℕ} {ws : List ℕ} {from past : ℕ} (b : Below bound ws from past) where
  passed-along : (s : CallScan)
      → ((k : ℕ) → k < length ws → get_or ws k 0 < bound → scanned_calls 0 (drop k ws) s ≡ scanned_calls 0 (drop (k + 1) ws) s)
      → scanned_calls 0 (drop from ws) s ≡ scanned_calls 0 (drop past ws) s
  passed-along s step =
      let end : from + (past - from) ≡ past = omega (arith, b.onward) in
      let f : ℕ → ℕ = λ k. scanned_calls 0 (drop k ws) s in
      same-along f from (past - from) (λ k h l. step k (omega (arith, b.inside, b.onward)) (b.below k h (omega (arith, b.onward)))) ∙ ap f end

  -- in a call, below the words that open and close one
  pub low-passed : bound ≡ 1280 → Unchanged ws from past
  low-passed e s = passed-along s (λ k h l. stays-low ws k h refl (omega (arith, e, l)) s)

  -- outside all calls, below those that open one
  pub outer-passed : bound ≡ 2304 → (found : ℕ) → scanned_calls 0 (drop from ws) (out_of_calls found) ≡ scanned_calls 0 (drop past ws)
      (out_of_calls found)
  outer-passed e found =
      passed-along (out_of_calls found)
      (λ k h l. outer-stays ws k h refl {opens = opens_call (get_or ws k 0)} refl (lt-leb 2304 (get_or ws k 0) (omega (arith, e, l))) found)

-- an argument that is looked at word by word
module _ (ws : List ℕ) (end k : ℕ) (u : Unchanged ws (end + 1) (end + k)) (h : end + k < length ws) {w : ℕ} (e : w ≡ get_or ws (end + k) 0) where
  next : end + k + 1 ≡ end + (k + 1)
  next = omega arith

  pub short-goes : w < 1280 → Unchanged ws (end + 1) (end + (k + 1))
  short-goes l s = rw (← next) (u s ∙ stays-low ws (end + k) h e l s)

  pub short-ends : w ≡ 1280 → (leftmost : ℕ) → ArgumentPassed ws (end + 1) leftmost (end + (k + 1)) leftmost
  short-ends q leftmost outermost =
      let s = in_call 0 outermost leftmost in
      rw (← next) (u s ∙ closes_here ws (end + k) h e q s)
