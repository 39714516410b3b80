-- A scan word by word: what each does, where it stands at a place, and the words that change nothing.
use Prim.Native.Nat.{ℕ, zero, suc, ◌+◌, ◌-◌, ◌≤◌, ◌<◌}
use native.Mathlib.Omega.{arith}
use mathlib.Core.Path.{◌≡◌, refl, sym, ◌∙◌, ap}
use mathlib.Core.Bool.{Bool, true, false, not, true≢false}
use mathlib.Core.List.{List, [], ◌∷◌, ◌++◌}
use lib.Dec.{T}
use lib.ListN.{length, drop, get_or, drop_of_length-le}
use lib.Seq.{drop-drop, drop-append_seam}
use borrow.Author.Tests.{lt-leb, eq-eqb, ne_eqb}
use Rattle.meaning.specs.Choice.{pick, both, every}
use Rattle.meaning.proofs.Laws.Passing.{every-head, every-tail}
use Rattle.meaning.proofs.Laws.Remaining.{at_place}
use Rattle.tape_words.specs.Words.{carried, head_name}
use Rattle.tape_words.proofs.Laws.Lists.{part_length}
use Rattle.tape_words.proofs.Laws.Names.{by_place, name-here}
use Rattle.tape_flatness.specs.Scanned.{earlier, only_if, opens_call, closes_call, item_follows, declared_call, called_size, CallScan, out_of_calls}
use Rattle.tape_flatness.specs.Scanned.{in_call, leftmost_by, call_opened, call_closed, passed_word, scanned_calls, ArgumentPassed}

-- NAMES

-- a name is passed over at once
pub name-passed : (k : ℕ) (ws : List ℕ) (s : CallScan) → scanned_calls k ws s ≡ scanned_calls 0 (drop k ws) s
unfolding scanned_calls
name-passed zero ws s = refl
name-passed (suc k) [] s = refl
name-passed (suc k) (w ∷ ws) s = name-passed k ws s

pub name-then : (n rest : List ℕ) (s : CallScan) → scanned_calls (length n) (n ++ rest) s ≡ scanned_calls 0 rest s
name-then n rest s = name-passed (length n) (n ++ rest) s ∙ rw (drop-append_seam n rest)

-- THE WORD AT A PLACE

pub word-then : (w : ℕ) (ws : List ℕ) (s : CallScan) → scanned_calls 0 (w ∷ ws) s ≡ scanned_calls (called_size w) ws (passed_word (w ∷ ws) s)
unfolding scanned_calls
word-then w ws s = refl

module _ (ws : List ℕ) (i : ℕ) (h : i < length ws) {w : ℕ} (e : w ≡ get_or ws i 0) where
  -- what the word does to the scan
  word-passed : (s : CallScan) → scanned_calls 0 (drop i ws) s
      ≡ scanned_calls (called_size w) (drop (i + 1) ws)
      (pick (opens_call w) (call_opened (declared_call (drop i ws)) s) (pick (closes_call w) (call_closed (item_follows (drop (i + 1) ws)) s) s))
  word-passed s = rw (at_place ws i h, e) (word-then (get_or ws i 0) (drop (i + 1) ws) s)

  opens-here : opens_call w ≡ true → {end : ℕ} → end ≡ i + carried (get_or ws i 0) → (s : CallScan)
      → scanned_calls 0 (drop i ws) s ≡ scanned_calls 0 (drop (end + 1) ws) (call_opened (declared_call (drop i ws)) s)
  opens-here o {end = end} f s =
      let far : drop (carried w) (drop (i + 1) ws) ≡ drop (i + 1 + carried w) ws = drop-drop (carried w) (i + 1) ws in
      let past : i + 1 + carried w ≡ end + 1 = omega (arith, e, f) in
      rw (word-passed s, o, name-passed (carried w) (drop (i + 1) ws) (call_opened (declared_call (drop i ws)) s), far, past)

  pub closes_here : w ≡ 1280 → (s : CallScan) → scanned_calls 0 (drop i ws) s ≡
      scanned_calls 0 (drop (i + 1) ws) (call_closed (item_follows (drop (i + 1) ws)) s)
  closes_here k s =
      let opens : opens_call w ≡ false = lt-leb 2304 w (omega arith) in
      word-passed s ∙ rw (opens, eq-eqb w 1280 k)

  pub inner-closes : w ≡ 1280 → (more : ℕ) → (more ≡ 0 → ⊥) → (p found : ℕ)
      → scanned_calls 0 (drop i ws) (in_call more p found) ≡ scanned_calls 0 (drop (i + 1) ws) (in_call (more - 1) p found)
  inner-closes k zero m p found = absurd (m refl)
  inner-closes k (suc more) m p found =
      let less : suc more - 1 ≡ more = omega arith in
      rw less (closes_here k (in_call (suc more) p found))

  module _ {opens : Bool} (f : opens ≡ opens_call w) where
    pub inner-opens : opens ≡ true → {end : ℕ} → end ≡ i + carried (get_or ws i 0) → {call : ℕ} → call ≡ declared_call (drop i ws)
        → (found : ℕ) → {leftmost : ℕ} → leftmost ≡ earlier call found → (more p : ℕ)
        → scanned_calls 0 (drop i ws) (in_call more p found) ≡ scanned_calls 0 (drop (end + 1) ws) (in_call (more + 1) p leftmost)
    inner-opens o t d found l more p =
        let one : more + 1 ≡ suc more = omega arith in
        rw (one, l, d) (opens-here (sym f ∙ o) t (in_call more p found))

    module _ (o : opens ≡ false) where
      pub stays_here : (w ≡ 1280 → ⊥) → (s : CallScan) → scanned_calls 0 (drop i ws) s ≡ scanned_calls 0 (drop (i + 1) ws) s
      stays_here k s = word-passed s ∙ rw (← f, o, ne_eqb w 1280 k)

      -- between outermost calls none is open that could close
      pub outer-stays : (found : ℕ) → scanned_calls 0 (drop i ws) (out_of_calls found) ≡ scanned_calls 0 (drop (i + 1) ws) (out_of_calls found)
      outer-stays found = word-passed (out_of_calls found) ∙ rw (← f, o) (by (closes_call w))
        where
          by : (closes : Bool)
              → scanned_calls 0 (drop (i + 1) ws) (pick closes (out_of_calls found) (out_of_calls found)) ≡
              scanned_calls 0 (drop (i + 1) ws) (out_of_calls found)
          by true = refl
          by false = refl

-- a word below those that open and close calls
pub stays-low : (ws : List ℕ) (i : ℕ) → i < length ws → {w : ℕ} → w ≡ get_or ws i 0 → w < 1280
    → (s : CallScan) → scanned_calls 0 (drop i ws) s ≡ scanned_calls 0 (drop (i + 1) ws) s
stays-low ws i h {w = w} e k s = stays_here ws i h e {opens = opens_call w} refl (lt-leb 2304 w (omega arith)) (λ z. omega arith) s

-- THE END OF A CALL, AND OF THE TAPE

follows-inside : (ws : List ℕ) (next : ℕ) → item_follows (drop next ws) ≡ true → next < length ws
follows-inside ws next t = by_place ws next (λ h. h) (λ h. absurd (true≢false (sym t ∙ rw (drop_of_length-le ws h))))

-- an outermost call, by what is known where it is closed
module _ (ws : List ℕ) (i : ℕ) (h : i < length ws) (o : opens_call (get_or ws i 0) ≡ true) (leftmost next found : ℕ) {end : ℕ}
    (f : end ≡ i + carried (get_or ws i 0)) (a : ArgumentPassed ws (end + 1) leftmost next found)
    {followed : Bool} (g : followed ≡ item_follows (drop next ws)) where
  call_ends : scanned_calls 0 (drop i ws) (out_of_calls leftmost)
      ≡ scanned_calls 0 (drop next ws) (out_of_calls (earlier (only_if followed (declared_call (drop i ws))) found))
  call_ends = opens-here ws i h refl o f (out_of_calls leftmost) ∙ a (declared_call (drop i ws)) ∙ rw g

  pub call-followed : followed ≡ true → {call : ℕ} → call ≡ declared_call (drop i ws) → {all : ℕ} → all ≡ earlier call found
      → scanned_calls 0 (drop i ws) (out_of_calls leftmost) ≡ scanned_calls 0 (drop next ws) (out_of_calls all)
  call-followed t d l = rw (l, d) (rw t at call_ends)

  -- what follows has the whole name before it
  pub name-whole : end < next → followed ≡ true → {w : ℕ} → w ≡ get_or ws i 0 → carried w ≡ length (head_name ws i)
  name-whole l t {w = w} e =
      let inside : next < length ws = follows-inside ws next (sym g ∙ t) in
      let size : length (head_name ws i) ≡ carried (get_or ws i 0)
      = ap length (name-here ws i h) ∙ part_length (carried (get_or ws i 0)) (i + 1) ws (omega (arith, f, l)) in
      rw e (sym size)

  pub call-last : followed ≡ false → scanned_calls 0 (drop i ws) (out_of_calls leftmost) ≡ scanned_calls 0 (drop next ws) (out_of_calls found)
  call-last t = rw t at call_ends

pub scan-ends : (ws : List ℕ) (i : ℕ) → length ws ≤ i → (s : CallScan) → scanned_calls 0 (drop i ws) s ≡ leftmost_by s
unfolding scanned_calls
scan-ends ws i h s = rw (drop_of_length-le ws h)

pub argument-ends : (ws : List ℕ) (i : ℕ) → length ws ≤ i → (more p found : ℕ)
    → scanned_calls 0 (drop i ws) (in_call more p found) ≡ scanned_calls 0 (drop i ws) (call_closed (item_follows (drop i ws)) (in_call 0 p found))
argument-ends ws i h more p found = scan-ends ws i h (in_call more p found) ∙ sym (scan-ends ws i h _ ∙ rw (drop_of_length-le ws h))

-- WORDS THAT CHANGE NOTHING

-- they neither open nor close a call
abbrev pub quiet : ℕ → Bool
quiet w = both (not (opens_call w)) (not (closes_call w))

pub quiet-low : (w : ℕ) → w < 1280 → T (quiet w)
quiet-low w h = rw (lt-leb 2304 w (omega arith), ne_eqb w 1280 (omega arith)) tt

pub quiet_word : (w : ℕ) (rest : List ℕ) (s : CallScan) → T (quiet w) → scanned_calls 0 (w ∷ rest) s ≡ scanned_calls 0 rest s
unfolding scanned_calls
quiet_word w rest s q = by (opens_call w) (closes_call w) q
  where
    by : (opens closes : Bool) → T (both (not opens) (not closes))
        → scanned_calls (pick opens (carried w) 0) rest (pick opens (call_opened (declared_call (w ∷ rest)) s)
        (pick closes (call_closed (item_follows rest) s) s))
        ≡ scanned_calls 0 rest s
    by false false q = refl
    by false true q = absurd q
    by true closes q = absurd q

pub quiet_then : (ws rest : List ℕ) (s : CallScan) → T (every quiet ws) → scanned_calls 0 (ws ++ rest) s ≡ scanned_calls 0 rest s
quiet_then [] rest s q = refl
quiet_then (w ∷ ws) rest s q =
    quiet_word w (ws ++ rest) s (every-head quiet w ws q) ∙ quiet_then ws rest s (every-tail quiet w ws q)
