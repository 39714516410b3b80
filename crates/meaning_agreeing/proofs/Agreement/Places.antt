-- The machine's search over the middle template's places against rewriting's search over the first e-variable's part: both take the leftmost place
-- that fits.
use Prim.Native.Nat.{ℕ, suc, ◌+◌, ◌-◌, ◌≤◌, ◌<◌}
use native.Mathlib.Decide.{dec_le}
use native.Mathlib.Omega.{arith}
use mathlib.Core.Path.{◌≡◌}
use mathlib.Core.List.{[], ◌∷◌, ◌++◌, append_assoc}
use mathlib.Core.Option.{Option, none, some}
use lib.ListN.{length, length-append}
use Rattle.meaning.specs.Choice.{Bytes, or_else}
use Rattle.meaning.specs.Rewriting.{Bindings, shortest}
use Rattle.meaning.specs.Matching.{Checked, passed, failed, Found, found_at, found_none, settled, search}
use Rattle.meaning_agreeing.proofs.Agreement.Patterns.{either-none}

-- `Fits at bound`: with the middle template at this place, the match takes these bindings
module _ (Fits : ℕ → Bindings → Type 0) where
  -- one place
  pub data Trial (at : ℕ) : Checked → Option Bindings → Type 0 where
    unfit : Trial at failed none
    fit : {bound : Bindings} → Fits at bound → Trial at passed (some bound)

  -- all places
  pub data Agreeing : Found → Option Bindings → Type 0 where
    neither : Agreeing found_none none
    alike : {at : ℕ} {bound : Bindings} → Fits at bound → Agreeing (found_at at) (some bound)

  -- the first place that fits counts
  settle : {at : ℕ} {c : Checked} {f : Found} {here later : Option Bindings} → Trial at c here → Agreeing f later →
      Agreeing (settled c at f) (or_else here later)
  settle unfit a = a
  settle (fit h) a = alike h

  -- fewer than two e-variables: one place to try
  pub only : (test : ℕ → Checked) (at : ℕ) {o : Option Bindings} → Trial at (test at) o → Agreeing (search test 1 at) o
  unfolding search
  only test at {o} t = rw (either-none o) at (settle t neither)

  module _ (test : ℕ → Checked) (k : Bytes → Bytes → Option Bindings) (start needed : ℕ) (whole : Bytes)
      (each : (taken rest : Bytes) → taken ++ rest ≡ whole → needed ≤ length rest →
      Trial (start + length taken) (test (start + length taken)) (k taken rest))
      (short : (taken rest : Bytes) → length rest < needed → k taken rest ≡ none) where
    -- at most as many places are left as there are ways to leave enough for the templates after this one
    here-or-later : (taken rest : Bytes) (later : Option Bindings) → taken ++ rest ≡ whole →
        Agreeing (search test (length rest - needed) (suc (start + length taken))) later →
        Agreeing (search test (suc (length rest) - needed) (start + length taken)) (or_else (k taken rest) later)
    unfolding search
    here-or-later taken rest later e a = at (dec_le needed (length rest))
      where
        at : Dec (needed ≤ length rest) → Agreeing (search test (suc (length rest) - needed) (start + length taken)) (or_else (k taken rest) later)
        at (yes fits) =
            let one : suc (length rest) - needed ≡ suc (length rest - needed) = omega arith in
            rw one (settle (each taken rest e fits) a)
        at (no more) =
            let none_left : suc (length rest) - needed ≡ 0 = omega arith in
            let none_after : length rest - needed ≡ 0 = omega arith in
            rw (none_left, short taken rest (omega arith)) (rw none_after at a)

    pub search-shortest : (taken rest : Bytes) → taken ++ rest ≡ whole →
        Agreeing (search test (suc (length rest) - needed) (start + length taken)) (shortest k taken rest)
    unfolding shortest search
    search-shortest taken [] e =
        let nowhere : 0 - needed ≡ 0 = omega arith in
        rw (either-none (k taken [])) at (here-or-later taken [] none e (rw nowhere neither))
    search-shortest taken (b ∷ rest) e =
        let further : start + length (taken ++ b ∷ []) ≡ suc (start + length taken) = rw length-append (omega arith) in
        here-or-later taken (b ∷ rest) (shortest k (taken ++ b ∷ []) rest) e
        (rw further at (search-shortest (taken ++ b ∷ []) rest (rw append_assoc e)))
