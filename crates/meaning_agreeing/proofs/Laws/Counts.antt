-- 02, T-01: a count for each function, kept by the machine, is the function's applications in rewriting's own history.
use Prim.Native.Nat.{ℕ, zero, suc, ◌+◌, ◌≤◌, ◌<◌}
use native.Mathlib.Omega.{arith}
use mathlib.Core.Path.{◌≡◌, refl, sym}
use mathlib.Core.List.{List, [], ◌∷◌}
use mathlib.Core.Option.{Option, none, some}
use lib.ListN.{length, get_or, set}
use borrow.Author.Tests.{eq-eqb, ne_eqb}
use Rattle.meaning.proofs.Laws.Packable.{All, nil, cons}
use Rattle.meaning.specs.Outcome.{Tally, max_counted, uncounted, counted, pay}
use Rattle.meaning.specs.Rewriting.{Course, take_step, took_from, applications, applications_from, tally_of}

-- a function that has another number than all of these changes none of their counts
others : (g f n : ℕ) (history : List ℕ) → g < f → applications_from f n (g ∷ history) ≡ applications_from f n history
unfolding applications_from applications
others g f zero history h = refl
others g f (suc n) history h = rw (ne_eqb f g (λ e. omega arith), others g (suc f) n history (omega arith))

-- the count of the function `i` places on goes up by one
one_more_lem : (i f g n : ℕ) (history : List ℕ) → f + i ≡ g →
    set (applications_from f n history) i (suc (get_or (applications_from f n history) i 0)) ≡ applications_from f n (g ∷ history)
unfolding applications_from applications
one_more_lem i f g zero history e = refl
one_more_lem zero f g (suc n) history e =
    let same : f ≡ g = omega arith in
    rw (eq-eqb f g same, others g (suc f) n history (omega arith))
one_more_lem (suc i) f g (suc n) history e = rw (ne_eqb f g (λ e'. omega arith), one_more_lem i (suc f) g n history (omega arith))

pub counted-applied : (f : ℕ) (history : List ℕ) → counted f (applications_from 1 max_counted history) ≡ applications_from 1 max_counted (f ∷ history)
counted-applied zero history = sym (others 0 1 max_counted history (omega arith))
counted-applied (suc i) history = one_more_lem i 1 (suc i) max_counted history (omega arith)

pub none-applied : applications_from 1 max_counted [] ≡ uncounted
unfolding applications_from applications
none-applied = refl

-- a list of counts added up
unfoldable pub total : List ℕ → ℕ
total [] = 0
total (n ∷ ns) = n + total ns

set-total : (ns : List ℕ) (i : ℕ) → i < length ns → total (set ns i (suc (get_or ns i 0))) ≡ suc (total ns)
unfolding total
set-total [] i h = absurd (omega arith)
set-total (n ∷ ns) zero h = omega arith
set-total (n ∷ ns) (suc i) h = omega (arith, set-total ns i (omega arith))

applications-length : (f n : ℕ) (history : List ℕ) → length (applications_from f n history) ≡ n
unfolding applications_from
applications-length f zero history = refl
applications-length f (suc n) history = rw (applications-length (suc f) n history)

-- a function that has a count
abbrev pub HasCount : ℕ → Type 0
HasCount f = (0 < f) × (f ≤ max_counted)

-- the counts of a history of such functions add up to its length
pub history-total : {history : List ℕ} → All HasCount history → total (applications_from 1 max_counted history) ≡ length history
unfolding total
history-total nil = rw none-applied
history-total (cons {x = zero} h hs) = absurd (omega arith)
history-total (cons {x = suc i} {xs} h hs) =
    let counts = applications_from 1 max_counted xs in
    let long : i < length counts = omega (arith, applications-length 1 max_counted xs, h) in
    rw (← counted-applied (suc i) xs) (omega (arith, set-total counts i long, history-total hs))

abbrev pub told : Option Course → Option Tally
told none = none
told (some t) = some (tally_of t)

-- the machine pays as rewriting takes a step
pub paid-alike : (f : ℕ) (t : Course) → pay f (tally_of t) ≡ told (take_step f t)
paid-alike f t = by t.steps_left
  where
    by : (left : ℕ) → Rattle.meaning.specs.Outcome.paid_from left f (tally_of t) ≡ told (took_from left f t)
    by zero = refl
    by (suc n) = rw (counted-applied f t.history)
