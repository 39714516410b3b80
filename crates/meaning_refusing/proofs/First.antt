-- The first fault of tokens: where a reader stops stands one, tokens that are passed to the end have none, and of two the same decides.
use Prim.Native.Nat.{ℕ, suc, ◌<◌}
use mathlib.Core.Path.{◌≡◌, refl, sym, ap, ◌∙◌, subst}
use mathlib.Core.Bool.{Bool, true, false}
use mathlib.Core.List.{List, [], ◌∷◌, ◌++◌, append-nil, append_assoc}
use native.Mathlib.Omega.{arith}
use borrow.Author.Tests.{leb-true, leb-false}
use lib.Dec.{leb}
use Rattle.meaning.specs.Choice.{pick}
use Rattle.meaning.specs.Tokens.{Placed, is_last_token}
use Rattle.meaning.proofs.Laws.Choosing.{no-cons, not-both}
use Rattle.meaning_accepting.proofs.Reading.Basics.{impossible}
use Rattle.meaning_accepting.proofs.Reading.Lexing.{ended}
use Rattle.meaning_accepting.proofs.Reading.Sound.{is_nil}
use Rattle.meaning_refusing.specs.Faults.{Quota, Fault, Faultless, FirstFault}
use Rattle.meaning_refusing.proofs.Sums.{tally, number}
use Rattle.meaning_refusing.proofs.Told.{last_is, Trace, stay, go, Stops, Cut}
use Rattle.meaning_refusing.proofs.InTable.{nothing-fine}
use Rattle.meaning_refusing.proofs.Deciding.{number-fault, fault-bounds}

-- BEGINNINGS

-- a beginning of one token more
data Beginning (b : List Placed) (t : Placed) (us : List Placed) : Type 0 where
  whole : us ≡ b ++ t ∷ [] → Beginning b t us
  earlier : (vs : List Placed) → b ≡ us ++ vs → Beginning b t us

beginning-next : {b us : List Placed} {t : Placed} (u : Placed) → Beginning b t us → Beginning (u ∷ b) t (u ∷ us)
beginning-next u (whole e) = whole (ap (λ z. u ∷ z) e)
beginning-next u (earlier vs e) = earlier vs (ap (λ z. u ∷ z) e)

beginning : (b : List Placed) (t : Placed) (us vs : List Placed) → b ++ t ∷ [] ≡ us ++ vs → Beginning b t us
beginning b t [] vs e = earlier b refl
beginning [] t (u ∷ us) vs e =
    let first : t ≡ u = cc in
    let rest : [] ≡ us ++ vs = cc in
    whole (no_more first us vs rest)
  where
    no_more : t ≡ u → (us vs : List Placed) → [] ≡ us ++ vs → u ∷ us ≡ t ∷ []
    no_more f [] vs e = ap (λ z. z ∷ []) (sym f)
    no_more f (w ∷ us) vs e = no-cons e
beginning (c ∷ b) t (u ∷ us) vs e =
    let first : c ≡ u = cc in
    let rest : b ++ t ∷ [] ≡ us ++ vs = cc in
    subst (λ z. Beginning (c ∷ b) t (z ∷ us)) first (beginning-next c (beginning b t us vs rest))

-- of two places the tokens up to one are a beginning of those before the other, or they are the same
data Apart (b : List Placed) (t : Placed) (c : List Placed) (u : Placed) : Type 0 where
  alike : b ≡ c → t ≡ u → Apart b t c u
  sooner : (vs : List Placed) → c ≡ (b ++ t ∷ []) ++ vs → Apart b t c u
  later : (vs : List Placed) → b ≡ (c ++ u ∷ []) ++ vs → Apart b t c u

apart_next : {b c : List Placed} {t u : Placed} (x : Placed) → Apart b t c u → Apart (x ∷ b) t (x ∷ c) u
apart_next x (alike p q) = alike (ap (λ z. x ∷ z) p) q
apart_next x (sooner vs e) = sooner vs (ap (λ z. x ∷ z) e)
apart_next x (later vs e) = later vs (ap (λ z. x ∷ z) e)

apart : (b : List Placed) (t : Placed) (a c : List Placed) (u : Placed) (d : List Placed) → b ++ t ∷ a ≡ c ++ u ∷ d → Apart b t c u
apart [] t a [] u d e = let same : t ≡ u = cc in alike refl same
apart [] t a (x ∷ c) u d e = let first : t ≡ x = cc in sooner c (ap (λ z. z ∷ c) (sym first))
apart (x ∷ b) t a [] u d e = let first : x ≡ u = cc in later b (ap (λ z. z ∷ b) first)
apart (x ∷ b) t a (y ∷ c) u d e =
    let first : x ≡ y = cc in
    let rest : b ++ t ∷ a ≡ c ++ u ∷ d = cc in
    subst (λ z. Apart (x ∷ b) t (z ∷ c) u) first (apart_next x (apart b t a c u d rest))

not-less : (n m : ℕ) → (n < m → ⊥) → (m < n → ⊥) → n ≡ m
not-less n m a b = by (leb n m) refl (leb m n) refl
  where
    by : (x : Bool) → leb n m ≡ x → (y : Bool) → leb m n ≡ y → n ≡ m
    by true x true y = omega (arith, leb-true n m x, leb-true m n y)
    by false x y z = absurd (b (omega (arith, leb-false n m x)))
    by true x false y = absurd (a (omega (arith, leb-false m n y)))

-- tokens that come to an end have a last one
last_step : (q : Bool) (ts : List Placed) → (ended ts ≡ true → last_is is_last_token q ts ≡ true) → pick q (is_nil ts) (ended ts) ≡ true
    → last_is is_last_token q ts ≡ true
unfolding last_is
last_step true [] others e = refl
last_step true (t ∷ ts) others e = impossible e
last_step false ts others e = others e

ended-last : (before : Bool) (ts : List Placed) → ended ts ≡ true → last_is is_last_token before ts ≡ true
unfolding ended last_is
ended-last before [] e = impossible e
ended-last before (t ∷ ts) e = last_step (is_last_token t.token) ts (ended-last (is_last_token t.token) ts) e

module _ (quota : Quota) where
  -- every beginning of the tokens has no number
  abbrev Pure : List Placed → Type 0
  Pure b = (us vs : List Placed) → b ≡ us ++ vs → number quota (tally us) ≡ 0

  pure-faultless : (b : List Placed) → Pure b → Faultless quota b
  pure-faultless b p us vs e n f =
      let l = (fault-bounds quota us f).low in
      let z = p us vs e in
      omega arith

  none-pure : Pure []
  none-pure [] vs e = nothing-fine quota
  none-pure (u ∷ us) vs e = no-cons e

  pure-next : (b : List Placed) (t : Placed) → Pure b → number quota (tally (b ++ t ∷ [])) ≡ 0 → Pure (b ++ t ∷ [])
  pure-next b t p z us vs e = by-case (beginning b t us vs e)
    where
      by-case : Beginning b t us → number quota (tally us) ≡ 0
      by-case (whole q) = rw q z
      by-case (earlier ws q) = p us ws q

  trace-pure : {b ts b₁ rest : List Placed} → Trace quota b ts b₁ rest → Pure b → Pure b₁
  trace-pure stay p = p
  trace-pure (go {b = b} {t = t} z r) p = trace-pure r (pure-next b t p z)

  trace-shape : {b ts b₁ rest : List Placed} → Trace quota b ts b₁ rest → b ++ ts ≡ b₁ ++ rest
  trace-shape stay = refl
  trace-shape (go {b = b} {ts = ts} {t = t} z r) = sym (append_assoc b (t ∷ []) ts) ∙ trace-shape r

  -- where a reader stops is the first fault
  pub stops_first : (ts : List Placed) (n k : ℕ) → Stops quota [] ts (suc n) k → FirstFault quota ts (suc n) k
  stops_first ts n k s =
      record {
        before = s.used;
        token = s.first;
        after = s.others;
        shape = trace-shape s.trace;
        place = s.place;
        sound = pure-faultless s.used (trace-pure s.trace none-pure);
        fault = number-fault quota (s.used ++ s.first ∷ []) n s.fault;
        lowest = λ m l f.
            let h = (fault-bounds quota (s.used ++ s.first ∷ []) f).high in
            let e = s.fault in
            omega arith;
      }

  -- tokens that are passed to the end have none
  pub passed-whole : (ts b : List Placed) → Trace quota [] ts b [] → Faultless quota ts
  passed-whole ts b r = subst (Faultless quota) (sym (trace-shape r ∙ append-nil b)) (pure-faultless b (trace-pure r none-pure))

  -- tokens that come to an end aren't cut
  pub never-cut : (ts : List Placed) → ended ts ≡ true → Cut quota [] ts → ⊥
  never-cut ts e c =
      let same : ts ≡ c.used = trace-shape c.trace ∙ append-nil c.used in
      not-both (ended-last false c.used (subst (λ z. ended z ≡ true) same e)) c.inner

  pub no-first : (ts : List Placed) (n k : ℕ) → Faultless quota ts → FirstFault quota ts n k → ⊥
  no-first ts n k h f =
      h (f.before ++ f.token ∷ []) f.after (f.shape ∙ sym (append_assoc f.before (f.token ∷ []) f.after)) n f.fault

  pub one-first : (ts : List Placed) (n k m p : ℕ) → FirstFault quota ts n k → FirstFault quota ts m p → (n ≡ m) × (k ≡ p)
  one-first ts n k m p f g = by-case (apart f.before f.token f.after g.before g.token g.after (sym f.shape ∙ g.shape))
    where
      by-case : Apart f.before f.token g.before g.token → (n ≡ m) × (k ≡ p)
      by-case (alike x y) =
          let same : f.before ++ f.token ∷ [] ≡ g.before ++ g.token ∷ [] = cc in (
            not-less n m (λ l. g.lowest n l (subst (λ z. Fault quota z n) same f.fault))
                (λ l. f.lowest m l (subst (λ z. Fault quota z m) (sym same) g.fault)),
            sym f.place ∙ (ap (λ z. z.place) y ∙ g.place),
          )
      by-case (sooner vs e) = absurd (g.sound (f.before ++ f.token ∷ []) vs e n f.fault)
      by-case (later vs e) = absurd (f.sound (g.before ++ g.token ∷ []) vs e m g.fault)
