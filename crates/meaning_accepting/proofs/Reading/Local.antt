-- Lexing looks no further than one byte past a token: texts that agree up to there have the same tokens up to there.
use Prim.Native.Nat.{ℕ, zero, suc, ◌+◌, ◌≤◌, ◌<◌}
use mathlib.Core.Path.{◌≡◌, refl, sym, ap, ◌∙◌, subst}
use mathlib.Core.Bool.{Bool, true, false}
use mathlib.Core.List.{List, [], ◌∷◌, ◌++◌}
use mathlib.Core.Option.{Option, none, some}
use native.Mathlib.Omega.{arith}
use lib.Dec.{eqb}
use lib.ListN.{length, take}
use Rattle.meaning.specs.Choice.{Bytes, pick}
use Rattle.meaning.specs.Classes.{in_class, alphabetic}
use Rattle.meaning.specs.Allowed.{word_byte, name_byte}
use Rattle.meaning.specs.Tokens.{Mode, outside, inside, naming, Token, function_name, word, Placed, Lexed, lexed, ahead, Gap, between, opening}
use Rattle.meaning.specs.Tokens.{commented, starred, gap_after, Skipped, found, skip_on, skip, Run, run, word_at, Quoting, plain, Turn, goes_on}
use Rattle.meaning.specs.Tokens.{closes}
use Rattle.meaning.specs.Tokens.{breaks, turn, Quotation, quote_on, quotation, quoted_at, bracket_at, token_at, token_past, lex, mode_after}
use Rattle.meaning.specs.Tokens.{is_last_token}
use Rattle.meaning.specs.Tokens.{tokens_from}
use Rattle.meaning.proofs.Laws.Choosing.{no-cons}
use Rattle.meaning_accepting.proofs.Reading.Lexing.{run-within, quotation-within, token-within, skip-eats, skip-beyond, lex-eats}

-- bytes from a place on that agree up to another place, or to their common end
pub data AgreeTo (until : ℕ) : ℕ → Bytes → Bytes → Type 0 where
  reached : {at : ℕ} {xs ys : Bytes} → until ≤ at → AgreeTo until at xs ys
  together : {at : ℕ} → AgreeTo until at [] []
  same : {at b : ℕ} {xs ys : Bytes} → AgreeTo until (suc at) xs ys → AgreeTo until at (b ∷ xs) (b ∷ ys)

pub agree-itself : (until at : ℕ) (xs : Bytes) → AgreeTo until at xs xs
agree-itself until at [] = together
agree-itself until at (b ∷ xs) = same (agree-itself until (suc at) xs)

-- the first bytes agree where they are equal
pub agree-take : (until n at : ℕ) (xs ys : Bytes) → until ≡ n + at → take n xs ≡ take n ys → AgreeTo until at xs ys
agree-take until zero at xs ys p e = reached {at = at} (omega arith)
agree-take until (suc n) at [] [] p e = together
agree-take until (suc n) at [] (y ∷ ys) p e = no-cons e
agree-take until (suc n) at (x ∷ xs) [] p e = no-cons (sym e)
agree-take until (suc n) at (x ∷ xs) (y ∷ ys) p e =
    let first : x ≡ y = cc in
    let rest : take n xs ≡ take n ys = cc in
    subst (λ z. AgreeTo until at (x ∷ xs) (z ∷ ys)) first (same (agree-take until n (suc at) xs ys (omega arith) rest))

-- what comes next is the same
agree-ahead : {until at : ℕ} {xs ys : Bytes} (test : ℕ → Bool) → AgreeTo until at xs ys → at < until → ahead test xs ≡ ahead test ys
agree-ahead test (reached p) l = absurd (omega arith)
agree-ahead test together l = refl
agree-ahead test (same d) l = refl

-- the same token, and bytes after it that agree
pub record SameLexed (until : ℕ) (l m : Lexed) : Type 0 where
  pub first : l.first ≡ m.first
  pub rest : AgreeTo until l.first.past l.rest m.rest

same-lexed : (until : ℕ) (l : Lexed) → SameLexed until l l
same-lexed until l = record { first = refl; rest = agree-itself until l.first.past l.rest }

-- WORDS

module _ (fits : ℕ → Bool) (token : Bytes → Token) (place until : ℕ) where
  abbrev made : Run → Lexed
  made r = lexed (token r.taken) place r.past r.rest

  run_step : (taken : Bytes) (at b : ℕ) {xs ys : Bytes} (c : Bool) (r s : Run) → AgreeTo until (suc at) xs ys
      → (made (pick c r (record { taken = taken; past = at; rest = b ∷ xs }))).first.past < until
      → ((made r).first.past < until → SameLexed until (made r) (made s))
      → SameLexed until (made (pick c r (record { taken = taken; past = at; rest = b ∷ xs })))
      (made (pick c s (record { taken = taken; past = at; rest = b ∷ ys })))
  run_step taken at b true r s d l go = go l
  run_step taken at b false r s d l go = record { first = refl; rest = same d }

  run-local : (taken : Bytes) (at : ℕ) {xs ys : Bytes} → AgreeTo until at xs ys → (run fits taken at xs).past < until
      → SameLexed until (made (run fits taken at xs)) (made (run fits taken at ys))
  unfolding run
  run-local taken at (reached {xs = xs} p) l = absurd (omega (arith, (run-within fits token place taken at xs).forward))
  run-local taken at together l = same-lexed until (made (run fits taken at []))
  run-local taken at (same {b = b} {xs = xs} {ys = ys} d) l =
      run_step taken at b (fits b) (run fits (taken ++ b ∷ []) (suc at) xs) (run fits (taken ++ b ∷ []) (suc at) ys) d l
      (λ m. run-local (taken ++ b ∷ []) (suc at) d m)

-- what is read from a byte on depends only on bytes up to one past its token
abbrev Local : (ℕ → Bytes → Lexed) → Type 0
Local lexed_at =
    (until at b : ℕ) (xs ys : Bytes) → AgreeTo until (suc at) xs ys → (lexed_at at (b ∷ xs)).first.past < until
    → SameLexed until (lexed_at at (b ∷ xs)) (lexed_at at (b ∷ ys))

word-local : (mode : Mode) → Local (word_at mode)
word-local outside until at b xs ys d l = run-local name_byte function_name at until [] at (same d) l
word-local inside until at b xs ys d l = run-local word_byte word at until [] at (same d) l
word-local naming until at b xs ys d l = run-local name_byte function_name at until [] at (same d) l

-- STRINGS

quote-on-local : (place until at : ℕ) (t : Turn) {xs ys : Bytes} (next other : Quoting → Bytes → Quotation) → AgreeTo until at xs ys
    → (quoted_at place (quote_on t next at xs)).first.past < until
    → ((state : Quoting) (text : Bytes) → (quoted_at place (next state text)).first.past < until
    → SameLexed until (quoted_at place (next state text)) (quoted_at place (other state text)))
    → SameLexed until (quoted_at place (quote_on t next at xs)) (quoted_at place (quote_on t other at ys))
quote-on-local place until at (goes_on state text) next other d l go = go state text l
quote-on-local place until at (closes text) next other d l go = record { first = refl; rest = d }
quote-on-local place until at breaks next other d l go = record { first = refl; rest = d }

quotation-local : (place until : ℕ) (state : Quoting) (text : Bytes) (at : ℕ) {xs ys : Bytes} → AgreeTo until at xs ys
    → (quoted_at place (quotation state text at xs)).first.past < until
    → SameLexed until (quoted_at place (quotation state text at xs)) (quoted_at place (quotation state text at ys))
unfolding quotation
quotation-local place until state text at (reached {xs = xs} p) l = absurd (omega (arith, (quotation-within place state text at xs).forward))
quotation-local place until state text at together l = same-lexed until (quoted_at place (quotation state text at []))
quotation-local place until state text at (same {b = b} {xs = xs} {ys = ys} d) l =
    quote-on-local place until (suc at) (turn state text b) (λ next longer. quotation next longer (suc at) xs)
    (λ next longer. quotation next longer (suc at) ys) d l
    (λ next longer m. quotation-local place until next longer (suc at) d m)

-- TOKENS

pick-local : (until : ℕ) (c : Bool) (x y u v : Lexed) → (pick c x y).first.past < until
    → (x.first.past < until → SameLexed until x u) → (y.first.past < until → SameLexed until y v)
    → SameLexed until (pick c x y) (pick c u v)
pick-local until true x y u v l p q = p l
pick-local until false x y u v l p q = q l

bracket-local : (until at : ℕ) {xs ys : Bytes} (c : Bool) → AgreeTo until (suc at) xs ys → SameLexed until (bracket_at at xs c) (bracket_at at ys c)
bracket-local until at true d = record { first = refl; rest = d }
bracket-local until at false d = record { first = refl; rest = d }

-- a token that begins with a byte
token-local : (mode : Mode) → Local (token_at mode)
token-local mode until at b xs ys d l =
    let next : suc at < until = omega (arith, (token-within mode at b xs).forward) in
    pick-local until (in_class alphabetic b) (word_at mode at (b ∷ xs)) _ (word_at mode at (b ∷ ys)) _ l (λ m. word-local mode until at b xs ys d m)
    (λ m.
    pick-local until (eqb b 39) (quoted_at at (quotation plain [] (suc at) xs)) _ (quoted_at at (quotation plain [] (suc at) ys)) _ m
    (λ n. quotation-local at until plain [] (suc at) d n)
    (λ n.
    pick-local until (eqb b 60) (bracket_at at xs (ahead (in_class alphabetic) xs)) _ (bracket_at at ys (ahead (in_class alphabetic) ys)) _ n
    (λ o. rw (agree-ahead (in_class alphabetic) d next) (bracket-local until at (ahead (in_class alphabetic) ys) d))
    (λ o. record { first = refl; rest = d })))

-- BLANKS AND COMMENTS

gap_same : (gap : Gap) (at b : ℕ) (xs ys : Bytes) → ahead (eqb 42) xs ≡ ahead (eqb 42) ys → gap_after gap at b xs ≡ gap_after gap at b ys
gap_same between at b xs ys e = rw e
gap_same (opening slash) at b xs ys e = refl
gap_same (commented slash) at b xs ys e = refl
gap_same (starred slash) at b xs ys e = refl

skip-on-local : (mode : Mode) (until at b : ℕ) {xs ys : Bytes} (o : Option Gap) (next other : Gap → Skipped) → AgreeTo until (suc at) xs ys
    → (token_past mode (skip_on o next (found at (b ∷ xs)))).first.past < until
    → ((gap : Gap) → (token_past mode (next gap)).first.past < until → SameLexed until (token_past mode (next gap)) (token_past mode (other gap)))
    → SameLexed until (token_past mode (skip_on o next (found at (b ∷ xs)))) (token_past mode (skip_on o other (found at (b ∷ ys))))
skip-on-local mode until at b none next other d l go = token-local mode until at b _ _ d l
skip-on-local mode until at b (some gap) next other d l go = go gap l

skip_step : (mode : Mode) (until at b : ℕ) (gap : Gap) {xs ys : Bytes} → AgreeTo until (suc at) xs ys → suc at < until
    → (token_past mode (skip gap at (b ∷ xs))).first.past < until
    → ((next : Gap) → (token_past mode (skip next (suc at) xs)).first.past < until
    → SameLexed until (token_past mode (skip next (suc at) xs)) (token_past mode (skip next (suc at) ys)))
    → SameLexed until (token_past mode (skip gap at (b ∷ xs))) (token_past mode (skip gap at (b ∷ ys)))
unfolding skip
skip_step mode until at b gap {xs} {ys} d n l go =
    subst
    (λ z. SameLexed until (token_past mode (skip gap at (b ∷ xs))) (token_past mode (skip_on z (λ next. skip next (suc at) ys) (found at (b ∷ ys)))))
    (gap_same gap at b xs ys (agree-ahead (eqb 42) d n))
    (skip-on-local mode until at b (gap_after gap at b xs) (λ next. skip next (suc at) xs) (λ next. skip next (suc at) ys) d l go)

skip-local : (mode : Mode) (until : ℕ) (gap : Gap) (at : ℕ) {xs ys : Bytes} → AgreeTo until at xs ys
    → (token_past mode (skip gap at xs)).first.past < until
    → SameLexed until (token_past mode (skip gap at xs)) (token_past mode (skip gap at ys))
skip-local mode until gap at (reached {xs = xs} p) l = absurd (omega (arith, (skip-eats mode gap at xs).forward))
skip-local mode until gap at together l = same-lexed until (token_past mode (skip gap at []))
skip-local mode until gap at (same {b = b} {xs = xs} {ys = ys} d) l =
    skip_step mode until at b gap d (omega (arith, (skip-beyond mode gap at b xs).forward)) l (λ next m. skip-local mode until next (suc at) d m)

-- a token depends on the text only up to one byte past its end
pub lex-local : (mode : Mode) (until at : ℕ) (xs ys : Bytes) → AgreeTo until at xs ys → (lex mode at xs).first.past < until
    → SameLexed until (lex mode at xs) (lex mode at ys)
unfolding lex
lex-local mode until at xs ys d l = skip-local mode until between at d l

-- THE TOKENS UP TO ONE

pub not-nothing : {A : Type 0} (used : List Placed) (t : Placed) (others : List Placed) → ◌≡◌ {A = List Placed} [] (used ++ t ∷ others) → A
not-nothing [] t others e = no-cons e
not-nothing (u ∷ used) t others e = no-cons e

later-token : (b : Bool) (later used : List Placed) (t : Placed) (others : List Placed) → pick b [] later ≡ used ++ t ∷ others
    → (b ≡ false) × (later ≡ used ++ t ∷ others)
later-token true later used t others e = not-nothing used t others e
later-token false later used t others e = (refl, e)

-- a token that is not the first one stands among those after the first
pub tokens-later : (b : ℕ) (mode : Mode) (at : ℕ) (xs : Bytes) {u : Placed} (used : List Placed) (t : Placed) (others : List Placed)
    → tokens_from (suc b) mode at xs ≡ u ∷ (used ++ t ∷ others)
    → (is_last_token (lex mode at xs).first.token ≡ false)
    × (tokens_from b (mode_after mode (lex mode at xs).first.token) (lex mode at xs).first.past (lex mode at xs).rest ≡ used ++ t ∷ others)
unfolding tokens_from
tokens-later b mode at xs used t others e =
    let x = lex mode at xs in
    let rest : pick (is_last_token x.first.token) [] (tokens_from b (mode_after mode x.first.token) x.first.past x.rest) ≡
    used ++ t ∷ others = cc in
    later-token (is_last_token x.first.token) (tokens_from b (mode_after mode x.first.token) x.first.past x.rest) used t others rest

-- tokens end no earlier than the place that lexing begins at
tokens-forward : (b : ℕ) (mode : Mode) (at : ℕ) (xs : Bytes) (used : List Placed) (t : Placed) (others : List Placed)
    → tokens_from b mode at xs ≡ used ++ t ∷ others → at ≤ t.past
unfolding tokens_from
tokens-forward zero mode at xs used t others e = not-nothing used t others e
tokens-forward (suc b) mode at xs [] t others e =
    let one : (lex mode at xs).first ≡ t = cc in
    rw (← one) (lex-eats mode at xs).forward
tokens-forward (suc b) mode at xs (u ∷ used) t others e =
    let x = lex mode at xs in
    let later = (tokens-later b mode at xs used t others e).1 in
    omega (arith, (lex-eats mode at xs).forward, tokens-forward b (mode_after mode x.first.token) x.first.past x.rest used t others later)

one-before : (mode : Mode) (c : ℕ) (rest : Bytes) (x y u : Placed) (tail : List Placed) → x ≡ y → x ≡ u → is_last_token x.token ≡ false
    → tokens_from c (mode_after mode x.token) x.past rest ≡ tail
    → y ∷ pick (is_last_token y.token) [] (tokens_from c (mode_after mode y.token) y.past rest) ≡ u ∷ tail
one-before mode c rest x y u tail p o q r = rw (← p, q, r) (ap (λ z. z ∷ tail) o)

-- a text that agrees with another up to one byte past a token has that token too, after the same ones
pub tokens-local : (b c : ℕ) (mode : Mode) (at : ℕ) (xs ys : Bytes) (used : List Placed) (t : Placed) (others : List Placed)
    → tokens_from b mode at xs ≡ used ++ t ∷ others → AgreeTo (suc t.past) at xs ys → length ys < c
    → (more : List Placed) × (tokens_from c mode at ys ≡ used ++ t ∷ more)
unfolding tokens_from
tokens-local zero c mode at xs ys used t others e d l = not-nothing used t others e
tokens-local (suc b) zero mode at xs ys used t others e d l = absurd (omega arith)
tokens-local (suc b) (suc c) mode at xs ys [] t others e d l =
    let x = lex mode at xs in
    let y = lex mode at ys in
    let one : x.first ≡ t = cc in
    let s = lex-local mode (suc t.past) at xs ys d (rw one (omega arith)) in (
      pick (is_last_token y.first.token) [] (tokens_from c (mode_after mode y.first.token) y.first.past y.rest),
      ap (λ z. z ∷ pick (is_last_token y.first.token) [] (tokens_from c (mode_after mode y.first.token) y.first.past y.rest))
          (sym s.first ∙ one),
    )
tokens-local (suc b) (suc c) mode at xs ys (u ∷ used) t others e d l =
    let x = lex mode at xs in
    let later = tokens-later b mode at xs used t others e in
    let forward = tokens-forward b (mode_after mode x.first.token) x.first.past x.rest used t others later.1 in
    let s = lex-local mode (suc t.past) at xs ys d (omega arith) in
    let y = lex mode at ys in
    let passed : is_last_token y.first.token ≡ false = rw (← s.first) later.0 in
    let r =
    tokens-local b c (mode_after mode x.first.token) x.first.past x.rest y.rest used t others later.1 s.rest
    (omega (arith, (lex-eats mode at ys).eaten passed))
    in
    let one : x.first ≡ u = cc in
    (r.0, one-before mode c y.rest x.first y.first u (used ++ t ∷ r.0) s.first one later.0 r.1)
