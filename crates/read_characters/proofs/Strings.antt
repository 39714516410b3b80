-- Strings: what stands at a place of one.
use Prim.Native.Nat.{ℕ, ◌+◌, ◌-◌, ◌*◌, ◌≤◌, ◌<◌}
use mathlib.Core.Path.{◌≡◌, ◌∙◌}
use mathlib.Core.Bool.{Bool, true, false}
use mathlib.Core.List.{[], ◌∷◌, ◌++◌}
use mathlib.Core.Logic.{◌⊎◌, inl, inr, ⊎_elim}
use native.Mathlib.Numerals.{add-one}
use native.Mathlib.Omega.{arith}
use lib.Dec.{T, leb, ltb}
use lib.ListN.{length, get_or, drop}
use borrow.Author.Tests.{lt-ltb, le-ltb, leb-true, ne_eqb}
use Rattle.meaning.specs.Choice.{Bytes, pick}
use Rattle.meaning.specs.Classes.{in_class, digit}
use Rattle.meaning.specs.Tokens.{Quoting, plain, escaped, coded, Turn, goes_on, closes, breaks, digit_value, code_turn, turn, quote_on, quotation}
use Rattle.meaning.proofs.Laws.Passing.{both_left, both_right, passed}
use Rattle.read_characters.specs.View.{byte_count, EndsInText, StandsInString}
use Rattle.read_characters.specs.declared.Character.{Character}
use Rattle.read_characters.specs.declared.Character.TheVariants.{Given, Nothing, Closed, Broken}
use Rattle.meaning.proofs.Laws.Places.{here, nothing}

-- DIGITS

pub record Digit (b : ℕ) : Type 0 where
  pub low : 48 ≤ b
  pub high : b ≤ 57

pub is_digit_lem : (b : ℕ) → in_class digit b ≡ true → Digit b
is_digit_lem b e =
    let t : T (in_class digit b) = rw e tt in
    record {
      low = leb-true 48 b (passed (leb 48 b) (both_left (leb 48 b) (leb b 57) t));
      high = leb-true b 57 (passed (leb b 57) (both_right (leb 48 b) (leb b 57) t));
    }

-- ONE BYTE

-- what a byte does in a string, whatever the characters so far
abbrev Turns : Quoting → ℕ → (Bytes → Turn) → Type 0
Turns state b does = (characters : Bytes) → turn state characters b ≡ does characters

taking : (text : Bytes) (state : Quoting) (at : ℕ) {does : Bytes → Turn} → at < length text → Turns state (get_or text at 0) does
    → (characters : Bytes)
    → quotation state characters at (drop at text)
    ≡ quote_on (does characters) (λ next longer. quotation next longer (at + 1) (drop (at + 1) text)) (at + 1) (drop (at + 1) text)
unfolding quotation
taking text state at h e characters = rw (here text at h, add-one, e characters)

-- CODES

-- the code so far, whatever the characters before it
pub record Coding (text : Bytes) (first from value at : ℕ) : Type 0 where
  pub same : (characters : Bytes) → quotation (coded first) characters from (drop from text) ≡ quotation (coded value) characters at (drop at text)
  pub small : value < byte_count
  pub onward : from ≤ at
  pub inside : at ≤ length text

module _ (text : Bytes) (first from value at : ℕ) where
  pub code-ends : Coding text first from value at → length text ≤ at
      → StandsInString text (coded first) from from (Given value (length text))
  unfolding quotation
  code-ends r h =
      let e : at ≡ length text = omega (arith, r.inside) in
      record {
        same = λ characters. r.same characters ∙ rw (nothing text at h, nothing text (length text) (omega arith), e);
        passes = (omega (arith, r.onward, r.inside), omega arith);
      }

  -- the code so far, before a byte that is a digit or not
  pub record CodingAt (is_digit : Bool) : Type 0 where
    pub coding : Coding text first from value at
    pub inside : at < length text
    pub class : in_class digit (get_or text at 0) ≡ is_digit

  pub code-digit : CodingAt true → Digit (get_or text at 0)
  code-digit c = is_digit_lem _ c.class

  abbrev more : ℕ
  more = value * 10 + (get_or text at 0 - 48)

  code-turn : CodingAt true → {small : Bool} → ltb more byte_count ≡ small
      → Turns (coded value) (get_or text at 0) (λ characters. pick small (goes_on (coded more) characters) breaks)
  code-turn c s characters = rw (c.class, s)

  pub code-goes : CodingAt true → more < byte_count → Coding text first from more (at + 1)
  code-goes c s =
      record {
        same = λ characters. c.coding.same characters ∙ taking text (coded value) at c.inside (code-turn c (lt-ltb _ _ s)) characters;
        small = s;
        onward = omega (arith, c.coding.onward);
        inside = omega arith;
      }

  pub code-breaks : CodingAt true → byte_count ≤ more → StandsInString text (coded first) from from (Broken (at + 1))
  code-breaks c s = record {
    same = λ characters. c.coding.same characters ∙
        taking text (coded value) at c.inside (code-turn c (le-ltb _ _ s)) characters;
    passes = tt;
  }

  pub code-stops : CodingAt false → StandsInString text (coded first) from from (Given value at)
  unfolding quotation
  code-stops c =
      record {
        same = λ characters. c.coding.same characters ∙ rw (here text at c.inside, c.class);
        passes =
            (c.coding.onward, c.coding.inside);
      }

-- WHAT STANDS THERE

-- a byte stands at a place of the text
pub record ByteHere (text : Bytes) (at b : ℕ) : Type 0 where
  pub inside : at < length text
  pub same : b ≡ get_or text at 0

-- what a byte does says what stands there
module _ (text : Bytes) (state : Quoting) (at low b : ℕ) (h : ByteHere text at b × (low ≤ at + 1)) where
  passes-byte : (low ≤ at + 1) × (at + 1 ≤ length text)
  passes-byte = omega (arith, h.0.inside)

  does-here : {does : Bytes → Turn} → Turns state b does → Turns state (get_or text at 0) does
  does-here e = rw (← h.0.same) e

  pub stands-given : (v : ℕ) → Turns state b (λ characters. goes_on plain (characters ++ v ∷ [])) →
      StandsInString text state at low (Given v (at + 1))
  stands-given v e = record { same = taking text state at h.0.inside (does-here e); passes = passes-byte }

  pub stands-nothing : Turns state b (goes_on plain) → StandsInString text state at low (Nothing (at + 1))
  stands-nothing e = record { same = taking text state at h.0.inside (does-here e); passes = passes-byte }

  pub stands-closed : Turns state b closes → StandsInString text state at low (Closed (at + 1))
  stands-closed e = record { same = taking text state at h.0.inside (does-here e); passes = passes-byte }

  pub stands-broken : Turns state b (λ characters. breaks) → StandsInString text state at low (Broken (at + 1))
  stands-broken e = record { same = taking text state at h.0.inside (does-here e); passes = tt }

  pub stands-later : (next : Quoting) (r : Character) → Turns state b (goes_on next) → StandsInString text next (at + 1) (at + 1) r →
      StandsInString text state at low r
  stands-later next r e s = record {
    same = λ characters. taking text state at h.0.inside (does-here e) characters ∙ s.same characters;
    passes =
        further r s.passes;
  }
    where
      further : (c : Character) → EndsInText text (at + 1) c → EndsInText text low c
      further (Given b past) p = (omega arith, p.1)
      further (Nothing past) p = (omega arith, p.1)
      further (Closed past) p = (omega arith, p.1)
      further (Broken past) p = tt

pub stands-end : (text : Bytes) (state : Quoting) (at low : ℕ) → length text ≤ at → StandsInString text state at low (Broken at)
unfolding quotation
stands-end text state at low h = record { same = λ characters. rw (nothing text at h); passes = tt }

-- the three bytes that a `\` makes plain
pub escape-same : (b : ℕ) → (b ≡ 34) ⊎ ((b ≡ 39) ⊎ (b ≡ 92)) → (characters : Bytes) → turn escaped characters b ≡ goes_on plain (characters ++ b ∷ [])
escape-same b k characters = ⊎_elim (λ e. rw e) (λ l. ⊎_elim (λ e. rw e) (λ e. rw e) l) k

-- a byte that is none of those with a rule of their own, a digit or not
pub record Unlisted (b : ℕ) (is_digit : Bool) : Type 0 where
  pub same : (b ≡ 34) ⊎ ((b ≡ 39) ⊎ (b ≡ 92)) → ⊥
  pub line : b ≡ 110 → ⊥
  pub tab : b ≡ 116 → ⊥
  pub end : b ≡ 10 → ⊥
  pub class : in_class digit b ≡ is_digit

module _ (b : ℕ) where
  other : {is_digit : Bool} → Unlisted b is_digit → (characters : Bytes)
      → turn escaped characters b ≡ pick is_digit (code_turn (digit_value b) characters) breaks
  other u characters =
      rw (
        ne_eqb b 39 (λ k. u.same (inr (inl k))),
        ne_eqb b 34 (λ k. u.same (inl k)),
        ne_eqb b 92 (λ k. u.same (inr (inr k))),
        ne_eqb b 110 u.line,
        ne_eqb b 116 u.tab,
        ne_eqb b 10 u.end,
        u.class,
      )

  pub unlisted-digit : Unlisted b true → Digit b
  unlisted-digit u = is_digit_lem b u.class

  pub escape-digit : Unlisted b true → (characters : Bytes) → turn escaped characters b ≡ goes_on (coded (digit_value b)) characters
  escape-digit u characters = let d = unlisted-digit u in other u characters ∙ rw (lt-ltb (digit_value b) byte_count (omega arith))

  pub escape-other : Unlisted b false → (characters : Bytes) → turn escaped characters b ≡ breaks
  escape-other u characters = other u characters
