-- Blanks and comments: a step of passing them.
use Prim.Native.Nat.{ℕ, suc, ◌+◌, ◌≤◌, ◌<◌}
use mathlib.Core.Path.{◌≡◌, refl, sym, ◌∙◌, subst}
use mathlib.Core.Bool.{Bool, true, false, ◌||◌, false≢true, true≢false}
use mathlib.Core.List.{[], ◌∷◌}
use native.Mathlib.Numerals.{add-one}
use native.Mathlib.Omega.{arith}
use lib.Dec.{eqb}
use lib.ListN.{length, get_or, drop}
use lib.Seq.{drop-drop}
use borrow.Author.Tests.{eqb-true, eqb-false, eq-eqb, ne_eqb}
use Rattle.meaning.specs.Choice.{Bytes, both}
use Rattle.meaning.specs.Classes.{is_blank_byte}
use Rattle.meaning.specs.Tokens.{Gap, between, opening, commented, starred, ahead, skip, found}
use Rattle.read_gaps.specs.View.{Plain, Ends, comment_of}
use Rattle.std.specs.Prelude.{Option, None, Some}
use Rattle.meaning.proofs.Laws.Places.{here, nothing}

-- the byte after the next one
two-on : (text : Bytes) (at : ℕ) (gap : Gap) → skip gap (suc (at + 1)) (drop 1 (drop (at + 1) text)) ≡ skip gap (at + 2) (drop (at + 2) text)
two-on text at gap =
    let e : suc (at + 1) ≡ at + 2 = omega arith in
    let f : at + 1 + 1 ≡ at + 2 = omega arith in
    rw (drop-drop 1 (at + 1) text, e, f)

-- INSIDE A COMMENT

-- after a `*` a `/` ends the comment, and any other byte goes on as if no `*` had come before
star-closes : (slash at : ℕ) (rest : Bytes) → ahead (eqb 47) rest ≡ true → skip (starred slash) at rest ≡ skip between (suc at) (drop 1 rest)
unfolding skip
star-closes slash at [] e = absurd (false≢true e)
star-closes slash at (b ∷ rest) e = rw (eq-eqb b 47 (sym (eqb-true 47 b e)))

star-undone : (slash at : ℕ) (rest : Bytes) → ahead (eqb 47) rest ≡ false → skip (starred slash) at rest ≡ skip (commented slash) at rest
unfolding skip
star-undone slash at [] e = refl
star-undone slash at (b ∷ rest) e = rw (ne_eqb b 47 (λ q. eqb-false 47 b e (sym q)))

module _ (text : Bytes) (from at : ℕ) where
  pub plain-goes : at < length text → eqb (get_or text at 0) 42 ≡ false → Plain text from at → Plain text from (at + 1)
  unfolding skip
  plain-goes h e p =
      record { same = λ slash. p.same slash ∙ rw (add-one, here text at h, e); onward = omega arith }

  -- a `*` stands inside a comment, with a `/` after it or not
  pub record StarAt (ends : Bool) : Type 0 where
    pub plain : Plain text from at
    pub inside : at < length text
    pub star : eqb (get_or text at 0) 42 ≡ true
    pub slash : ahead (eqb 47) (drop (at + 1) text) ≡ ends

  star-passed : {ends : Bool} → StarAt ends → (slash : ℕ)
      → skip (commented slash) from (drop from text) ≡ skip (starred slash) (at + 1) (drop (at + 1) text)
  unfolding skip
  star-passed s slash = s.plain.same slash ∙ rw (add-one, here text at s.inside, s.star)

  pub star-goes : StarAt false → Plain text from (at + 1)
  star-goes s =
      record {
        same = λ slash. star-passed s slash ∙ star-undone slash (at + 1) (drop (at + 1) text) s.slash;
        onward = omega (arith, s.plain.onward);
      }

  pub star-ends : StarAt true → Ends text from (Some (at + 2))
  star-ends s =
      record {
        same = λ slash. star-passed s slash ∙ star-closes slash (at + 1) (drop (at + 1) text) s.slash ∙ two-on text at between;
        after = omega (arith, s.plain.onward);
      }

  pub endless : length text ≤ at → at ≤ length text → Plain text from at → Ends text from None
  unfolding skip
  endless h k p = let e : at ≡ length text = omega arith in record { same = λ slash. p.same slash ∙ rw (nothing text at h, e); after = tt }

  pub plain-joins : (past : ℕ) → Plain text from at → Plain text at past → Plain text from past
  plain-joins past p q =
      record { same = λ slash. p.same slash ∙ q.same slash; onward = omega arith }

-- no byte so far was a `*`, and neither is this one
pub plain_still : (text : Bytes) (from passed byte : ℕ) (any : Bool) → from + passed < length text → byte ≡ get_or text (from + passed) 0
    → (any ≡ false → Plain text from (from + passed))
    → any || eqb byte 42 ≡ false
    → Plain text from (from + (passed + 1))
plain_still text from passed byte true h b p e = absurd (true≢false e)
plain_still text from passed byte false h b p e =
    let k : from + (passed + 1) ≡ from + passed + 1 = omega arith in
    rw k (plain-goes text from (from + passed) h (rw (← b) e) (p refl))

-- BETWEEN TOKENS

comment-opens : (slash at : ℕ) (rest : Bytes) → ahead (eqb 42) rest ≡ true → skip (opening slash) at rest ≡
    skip (commented slash) (suc at) (drop 1 rest)
unfolding skip
comment-opens slash at [] e = absurd (false≢true e)
comment-opens slash at (b ∷ rest) e = refl

module _ (text : Bytes) (at : ℕ) where
  pub blank-passed : at < length text → is_blank_byte (get_or text at 0) ≡ true
      → skip between at (drop at text) ≡ skip between (at + 1) (drop (at + 1) text)
  unfolding skip
  blank-passed h e = rw (add-one, here text at h, e)

  module _ (h : at < length text) (e : is_blank_byte (get_or text at 0) ≡ false) (s : eqb (get_or text at 0) 47 ≡ true)
      (a : ahead (eqb 42) (drop (at + 1) text) ≡ true) where
    slash-passed : skip between at (drop at text) ≡ skip (opening at) (at + 1) (drop (at + 1) text)
    unfolding skip
    slash-passed =
        let n : ahead (eqb 42) (drop (suc at) text) ≡ true = subst (λ (k : ℕ). ahead (eqb 42) (drop k text) ≡ true) (add-one at) a in
        rw (here text at h, e, s, n, add-one)

    pub comment-passed : (comment : Option ℕ) → Ends text (at + 2) comment → skip between at (drop at text) ≡ comment_of text at comment
    comment-passed comment p = slash-passed ∙ comment-opens at (at + 1) (drop (at + 1) text) a ∙ two-on text at (commented at) ∙ p.same at

  pub token-found : at < length text → is_blank_byte (get_or text at 0) ≡ false
      → both (eqb (get_or text at 0) 47) (ahead (eqb 42) (drop (at + 1) text)) ≡ false
      → skip between at (drop at text) ≡ found at (drop at text)
  unfolding skip
  token-found h e n =
      let m : both (eqb (get_or text at 0) 47) (ahead (eqb 42) (drop (suc at) text)) ≡ false = rw (sym (add-one at)) n in
      rw (here text at h, e, m)

  pub text-ends : length text ≤ at → skip between at (drop at text) ≡ found at (drop at text)
  unfolding skip
  text-ends h = rw (nothing text at h)
