-- Words: a step of a run, as long as it goes.
use Prim.Native.Nat.{ℕ, ◌+◌, ◌≤◌, ◌<◌}
use mathlib.Core.Path.{◌≡◌, refl, ◌∙◌}
use mathlib.Core.Bool.{Bool, true, false}
use mathlib.Core.List.{[], ◌∷◌}
use native.Mathlib.Numerals.{add-one}
use native.Mathlib.Omega.{arith}
use lib.ListN.{length, get_or, drop}
use lib.Seq.{slice, slice_empty, slice-cons}
use borrow.Author.Tests.{ne_eqb}
use Rattle.meaning.specs.Choice.{Bytes}
use Rattle.meaning.specs.Classes.{in_class, alphabetic}
use Rattle.meaning.specs.Allowed.{word_byte}
use Rattle.meaning.specs.Tokens.{word, run}
use Rattle.meaning.specs.Reading.{variable_of, no_item}
use Rattle.read_tokens.specs.View.{RunsTo}
use Rattle.meaning.proofs.Laws.Places.{here, nothing, slice-suc}

-- the run from the start is that from here
pub record Running (text : Bytes) (fits : ℕ → Bool) (from at : ℕ) : Type 0 where
  pub same : run fits [] from (drop from text) ≡ run fits (slice from at text) at (drop at text)
  pub onward : from ≤ at
  pub inside : from ≤ length text → at ≤ length text

module _ (text : Bytes) (fits : ℕ → Bool) (from : ℕ) where
  pub run-starts : Running text fits from from
  run-starts = record { same = rw slice_empty; onward = omega arith; inside = λ h. h }

  -- the run so far, before a byte that fits or not
  pub record RunningAt (at : ℕ) (goes : Bool) : Type 0 where
    pub running : Running text fits from at
    pub inside : at < length text
    pub class : fits (get_or text at 0) ≡ goes

  pub run-goes : (at : ℕ) → RunningAt at true → Running text fits from (at + 1)
  unfolding run
  run-goes at c =
      let r = c.running in
      record {
        same = r.same ∙ rw (add-one, slice-suc text from at r.onward c.inside, here text at c.inside, c.class);
        onward = omega arith;
        inside = omega arith;
      }

  pub run-stops : (at : ℕ) → RunningAt at false → RunsTo text fits from at
  unfolding run
  run-stops at c =
      let r = c.running in
      record { same = r.same ∙ rw (here text at c.inside, c.class); onward = r.onward; inside = r.inside }

  pub run_ends : (at : ℕ) → length text ≤ at → at ≤ length text → Running text fits from at → RunsTo text fits from (length text)
  unfolding run
  run_ends at h k r =
      let e : at ≡ length text = omega arith in
      record { same = r.same ∙ rw (e, nothing text (length text) (omega arith)); onward = omega (arith, r.onward); inside = λ i. omega arith }

-- WHAT A WORD IS

module _ (text : Bytes) (at past : ℕ) where
  module _ (h : (at < past) × (past ≤ length text)) where
    first : slice at past text ≡ get_or text at 0 ∷ slice (at + 1) past text
    first = slice-cons at past text 0 h.0 h.1 ∙ rw add-one

    pub letter-alone : past ≤ at + 1 → variable_of (slice at past text) ≡ no_item
    letter-alone low =
        let e : at + 1 ≡ past = omega arith in
        rw (first, e, slice_empty past text)

  module _ (h : (at + 1 < past) × (past ≤ length text)) where
    pub variable-word : (b : ℕ) → get_or text at 0 ≡ b
        → (word (b ∷ slice (at + 1) past text) ≡ word (slice at past text)) × ((at + 1 ≡ at + 1) × (past ≡ past) × (at + 1 < past))
    variable-word b e = (rw (first (omega arith), e), (refl, refl, h.0))

    pub other_word : (get_or text at 0 ≡ 115 → ⊥) → (get_or text at 0 ≡ 101 → ⊥) → variable_of (slice at past text) ≡ no_item
    other_word s e =
        rw (
          first (omega arith),
          slice-cons (at + 1) past text 0 h.0 h.1,
          ne_eqb (get_or text at 0) 115 s,
          ne_eqb (get_or text at 0) 101 e,
        )

-- a letter is a byte of a word and of a name
pub letter-word : (b : ℕ) → in_class alphabetic b ≡ true → word_byte b ≡ true
letter-word b e = rw e
