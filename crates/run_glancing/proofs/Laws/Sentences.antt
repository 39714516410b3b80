-- The choice among the sentences from a place on, where a glance tells of the first of them.
use Prim.Native.Nat.{ℕ, ◌+◌, ◌-◌, ◌≤◌, ◌<◌}
use native.Mathlib.Omega.{arith}
use mathlib.Core.Path.{◌≡◌, sym, ◌∙◌}
use mathlib.Core.Bool.{Bool, true, false}
use mathlib.Core.List.{[], ◌∷◌}
use mathlib.Core.Option.{some}
use lib.ListN.{length, get_or, drop}
use borrow.Author.Tests.{le-leb}
use Rattle.meaning.specs.Choice.{Bytes}
use Rattle.meaning.specs.Instructions.{whole, go, ends}
use Rattle.meaning.specs.Matching.{Checked, failed, Found, found_at, found_none, found_wrong, check_all, search, chosen_none}
use Rattle.meaning.specs.Packing.{Words, metric_in, body_in, counts_word, ends_number, sentences_end, number_in}
use Rattle.meaning.specs.Packing.{unpack_tests, unpack_stores, unpack_actions}
use Rattle.code_numbers.specs.Numbers.{sentence_head}
use Rattle.meaning.proofs.Laws.Remaining.{at_place}
use Rattle.run_searching.proofs.Laws.Places.{search-none}
use Rattle.run_matching.specs.Matched.{tried}
use Rattle.run_matching.proofs.Laws.Sentences.{choosing, choosing-end, choosing-next}
use Rattle.run_glancing.specs.Glanced.{Where, Drops, Drop}

-- A SENTENCE THAT IS OUT, AND THE SENTENCE `e1 =`

-- a word that ends a function is no sentence's first
pub sentence-first : (w v : ℕ) (ws : Words) (field : Bytes) → tried (metric_in w) v ws field ≡ found_none → number_in w ≡ sentences_end → ⊥
sentence-first w v ws field out e =
    let z : found_wrong ≡ found_none = rw e at out in
    let n : ◌≡◌ {A = ℕ} 0 1 = cc in
    omega arith

-- tests that fail at every place up to the last find none
pub out-at-each : (b : Bool) (test : ℕ → Checked) (first count : ℕ) (found : Found) → 0 < count → found ≡ search test count first →
    Where b ((place : ℕ) → place ≤ first + (count - 1) → test place ≡ failed) → Where b (found ≡ found_none)
out-at-each true test first count found many e fails = e ∙ search-none test count first (λ p h h'. fails p (omega arith))
out-at-each false test first count found many e fails = tt

-- the sentence `e1 =` fits every field at place 0
fits-any : (ws : Words) (field : Bytes) → tried (some (ends 0 0)) (counts_word 0 0 2) ws field ≡ found_at 0
unfolding search check_all unpack_tests
fits-any ws field = rw (le-leb 0 (length field) (omega arith))

-- it passes over the field and ends
passes_over : (words : Words) (at : ℕ) → Drops words at →
    unpack_actions 0 (drop (at + sentence_head) words) ≡ go (record { register = whole; add = 0; back = 0 }) ∷ []
unfolding unpack_actions
passes_over words at d =
    let next : at + sentence_head + 1 ≡ at + (sentence_head + 1) = omega arith in
    rw (
      at_place words (at + sentence_head) (omega (arith, d.there)),
      d.passes,
      next,
      at_place words (at + (sentence_head + 1)) (omega (arith, d.there)),
      d.ends,
    )

-- the choice from a place on is the choice from the first place on
pub record ChoiceKept (words : Words) (field : Bytes) (at₀ at : ℕ) : Type 0 where
  pub same : choosing words field at ≡ choosing words field at₀

module _ (words : Words) (field : Bytes) (at₀ at : ℕ) (c : ChoiceKept words field at₀ at) where
  -- the end of a function that none recovers
  pub none_left : at < length words → get_or words at 0 ≡ sentences_end → choosing words field at₀ ≡ chosen_none 0
  none_left h e = sym c.same ∙ choosing-end words field at h (rw e) ∙ rw e

  -- a sentence that is out
  pub passed_over : sentence_head ≤ length words - at →
      tried (metric_in (get_or words at 0)) (get_or words (at + 1) 0) (drop (at + sentence_head) words) field ≡ found_none →
      ChoiceKept words field at₀ (at + (sentence_head + body_in (get_or words (at + 1) 0)))
  passed_over h out =
      let first = sentence-first (get_or words at 0) _ _ field out in
      record { same = sym (rw out at (choosing-next words field at h first)) ∙ c.same }

  -- the sentence `e1 =`
  pub dropped : Drops words at → Drop (choosing words field at₀)
  unfolding unpack_stores
  dropped d =
      let first : number_in (get_or words at 0) ≡ sentences_end → ⊥ = rw d.lengths (λ e. let n : ends_number ≡ sentences_end = e in omega arith) in
      let start : at + sentence_head + 0 ≡ at + sentence_head = omega arith in
      record {
        same =
            sym c.same ∙
            rw (d.lengths, d.counts, fits-any (drop (at + sentence_head) words) field, start, start, passes_over words at d) at
            (choosing-next words field at (omega (arith, d.there)) first);
      }
