-- Laws of writing a sentence: its metric's word, its tests, stores and actions, and its words as a whole.
use Prim.Native.Nat.{ℕ, suc, ◌+◌, ◌-◌, ◌*◌, ◌≤◌, ◌<◌, ◌^◌}
use native.Mathlib.Omega.{arith}
use mathlib.Core.Path.{◌≡◌, refl, sym, ap, ◌∙◌}
use mathlib.Core.Bool.{Bool, true, false, false≢true}
use mathlib.Core.List.{List, [], ◌∷◌, ◌++◌, map, append_assoc, map-append}
use lib.ListN.{length, take, drop, get_or, length-map, drop_of_length-le, get_or-eq_default}
use lib.Seq.{length-take-le, drop-drop}
use Rattle.meaning.specs.Choice.{Name, pick}
use Rattle.meaning.specs.Tree.{Function, Table}
use Rattle.meaning.specs.Allowed.{names_of}
use Rattle.meaning.specs.Instructions.{store}
use Rattle.meaning.specs.Translation.{Shape, fixed, open₁, open₂, Tested, condition_test, metric_of, translated_sentences}
use Rattle.meaning.specs.Packing.{Words, code_word, test_word, store_word, pack_actions, metric_word, end_word, pack_sentences}
use Rattle.tape_words.specs.declared.tape.Parts.{Parts}
use Rattle.tape_words.specs.declared.tape.Parts.TheVariants.{Zero, One, Two}
use Rattle.code_patterns.specs.declared.pattern.Lengths.{Lengths}
use Rattle.code_patterns.specs.declared.pattern.Pattern.{Pattern}
use Rattle.code_patterns.specs.declared.symbols.Symbol.{Symbol}
use Rattle.code_patterns.specs.declared.tests.Tests.{Tests}
use Rattle.code_patterns.specs.declared.conditions.Conditions.{Conditions}
use Rattle.code_expressions.specs.declared.expression.Walk.{Walk}
use Rattle.code_sentences.specs.declared.Body.{Body}
use Rattle.tape_words.specs.Words.{head_name, head_names}
use Rattle.code_sentences.specs.Trees.{is_next_word, conditions_at, levels_at, followed_by, sentences_on_tape}
use Rattle.code_patterns.specs.Scans.{pattern_at, conditions_on_tape}
use Rattle.std.specs.Borrow.{MutBor}
use Rattle.code_words.specs.declared.CodeWriter.{CodeWriter}
use Rattle.code_words.specs.Writer.{Begins, Written, StillToWrite, Patched}
use Rattle.code_patterns.specs.Measuring.{lengths_of, first_part_or, MeasuresAll}
use Rattle.code_patterns.specs.Testing.{held, store_of, total, walk, start_from, TestsAll}
use Rattle.code_patterns.specs.Conditioning.{located, condition_words, ConditionsAll}
use Rattle.code_expressions.specs.Resuming.{Means, ItemsAll}
use Rattle.code_sentences.specs.Sentencing.{metric_number, shape_at, tested_at, tests_at, stores_at, actions_at, body_at, sentence_at, MatchAll}
use Rattle.code_sentences.specs.Sentencing.{sentence_words, BodyAll, SentenceAll}
use Rattle.code_sentences.specs.Sentencing.{next_at, sentences_left, SentencesAll, FunctionAll}
use Rattle.meaning.proofs.Laws.Remaining.{at_place}
use Rattle.tape_words.proofs.Laws.Names.{by_place}
use Rattle.code_words.proofs.Laws.Writers.{written-more, still_refl, still-trans, still-words, still-wrote, still_end}
use Rattle.code_expressions.proofs.Laws.Naming.{names-held}
use Rattle.code_sentences.proofs.Patching.{written-patched}
use Rattle.code_sentences.proofs.Shapes.{walk-all, located_in, conditions-same}

-- THE METRIC

metric-small : (p : Parts) → metric_number p ≤ 18
metric-small Zero = omega arith
metric-small One = omega arith
metric-small Two = omega arith

pub metric-fits : (l : Lengths) (number : ℕ) → number ≡ metric_number l.parts → total l ≤ 64 →
    code_word number l.first l.second l.third < 2 ^ 32
metric-fits l number e h = omega (arith, metric-small l.parts)

-- TESTS, CONDITIONS AND STORES

pub matched : {ws : List ℕ} {symbols : List Symbol} {code code₁ code₂ code₃ : CodeWriter} {m : Pattern}
    {start from tested_to : ℕ} {t : Tests} {c : Conditions}
    → from ≡ code.at → tested_to ≡ code₂.at → MeasuresAll ws start m
    → TestsAll ws m.lengths start code symbols code₁ t
    → ConditionsAll ws (located ws m (take t.symbols symbols)) t.next code₁ code₂ c
    → Written code₂ (map store_of (take t.symbols symbols)) code₃
    → MatchAll ws start code symbols code₃ (record { tests = tested_to - from; symbols = t.symbols; next = c.next })
matched {ws} {symbols} {code} {code₂ = code₂} {m = m} {start} {t = t} {c} began ended measured tests conditions stores =
    let l₀ = drop start ws in
    let kept = take t.symbols symbols in
    let many : length kept ≡ t.symbols = length-take-le t.symbols symbols
    (omega (arith, tests.within.few, tests.within.letters, tests.within.room)) in
    let walked : walk m.lengths Zero 0 (pattern_at l₀).value (start_from []) ≡ tested_at l₀ = rw measured.lengths (walk-all l₀) in
    let known : held ws kept ≡ (tested_at l₀).sites = tests.known ∙ ap (λ (d : Tested). d.sites) walked in
    let cs = (conditions_at l₀).value in
    let lie : located ws m kept ≡ located_in (shape_at l₀) (head_name ws start) (tested_at l₀).sites =
    rw (measured.lengths, measured.variable, known) in
    let condition_tests = map (condition_test (shape_at l₀) (tested_at l₀).sites) cs in
    let asked : condition_words (located ws m kept) (conditions_on_tape 0 0 (drop t.next ws)) ≡ map test_word condition_tests =
    rw (lie, tests.rest) (ap (map test_word) (conditions-same (shape_at l₀) (head_name ws start) (tested_at l₀).sites cs)) in
    let stored-words : map store_of kept ≡ map store_word (stores_at l₀) = stores-held ws kept ∙ rw known in
    let tested : Written code (map test_word (tests_at l₀)) code₂ =
    rw (map-append test_word (tested_at l₀).tests condition_tests, ← asked, ← walked) (written-more tests.wrote conditions.wrote) in
    record {
      wrote = rw (← stored-words) (written-more tested stores);
      tests = omega (arith, tested.put.next, length-map (tests_at l₀) test_word);
      stores = sym many ∙ sym (length-map kept store_of) ∙ ap length stored-words ∙ length-map (stores_at l₀) store_word;
      known = known;
      rest = conditions.rest ∙ ap (λ (r : List ℕ). (conditions_on_tape 0 0 r).rest) tests.rest;
      next = conditions.next;
      few = (omega (arith, tests.grown, conditions.grown), omega (arith, tests.within.few, tests.within.letters));
      grown = omega (
        arith,
        tests.grown,
        conditions.grown,
        stores.put.next,
        length-map kept store_of,
        many,
        tests.within.few,
        tests.within.letters,
      );
    }
  where
    -- the stores of the different s-variables
    stores-held : (ws : List ℕ) (ss : List Symbol) → map store_of ss ≡ map store_word (map (λ s. store s.value) (held ws ss))
    stores-held ws [] = refl
    stores-held ws (s ∷ ss) = ap (λ (r : Words). store_of s ∷ r) (stores-held ws ss)

-- AND ACTIONS

same-variable : (x other : Name) (s : Shape) → x ≡ first_part_or other s → x ≡ first_part_or x s
same-variable x other (fixed t) e = refl
same-variable x other (open₁ h y t) e = e
same-variable x other (open₂ h y m z t) e = e

pub bodied : {ws heads : List ℕ} {symbols : List Symbol} {code code₁ code₂ : CodeWriter} {start : ℕ} {m : Pattern} {b : Body} {w : Walk}
    → MeasuresAll ws start m
    → MatchAll ws start code symbols code₁ b
    → ItemsAll ws heads (take b.symbols symbols) m (b.next + 1) code₁ code₂ w
    → BodyAll ws heads start code code₂ (record { tests = b.tests; symbols = b.symbols; next = w.next })
bodied {ws} {heads} {symbols} {code} {code₂ = code₂} {start} {m} {b} {w} measured match items =
    let l₀ = drop start ws in
    let later : drop (b.next + 1) ws ≡ drop 1 (conditions_at l₀).rest = sym (drop-drop 1 b.next ws) ∙ rw match.rest in
    record {
      wrote = λ t h.
          let means : Means ws heads (take b.symbols symbols) m t (shape_at l₀) (tested_at l₀).sites =
          record {
            functions = h;
            known = rw (← match.known) (names-held ws (take b.symbols symbols));
            lengths = measured.lengths;
            variable = same-variable _ (head_name ws start) (shape_at l₀) measured.variable;
          } in
          rw (← (append_assoc (map test_word (tests_at l₀)) (map store_word (stores_at l₀)) (pack_actions (actions_at t l₀))), ← later)
          (written-more match.wrote (items.wrote t (shape_at l₀) (tested_at l₀).sites means));
      tests = match.tests;
      stores = match.stores;
      rest = items.rest ∙ rw later;
      next = items.next;
      few = match.few;
      grown = omega (arith, match.grown, items.grown);
    }

abbrev named : Name → Function
named n = record { name = n; sentences = [] }

names-back : (ns : List Name) → names_of (map named ns) ≡ ns
names-back [] = refl
names-back (n ∷ ns) = ap (λ (r : List Name). n ∷ r) (names-back ns)

-- the body is written from its place on: the names are those of some table
pub body-ahead : {ws heads : List ℕ} {code code' : CodeWriter} {start : ℕ} {r : Body} → BodyAll ws heads start code code' r
    → code.at ≤ code'.at
body-ahead {ws} {heads} b = omega (arith, (b.wrote (map named (head_names ws heads)) (names-back (head_names ws heads))).put.next)

-- THE WHOLE SENTENCE

metric-word : (l : Lengths) (s : Shape) → l ≡ lengths_of s → code_word (metric_number l.parts) l.first l.second l.third ≡
    metric_word (metric_of s)
metric-word l s e = rw e (by_shape s)
  where
    by_shape : (s : Shape) → code_word (metric_number (lengths_of s).parts) (lengths_of s).first (lengths_of s).second (lengths_of s).third ≡
        metric_word (metric_of s)
    by_shape (fixed t) = refl
    by_shape (open₁ h x t) = refl
    by_shape (open₂ h x m y t) = refl

pub sentenced : {ws heads : List ℕ} {code code₁ code₂ code₃ code₄ : CodeWriter} {start counts from after : ℕ} {m : Pattern} {b : Body}
    → counts ≡ code₁.at → from ≡ code₂.at → after ≡ code₃.at
    → MeasuresAll ws start m
    → Written code (code_word (metric_number m.lengths.parts) m.lengths.first m.lengths.second m.lengths.third ∷ []) code₁
    → Written code₁ (0 ∷ []) code₂
    → BodyAll ws heads start code₂ code₃ b
    → Patched code₃ counts (b.tests + 256 * (b.symbols + 256 * (after - from))) code₄
    → SentenceAll ws heads start code code₄ b
sentenced {ws} {start = start} {from = from} {after} {m = m} {b} placed began ended measured metric room body patched =
    let l₀ = drop start ws in
    record {
      wrote = λ t h.
          let size : after - from ≡ length (body_at t l₀) = omega (arith, (body.wrote t h).put.next) in
          rw (← (metric-word m.lengths (shape_at l₀) measured.lengths), ← body.tests, ← body.stores, ← size)
          (written-patched metric room (body.wrote t h) (rw placed at patched));
      rest = body.rest;
      next = body.next;
      grown = omega (arith, metric.put.next, room.put.next, body.grown, patched.stays);
    }

-- ANOTHER SENTENCE

-- by the word at a place, 0 past the end
pub follows-by-word : (ws : List ℕ) (i : ℕ) {code_word : ℕ} {r : Bool} → code_word ≡ get_or ws i 0 → r ≡ is_next_word code_word
    → r ≡ next_at (drop i ws)
follows-by-word ws i e f =
    f ∙ rw e (by_place ws i (λ k. rw (at_place ws i k)) (λ k. rw (drop_of_length-le ws k, get_or-eq_default ws 0 k)))

-- where one follows there is a word for it
follows-inside : (ws : List ℕ) (i : ℕ) → next_at (drop i ws) ≡ true → i < length ws
follows-inside ws i e = by_place ws i (λ k. k) (λ k. absurd (false≢true (rw (drop_of_length-le ws k) at e)))

module _ (t : Table) (recoverer : ℕ) (ws : List ℕ) where
  -- the words after a sentence, where the tape goes on at `i`
  abbrev words_after : ℕ → ℕ → Words
  words_after i left = pack_sentences (translated_sentences t recoverer (followed_by (drop i ws) (λ r. sentences_on_tape left r)))

  -- the same by whether another follows
  abbrev words_by : ℕ → ℕ → Bool → Words
  words_by i left more = pick more (pack_sentences (translated_sentences t recoverer (sentences_on_tape left (drop (i + 1) ws))))
      (end_word recoverer ∷ [])

  after-sentence : (i left : ℕ) (more : Bool) → next_at (drop i ws) ≡ more → words_after i left ≡ words_by i left more
  unfolding pack_sentences translated_sentences sentences_on_tape
  after-sentence i left more e = by_place ws i here there
    where
      by_word : (more b : Bool) → b ≡ more
          → pack_sentences (translated_sentences t recoverer (pick b (sentences_on_tape left (drop (i + 1) ws)) [])) ≡ words_by i left more
      by_word more true e = rw (← e)
      by_word more false e = rw (← e)

      here : i < length ws → words_after i left ≡ words_by i left more
      here k = rw (at_place ws i k) (by_word more (is_next_word (get_or ws i 0)) (rw (at_place ws i k) at e))

      there : length ws ≤ i → words_after i left ≡ words_by i left more
      there k = rw (drop_of_length-le ws k) (by_word more false (rw (drop_of_length-le ws k) at e))

  -- all the words still to come are the next sentence's, and those after it
  sentence-first : (count next after : ℕ) (more : Bool) → count < 512 → drop after ws ≡ (levels_at (drop next ws)).rest
      → next_at (drop after ws) ≡ more
      → sentences_left t recoverer ws count next
      ≡ sentence_at t (drop next ws) ++ pick more (sentences_left t recoverer ws (count + 1) (after + 1)) (end_word recoverer ∷ [])
  unfolding pack_sentences translated_sentences sentences_on_tape
  sentence-first count next after more h rest e =
      let left = 512 - (count + 1) in
      let one : 512 - count ≡ suc left = omega arith in
      rw (one, ← rest) (ap (λ (r : Words). sentence_at t (drop next ws) ++ r) (after-sentence after left more e))

  -- none is to come after as many as a table may have
  sentences-none : (count next : ℕ) → 512 ≤ count → sentences_left t recoverer ws count next ≡ end_word recoverer ∷ []
  unfolding pack_sentences translated_sentences sentences_on_tape
  sentences-none count next h =
      let none : 512 - count ≡ 0 = omega arith in
      rw none

-- ALL OF THEM

-- what is written so far and what is still to be written are the whole function's words
pub record SentencesSoFar (ws heads : List ℕ) (start : ℕ) (code₀ code : CodeWriter) (count next : ℕ) : Type 0 where
  pub same : (t : Table) (recoverer : ℕ) → names_of t ≡ head_names ws heads
      → StillToWrite code₀ (sentences_left t recoverer ws 0 start) code (sentences_left t recoverer ws count next)
  pub few : count ≤ 512
  pub inside : next ≤ length ws
  pub grown : code.at ≤ sentence_words * count

module _ {ws heads : List ℕ} {start : ℕ} {code₀ code code' : CodeWriter} {count next : ℕ} {b : Body}
    (s : SentencesSoFar ws heads start code₀ code count next) (h : count < 512) (all : SentenceAll ws heads next code code' b)
    {found : Bool} (is : found ≡ next_at (drop b.next ws)) where
  go_on : (more : Bool) → found ≡ more → (t : Table) (recoverer : ℕ) → names_of t ≡ head_names ws heads
      → StillToWrite code₀ (sentences_left t recoverer ws 0 start) code'
      (pick more (sentences_left t recoverer ws (count + 1) (b.next + 1)) (end_word recoverer ∷ []))
  go_on more e t recoverer g =
      still-trans (s.same t recoverer g)
      (still-wrote _ (still-words (still_refl code _) (sentence-first t recoverer ws count next b.next more h all.rest (sym is ∙ e)))
      (all.wrote t g))

  pub sentences-go-on : found ≡ true → SentencesSoFar ws heads start code₀ code' (count + 1) (b.next + 1)
  sentences-go-on e =
      record {
        same = go_on true e;
        few = omega arith;
        inside = omega (arith, follows-inside ws b.next (sym is ∙ e));
        grown = omega (arith, s.grown, all.grown);
      }

  pub sentences-last : found ≡ false → SentencesAll ws heads start code₀ code'
  sentences-last e = record { same = go_on false e; grown = omega (arith, s.grown, all.grown) }

pub sentences-full : {ws heads : List ℕ} {start : ℕ} {code₀ code : CodeWriter} {count next : ℕ}
    → SentencesSoFar ws heads start code₀ code count next → 512 ≤ count → SentencesAll ws heads start code₀ code
sentences-full {ws} {next = next} s h =
    record {
      same = λ t recoverer g. rw (sentences-none t recoverer ws _ next h) at (s.same t recoverer g);
      grown = omega (arith, s.grown, s.few);
    }

pub function-all : {ws heads : List ℕ} {lent : MutBor (List ℕ)} {start recoverer : ℕ} {code₀ code code' : CodeWriter}
    → Begins lent code₀ → SentencesAll ws heads start code₀ code → Written code (end_word recoverer ∷ []) code'
    → FunctionAll ws heads start recoverer lent.now code'.code.now code'.at
function-all {recoverer = recoverer} begun s w =
    record {
      wrote = λ t h. rw (begun.cells, begun.first) at (still_end (still-wrote [] (s.same t recoverer h) w)).put;
      grown = omega (arith, s.grown, w.put.next);
    }
