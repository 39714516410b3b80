-- Laws of the functions of a tape: finding their heads, and writing them with the table of their places.
use Prim.Native.Nat.{ℕ, suc, ◌+◌, ◌-◌, ◌*◌, ◌≤◌, ◌<◌, min}
use native.Mathlib.Numerals.{add-one}
use native.Mathlib.Omega.{arith}
use native.Mathlib.Decide.{ℕ_discrete}
use mathlib.Core.Path.{◌≡◌, refl, sym, ap, ap₂, ◌∙◌}
use mathlib.Core.Bool.{Bool, true, false}
use mathlib.Core.List.{List, [], ◌∷◌, ◌++◌, map, append_assoc, append-nil, map-append}
use lib.ListN.{length, take, drop, get_or, set, length-append, length-drop, length-map, drop_of_length-le}
use lib.Seq.{sets, take-suc-set, get_or-set_same, get_or-set_other, take-nil}
use Rattle.meaning.specs.Choice.{Name, pick}
use Rattle.meaning.specs.Tree.{Table, Sentence}
use Rattle.meaning.specs.Names.{recover_prefix, recoverer_of}
use Rattle.meaning.specs.Allowed.{names_of, max_functions, max_sentences}
use Rattle.meaning.specs.Instructions.{Code}
use Rattle.meaning.specs.Translation.{translate, translated_sentences, translated_function}
use Rattle.meaning.specs.Packing.{Words, pack_sentences, pack_functions, places_from}
use Rattle.tape_words.specs.Words.{name_in, head_name, head_names}
use Rattle.tape_words.specs.Finding.{place_number, recoverer_among}
use Rattle.std.specs.Prelude.{Option, None, Some, IfSome}
use Rattle.code_sentences.specs.Trees.{is_function_word, functions_on_tape, function_on_tape, sentences_on_tape, tree_of}
use Rattle.code_words.specs.Writing.{Wrote}
use Rattle.code_sentences.specs.Sentencing.{function_words, FunctionAll}
use Rattle.code_table.specs.Declaring.{HeadsInside, words_from, heads_left, HeadsOn, HeadsAll, translated_at, translated_all, EntryAll}
use Rattle.code_table.specs.Declaring.{FunctionsAll}
use Rattle.code_table.specs.Leaves.{code_of}
use Rattle.meaning.proofs.Laws.Remaining.{at_place}
use Rattle.tape_words.proofs.Laws.Names.{name-skip}
use Rattle.code_expressions.proofs.Laws.Naming.{number-among}
use Rattle.meaning.proofs.Laws.Packing.{places-length}
use Rattle.meaning.proofs.Laws.Storing.{sets-append}
use Rattle.code_sentences.proofs.Patching.{sets-comm, lent_from, back_from, sets-lent}

-- THE HEADS

functions-at : (ws : List ℕ) (i : ℕ) (b : Bool) → i < length ws → is_function_word (get_or ws i 0) ≡ b
    → functions_on_tape (drop i ws) ≡ pick b (drop i ws ∷ functions_on_tape (drop (i + 1) ws)) (functions_on_tape (drop (i + 1) ws))
unfolding functions_on_tape
functions-at ws i b h e = rw (at_place ws i h, e)

module _ (ws : List ℕ) (i : ℕ) (heads : List ℕ) (count : ℕ) (inside : HeadsInside ws heads count) where
  -- there were 64
  pub heads-full : count ≤ 64 → 64 ≤ count → HeadsOn ws i heads count heads count
  heads-full h g =
      let none : 64 - count ≡ 0 = omega arith in
      record { same = rw none; inside = inside; few = h }

  -- by the word at `i`, and whether it is a function's
  pub head-none : {word : ℕ} {is : Bool} → count ≤ 64 → i < length ws → word ≡ get_or ws i 0 → is ≡ is_function_word word → is ≡ false
      → HeadsOn ws i heads count heads count
  head-none h k p q e = record { same = rw (functions-at ws i false k (rw p at (sym q ∙ e))); inside = inside; few = h }

  pub head-noted : {word : ℕ} {is : Bool} → count < 64 → length heads ≡ 64 → i < length ws → word ≡ get_or ws i 0 → is ≡ is_function_word word
      → is ≡ true
      → HeadsOn ws i heads count (set heads count i) (count + 1)
  head-noted h room k p q e =
      let more : 64 - count ≡ suc (64 - (count + 1)) = omega arith in
      let here : count < length heads = omega arith in
      let later = take (64 - (count + 1)) (functions_on_tape (drop (i + 1) ws)) in
      let taken : words_from ws (take (count + 1) (set heads count i)) ≡ words_from ws (take count heads) ++ (drop i ws ∷ []) =
      rw (add-one, take-suc-set heads count i here) (map-append (λ p. drop p ws) (take count heads) (i ∷ [])) in
      record {
        same =
            ap (λ (r : List (List ℕ)). r ++ later) taken ∙ append_assoc (words_from ws (take count heads)) (drop i ws ∷ []) later
            ∙ rw (more, functions-at ws i true k (rw p at (sym q ∙ e)));
        inside = λ j g. at j g (ℕ_discrete j count);
        few = omega arith;
      }
    where
      at : (j : ℕ) → j < count + 1 → Dec (j ≡ count) → get_or (set heads count i) j 0 < length ws
      at j g (yes q) = rw (q, get_or-set_same heads count i 0 (omega arith)) k
      at j g (no q) = rw (get_or-set_other heads count j i 0 q) (inside j (omega arith))

-- what is found so far and what is still to be found are all the heads
pub record HeadsSoFar (ws heads : List ℕ) (count i : ℕ) : Type 0 where
  pub same : heads_left ws i heads count ≡ take max_functions (functions_on_tape ws)
  pub inside : HeadsInside ws heads count
  pub few : count ≤ 64
  pub next : i ≤ length ws
  pub room : length heads ≡ 64

pub heads-none : (ws heads : List ℕ) → length heads ≡ 64 → HeadsSoFar ws heads 0 0
heads-none ws heads h = record { same = refl; inside = λ k g. absurd (omega arith); few = omega arith; next = omega arith; room = h }

pub heads-go-on : {ws heads heads' : List ℕ} {count i r : ℕ} → HeadsSoFar ws heads count i → i < length ws → HeadsOn ws i heads count heads' r
    → length heads' ≡ length heads → HeadsSoFar ws heads' r (i + 1)
heads-go-on s h o e =
    record { same = o.same ∙ s.same; inside = o.inside; few = o.few; next = omega arith; room = e ∙ s.room }

pub heads-all : {ws heads : List ℕ} {count i : ℕ} → HeadsSoFar ws heads count i → length ws ≤ i → HeadsAll ws heads count
unfolding functions_on_tape
heads-all {ws} {heads} {count} {i} s h =
    let none : take (64 - count) (functions_on_tape (drop i ws)) ≡ [] = rw (drop_of_length-le ws h) (take-nil (64 - count)) in
    record {
      found = sym (append-nil (words_from ws (take count heads))) ∙ ap (λ (r : List (List ℕ)). words_from ws (take count heads) ++ r) (sym none) ∙
          s.same;
      inside = s.inside;
      few = s.few;
    }

-- ONE FUNCTION

-- its sentences begin after its name
function-sentences : (ws : List ℕ) (head : ℕ) → head < length ws
    → (function_on_tape (drop head ws)).sentences ≡ sentences_on_tape max_sentences (drop (head + 1 + length (head_name ws head)) ws)
function-sentences ws head h = ap (λ (l : List ℕ). (function_on_tape l).sentences) (at_place ws head h) ∙
    ap (sentences_on_tape max_sentences) (name-skip ws head h)

function-name : (l : List ℕ) → (function_on_tape l).name ≡ name_in l
function-name [] = refl
function-name (w ∷ ws) = refl

-- the function that recovers it is found among the heads by the words of its name
function-recoverer : (t : Table) (ws heads : List ℕ) (head : ℕ) {name : List ℕ} {recoverer : ℕ}
    → names_of t ≡ head_names ws heads → name ≡ head_name ws head → recoverer ≡ recoverer_among (head_names ws heads) name
    → recoverer ≡ recoverer_of t (function_on_tape (drop head ws)).name
function-recoverer t ws heads head names e found =
    found ∙ rw (e, ← (function-name (drop head ws)), ← names) (sym (by_names (function_on_tape (drop head ws)).name))
  where
    by_names : (n : Name) → recoverer_of t n ≡ recoverer_among (names_of t) n
    by_names n = rw (number-among 0 t (recover_prefix ++ n))

-- a place in a list of so many is told by a number up to that
pub place-few : (r : Option ℕ) {n : ℕ} → IfSome r (λ k. k < n) → place_number r ≤ n
place-few None h = omega arith
place-few (Some k) h = omega arith

pub entry-written : {ws heads name part part₁ part₂ : List ℕ} {k at next recoverer from size : ℕ}
    → get_or heads k 0 < length ws
    → name ≡ head_name ws (get_or heads k 0)
    → recoverer ≡ recoverer_among (head_names ws heads) name
    → Wrote part 0 (at ∷ []) part₁ next
    → from ≡ min (at - (k + 1)) (length part₁)
    → FunctionAll ws heads (get_or heads k 0 + 1 + length name) recoverer (lent_from part₁ from) part₂ size
    → EntryAll ws heads k part at (back_from part₁ from part₂) (at + size)
entry-written {ws} {heads} {name} {part} {part₁} {part₂} {k} {at} {recoverer = recoverer} {from} {size} inside e found put f all =
    record {
      left = λ t h.
          let z : at - (k + 1) + 0 ≡ at - (k + 1) = omega arith in
          sets-lent part₁ (at - (k + 1)) from 0 0 [] (pack_sentences (translated_at t ws (get_or heads k 0))) part₂ f
          ((all.wrote t h).left ∙ ap (λ (r : Words). sets (lent_from part₁ from) 0 r) (same-words t h))
          ∙ rw (z, put.left);
      next = λ t h. omega (arith, (all.wrote t h).next, ap length (same-words t h));
      ahead = omega arith;
      grown = omega (arith, all.grown);
    }
  where
    same-words : (t : Table) → names_of t ≡ head_names ws heads
        → pack_sentences (translated_sentences t recoverer (sentences_on_tape max_sentences (drop (get_or heads k 0 + 1 + length name) ws)))
        ≡ pack_sentences (translated_at t ws (get_or heads k 0))
    same-words t h =
        let sentences : sentences_on_tape max_sentences (drop (get_or heads k 0 + 1 + length name) ws) ≡ (function_on_tape
        (drop (get_or heads k 0) ws)).sentences =
        rw e (sym (function-sentences ws (get_or heads k 0) inside)) in
        ap₂ (λ (r : ℕ) (ss : List Sentence). pack_sentences (translated_sentences t r ss))
        (function-recoverer t ws heads (get_or heads k 0) h e found) sentences

-- ALL FUNCTIONS

-- the entries and functions still to be written
abbrev table_left : Table → List ℕ → List ℕ → ℕ → List ℕ → ℕ → List ℕ
table_left t ws hs k code at = sets (sets code (k + 1) (places_from at (translated_all t ws hs))) at (pack_functions (translated_all t ws hs))

-- an entry and its function
entry_first : (t : Table) (ws : List ℕ) (h : ℕ) (hs : List ℕ) (k : ℕ) (code : List ℕ) (at : ℕ) → k + 1 + suc (length hs) ≤ at
    → table_left t ws (h ∷ hs) k code at
    ≡ table_left t ws hs (k + 1) (sets (set code (k + 1) at) at (pack_sentences (translated_at t ws h)))
    (at + length (pack_sentences (translated_at t ws h)))
unfolding places_from pack_functions
entry_first t ws h hs k code at room =
    let words = pack_sentences (translated_at t ws h) in
    let later = at + length words in
    let places = places_from later (translated_all t ws hs) in
    let fit : suc (k + 1) + length places ≤ at = omega (arith, places-length later (translated_all t ws hs), length-map hs (translated_at t ws)) in
    sym (sets-append (sets (set code (k + 1) at) (suc (k + 1)) places) at words (pack_functions (translated_all t ws hs)))
    ∙ ap (λ (r : List ℕ). sets r later (pack_functions (translated_all t ws hs))) (sets-comm (set code (k + 1) at) (suc (k + 1)) places at words fit)
    ∙ rw (add-one (k + 1))

-- what is written so far and what is still to be written are all entries and functions
pub record FunctionsSoFar (ws heads code₀ : List ℕ) (at₀ : ℕ) (code : List ℕ) (at k : ℕ) : Type 0 where
  pub left : (t : Table) → names_of t ≡ head_names ws heads → table_left t ws (drop k heads) k code at ≡ table_left t ws heads 0 code₀ at₀
  pub next : (t : Table) → names_of t ≡ head_names ws heads
      → at + length (pack_functions (translated_all t ws (drop k heads))) ≡ at₀ + length (pack_functions (translated_all t ws heads))
  pub size : length code ≡ length code₀
  pub few : k ≤ length heads
  pub after : length heads < at
  pub grown : at ≤ suc max_functions + function_words * k

pub functions-none : (ws heads code : List ℕ) (at : ℕ) → at ≡ length heads + 1 → length heads ≤ 64 → FunctionsSoFar ws heads code at code at 0
functions-none ws heads code at e h =
    record { left = λ t g. refl; next = λ t g. refl; size = refl; few = omega arith; after = omega arith; grown = omega arith }

pub functions-go-on : {ws heads code₀ code part : List ℕ} {at₀ at k from r : ℕ}
    → FunctionsSoFar ws heads code₀ at₀ code at k → k < length heads → from ≡ min (k + 1) (length code) →
    EntryAll ws heads k (lent_from code from) at part r
    → length (back_from code from part) ≡ length code → FunctionsSoFar ws heads code₀ at₀ (back_from code from part) r (k + 1)
unfolding pack_functions
functions-go-on {ws} {heads} {code₀} {code} {part} {at₀} {at} {k} {from} {r} s h e entry same =
    record {
      left = λ t g.
          rw (now t g, entry.next t g)
          (sym (entry_first t ws (get_or heads k 0) (drop (k + 1) heads) k code at (omega (arith, length-drop (k + 1) heads, s.after)))
          ∙ ap (λ (hs : List ℕ). table_left t ws hs k code at) (sym (at_place heads k h)) ∙ s.left t g);
      next = λ t g.
          rw (entry.next t g)
          (omega (
            arith,
            ap (λ (hs : List ℕ). length (pack_functions (translated_all t ws hs))) (at_place heads k h),
            functions-length t (get_or heads k 0) (drop (k + 1) heads),
            s.next t g,
          ));
      size = same ∙ s.size;
      few = omega arith;
      after = omega (arith, s.after, entry.ahead);
      grown = omega (arith, s.grown, entry.grown);
    }
  where
    functions-length : (t : Table) (p : ℕ) (ps : List ℕ) → length (pack_functions (translated_all t ws (p ∷ ps)))
        ≡ length (pack_sentences (translated_at t ws p)) + length (pack_functions (translated_all t ws ps))
    functions-length t p ps = length-append (pack_sentences (translated_at t ws p)) (pack_functions (translated_all t ws ps))

    now : (t : Table) → names_of t ≡ head_names ws heads
        → back_from code from part ≡ sets (set code (k + 1) at) at (pack_sentences (translated_at t ws (get_or heads k 0)))
    now t g =
        let y : k + 1 + 0 ≡ k + 1 = omega arith in
        let z : k + 1 + (at - (k + 1)) ≡ at = omega (arith, s.after) in
        sets-lent code (k + 1) from 0 (at - (k + 1)) (at ∷ []) (pack_sentences (translated_at t ws (get_or heads k 0))) part e (entry.left t g) ∙
        rw (y, z)

pub functions-all : {ws heads code code₀ code' : List ℕ} {next at k : ℕ}
    → Wrote code 0 (length heads ∷ []) code₀ next → FunctionsSoFar ws heads code₀ (next + length heads) code' at k → length heads ≤ k →
    FunctionsAll ws heads code code' at
unfolding pack_functions places_from
functions-all {ws} {heads} {code} {code₀} {code'} {next} {at} {k} count s h =
    record {
      wrote = λ t g.
          let fs = translated_all t ws heads in
          let many : length fs ≡ length heads = length-map heads (translated_at t ws) in
          let none : drop k heads ≡ [] = drop_of_length-le heads h in
          let start : next + length heads ≡ suc (length fs) = omega (arith, count.next) in
          let places = places_from (suc (length fs)) fs in
          let past : 1 + length places ≡ suc (length fs) = omega (arith, places-length (suc (length fs)) fs) in
          let same : code' ≡ table_left t ws heads 0 code₀ (next + length heads) = ap (λ (hs : List ℕ). table_left t ws hs k code' at) (sym none) ∙
          s.left t g in
          record {
            left =
                same ∙ rw (start, count.left, ← many)
                (ap (λ (n : ℕ). sets (sets (set code 0 (length fs)) 1 places) n (pack_functions fs)) (sym past)
                ∙ sets-append (set code 0 (length fs)) 1 places (pack_functions fs));
            next = omega (arith, rw none at (s.next t g), start, length-append places (pack_functions fs), places-length (suc (length fs)) fs);
          };
    }

-- THE WHOLE TABLE

names-found : (ws hs : List ℕ) → names_of (map function_on_tape (words_from ws hs)) ≡ head_names ws hs
names-found ws [] = refl
names-found ws (h ∷ hs) = ap₂ (λ (n : Name) (ns : List Name). n ∷ ns) (function-name (drop h ws)) (names-found ws hs)

functions-found : (t : Table) (ws hs : List ℕ) → translated_all t ws hs ≡ map (translated_function t) (map function_on_tape (words_from ws hs))
functions-found t ws [] = refl
functions-found t ws (h ∷ hs) = ap (λ (r : Code). translated_at t ws h ∷ r) (functions-found t ws hs)

pub table-written : {ws heads code code' : List ℕ} {count r : ℕ} → HeadsAll ws heads count → FunctionsAll ws (take count heads) code code' r →
    Wrote code 0 (code_of ws) code' r
table-written {ws} {heads} {count = count} found all =
    let hs = take count heads in
    let names : names_of (tree_of ws) ≡ head_names ws hs = ap (λ (r : List (List ℕ)). names_of (map function_on_tape r)) (sym found.found) ∙
    names-found ws hs in
    let functions : translated_all (tree_of ws) ws hs ≡ translate (tree_of ws) =
    functions-found (tree_of ws) ws hs ∙ ap (λ (r : List (List ℕ)). map (translated_function (tree_of ws)) (map function_on_tape r)) found.found in
    rw functions at (all.wrote (tree_of ws) names)
