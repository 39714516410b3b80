-- Laws of writing a pattern's tests: each step keeps what the tests come to.
use Prim.Native.Nat.{ℕ, ◌+◌, ◌<◌, ◌≤◌}
use native.Mathlib.Omega.{arith}
use mathlib.Core.Path.{◌≡◌, refl, sym, ap, ◌∙◌}
use mathlib.Core.Option.{Option, none, some}
use mathlib.Core.List.{List, [], ◌∷◌, ◌++◌, map, append_assoc, append-nil}
use lib.ListN.{length, drop, get_or, set, length-set}
use Rattle.meaning.specs.Choice.{Name, Named, lookup}
use Rattle.meaning.specs.Tree.{character, symbol, Element, letter, part}
use Rattle.meaning.specs.Instructions.{Site, Test, look, compare}
use Rattle.meaning.specs.Allowed.{max_letters}
use Rattle.meaning.specs.Packing.{test_word}
use Rattle.meaning.specs.Translation.{Tested, tested_symbol}
use Rattle.tape_words.specs.declared.tape.Parts.{Parts}
use Rattle.tape_words.specs.declared.tape.Parts.TheVariants.{Zero}
use Rattle.tape_words.specs.declared.tape.Piece.{Piece}
use Rattle.tape_words.specs.declared.tape.Piece.TheVariants.{Character, SVariable, EVariable, PatternEnd}
use Rattle.code_patterns.specs.declared.pattern.Lengths.{Lengths}
use Rattle.code_patterns.specs.declared.sites.Site.{Site as Cell}
use Rattle.code_patterns.specs.declared.symbols.Symbol.{Symbol}
use Rattle.code_patterns.specs.declared.tests.Tests.{Tests}
use Rattle.tape_words.specs.Words.{head_name, piece_at}
use Rattle.code_patterns.specs.Scans.{Scan, scanned, prepended, one_more, piece_by, pattern_on_tape, pattern_at}
use Rattle.code_words.specs.declared.CodeWriter.{CodeWriter}
use Rattle.code_words.specs.Writer.{Written, StillToWrite}
use Rattle.code_patterns.specs.Testing.{site_meant, site_at, walk, start_from, known_so_far, testing, tests_over, test_words}
use Rattle.code_patterns.specs.Testing.{SmallSite, AllSmall, InTests, TestsOn, SmallTestsOn, letter_done, part_done, TestsAll, SmallTestsAll, total}
use Rattle.std.proofs.lemmas.List.Elements.{All-set}
use Rattle.tape_words.proofs.Laws.Names.{name-here}
use Rattle.code_words.proofs.Laws.Writers.{still_refl, still-trans, still-words, still-wrote, still_end}
use Rattle.code_patterns.proofs.Laws.Scanning.{Told, told, pattern-at, pattern-end, pattern-past}
use Rattle.code_patterns.proofs.Laws.Held.{held_more, site-small}

-- TESTS SO FAR STAY IN FRONT

abbrev prefixed : List Test → Tested → Tested
prefixed ts d = record { tests = ts ++ d.tests; sites = d.sites }

abbrev tested : List Test → List (Named Site) → Tested
tested ts ss = record { tests = ts; sites = ss }

module _ (l : Lengths) where
  abbrev Prefixes : List Element → Type 0
  Prefixes es = (k : Parts) (o : ℕ) (ts : List Test) (ss : List (Named Site)) → walk l k o es (tested ts ss) ≡
      prefixed ts (walk l k o es (start_from ss))

  -- a test at the end of those so far
  prefix-one : (es : List Element) → Prefixes es → (k : Parts) (o : ℕ) (t : Test) (ts : List Test) (ss : List (Named Site))
      → walk l k o es (tested (ts ++ t ∷ []) ss) ≡ prefixed ts (walk l k o es (tested (t ∷ []) ss))
  prefix-one es h k o t ts ss =
      h k o (ts ++ t ∷ []) ss ∙ sym (ap (prefixed ts) (h k o (t ∷ []) ss)
      ∙ ap (λ (r : List Test). tested r (walk l k o es (start_from ss)).sites)
      (sym (append_assoc ts (t ∷ []) (walk l k o es (start_from ss)).tests)))

  prefix-symbol : (es : List Element) → Prefixes es → (k : Parts) (o : ℕ) (known : Option Site) (x : Name) (s : Site) (ts : List Test)
      (ss : List (Named Site))
      → walk l k o es (tested_symbol known x s (tested ts ss)) ≡ prefixed ts (walk l k o es (tested_symbol known x s (start_from ss)))
  prefix-symbol es h k o none x s ts ss = h k o ts (ss ++ record { name = x; value = s } ∷ [])
  prefix-symbol es h k o (some first) x s ts ss = prefix-one es h k o (compare first s) ts ss

  walk-prefix : (es : List Element) → Prefixes es
  unfolding walk
  walk-prefix [] k o ts ss = ap (λ (r : List Test). tested r ss) (sym (append-nil ts))
  walk-prefix (letter (character c) ∷ es) k o ts ss = prefix-one es (walk-prefix es) k (o + 1) (look (site_at l k o) c) ts ss
  walk-prefix (letter (symbol x) ∷ es) k o ts ss = prefix-symbol es (walk-prefix es) k (o + 1) (lookup x ss) x (site_at l k o) ts ss
  walk-prefix (part x ∷ es) k o ts ss = walk-prefix es (one_more k) 0 ts ss

-- THE STEPS

-- the cell of the next letter is small
pub site-near : {ws : List ℕ} {symbols : List Symbol} {t : Tests} {at : ℕ} (l : Lengths) → InTests ws symbols t at → total l ≤ max_letters
    → (cell : Cell) → site_meant cell ≡ site_at l t.parts t.offset → SmallSite cell
site-near {t = t} l within small = site-small l t.parts t.offset small (omega (arith, within.offset, within.letters))

-- `piece` is the one where the tests stand
module _ (ws : List ℕ) (l : Lengths) (symbols : List Symbol) (t : Tests) (w : CodeWriter) (within : InTests ws symbols t w.at) {piece : Piece}
    (is : piece ≡ piece_at (drop t.next ws) t.letters t.parts) where
  abbrev here : Scan (List Element)
  here = pattern_on_tape t.letters t.parts 0 (drop t.next ws)

  abbrev known : List (Named Site)
  known = known_so_far ws symbols t

  abbrev site : Site
  site = site_at l t.parts t.offset

  abbrev name : Name
  name = head_name ws t.next

  abbrev after_letter : ℕ → Scan (List Element)
  after_letter n = pattern_on_tape (t.letters + 1) t.parts 0 (drop (t.next + 1 + n) ws)

  abbrev walked : ℕ → List (Named Site) → Tested
  walked n ss = walk l t.parts (t.offset + 1) (after_letter n).value (start_from ss)

  tells : (p : Piece) → piece ≡ p → Told ws t.next t.letters t.parts p
  tells p e = told ws t.next t.letters t.parts p (sym is ∙ e)

  reads : (p : Piece) → t.next < length ws → piece ≡ p
      → here ≡ piece_by p t.letters t.parts (get_or ws t.next 0) (drop (t.next + 1) ws)
      (λ l q skip. pattern_on_tape l q skip (drop (t.next + 1) ws))
  reads p inside e = pattern-at ws t.next t.letters t.parts p inside (sym is ∙ e)

  -- bounds after a letter
  letter-within : {symbols' : List Symbol} {count at : ℕ} (n : ℕ) → t.letters < max_letters → t.next + 1 + n ≤ length ws
      → length symbols' ≡ max_letters → count ≤ t.symbols + 1 → at ≤ w.at + 1 → InTests ws symbols' (letter_done t count n) at
  letter-within n room fits long h g =
      record {
        room = long;
        letters = omega arith;
        offset = omega (arith, within.offset);
        few = omega (arith, within.few);
        next = fits;
        place = omega (arith, within.place);
      }

  -- a step that keeps no cell of an s-variable
  none_kept : {w' : CodeWriter} {r : Tests} → TestsOn ws l symbols w t symbols w' r → SmallTestsOn ws l symbols w t symbols w' r
  none_kept o = record { on = o; small = λ h. h }

  -- one test is written
  test_on : {w' : CodeWriter} {r : Tests} {word : ℕ} (n : ℕ) (x : Test) → word ≡ test_word x
      → testing ws l symbols t ≡ scanned (prefixed (x ∷ []) (walked n known)) (after_letter n).rest
      → Written w (word ∷ []) w' → r ≡ letter_done t t.symbols n → t.letters < max_letters → t.next + 1 + n ≤ length ws
      → SmallTestsOn ws l symbols w t symbols w' r
  test_on n x e now wrote done room fits =
      rw done (none_kept record {
        same =
            still-wrote _ (still-words (still_refl w _) (ap test_words now ∙ ap (λ (v : ℕ). v ∷ map test_word (walked n known).tests) (sym e)))
            wrote;
        known = sym (ap (λ (s : Scan Tested). s.value.sites) now);
        rest = sym (ap (λ (s : Scan Tested). s.rest) now);
        within = letter-within n room fits within.room (omega arith) (omega (arith, wrote.put.next));
        ahead = omega arith;
        grown = omega (arith, wrote.put.next);
      })

  -- nothing is written
  unwritten-on : {symbols' : List Symbol} (r : Tests) → testing ws l symbols t ≡ testing ws l symbols' r
      → InTests ws symbols' r w.at → t.next < r.next → t.letters ≤ r.letters → TestsOn ws l symbols w t symbols' w r
  unwritten-on {symbols'} r later inside ahead more =
      record {
        same = still-words (still_refl w _) (ap test_words later);
        known = sym (ap (λ (s : Scan Tested). s.value.sites) later);
        rest = sym (ap (λ (s : Scan Tested). s.rest) later);
        within = inside;
        ahead = ahead;
        grown = omega arith;
      }

  -- A CHARACTER

  pub character-on : {w' : CodeWriter} {r : Tests} → piece ≡ Character
      → Written w (test_word (look site (get_or ws t.next 0)) ∷ []) w' → r ≡ letter_done t t.symbols 0
      → SmallTestsOn ws l symbols w t symbols w' r
  unfolding walk
  character-on e wrote done =
      let c = get_or ws t.next 0 in
      let (inside, room, byte) = tells Character e in
      let z : t.next + 1 + 0 ≡ t.next + 1 = omega arith in
      let now : here ≡ prepended (letter (character c)) (after_letter 0) = reads Character inside e ∙ rw z in
      test_on 0 (look site c) refl
      (rw (now, walk-prefix l (after_letter 0).value t.parts (t.offset + 1) (look site c ∷ []) known)) wrote done room (omega arith)

  -- AN S-VARIABLE

  -- after it, by what is known of it
  abbrev after_symbol : Option Site → Scan Tested
  after_symbol o =
      scanned (walk l t.parts (t.offset + 1) (after_letter (length name)).value (tested_symbol o name site (start_from known)))
      (after_letter (length name)).rest

  symbol-now : (o : Option Site) → piece ≡ SVariable → o ≡ lookup name known → testing ws l symbols t ≡ after_symbol o
  unfolding walk
  symbol-now o e h = base ∙ ap after_symbol (sym h)
    where
      now : here ≡ prepended (letter (symbol name)) (after_letter (length name))
      now =
          let inside = (tells SVariable e).0.inside in
          reads SVariable inside e
          ∙ rw (pattern-past (t.letters + 1) t.parts ws t.next inside, ← (name-here ws t.next inside))

      base : testing ws l symbols t ≡ after_symbol (lookup name known)
      base = rw now

  pub equal-on : (first cell : Cell) {w' : CodeWriter} {r : Tests} {x : Name} {word : ℕ} → piece ≡ SVariable → x ≡ name
      → some (site_meant first) ≡ lookup x known → site_meant cell ≡ site
      → word ≡ test_word (compare (site_meant first) (site_meant cell))
      → Written w (word ∷ []) w' → r ≡ letter_done t t.symbols (length x) → SmallTestsOn ws l symbols w t symbols w' r
  equal-on first cell e named found at_site is-word wrote done =
      let (read, room) = tells SVariable e in
      test_on (length name) (compare (site_meant first) site) (rw at_site at is-word)
      (symbol-now (some (site_meant first)) e (rw named at found)
      ∙ ap (λ (d : Tested). scanned d (after_letter (length name)).rest)
      (walk-prefix l (after_letter (length name)).value t.parts (t.offset + 1) (compare (site_meant first) site ∷ []) known))
      wrote (rw named at done) room read.fits

  pub new-on : (cell : Cell) {r : Tests} {x : Name} → piece ≡ SVariable → x ≡ name → none ≡ lookup x known
      → site_meant cell ≡ site → r ≡ letter_done t (t.symbols + 1) (length x)
      → TestsOn ws l symbols w t (set symbols t.symbols (record { head = t.next; site = cell })) w r
  new-on cell e named found at_site done =
      let (read, room) = tells SVariable e in
      let s : Symbol = record { head = t.next; site = cell } in
      let more = held_more ws symbols t.symbols s (omega (arith, within.few, within.room))
      ∙ ap (λ (c : Site). known ++ record { name = name; value = c } ∷ []) at_site in
      let now : testing ws l symbols t ≡ scanned (walked (length name) (known ++ record { name = name; value = site } ∷ []))
      (after_letter (length name)).rest =
      symbol-now none e (rw named at found) in
      rw (done, named)
      (unwritten-on (letter_done t (t.symbols + 1) (length name)) (now ∙ rw more)
      (letter-within (length name) room read.fits (length-set symbols t.symbols s ∙ within.room) (omega arith) (omega arith))
      (omega arith) (omega arith))

  -- where the templates together are short, the cell that is kept is small
  pub small-new-on : total l ≤ max_letters → (cell : Cell) {r : Tests} {x : Name} → piece ≡ SVariable → x ≡ name
      → none ≡ lookup x known → site_meant cell ≡ site → r ≡ letter_done t (t.symbols + 1) (length x)
      → SmallTestsOn ws l symbols w t (set symbols t.symbols (record { head = t.next; site = cell })) w r
  small-new-on short cell e named found at_site done =
      record {
        on = new-on cell e named found at_site done;
        small = All-set (λ s. SmallSite s.site) symbols t.symbols _ (site-near l within short cell at_site);
      }

  -- AN E-VARIABLE, AND THE END

  pub part-on : {r : Tests} {n : ℕ} → piece ≡ EVariable → n ≡ length name → r ≡ part_done t n →
      SmallTestsOn ws l symbols w t symbols w r
  unfolding walk
  part-on e long done =
      let (named, one) = tells EVariable e in
      let now : here ≡ prepended (part name) (pattern_on_tape t.letters (one_more t.parts) 0 (drop (t.next + 1 + length name) ws)) =
      reads EVariable named.inside e
      ∙ rw (pattern-past t.letters (one_more t.parts) ws t.next named.inside, ← (name-here ws t.next named.inside)) in
      rw (done, long)
      (none_kept (unwritten-on (part_done t (length name)) (rw now)
      record {
        room = within.room;
        letters = within.letters;
        offset = omega arith;
        few = within.few;
        next = named.fits;
        place = within.place;
      }
      (omega arith) (omega arith)))

  pub tests-end : piece ≡ PatternEnd → testing ws l symbols t ≡ tests_over ws symbols t
  unfolding walk
  tests-end e = rw (pattern-end ws t.next t.letters t.parts (sym is ∙ e))

-- ALL OF THEM

-- what is written so far and what is still to be written are the whole pattern's tests
pub record TestsSoFar (ws : List ℕ) (l : Lengths) (start : ℕ) (w₀ : CodeWriter) (symbols : List Symbol) (w : CodeWriter)
    (t : Tests) : Type 0 where
  pub same : StillToWrite w₀ (map test_word (walk l Zero 0 (pattern_at (drop start ws)).value (start_from [])).tests) w
      (test_words (testing ws l symbols t))
  pub known : (testing ws l symbols t).value.sites ≡ (walk l Zero 0 (pattern_at (drop start ws)).value (start_from [])).sites
  pub rest : (testing ws l symbols t).rest ≡ (pattern_at (drop start ws)).rest
  pub within : InTests ws symbols t w.at
  pub grown : w.at ≤ w₀.at + t.letters

pub tests-go-on : {ws : List ℕ} {l : Lengths} {start : ℕ} {w₀ : CodeWriter} {symbols : List Symbol} {w : CodeWriter}
    {symbols' : List Symbol} {w' : CodeWriter} {t r : Tests}
    → TestsSoFar ws l start w₀ symbols w t → TestsOn ws l symbols w t symbols' w' r
    → TestsSoFar ws l start w₀ symbols' w' r
tests-go-on s o =
    record {
      same = still-trans s.same o.same;
      known = o.known ∙ s.known;
      rest = o.rest ∙ s.rest;
      within = o.within;
      grown = omega (arith, s.grown, o.grown);
    }

pub tests-all : {ws : List ℕ} {l : Lengths} {start : ℕ} {w₀ : CodeWriter} {symbols : List Symbol} {w : CodeWriter} {t : Tests}
    → TestsSoFar ws l start w₀ symbols w t → testing ws l symbols t ≡ tests_over ws symbols t
    → TestsAll ws l start w₀ symbols w t
tests-all s over =
    record {
      wrote = still_end (still-words s.same (ap test_words over));
      known = sym (ap (λ (r : Scan Tested). r.value.sites) over) ∙ s.known;
      rest = sym (ap (λ (r : Scan Tested). r.rest) over) ∙ s.rest;
      within = s.within;
      grown = omega (arith, s.grown, s.within.letters);
    }

-- THE CELLS THAT ARE KEPT STAY SMALL

-- tests so far, where the cells that are kept are small if they were so at first
pub record SmallTestsSoFar (ws : List ℕ) (l : Lengths) (start : ℕ) (symbols₀ : List Symbol) (w₀ : CodeWriter) (symbols : List Symbol)
    (w : CodeWriter) (t : Tests) : Type 0 where
  pub so_far : TestsSoFar ws l start w₀ symbols w t
  pub small : AllSmall symbols₀ → AllSmall symbols

pub small-tests-go-on : {ws : List ℕ} {l : Lengths} {start : ℕ} {symbols₀ : List Symbol} {w₀ : CodeWriter} {symbols : List Symbol}
    {w : CodeWriter} {symbols' : List Symbol} {w' : CodeWriter} {t r : Tests}
    → SmallTestsSoFar ws l start symbols₀ w₀ symbols w t → SmallTestsOn ws l symbols w t symbols' w' r
    → SmallTestsSoFar ws l start symbols₀ w₀ symbols' w' r
small-tests-go-on s o = record { so_far = tests-go-on s.so_far o.on; small = λ h. o.small (s.small h) }

pub small-tests-all : {ws : List ℕ} {l : Lengths} {start : ℕ} {symbols₀ : List Symbol} {w₀ : CodeWriter} {symbols : List Symbol}
    {w : CodeWriter} {t : Tests}
    → SmallTestsSoFar ws l start symbols₀ w₀ symbols w t → testing ws l symbols t ≡ tests_over ws symbols t
    → SmallTestsAll ws l start symbols₀ w₀ symbols w t
small-tests-all s over = record { all = tests-all s.so_far over; small = s.small }
