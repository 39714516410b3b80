-- The translation of an allowed table can be packed: every offset, length and count fits.
use mathlib.Core.Path.{◌≡◌}
use mathlib.Core.Bool.{Bool, true, false}
use mathlib.Core.List.{List, [], ◌∷◌, ◌++◌, map}
use mathlib.Core.Option.{Option, none, some}
use Prim.Native.Nat.{ℕ, suc, ◌+◌, ◌*◌, ◌<◌, ◌≤◌}
use native.Mathlib.Omega.{arith}
use lib.Dec.{T, leb→le, ltb→lt}
use lib.ListN.{length, length-append, length-map}
use Rattle.meaning.specs.Choice.{Name, Named, guard, both, every, same_bytes, lookup}
use Rattle.meaning.specs.Angles.{Operation}
use Rattle.meaning.specs.Tree.{Letter, Subject, of_symbol, of_part, Condition, Expression, end, then_character, then_symbol, then_part, then_call}
use Rattle.meaning.specs.Tree.{Sentence}
use Rattle.meaning.specs.Tree.{Function, Table}
use Rattle.meaning.specs.Classes.{Class}
use Rattle.meaning.specs.Names.{number_from, number_of, recover_prefix, is_recovering, recoverer_of}
use Rattle.meaning.specs.Allowed.{is_byte, member, spelled_name, spelled_element, letters_in, symbols_of, max_letters, max_symbols, max_conditions}
use Rattle.meaning.specs.Allowed.{max_items}
use Rattle.meaning.specs.Allowed.{max_name, items_in, spelled_items, allowed_sentence, allowed_function, allowed, sentences_in, max_functions}
use Rattle.meaning.specs.Allowed.{max_sentences}
use Rattle.meaning.specs.Instructions.{Site, Test, Store, store, Span, Action, go, select, out, out_c, out_v, begin_seq, use_seq, call, tail_call}
use Rattle.meaning.specs.Instructions.{emission, Metric, Code, compute}
use Rattle.meaning.specs.Translation.{Shape, fixed, open₁, open₂, shape_of, metric_of, Tested, tested_shape, site_or, Bounds, bounds_of, subject_test}
use Rattle.meaning.specs.Translation.{condition_test, tests_of, stores_of, value_from, value_number, Stand, at_start, after_first, after_second}
use Rattle.meaning.specs.Translation.{nowhere}
use Rattle.meaning.specs.Translation.{Passage, passage_first, gap_to_second, passage_second, passage, rest_of, Manner, emits, replaces, nests, Level}
use Rattle.meaning.specs.Translation.{outermost, in_argument, in_tail, is_end, manner_of, level_in, ends_pattern, left_for, where_left}
use Rattle.meaning.specs.Translation.{argument_ready}
use Rattle.meaning.specs.Translation.{calling, item_actions, passes_rest, actions_of, translated_sentences, translated_function, translate, computes}
use Rattle.meaning.specs.Packing.{Words, pack, unpack}
use Rattle.meaning.proofs.Laws.Choosing.{of_either}
use Rattle.meaning.proofs.Laws.Passing.{both_left, both_right, every-head, every-tail}
use Rattle.meaning.proofs.Laws.Spelling.{name-bytes, name-short}
use Rattle.meaning.proofs.Laws.Packable.{All, nil, cons, FitsSite, FitsTest, FitsSpan, FitsAction, FitsMetric, FitsSentence, EachSentence, each_none}
use Rattle.meaning.proofs.Laws.Packable.{each_more, EachAction, Packable, all_append, all_map}
use Rattle.meaning.proofs.Laws.Packing.{unpack-pack}
use Rattle.meaning_agreeing.proofs.Laws.Bounds.{name_of, actions_length, sentence_length, body-length, sentences_length, end-length}
use Rattle.meaning_agreeing.proofs.Laws.Bounds.{functions_length, pack-length}
use Rattle.meaning_agreeing.proofs.Laws.Templates.{shape_letters, shape-letters, letters-length, letters-fit, site-count, FitsTested, FitsFound}
use Rattle.meaning_agreeing.proofs.Laws.Templates.{lookup-fits, shape-fits, shape-weight}

-- what an allowed sentence's translation leans on
pub record Sized (s : Sentence) : Type 0 where
  pub spelled : T (every spelled_element s.pattern)
  pub letters : letters_in s.pattern ≤ max_letters
  pub symbols : length (symbols_of s.pattern) ≤ max_symbols
  pub conditions : length s.conditions ≤ max_conditions
  pub spelled_items : T (spelled_items (symbols_of s.pattern) s.expression)
  pub few_items : items_in s.expression ≤ max_items

sized : (s : Sentence) → T (allowed_sentence s) → Sized s
sized s t =
    record {
      spelled = search (both_left, both_right) depth 8;
      letters = leb→le _ _ (search (both_left, both_right) depth 8);
      symbols = leb→le _ _ (search (both_left, both_right) depth 8);
      conditions = leb→le _ _ (search (both_left, both_right) depth 8);
      spelled_items = search (both_left, both_right) depth 8;
      few_items = leb→le _ _ (search (both_left, both_right) depth 8);
    }

-- SPANS

abbrev Short : Shape → Type 0
Short s = length (shape_letters s) ≤ max_letters

-- what Go and Select of an e-variable are given
record FitsPassage (p : Passage) : Type 0 where
  gap : FitsSpan p.gap
  piece : FitsSpan p.piece

gap-fits : (m : List Letter) (w : Stand) → length m < 256 → FitsSpan (gap_to_second m w)
gap-fits m at_start h = omega arith
gap-fits m after_first h = omega arith
gap-fits m after_second h = omega arith

passage-fits : (s : Shape) (x : Name) (w : Stand) → Short s → FitsPassage (passage s x w)
passage-fits (fixed t) x w low = record { gap = omega arith; piece = omega arith }
passage-fits (open₁ h y t) x w low =
    let sum = length-append h t in
    record { gap = omega arith; piece = omega arith }
passage-fits (open₂ h y m z t) x w low =
    let sum = length-append h (m ++ t) in
    let sum₁ = length-append m t in
    of_either FitsPassage (same_bytes x y) (passage_first h) (passage_second m t w) (record { gap = omega arith; piece = omega arith })
    (record { gap = gap-fits m w (omega arith); piece = omega arith })

nowhere-fits : FitsSpan nowhere
nowhere-fits = omega arith

rest-fits : (s : Shape) (w : Stand) → Short s → FitsSpan (rest_of s w)
rest-fits (fixed t) w low = omega arith
rest-fits (open₁ h y t) at_start low = omega arith
rest-fits (open₁ h y t) after_first low = omega (arith, length-append h t)
rest-fits (open₁ h y t) after_second low = omega arith
rest-fits (open₂ h y m z t) at_start low = omega arith
rest-fits (open₂ h y m z t) after_first low = omega arith
rest-fits (open₂ h y m z t) after_second low = omega (arith, length-append h (m ++ t), length-append m t)

metric-fits : (s : Shape) → Short s → FitsMetric (metric_of s)
metric-fits (fixed t) low = omega arith
metric-fits (open₁ h y t) low = omega (arith, length-append h t)
metric-fits (open₂ h y m z t) low = omega (arith, length-append h (m ++ t), length-append m t)

-- VALUES AND FUNCTIONS BY NUMBER

value_low : (from : ℕ) (x : Name) (sites : List (Named Site)) → value_from from x sites ≤ from + length sites
unfolding value_from
value_low from x [] = omega arith
value_low from x (s ∷ ss) = of_either (λ n. n ≤ from + length (s ∷ ss)) (same_bytes x s.name) from (value_from (suc from) x ss) (omega arith)
    (omega (arith, value_low (suc from) x ss))

-- a name's number is no greater than the number of functions
pub number-low : (count : ℕ) (table : Table) (n : Name) → number_from count table n ≤ count + length table
unfolding number_from
number-low count [] n = omega arith
number-low count (f ∷ fs) n = of_either (λ k. k ≤ count + length (f ∷ fs)) (same_bytes n f.name) (suc count) (number_from (suc count) fs n)
    (omega arith) (omega (arith, number-low (suc count) fs n))

pub recoverer-low : (table : Table) (n : Name) → recoverer_of table n ≤ length table
recoverer-low table n =
    of_either (λ k. k ≤ length table) (is_recovering n) 0 (number_of table (recover_prefix ++ n)) (omega arith)
    (omega (arith, number-low 0 table (recover_prefix ++ n)))

-- THE EXPRESSION

record SpelledCall (symbols : List Name) (n : Name) (a e : Expression) : Type 0 where
  name : T (spelled_name n)
  argument : T (spelled_items symbols a)
  after : T (spelled_items symbols e)

spelled-call : (symbols : List Name) (place : ℕ) (n : Name) (a e : Expression) → T (spelled_items symbols (then_call place n a e)) →
    SpelledCall symbols n a e
unfolding spelled_items
spelled-call symbols place n a e t =
    record { name = search (both_left, both_right); argument = search (both_left, both_right); after = search (both_left, both_right) }

-- a property that each kind of instruction has which the translation writes
pub record Kinds (table : Table) (P : Action → Type 0) : Type 0 where
  pub goes : (s : Span) → FitsSpan s → P (go s)
  pub selects : (s : Span) → FitsSpan s → P (select s)
  pub outs : P out
  pub characters : (c : ℕ) → c < 256 → P (out_c c)
  pub values : (k : ℕ) → k < 256 → P (out_v k)
  pub begins : P begin_seq
  pub uses : P use_seq
  pub calls : (n : Name) → P (call (number_of table n))
  pub tail_calls : (n : Name) → P (tail_call (number_of table n))
  pub emissions : (n : Name) → T (spelled_name n) → P (emission n)
  pub computations : (op : Operation) → P (compute op)

module _ (table : Table) (P : Action → Type 0) (kinds : Kinds table P) (shape : Shape) (sites : List (Named Site)) (short : Short shape)
    (few : length sites < 256) where
  ready : {more : List Action} → All P more → All P (argument_ready more)
  ready a = cons kinds.uses (cons (kinds.selects nowhere nowhere-fits) a)

  calling-all : (m : Manner) (n : Name) (w : Stand) (more : List Action) → T (spelled_name n) → All P more →
      All P (calling shape m (number_of table n) n w more)
  calling-all emits n w more t a = ready (cons (kinds.emissions n t) a)
  calling-all (computes op) n w more t a = ready (cons (kinds.computations op) a)
  calling-all replaces n w more t a = cons (kinds.goes (rest_of shape w) (rest-fits shape w short)) (ready (cons (kinds.tail_calls n) nil))
  calling-all nests n w more t a = ready (cons (kinds.calls n) a)

  value-fits : (x : Name) → value_number sites x < 256
  value-fits x = omega (arith, value_low 0 x sites)

  -- the tail call of a level has it
  abbrev Tailed : Level → Type 0
  Tailed outermost = Unit {0}
  Tailed in_argument = Unit {0}
  Tailed (in_tail f) = P (tail_call f)

  tailed-in : (m : Manner) (n : Name) → Tailed (level_in m (number_of table n))
  tailed-in emits n = tt
  tailed-in (computes op) n = tt
  tailed-in replaces n = kinds.tail_calls n
  tailed-in nests n = tt

  left-all : {way : Passage} {moving : List Action} (level : Level) (x : Name) (e : Expression) → Tailed level → FitsPassage way → All P moving →
      All P (where_left (left_for shape level x e) way moving)
  left-all outermost x e tail fits a = a
  left-all in_argument x e tail fits a = a
  left-all {way} {moving} (in_tail f) x e tail fits a = left (both (is_end e) (ends_pattern shape x))
    where
      left : (q : Bool) → All P (where_left (guard q (some f)) way moving)
      left true = cons (kinds.goes _ fits.gap) (cons kinds.uses (cons (kinds.selects _ fits.piece) (cons tail nil)))
      left false = a

  items-all : (symbols : List Name) (level : Level) (e : Expression) (w : Stand) (rest : Stand → List Action) → T (spelled_items symbols e) →
      Tailed level →
      ((w₁ : Stand) → All P (rest w₁)) → All P (item_actions table shape sites level e w rest)
  unfolding item_actions spelled_items
  items-all symbols level end w rest t tail a = a w
  items-all symbols level (then_character c e) w rest t tail a =
      cons (kinds.characters c (ltb→lt c 256 (both_left (is_byte c) (spelled_items symbols e) t)))
      (items-all symbols level e w rest (both_right (is_byte c) (spelled_items symbols e) t) tail a)
  items-all symbols level (then_symbol x e) w rest t tail a =
      cons (kinds.values _ (value-fits x)) (items-all symbols level e w rest (both_right (member x symbols) (spelled_items symbols e) t) tail a)
  items-all symbols level (then_part x e) w rest t tail a =
      let fits = passage-fits shape x w short in
      left-all level x e tail fits
      (cons (kinds.goes _ fits.gap)
      (cons (kinds.selects _ fits.piece) (cons kinds.outs (items-all symbols level e (passage shape x w).after rest t tail a))))
  items-all symbols level (then_call place n argument e) w rest t tail a =
      let spelt = spelled-call symbols place n argument e t in
      cons kinds.begins
      (items-all symbols (level_in (manner_of level e n) (number_of table n)) argument w _ spelt.argument (tailed-in (manner_of level e n) n)
      (λ w₁. calling-all (manner_of level e n) n w₁ (item_actions table shape sites level e w₁ rest) spelt.name
      (items-all symbols level e w₁ rest spelt.after tail a)))

  pub actions-all : (symbols : List Name) (e : Expression) → T (spelled_items symbols e) → All P (actions_of table shape sites e)
  actions-all symbols e t =
      items-all symbols outermost e at_start (passes_rest shape) t tt (λ w. cons (kinds.goes (rest_of shape w) (rest-fits shape w short)) nil)

fitting : (limit : ℕ) (table : Table) → ((n : Name) → number_of table n < limit) → Kinds table (FitsAction limit)
fitting limit table numbers =
    record {
      goes = λ s f. f;
      selects = λ s f. f;
      outs = tt;
      characters = λ c h. h;
      values = λ k h. h;
      begins = tt;
      uses = tt;
      calls = numbers;
      tail_calls = numbers;
      emissions = λ n t. (omega (arith, name-short n t), name-bytes n t);
      computations = λ op. tt;
    }

-- HOW MANY WORDS

-- an item takes at most a BeginSeq, a UseSeq, a Select, and an emission with its name
abbrev pub max_item_words : ℕ
max_item_words = 28

module _ (table : Table) (shape : Shape) (sites : List (Named Site)) where
  calling-length : (m : Manner) (number : ℕ) (n : Name) (w : Stand) (more : List Action) → T (spelled_name n) →
      actions_length (calling shape m number n w more) ≤ 27 + actions_length more
  unfolding actions_length
  calling-length emits number n w more t = omega (arith, name-short n t)
  calling-length (computes op) number n w more t = omega arith
  calling-length replaces number n w more t = omega arith
  calling-length nests number n w more t = omega arith

  -- a part that stays takes four actions, a part that moves three
  left-length : (level : Level) (x : Name) (e : Expression) (way : Passage) (moving : List Action) (bound : ℕ) → actions_length moving ≤ 4 + bound →
      actions_length (where_left (left_for shape level x e) way moving) ≤ 4 + bound
  unfolding actions_length
  left-length outermost x e way moving bound h = h
  left-length in_argument x e way moving bound h = h
  left-length (in_tail f) x e way moving bound h = left (both (is_end e) (ends_pattern shape x))
    where
      left : (q : Bool) → actions_length (where_left (guard q (some f)) way moving) ≤ 4 + bound
      left true = omega arith
      left false = h

  items-length : (symbols : List Name) (bound : ℕ) (level : Level) (e : Expression) (w : Stand) (rest : Stand → List Action) →
      T (spelled_items symbols e) → ((w₁ : Stand) → actions_length (rest w₁) ≤ bound) →
      actions_length (item_actions table shape sites level e w rest) ≤ max_item_words * items_in e + bound
  unfolding item_actions spelled_items items_in actions_length
  items-length symbols bound level end w rest t h = omega (arith, h w)
  items-length symbols bound level (then_character c e) w rest t h =
      omega (arith, items-length symbols bound level e w rest (both_right (is_byte c) (spelled_items symbols e) t) h)
  items-length symbols bound level (then_symbol x e) w rest t h =
      omega (arith, items-length symbols bound level e w rest (both_right (member x symbols) (spelled_items symbols e) t) h)
  items-length symbols bound level (then_part x e) w rest t h =
      omega (
        arith,
        left-length level x e (passage shape x w)
            (go (passage shape x w).gap ∷ select (passage shape x w).piece ∷ out ∷ item_actions table shape sites level e (passage shape x w).after
            rest)
            (max_item_words * items_in e + bound) (omega (arith, items-length symbols bound level e (passage shape x w).after rest t h)),
      )
  items-length symbols bound level (then_call place n a e) w rest t h =
      let spelt = spelled-call symbols place n a e t in
      let after : Stand → List Action = λ w₁. calling shape (manner_of level e n) (number_of table n) n w₁
      (item_actions table shape sites level e w₁ rest) in
      omega (
        arith,
        items-length symbols (27 + (max_item_words * items_in e + bound)) (level_in (manner_of level e n) (number_of table n)) a w after
            spelt.argument
            (λ w₁. omega (
              arith,
              calling-length (manner_of level e n) (number_of table n) n w₁ (item_actions table shape sites level e w₁ rest)
                  spelt.name,
              items-length symbols bound level e w₁ rest spelt.after h,
            )),
      )

  actions-short : (symbols : List Name) (e : Expression) → T (spelled_items symbols e) →
      actions_length (actions_of table shape sites e) ≤ max_item_words * items_in e + 1
  unfolding actions_length
  actions-short symbols e t = items-length symbols 1 outermost e at_start (passes_rest shape) t (λ w. omega arith)

-- A SENTENCE

site-fits : (o : Option Site) → FitsFound o → FitsSite (site_or o)
site-fits none f = omega arith
site-fits (some s) f = f

abbrev FitsBounds : Bounds → Type 0
FitsBounds b = FitsSite b.from × FitsSite b.to

bounds-fit : (s : Shape) (x : Name) → Short s → FitsBounds (bounds_of s x)
bounds-fit (fixed t) x low = omega arith
bounds-fit (open₁ h y t) x low = omega (arith, length-append h t)
bounds-fit (open₂ h y m z t) x low =
    let sum = length-append h (m ++ t) in
    let sum₁ = length-append m t in
    of_either FitsBounds (same_bytes x y) _ _ (omega arith) (omega arith)

module _ (s : Shape) (low : Short s) (sites : List (Named Site)) (f : All (λ s. FitsSite s.value) sites) where
  subject-fits : (class : Class) (expected : Bool) (v : Subject) → FitsTest (subject_test s sites class expected v)
  subject-fits class expected (of_symbol x) = site-fits (lookup x sites) (lookup-fits x f)
  subject-fits class expected (of_part x) = bounds-fit s x low

  conditions-fit : (cs : List Condition) → All FitsTest (map (condition_test s sites) cs)
  conditions-fit [] = nil
  conditions-fit (c ∷ cs) = cons (subject-fits c.predicate c.expected c.subject) (conditions-fit cs)

-- at most so many words for a sentence
abbrev pub max_sentence_words : ℕ
max_sentence_words = 3660

-- the parts of a sentence's translation
module _ (s : Sentence) where
  abbrev shape : Shape
  shape = shape_of s.pattern

  abbrev tested : Tested
  tested = tested_shape shape

  abbrev tests : List Test
  tests = tests_of shape tested s.conditions

  abbrev stores : List Store
  stores = stores_of tested

  abbrev actions : Table → List Action
  actions table = actions_of table shape tested.sites s.expression

module _ (s : Sentence) (z : Sized s) where
  short : Short (shape s)
  short = rw (shape-letters s.pattern, letters-length s.pattern) z.letters

  tested-fits : FitsTested (tested s)
  tested-fits = shape-fits (shape s) short (rw (shape-letters s.pattern) (letters-fit s.pattern z.spelled))

  few-sites : length (tested s).sites ≤ max_symbols
  few-sites = rw (site-count s.pattern) z.symbols

  -- one test or one store for each letter, and one test for each condition
  test_words : length (tests s) + length (stores s) ≤ max_letters + max_conditions
  test_words = simp (length-append, length-map) (omega (arith, shape-weight (shape s), short, z.conditions))

  module _ (table : Table) where
    action-words : actions_length (actions s table) ≤ max_item_words * max_items + 1
    action-words =
        omega (arith, actions-short table (shape s) (tested s).sites (symbols_of s.pattern) s.expression z.spelled_items, z.few_items)

    sentence-short : sentence_length (tests s) (stores s) (actions s table) ≤ max_sentence_words
    sentence-short = omega (arith, test_words, action-words)

    sentence-all : (P : Action → Type 0) → Kinds table P → All P (actions s table)
    sentence-all P kinds =
        actions-all table P kinds (shape s) (tested s).sites short (omega (arith, few-sites)) (symbols_of s.pattern) s.expression
        z.spelled_items

    sentence-fits : (limit : ℕ) → ((n : Name) → number_of table n < limit) →
        FitsSentence limit (metric_of (shape s)) (tests s) (stores s) (actions s table)
    sentence-fits limit numbers =
        record {
          lengths = metric-fits (shape s) short;
          each_test = all_append tested-fits.each_test (conditions-fit (shape s) short (tested s).sites tested-fits.each_site s.conditions);
          each_store = all_map (λ x. store x.value) (λ x f. f) tested-fits.each_site;
          each_action = sentence-all (FitsAction limit) (fitting limit table numbers);
          few_tests = omega (arith, test_words);
          few_stores = rw length-map few-sites;
          few_words = omega (arith, body-length (tests s) (stores s) (actions s table), sentence-short);
        }

-- FUNCTIONS AND THE TABLE

-- what holds of the translation of each sentence that is sized holds of all
abbrev Sentencewise : Table → (Metric → List Test → List Store → List Action → Type 0) → Type 0
Sentencewise table P =
    (s : Sentence) → Sized s → P (metric_of (shape s)) (tests s) (stores s) (actions s table)

sentences-each : (table : Table) (R : ℕ → Type 0) (P : Metric → List Test → List Store → List Action → Type 0) → Sentencewise table P →
    (r : ℕ) → R r → (ss : List Sentence) → T (every allowed_sentence ss) → EachSentence R P (translated_sentences table r ss)
unfolding translated_sentences
sentences-each table R P each r h [] t = each_none h
sentences-each table R P each r h (s ∷ ss) t =
    each_more (each s (sized s (every-head allowed_sentence s ss t))) (sentences-each table R P each r h ss (every-tail allowed_sentence s ss t))

sentences-short : (table : Table) (r : ℕ) (ss : List Sentence) → T (every allowed_sentence ss) →
    sentences_length (translated_sentences table r ss) ≤ max_sentence_words * length ss
unfolding translated_sentences sentences_length
sentences-short table r [] t = omega arith
sentences-short table r (s ∷ ss) t =
    omega (
      arith,
      sentence-short s (sized s (every-head allowed_sentence s ss t)) table,
      sentences-short table r ss (every-tail allowed_sentence s ss t),
    )

-- some functions of a table
module _ (table : Table) where
  abbrev functions : List Function → Code
  functions fs = map (translated_function table) fs

  allowed-sentences : (f : Function) (fs : List Function) → T (every allowed_function (f ∷ fs)) → T (every allowed_sentence f.sentences)
  allowed-sentences f fs t = let here = every-head allowed_function f fs t in search (both_left, both_right)

  functions-each : (R : ℕ → Type 0) (P : Metric → List Test → List Store → List Action → Type 0) → Sentencewise table P →
      ((n : Name) → R (recoverer_of table n)) → (fs : List Function) → T (every allowed_function fs) → All (EachSentence R P) (functions fs)
  functions-each R P each recoverers [] t = nil
  functions-each R P each recoverers (f ∷ fs) t =
      cons (sentences-each table R P each (recoverer_of table f.name) (recoverers f.name) f.sentences (allowed-sentences f fs t))
      (functions-each R P each recoverers fs (every-tail allowed_function f fs t))

  functions-short : (fs : List Function) → T (every allowed_function fs) →
      functions_length (functions fs) ≤ 2 * length fs + max_sentence_words * sentences_in fs
  unfolding functions_length sentences_in
  functions-short [] t = omega arith
  functions-short (f ∷ fs) t =
      omega (
        arith,
        end-length (translated_function table f),
        sentences-short table (recoverer_of table f.name) f.sentences (allowed-sentences f fs t),
        functions-short fs (every-tail allowed_function f fs t),
      )

short-names : {table : Table} → Kinds table (λ a. length (name_of a) ≤ max_name)
short-names =
    record {
      goes = λ s f. omega arith;
      selects = λ s f. omega arith;
      outs = omega arith;
      characters = λ c h. omega arith;
      values = λ k h. omega arith;
      begins = omega arith;
      uses = omega arith;
      calls = λ n. omega arith;
      tail_calls = λ n. omega arith;
      emissions = name-short;
      computations = λ op. omega arith;
    }

-- functions are numbered from 1, at most 64
abbrev pub number_limit : ℕ
number_limit = 65

-- at most so many words for the whole
abbrev pub max_words : ℕ
max_words = 1 + 2 * max_functions + max_sentence_words * max_sentences

module _ (table : Table) (t : T (allowed table)) where
  few-functions : length table ≤ max_functions
  few-functions = leb→le _ _ (search (both_left, both_right) depth 8)

  few-sentences : sentences_in table ≤ max_sentences
  few-sentences = leb→le _ _ (search (both_left, both_right) depth 8)

  numbers-low : (n : Name) → number_of table n < number_limit
  numbers-low n = omega (arith, number-low 0 table n, few-functions)

  pub translated-packable : Packable number_limit (translate table)
  translated-packable =
      functions-each table (λ r. r < number_limit) (FitsSentence number_limit) (λ s z. sentence-fits s z table number_limit numbers-low)
      (λ n. omega (arith, recoverer-low table n, few-functions)) table (search both_left)

  -- whatever holds of each kind of instruction holds of all
  pub translated-each : (P : Action → Type 0) → Kinds table P → All (EachAction P) (translate table)
  translated-each P kinds =
      functions-each table (λ r. Unit {0}) (λ metric tests stores actions. All P actions) (λ s z. sentence-all s z table P kinds) (λ n. tt) table
      (search both_left)

  -- "an emission's name up to 24 besides"
  pub translated-names : All (EachAction (λ a. length (name_of a) ≤ max_name)) (translate table)
  translated-names = translated-each (λ a. length (name_of a) ≤ max_name) short-names

  pub translated-short : length (pack (translate table)) ≤ max_words
  translated-short = omega (arith, pack-length (translate table), functions-short table table (search both_left), few-functions, few-sentences)

  -- "unpacking what was packed gives it back, words after the code do not matter"
  pub unpacked : (junk : Words) → unpack (pack (translate table) ++ junk) ≡ some (translate table)
  unpacked junk = unpack-pack number_limit (translate table) translated-packable junk
