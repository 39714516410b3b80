-- The sums that the proofs go by are what the definitions look at.
use Prim.Native.Nat.{ℕ, suc, ◌+◌}
use mathlib.Core.Path.{◌≡◌, refl, sym, ap, ◌∙◌}
use mathlib.Core.Bool.{Bool, true, false, not}
use mathlib.Core.List.{List, [], ◌∷◌, ◌++◌, append-nil, append_assoc}
use mathlib.Core.Option.{Option, none, some}
use native.Mathlib.Omega.{arith}
use Rattle.meaning.specs.Choice.{Name, pick, both, either, every}
use Rattle.meaning.specs.Tree.{Element}
use Rattle.meaning.specs.Tokens.{Token, Placed, comma, equals, less_than, greater_than, is_sign, name_of, Item, characters, symbol_item, part_item}
use Rattle.meaning.specs.Tokens.{no_item}
use Rattle.meaning.specs.Tokens.{item_of, begins}
use Rattle.meaning.specs.Grammar.{elements_of}
use Rattle.meaning_accepting.proofs.Reading.Lists.{every_append}
use Rattle.meaning_refusing.specs.Looking.{before_first, past_first, after_last, count, to_list, names_from, called, leads, begun_from}
use Rattle.meaning_refusing.specs.Looking.{declared_names, sentences_begun, elements_in, parting, sentence_in}
use Rattle.meaning_refusing.specs.Faults.{is_malformed, short_token}
use Rattle.meaning_refusing.proofs.Stages.{Stage, start, run, run-append, step}
use Rattle.meaning_refusing.proofs.Sums.{SentenceSum, Sum, no_sentence, add_name, add_item, grow, next, at_first, tally_from, tally}
use Rattle.meaning_refusing.proofs.Told.{last_is, last_more}
use Rattle.meaning_refusing.proofs.InPattern.{both-unit}

-- ONE TOKEN MORE

-- some token passes
unfoldable pub any_of : (Token → Bool) → List Placed → Bool
any_of f [] = false
any_of f (t ∷ ts) = either (f t.token) (any_of f ts)

any-more : (f : Token → Bool) (s : List Placed) (t : Placed) → any_of f (s ++ t ∷ []) ≡ pick (f t.token) true (any_of f s)
unfolding any_of
any-more f [] t = by (f t.token)
  where
    by : (q : Bool) → either q false ≡ pick q true false
    by true = refl
    by false = refl
any-more f (u ∷ s) t = ap (either (f u.token)) (any-more f s t) ∙ by (f u.token) (f t.token) (any_of f s)
  where
    by : (p q r : Bool) → either p (pick q true r) ≡ pick q true (either p r)
    by true true r = refl
    by true false r = refl
    by false true r = refl
    by false false r = refl

before_more : (f : Token → Bool) (s : List Placed) (t : Placed)
    → before_first f (s ++ t ∷ []) ≡ before_first f s ++ pick (not (either (any_of f s) (f t.token))) (t ∷ []) []
unfolding before_first any_of
before_more f [] t = by (f t.token)
  where
    by : (q : Bool) → pick q [] (t ∷ []) ≡ pick (not q) (t ∷ []) []
    by true = refl
    by false = refl
before_more f (u ∷ s) t = by (f u.token) (before_more f s t)
  where
    by : (q : Bool) → before_first f (s ++ t ∷ []) ≡ before_first f s ++ pick (not (either (any_of f s) (f t.token))) (t ∷ []) []
        → pick q [] (u ∷ before_first f (s ++ t ∷ []))
        ≡ pick q [] (u ∷ before_first f s) ++ pick (not (either (either q (any_of f s)) (f t.token))) (t ∷ []) []
    by true e = refl
    by false e = ap (λ z. u ∷ z) e

after_more : (f : Token → Bool) (s : List Placed) (t : Placed) → past_first f (s ++ t ∷ []) ≡ past_first f s ++ pick (any_of f s) (t ∷ []) []
unfolding past_first any_of
after_more f [] t = by (f t.token)
  where
    by : (q : Bool) → ◌≡◌ {A = List Placed} (pick q [] []) []
    by true = refl
    by false = refl
after_more f (u ∷ s) t = by (f u.token) (after_more f s t)
  where
    by : (q : Bool) → past_first f (s ++ t ∷ []) ≡ past_first f s ++ pick (any_of f s) (t ∷ []) []
        → pick q (s ++ t ∷ []) (past_first f (s ++ t ∷ [])) ≡ pick q s (past_first f s) ++ pick (either q (any_of f s)) (t ∷ []) []
    by true e = refl
    by false e = e

since-more : (so : List Placed) (f : Token → Bool) (s : List Placed) (t : Placed)
    → after_last so f (s ++ t ∷ []) ≡ pick (f t.token) [] (after_last so f s ++ t ∷ [])
unfolding after_last
since-more so f [] t = refl
since-more so f (u ∷ s) t = since-more (pick (f u.token) [] (so ++ u ∷ [])) f s t

-- counting one more where a test passes
one-counted : (q : Bool) → pick q 1 0 + 0 ≡ pick q 1 0
one-counted true = omega arith
one-counted false = omega arith

more-counted : (p q : Bool) (n : ℕ) → pick p 1 0 + pick q (suc n) n ≡ pick q (suc (pick p 1 0 + n)) (pick p 1 0 + n)
more-counted true true n = omega arith
more-counted true false n = omega arith
more-counted false true n = omega arith
more-counted false false n = omega arith

count-more : (f : Token → Bool) (s : List Placed) (t : Placed) → count f (s ++ t ∷ []) ≡ pick (f t.token) (suc (count f s)) (count f s)
unfolding count
count-more f [] t = one-counted (f t.token)
count-more f (u ∷ s) t = ap (λ z. pick (f u.token) 1 0 + z) (count-more f s t) ∙ more-counted (f u.token) (f t.token) (count f s)

begun_more : (led : Bool) (s : List Placed) (t : Placed)
    → begun_from led (s ++ t ∷ []) ≡ pick (both (last_is leads led s) (begins t.token)) (suc (begun_from led s)) (begun_from led s)
unfolding begun_from last_is
begun_more led [] t = one-counted (both led (begins t.token))
begun_more led (u ∷ s) t =
    ap (λ z. pick (both led (begins u.token)) 1 0 + z) (begun_more (leads u.token) s t)
    ∙ more-counted (both led (begins u.token)) (both (last_is leads (leads u.token) s) (begins t.token)) (begun_from (leads u.token) s)

add-item : (item : Item) (es : List Element) → es ++ elements_of item ≡ add_item item es
add-item (characters text) es = refl
add-item (symbol_item x) es = refl
add-item (part_item x) es = refl
add-item no_item es = append-nil es

elements-append : (s : List Placed) (t : Placed) → elements_in (s ++ t ∷ []) ≡ elements_in s ++ elements_of (item_of t.token)
unfolding elements_in
elements-append [] t = append-nil (elements_of (item_of t.token))
elements-append (u ∷ s) t =
    ap (λ z. elements_of (item_of u.token) ++ z) (elements-append s t)
    ∙ sym (append_assoc (elements_of (item_of u.token)) (elements_in s) (elements_of (item_of t.token)))

elements-more : (s : List Placed) (t : Placed) → elements_in (s ++ t ∷ []) ≡ add_item (item_of t.token) (elements_in s)
elements-more s t = elements-append s t ∙ add-item (item_of t.token) (elements_in s)

add-name : (q : Bool) (o : Option Name) (names : List Name) → names ++ pick q (to_list o) [] ≡ pick q (add_name o names) names
add-name true none names = append-nil names
add-name true (some n) names = refl
add-name false o names = append-nil names

names-append : (so : Bool → Bool) (q : Bool) (s : List Placed) (t : Placed)
    → names_from so q (s ++ t ∷ []) ≡ names_from so q s ++ pick (so (last_is (is_sign less_than) q s)) (to_list (name_of t.token)) []
unfolding names_from last_is
names-append so q [] t = append-nil (pick (so q) (to_list (name_of t.token)) [])
names-append so q (u ∷ s) t =
    let after = is_sign less_than u.token in
    ap (λ z. pick (so q) (to_list (name_of u.token)) [] ++ z) (names-append so after s t)
    ∙ sym (append_assoc (pick (so q) (to_list (name_of u.token)) []) (names_from so after s)
    (pick (so (last_is (is_sign less_than) after s)) (to_list (name_of t.token)) []))

names_more : (so : Bool → Bool) (s : List Placed) (t : Placed)
    → names_from so false (s ++ t ∷ [])
    ≡ pick (so (last_is (is_sign less_than) false s)) (add_name (name_of t.token) (names_from so false s)) (names_from so false s)
names_more so s t = names-append so false s t ∙ add-name (so (last_is (is_sign less_than) false s)) (name_of t.token) (names_from so false s)

every_more : (f : Placed → Bool) (s : List Placed) (t : Placed) → every f (s ++ t ∷ []) ≡ both (every f s) (f t)
unfolding every
every_more f s t = every_append f s (t ∷ []) ∙ ap (both (every f s)) (both-unit (f t))

-- A PART OF A SENTENCE THAT THE TOKEN BELONGS TO OR NOT

module _ (l : List Placed) (t : Placed) where
  abbrev grown : Bool → List Placed
  grown q = l ++ pick q (t ∷ []) []

  grown-elements : (q : Bool) → elements_in (grown q) ≡ pick q (add_item (item_of t.token) (elements_in l)) (elements_in l)
  grown-elements true = elements-more l t
  grown-elements false = ap elements_in (append-nil l)

  grown-called : (q : Bool) → called (grown q) ≡
      pick (both q (last_is (is_sign less_than) false l)) (add_name (name_of t.token) (called l)) (called l)
  grown-called true = names_more (λ after. after) l t
  grown-called false = ap called (append-nil l)

  grown-last : (q : Bool) → last_is (is_sign less_than) false (grown q) ≡ pick q (is_sign less_than t.token) (last_is (is_sign less_than) false l)
  grown-last true = last_more (is_sign less_than) false l t
  grown-last false = ap (last_is (is_sign less_than) false) (append-nil l)

  grown-count : (f : Token → Bool) (q : Bool) → count f (grown q) ≡ pick (both q (f t.token)) (suc (count f l)) (count f l)
  grown-count f true = count-more f l t
  grown-count f false = ap (count f) (append-nil l)

  grown-any : (f : Token → Bool) (q : Bool) → any_of f (grown q) ≡ pick (both q (f t.token)) true (any_of f l)
  grown-any f true = any-more f l t
  grown-any f false = ap (any_of f) (append-nil l)

  grown-before : (f : Token → Bool) (q : Bool)
      → before_first f (grown q) ≡ before_first f l ++ pick (both q (not (either (any_of f l) (f t.token)))) (t ∷ []) []
  grown-before f true = before_more f l t
  grown-before f false = ap (before_first f) (append-nil l) ∙ sym (append-nil (before_first f l))

  grown-after : (f : Token → Bool) (q : Bool) → past_first f (grown q) ≡ past_first f l ++ pick (both q (any_of f l)) (t ∷ []) []
  grown-after f true = after_more f l t
  grown-after f false = ap (past_first f) (append-nil l) ∙ sym (append-nil (past_first f l))

-- THE SENTENCE

-- what a sentence comes to
abbrev sentence_of : List Placed → SentenceSum
sentence_of s =
    record {
      any_comma = any_of (is_sign comma) (before_first (is_sign equals) s);
      any_equals = any_of (is_sign equals) s;
      pattern = elements_in (before_first (is_sign comma) (before_first (is_sign equals) s));
      commas = count (is_sign comma) (before_first (is_sign equals) s);
      middle = elements_in (past_first (is_sign comma) (before_first (is_sign equals) s));
      predicates = called (past_first (is_sign comma) (before_first (is_sign equals) s));
      middle_bracket = last_is (is_sign less_than) false (past_first (is_sign comma) (before_first (is_sign equals) s));
      items = elements_in (past_first (is_sign equals) s);
      calls = called (past_first (is_sign equals) s);
      right_bracket = last_is (is_sign less_than) false (past_first (is_sign equals) s);
      opens = count (is_sign less_than) (past_first (is_sign equals) s);
      closes = count (is_sign greater_than) (past_first (is_sign equals) s);
    }

either-pick : (a b : Bool) → pick b true a ≡ either a b
either-pick true true = refl
either-pick true false = refl
either-pick false true = refl
either-pick false false = refl

sentence-more : (s : List Placed) (t : Placed) → sentence_of (s ++ t ∷ []) ≡ grow (sentence_of s) t.token
sentence-more s t =
    let l = before_first (is_sign equals) s in
    let r = past_first (is_sign equals) s in
    let leftward = not (either (any_of (is_sign equals) s) (is_sign equals t.token)) in
    let middling = both leftward (any_of (is_sign comma) l) in
    rw (
      before_more (is_sign equals) s t,
      after_more (is_sign equals) s t,
      grown-before l t (is_sign comma) leftward,
      grown-after l t (is_sign comma) leftward,
      any-more (is_sign equals) s t,
      either-pick (any_of (is_sign equals) s) (is_sign equals t.token),
      grown-any l t (is_sign comma) leftward,
      grown-count l t (is_sign comma) leftward,
      grown-elements (before_first (is_sign comma) l) t (both leftward (not (either (any_of (is_sign comma) l) (is_sign comma t.token)))),
      grown-elements (past_first (is_sign comma) l) t middling,
      grown-called (past_first (is_sign comma) l) t middling,
      grown-last (past_first (is_sign comma) l) t middling,
      grown-elements r t (any_of (is_sign equals) s),
      grown-called r t (any_of (is_sign equals) s),
      grown-last r t (any_of (is_sign equals) s),
      grown-count r t (is_sign less_than) (any_of (is_sign equals) s),
      grown-count r t (is_sign greater_than) (any_of (is_sign equals) s),
    )

sentence-parted : (q : Bool) (s : List Placed) (t : Placed)
    → sentence_of (pick q [] (s ++ t ∷ [])) ≡ pick q no_sentence (grow (sentence_of s) t.token)
unfolding any_of before_first past_first count names_from last_is elements_in
sentence-parted true s t = refl
sentence-parted false s t = sentence-more s t

-- THE WHOLE

abbrev pub sum_of : List Placed → Sum
sum_of b =
    record {
      stage = run start b;
      formed = every (λ t. not (is_malformed t.token)) b;
      short = every (λ t. short_token t.token) b;
      names = declared_names b;
      begun = sentences_begun b;
      bracket = last_is (is_sign less_than) false b;
      led = last_is leads false b;
      sentence = sentence_of (sentence_in b);
    }

run-one : (s : Stage) (t : Placed) → run s (t ∷ []) ≡ step s t
unfolding run
run-one s t = refl

sum_more : (b : List Placed) (t : Placed) → sum_of (b ++ t ∷ []) ≡ next (sum_of b) t
sum_more b t =
    rw (
      run-append start b (t ∷ []),
      run-one (run start b) t,
      every_more (λ u. not (is_malformed u.token)) b t,
      every_more (λ u. short_token u.token) b t,
      names_more not b t,
      begun_more false b t,
      last_more (is_sign less_than) false b t,
      last_more leads false b t,
      since-more [] parting b t,
    )
    (λ i. record {
      stage = step (run start b) t;
      formed = both (every (λ u. not (is_malformed u.token)) b) (not (is_malformed t.token));
      short = both (every (λ u. short_token u.token) b) (short_token t.token);
      names = pick (not (last_is (is_sign less_than) false b)) (add_name (name_of t.token) (declared_names b)) (declared_names b);
      begun = pick (both (last_is leads false b) (begins t.token)) (suc (sentences_begun b)) (sentences_begun b);
      bracket = is_sign less_than t.token;
      led = leads t.token;
      sentence = sentence-parted (parting t.token) (sentence_in b) t i;
    })

tally-from : (b ts : List Placed) → tally_from (sum_of b) ts ≡ sum_of (b ++ ts)
unfolding tally_from
tally-from b [] = ap sum_of (sym (append-nil b))
tally-from b (t ∷ ts) = ap (λ m. tally_from m ts) (sym (sum_more b t)) ∙ (tally-from (b ++ t ∷ []) ts ∙ ap sum_of (append_assoc b (t ∷ []) ts))

sum_first : sum_of [] ≡ at_first
unfolding run every names_from begun_from last_is after_last any_of before_first past_first count elements_in
sum_first = refl

-- what tokens come to is what the definitions look at
pub tally-sum : (ts : List Placed) → tally ts ≡ sum_of ts
tally-sum ts = ap (λ m. tally_from m ts) (sym sum_first) ∙ tally-from [] ts
