-- The pattern's reader, told by the tokens that it passes.
use Prim.Native.Nat.{ℕ, suc, ◌+◌}
use mathlib.Core.Path.{◌≡◌, refl, sym, ◌∙◌, subst}
use mathlib.Core.Bool.{Bool, true, false, not}
use mathlib.Core.List.{List, [], ◌∷◌, ◌++◌}
use native.Mathlib.Numerals.{add-one}
use lib.Dec.{leb, ltb}
use lib.ListN.{length}
use Rattle.meaning.specs.Choice.{Bytes, Name, pick, both, every}
use Rattle.meaning.specs.Tree.{Element, letter, symbol, part}
use Rattle.meaning.specs.Allowed.{max_letters, max_symbols, symbols_of, symbols_from, parts_of, letters_in, parted, distinct, member, added}
use Rattle.meaning.specs.Tokens.{Token, Placed, item_of, is_item}
use Rattle.meaning.specs.Grammar.{standing, characters_of, elements_of}
use Rattle.meaning.specs.Reading.{Parsed, parsed, where_faultless, pattern_fault, parse_pattern, ends_in_part}
use Rattle.meaning_accepting.proofs.Reading.Basics.{impossible, both_left, both_right, TokenView, a_string, a_symbol, a_part, another, view}
use Rattle.meaning_accepting.proofs.Reading.Lists.{agree}
use Rattle.meaning_accepting.proofs.Reading.PatternFacts.{parted-letter, parted-part, parted-characters}
use Rattle.meaning_accepting.proofs.Reading.PatternItems.{characters-same-parts, characters-same-symbols, characters-more-letters, symbol-same-parts}
use Rattle.meaning_accepting.proofs.Reading.PatternItems.{symbol-adds, symbol-more-letters, part-same-symbols, part-same-letters, part-different}
use Rattle.meaning_accepting.proofs.Reading.PatternItems.{part_length, added-different, added-before}
use Rattle.meaning_refusing.specs.Faults.{Quota, coming_after_each}
use Rattle.meaning_refusing.proofs.Stages.{in_pattern, failed, going}
use Rattle.meaning_refusing.proofs.Sums.{SentenceSum, Sum, next, number, table_limits, pattern_limits, item_limits, declared_right}
use Rattle.meaning_refusing.proofs.Sums.{predicates_right, calls_right, pattern_right, symbols_right, parts_known, middle_right, parts_right}
use Rattle.meaning_refusing.proofs.Told.{Told, told-check, told-done, told-cut, item-inner, At, Fine, fine}

pub both-unit : (b : Bool) → both b true ≡ b
both-unit true = refl
both-unit false = refl

-- THE TESTS OF NOTHING

pub no-limits : item_limits [] 0 0 ≡ true
unfolding item_limits
no-limits = refl

pub no-predicates : predicates_right [] ≡ true
unfolding predicates_right every
no-predicates = refl

pub no-calls : calls_right [] ≡ true
unfolding calls_right every
no-calls = refl

pub no-symbols : (p : List Element) → symbols_right p [] ≡ true
unfolding symbols_right symbols_from every
no-symbols p = refl

pub no_middle_lem : (p : List Element) → middle_right p [] ≡ true
unfolding middle_right symbols_right parts_known symbols_from parts_of every
no_middle_lem p = refl

pub no-parts : (p : List Element) → parts_right p [] ≡ true
unfolding parts_right parts_of coming_after_each
no-parts p = refl

-- THE TESTS OF A PATTERN WITH AN ITEM MORE

pub record Patterned (p : List Element) : Type 0 where
  pub limits : pattern_limits p ≡ true
  pub right : pattern_right p ≡ true

module _ (p : List Element) (h : Patterned p) where
  own-symbols : leb (length (symbols_of p)) max_symbols ≡ true
  unfolding pattern_limits
  own-symbols = both_right (leb (letters_in p) max_letters) _ h.limits

  own-distinct : distinct (symbols_of p ++ parts_of p) ≡ true
  unfolding pattern_right
  own-distinct = both_left (distinct (symbols_of p ++ parts_of p)) _ h.right

  own-parted : parted p ≡ true
  unfolding pattern_right
  own-parted = both_right (distinct (symbols_of p ++ parts_of p)) _ h.right

  string-limits : (text : Bytes) → pattern_limits (p ++ characters_of text) ≡ leb (letters_in p + length text) max_letters
  unfolding pattern_limits
  string-limits text = rw (characters-more-letters p text, characters-same-symbols p text, own-symbols) (both-unit _)

  string-right : (text : Bytes) → pattern_right (p ++ characters_of text) ≡ true
  unfolding pattern_right
  string-right text = rw (characters-same-symbols p text, characters-same-parts p text, parted-characters p text) h.right

  symbol-limits : (x : Name) → pattern_limits (p ++ letter (symbol x) ∷ [])
      ≡ both (leb (letters_in p + 1) max_letters) (leb (length (added x (symbols_of p))) max_symbols)
  unfolding pattern_limits
  symbol-limits x = rw (symbol-more-letters p x, symbol-adds p x)

  symbol-right : (x : Name) → pattern_right (p ++ letter (symbol x) ∷ []) ≡ not (member x (parts_of p))
  unfolding pattern_right
  symbol-right x =
      rw (symbol-adds p x, symbol-same-parts p x, parted-letter p (symbol x), own-parted)
      (both-unit _
      ∙ agree _ _ (λ e. (added-before (member x (symbols_of p)) x (symbols_of p) (parts_of p) refl e).1)
      (λ e. added-different (member x (symbols_of p)) x (symbols_of p) (parts_of p) refl own-distinct e))

  part-limits : (x : Name) → pattern_limits (p ++ part x ∷ []) ≡ true
  unfolding pattern_limits
  part-limits x = rw (part-same-letters p x, part-same-symbols p x) h.limits

  part_right : (x : Name) → pattern_right (p ++ part x ∷ []) ≡ both (not (member x (symbols_of p ++ parts_of p))) (not (ends_in_part p))
  unfolding pattern_right
  part_right x = rw (part-different p x, parted-part p x, own-distinct, own-parted)

going-pick : (b : Bool) (n : ℕ) → going (pick b (in_pattern n) failed) ≡ b
going-pick true n = refl
going-pick false n = refl

-- SUMS

abbrev pub pattern_sentence : List Element → SentenceSum
pattern_sentence p =
    record {
      any_comma = false;
      any_equals = false;
      pattern = p;
      commas = 0;
      middle = [];
      predicates = [];
      middle_bracket = false;
      items = [];
      calls = [];
      right_bracket = false;
      opens = 0;
      closes = 0;
    }

abbrev pub pattern_at : List Name → ℕ → List Element → Sum
pattern_at names begun p =
    record {
      stage = in_pattern (length (parts_of p));
      formed = true;
      short = true;
      names = names;
      begun = begun;
      bracket = false;
      led = false;
      sentence = pattern_sentence p;
    }

-- the next token is no item
abbrev pub NoItemNext : List Placed → Type 0
NoItemNext [] = Unit {0}
NoItemNext (t ∷ ts) = is_item (item_of t.token) ≡ false

-- what a pattern's reader leaves
pub record PatternLeft (names : List Name) (begun : ℕ) (p : List Element) (b rest : List Placed) : Type 0 where
  pub fits : Patterned p
  pub here : At (pattern_at names begun p) b rest
  pub ended : NoItemNext rest

module _ (quota : Quota) where
  -- what holds of a table's names and sentences so far
  pub record Around (names : List Name) (begun : ℕ) : Type 0 where
    pub table : table_limits quota names begun ≡ true
    pub declared : declared_right names ≡ true

  module _ (names : List Name) (begun : ℕ) (a : Around names begun) where
    module _ (p : List Element) (h : Patterned p) where
      -- the fault of an item is what the tokens up to it come to
      item-number : {token : Token} (place past : ℕ) → TokenView token → is_item (item_of token) ≡ true
          → number quota (next (pattern_at names begun p) (standing token place past)) ≡ pattern_fault p (item_of token)
      item-number place past (a_string text) i =
          rw (a.table, a.declared, string-limits p h text, string-right p h text)
          (rw (no-limits, no-predicates, no-calls, no_middle_lem, no-symbols, no-parts, both-unit))
      item-number place past (a_symbol b x) i =
          rw (a.table, a.declared, symbol-limits p h (b ∷ x), symbol-right p h (b ∷ x))
          (rw (no-limits, no-predicates, no-calls, no_middle_lem, no-symbols, no-parts, both-unit))
      item-number place past (a_part b x) i =
          rw (a.table, a.declared, part-limits p h (b ∷ x), part_right p h (b ∷ x))
          (rw (no-limits, no-predicates, no-calls, no_middle_lem, no-symbols, no-parts, both-unit, going-pick))
      item-number place past (another token n) i = impossible (rw n at i)

      item-next : {token : Token} (place past : ℕ) → TokenView token → is_item (item_of token) ≡ true
          → Fine quota (next (pattern_at names begun p) (standing token place past))
          → (next (pattern_at names begun p) (standing token place past) ≡ pattern_at names begun (p ++ elements_of (item_of token)))
          × Patterned (p ++ elements_of (item_of token))
      item-next place past (a_string text) i f = (rw (characters-same-parts p text), record { limits = f.pattern; right = f.elements })
      item-next place past (a_symbol b x) i f = (rw (symbol-same-parts p (b ∷ x), f.short), record { limits = f.pattern; right = f.elements })
      item-next place past (a_part b x) i f = (
        rw (
          part_length p (b ∷ x),
          add-one (length (parts_of p)),
          f.short,
          sym (going-pick (ltb (length (parts_of p)) 2) (suc (length (parts_of p)))) ∙ f.going,
        ),
        record { limits = f.pattern; right = f.elements },
      )
      item-next place past (another token n) i f = impossible (rw n at i)

    pattern-step : (p : List Element) → Patterned p → (b : List Placed) (t : Placed) (ts : List Placed) (q : Bool) (later : Parsed (List Element))
        → is_item (item_of t.token) ≡ q → At (pattern_at names begun p) b (t ∷ ts)
        → (Patterned (p ++ elements_of (item_of t.token)) → At (pattern_at names begun (p ++ elements_of (item_of t.token))) (b ++ t ∷ []) ts
        → Told quota (PatternLeft names begun) (b ++ t ∷ []) ts later)
        → Told quota (PatternLeft names begun) b (t ∷ ts) (pick q (where_faultless (pattern_fault p (item_of t.token)) t later) (parsed p (t ∷ ts)))
    pattern-step p h b t ts true later i here go =
        let m = pattern_at names begun p in
        let seen = view t.token in
        let same = item-number p h t.place t.past seen i in
        told-check quota (PatternLeft names begun) (next m t) b t ts here (pattern_fault p (item_of t.token)) later (item-inner t.token i) same
        (λ z at.
        let (more, fits) = item-next p h t.place t.past seen i (fine quota (next m t) (same ∙ z)) in
        go fits (subst (λ n. At n (b ++ t ∷ []) ts) more at))
    pattern-step p h b t ts false later i here go = told-done quota (PatternLeft names begun) p (record { fits = h; here = here; ended = i })

    pub pattern-told : (p : List Element) → Patterned p → (b ts : List Placed) → At (pattern_at names begun p) b ts
        → Told quota (PatternLeft names begun) b ts (parse_pattern p ts)
    unfolding parse_pattern
    pattern-told p h b [] here = told-cut quota (PatternLeft names begun) here
    pattern-told p h b (t ∷ ts) here =
        pattern-step p h b t ts (is_item (item_of t.token)) (parse_pattern (p ++ elements_of (item_of t.token)) ts) refl here
        (λ g at. pattern-told (p ++ elements_of (item_of t.token)) g (b ++ t ∷ []) ts at)
