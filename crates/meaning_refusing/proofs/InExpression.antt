-- The expression's reader, told by the tokens that it passes.
use Prim.Native.Nat.{ℕ, zero, suc, ◌+◌, ◌≤◌}
use mathlib.Core.Path.{◌≡◌, refl, sym, ap, ◌∙◌, subst}
use mathlib.Core.Bool.{Bool, true, false, not}
use mathlib.Core.List.{List, [], ◌∷◌, ◌++◌}
use mathlib.Core.Option.{Option, none, some}
use native.Mathlib.Omega.{arith}
use borrow.Author.Tests.{leb-true, le-leb, ltb-true, lt-ltb}
use lib.Dec.{leb, ltb}
use lib.ListN.{length, length-append}
use Rattle.meaning.specs.Choice.{Bytes, Name, pick, both, every, is_some}
use Rattle.meaning.specs.Names.{is_predicate}
use Rattle.meaning.specs.Answers.{over_limit, wrong_name, wrong_later_variable}
use Rattle.meaning.specs.Tree.{Element, letter, symbol, part, Expression, end, then_call}
use Rattle.meaning.specs.Allowed.{max_name, max_items, max_nesting, max_identifier, symbols_of, parts_of, member, coming_after, where_some}
use Rattle.meaning.specs.Tokens.{Token, function_name, sign, Placed, less_than, greater_than, is_sign, item_of, is_item}
use Rattle.meaning.specs.Grammar.{standing, characters_of}
use Rattle.meaning.specs.Reading.{Parsed, stopped, parsed, follow, where_faultless, whether, fault_unless, pass_name, Progress, Items, Called}
use Rattle.meaning.specs.Reading.{coming_or}
use Rattle.meaning.specs.Reading.{past_item, past_call, item_fault, call_fault, called_fault, then_item, with_first, parse_call, parse_expression}
use Rattle.meaning_accepting.proofs.Reading.Basics.{impossible, passed, both_left, both_right, both_true, TokenView, a_string, a_symbol, a_part}
use Rattle.meaning_accepting.proofs.Reading.Basics.{another}
use Rattle.meaning_accepting.proofs.Reading.Basics.{view, sign_of, standing-as}
use Rattle.meaning_accepting.proofs.Reading.Lists.{agree, every_append, both-comm}
use Rattle.meaning_accepting.proofs.Reading.PatternItems.{characters-same-parts, symbol-same-parts, part-adds}
use Rattle.meaning_accepting.proofs.Reading.Expressions.{argued, closing, closed}
use Rattle.meaning_refusing.specs.Faults.{Quota, coming_after_each}
use Rattle.meaning_refusing.proofs.Stages.{Stage, in_expression, at_called, going}
use Rattle.meaning_refusing.proofs.Sums.{Sum, next, number, item_limits, calls_right, symbols_right, parts_right}
use Rattle.meaning_refusing.proofs.Told.{At, Told, told-follow, told-done, told-cut, told-pass, told-check, told-refuse, told-name, sign-inner}
use Rattle.meaning_refusing.proofs.Told.{item-inner, trace-length, Fine, fine}
use Rattle.meaning_refusing.proofs.InPattern.{both-unit, Around, Patterned}
use Rattle.meaning_refusing.proofs.InConditions.{Middle, MiddleFits, Right, right_sentence, sentence_at, right_at, symbol-known, string-known}
use Rattle.meaning_refusing.proofs.InConditions.{symbols-part}

-- THE TESTS WITH A TOKEN MORE

where-some : (o : Option (List Name)) → o ≡ where_some o some
where-some none = refl
where-some (some a) = refl

where-step : (o : Option (List Name)) (xs : List Name) (x : Name)
    → ((later : List Name) → coming_after_each (xs ++ x ∷ []) later ≡ where_some (coming_after_each xs later) (coming_after x))
    → where_some o (coming_after_each (xs ++ x ∷ [])) ≡ where_some (where_some o (coming_after_each xs)) (coming_after x)
where-step none xs x go = refl
where-step (some later) xs x go = go later

coming-more : (xs : List Name) (x : Name) (of : List Name) → coming_after_each (xs ++ x ∷ []) of ≡
    where_some (coming_after_each xs of) (coming_after x)
unfolding coming_after_each
coming-more [] x of = sym (where-some (coming_after x of))
coming-more (y ∷ xs) x of = where-step (coming_after y of) xs x (coming-more xs x)

parts-string : (p es : List Element) (text : Bytes) → parts_right p (es ++ characters_of text) ≡ parts_right p es
unfolding parts_right
parts-string p es text = rw (characters-same-parts es text)

parts-symbol : (p es : List Element) (x : Name) → parts_right p (es ++ letter (symbol x) ∷ []) ≡ parts_right p es
unfolding parts_right
parts-symbol p es x = rw (symbol-same-parts es x)

parts-part : (p es : List Element) (x : Name) {coming : List Name} → coming_after_each (parts_of es) (parts_of p) ≡ some coming
    → parts_right p (es ++ part x ∷ []) ≡ is_some (coming_after x coming)
unfolding parts_right
parts-part p es x e = rw (part-adds es x, coming-more (parts_of es) x (parts_of p), e)

call_known : (names : List Name) (n : Name) → calls_right names ≡ true → calls_right (names ++ n ∷ []) ≡ not (is_predicate n)
unfolding calls_right every
call_known names n h = every_append (λ m. not (is_predicate m)) names (n ∷ []) ∙ rw h (both-unit (not (is_predicate n)))

some_or : (o : Option (List Name)) → is_some o ≡ true → o ≡ some (coming_or o)
some_or none e = impossible e
some_or (some coming) e = refl

characters-length : (text : Bytes) → length (characters_of text) ≡ length text
characters-length [] = refl
characters-length (c ∷ text) = ap suc (characters-length text)

-- how the expression's sums go with the reader's
pub record Tied (p : List Element) (r : Right) (depth : ℕ) (so : Progress) : Type 0 where
  pub items : so.items ≡ length r.items + r.opens
  pub depth_is : r.opens ≡ r.closes + depth
  pub coming : coming_after_each (parts_of r.items) (parts_of p) ≡ some so.coming

pub record RightFits (p : List Element) (r : Right) : Type 0 where
  pub limits : item_limits r.items r.opens r.closes ≡ true
  pub calls : calls_right r.calls ≡ true
  pub known : symbols_right p r.items ≡ true
  pub order : parts_right p r.items ≡ true

abbrev with_items : Right → List Element → Right
with_items r es = record { items = r.items ++ es; calls = r.calls; opens = r.opens; closes = r.closes }

abbrev with_bracket : Right → Right
with_bracket r = record { items = r.items; calls = r.calls; opens = suc r.opens; closes = r.closes }

abbrev with_call : Right → Name → Right
with_call r n = record { items = r.items; calls = r.calls ++ n ∷ []; opens = r.opens; closes = r.closes }

abbrev with_close : Right → Right
with_close r = record { items = r.items; calls = r.calls; opens = r.opens; closes = suc r.closes }

module _ (p : List Element) (r : Right) (f : RightFits p r) (depth : ℕ) (so : Progress) (tied : Tied p r depth so) where
  deep : leb r.opens (r.closes + max_nesting) ≡ true
  unfolding item_limits
  deep = both_right (leb (length r.items + r.opens) max_items) _ f.limits

  -- limits with more items
  more-limits : (es : List Element) (n : ℕ) → length es ≡ n → item_limits (r.items ++ es) r.opens r.closes ≡ leb (so.items + n) max_items
  unfolding item_limits
  more-limits es n e =
      let same : length (r.items ++ es) + r.opens ≡ so.items + n = omega (arith, length-append r.items es, tied.items) in
      rw (same, deep) (both-unit _)

  call-limits : item_limits r.items (suc r.opens) r.closes ≡ both (ltb depth max_nesting) (leb (so.items + 1) max_items)
  unfolding item_limits
  call-limits =
      let same : length r.items + suc r.opens ≡ so.items + 1 = omega (arith, tied.items) in
      let d = tied.depth_is in
      let nested : leb (suc r.opens) (r.closes + max_nesting) ≡ ltb depth max_nesting =
      agree _ _ (λ e. lt-ltb depth max_nesting (omega (arith, leb-true (suc r.opens) (r.closes + max_nesting) e)))
      (λ e. le-leb (suc r.opens) (r.closes + max_nesting) (omega (arith, ltb-true depth max_nesting e)))
      in
      rw (same, nested) (both-comm (leb (so.items + 1) max_items) (ltb depth max_nesting))

  close-limits : item_limits r.items r.opens (suc r.closes) ≡ true
  unfolding item_limits
  close-limits =
      both_true (both_left (leb (length r.items + r.opens) max_items) _ f.limits)
      (le-leb r.opens (suc r.closes + max_nesting) (omega (arith, leb-true r.opens (r.closes + max_nesting) deep)))

  bracket-fits : call_fault depth so ≡ 0 → RightFits p (with_bracket r)
  bracket-fits z =
      record {
        limits = call-limits ∙ (passed (both (ltb depth max_nesting) (leb (so.items + 1) max_items)) over_limit 0 (omega arith) z).0;
        calls = f.calls;
        known = f.known;
        order = f.order;
      }

  bracket-tied : Tied p (with_bracket r) (suc depth) (past_call so)
  bracket-tied =
      let t = tied.items in
      let d = tied.depth_is in
      record { items = omega arith; depth_is = omega arith; coming = tied.coming }

-- neither an item nor a call comes next
abbrev pub NoMore : List Placed → Type 0
NoMore [] = Unit {0}
NoMore (t ∷ ts) = (is_item (item_of t.token) ≡ false) × (is_sign less_than t.token ≡ false)

follow-check : {A B : Type 0} (n : ℕ) (t : Placed) (x : Parsed A) (k : A → List Placed → Parsed B) → follow (where_faultless n t x) k ≡
    where_faultless n t (follow x k)
follow-check zero t x k = refl
follow-check (suc n) t x k = refl

module _ (names : List Name) (begun : ℕ) (p : List Element) (any : Bool) (c : Middle) where
  abbrev here : Stage → Bool → Right → Sum
  here s bracket r = right_at names begun p any s bracket c r

  pub record ExpressionLeft (depth : ℕ) (v : Items) (b rest : List Placed) : Type 0 where
    pub so : Right
    pub fits : RightFits p so
    pub tied : Tied p so depth v.progress
    pub at : At (here (in_expression depth) false so) b rest
    pub ended : NoMore rest

  record CallLeft (depth : ℕ) (v : Called) (b rest : List Placed) : Type 0 where
    so : Right
    fits : RightFits p so
    tied : Tied p so depth v.progress
    at : At (here (in_expression depth) false so) b rest

  module _ (quota : Quota) (a : Around quota names begun) (h : Patterned p) (k : MiddleFits p c) where
    -- what tokens come to in the expression
    right-number : (s : Stage) (short bracket led inner : Bool) (r : Right) → going s ≡ true
        → number quota (sentence_at names begun p s short bracket led (right_sentence any p c r inner))
        ≡ fault_unless (both short (item_limits r.items r.opens r.closes)) over_limit
        (fault_unless (calls_right r.calls) wrong_name
        (fault_unless (both (symbols_right p r.items) (parts_right p r.items)) wrong_later_variable 0))
    right-number s short bracket led inner r g = rw (g, a.table, a.declared, h.limits, h.right, k.few, k.predicates, k.known)

    -- a token that adds nothing
    pub quiet : (s : Stage) (bracket : Bool) (r : Right) → going s ≡ true → RightFits p r → number quota (here s bracket r) ≡ 0
    quiet s bracket r g f = right-number s true bracket false bracket r g ∙ rw (f.limits, f.calls, f.known, f.order)

    module _ (depth : ℕ) (so : Progress) (r : Right) (f : RightFits p r) (tied : Tied p r depth so) where
      item-number : {token : Token} (place past : ℕ) → TokenView token → is_item (item_of token) ≡ true
          → number quota (next (here (in_expression depth) false r) (standing token place past)) ≡ item_fault (symbols_of p) so (item_of token)
      item-number place past (a_string text) i =
          right-number (in_expression depth) true false false false (with_items r (characters_of text)) refl
          ∙ rw (
            more-limits p r f depth so tied (characters_of text) (length text) (characters-length text),
            f.calls,
            string-known p r.items text,
            parts-string p r.items text,
            f.known,
            f.order,
          )
      item-number place past (a_symbol b x) i =
          right-number (in_expression depth) (leb (length (b ∷ x)) max_identifier) false false false (with_items r (letter (symbol (b ∷ x)) ∷ []))
          refl
          ∙ rw (
            more-limits p r f depth so tied (letter (symbol (b ∷ x)) ∷ []) 1 refl,
            f.calls,
            symbol-known p r.items (b ∷ x) f.known,
            parts-symbol p r.items (b ∷ x),
            f.order,
            both-unit (member (b ∷ x) (symbols_of p)),
          )
      item-number place past (a_part b x) i =
          right-number (in_expression depth) (leb (length (b ∷ x)) max_identifier) false false false (with_items r (part (b ∷ x) ∷ [])) refl
          ∙ rw (
            more-limits p r f depth so tied (part (b ∷ x) ∷ []) 1 refl,
            f.calls,
            symbols-part p r.items (b ∷ x),
            f.known,
            parts-part p r.items (b ∷ x) tied.coming,
          )
      item-number place past (another token n) i = impossible (rw n at i)

      item-next : {token : Token} (place past : ℕ) → TokenView token → is_item (item_of token) ≡ true
          → Fine quota (next (here (in_expression depth) false r) (standing token place past))
          → (r₁ : Right) × (next (here (in_expression depth) false r) (standing token place past) ≡ here (in_expression depth) false r₁)
          × RightFits p r₁ × Tied p r₁ depth (past_item (item_of token) so)
      item-next place past (a_string text) i g =
          let t = tied.items in (
            with_items r (characters_of text),
            refl,
            record { limits = g.items; calls = g.calls; known = g.symbols; order = g.parts },
            record {
              items = omega (arith, length-append r.items (characters_of text), characters-length text);
              depth_is = tied.depth_is;
              coming = rw (characters-same-parts r.items text) tied.coming;
            },
          )
      item-next place past (a_symbol b x) i g =
          let t = tied.items in (
            with_items r (letter (symbol (b ∷ x)) ∷ []),
            rw g.short,
            record { limits = g.items; calls = g.calls; known = g.symbols; order = g.parts },
            record {
              items = omega (arith, length-append r.items (letter (symbol (b ∷ x)) ∷ []));
              depth_is = tied.depth_is;
              coming = rw (symbol-same-parts r.items (b ∷ x)) tied.coming;
            },
          )
      item-next place past (a_part b x) i g =
          let t = tied.items in (
            with_items r (part (b ∷ x) ∷ []),
            rw g.short,
            record { limits = g.items; calls = g.calls; known = g.symbols; order = g.parts },
            record {
              items = omega (arith, length-append r.items (part (b ∷ x) ∷ []));
              depth_is = tied.depth_is;
              coming =
                  rw (part-adds r.items (b ∷ x), coming-more (parts_of r.items) (b ∷ x) (parts_of p), tied.coming)
                  (some_or (coming_after (b ∷ x) so.coming) (sym (parts-part p r.items (b ∷ x) tied.coming) ∙ g.parts));
            },
          )
      item-next place past (another token n) i g = impossible (rw n at i)

      bracket-number : (place past : ℕ)
          → number quota (next (here (in_expression depth) false r) (standing (sign less_than) place past)) ≡ call_fault depth so
      bracket-number place past =
          right-number (at_called depth) true true false true (with_bracket r) refl ∙ rw (call-limits p r f depth so tied, f.calls, f.known, f.order)

    -- the name after `<`
    called-number : (depth : ℕ) (r : Right) → RightFits p r → (n : Name) (place past : ℕ)
        → number quota (next (here (at_called depth) true r) (standing (function_name n) place past)) ≡ called_fault n
    called-number depth r f n place past =
        right-number (in_expression (suc depth)) (both (leb (length n) max_name) true) false false false (with_call r n) refl
        ∙ rw (
          f.limits,
          f.known,
          f.order,
          call_known r.calls n f.calls,
          both-unit (leb (length n) max_name),
          both-unit (leb (length n) max_name),
        )

    -- THE READERS

    told-first : (depth : ℕ) (first : Expression → Expression) (b ts : List Placed) (x : Parsed Items) → Told quota (ExpressionLeft depth) b ts x
        → Told quota (ExpressionLeft depth) b ts (with_first first x)
    told-first depth first b ts (stopped zero k) s = s
    told-first depth first b ts (stopped (suc n) k) s = s
    told-first depth first b ts (parsed v rest) s =
        let l = s.holds in
        record {
          used = s.used;
          trace = s.trace;
          holds = record { so = l.so; fits = l.fits; tied = l.tied; at = l.at; ended = l.ended };
        }

    abbrev TellsAt : ℕ → Type 0
    TellsAt bound =
        (depth : ℕ) (so : Progress) (r : Right) → RightFits p r → Tied p r depth so → (b ts : List Placed) → length ts ≤ bound
        → At (here (in_expression depth) false r) b ts → Told quota (ExpressionLeft depth) b ts (parse_expression bound (symbols_of p) depth so ts)

    close-told : (depth place : ℕ) (n : Name) (given : Items) (r : Right) → RightFits p r → Tied p r (suc depth) given.progress
        → (b ts : List Placed) → At (here (in_expression (suc depth)) false r) b ts → NoMore ts
        → Told quota (CallLeft depth) b ts (closing place n given ts)
    close-told depth place n given r f tied b [] at e = told-cut quota (CallLeft depth) at
    close-told depth place n given r f tied b (t ∷ ts) at e = by_sign (is_sign greater_than t.token) refl
      where
        by_sign : (q : Bool) → is_sign greater_than t.token ≡ q → Told quota (CallLeft depth) b (t ∷ ts) (whether q t (closed place n given ts))
        by_sign true q =
            let fits : RightFits p (with_close r) =
            record { limits = close-limits p r f (suc depth) given.progress tied; calls = f.calls; known = f.known; order = f.order }
            in
            let d = tied.depth_is in
            told-pass quota (CallLeft depth) (here (in_expression depth) false (with_close r)) b t ts (at ∙ rw (sign_of greater_than t.token q))
            (closed place n given ts) (sign-inner greater_than t.token q) (quiet (in_expression depth) false (with_close r) refl fits)
            (λ at₁.
            told-done quota (CallLeft depth) (record { place = place; name = n; argument = given.expression; progress = given.progress })
            (record {
              so = with_close r;
              fits = fits;
              tied = record { items = tied.items; depth_is = omega arith; coming = tied.coming };
              at = at₁;
            }))
        by_sign false q = told-refuse quota (CallLeft depth) (here (in_expression (suc depth)) false r) refl b t ts at (rw (e.0, e.1, q))

    inside-told : (bound : ℕ) → TellsAt bound → (depth : ℕ) (so : Progress) (r : Right) → RightFits p r → Tied p r (suc depth) (past_call so)
        → (b ts : List Placed) → length ts ≤ bound → At (here (at_called depth) true r) b ts
        → Told quota (CallLeft depth) b ts (pass_name called_fault ts (argued (parse_expression bound (symbols_of p)) depth so))
    inside-told bound tells depth so r f tied b ts l at =
        told-name quota (CallLeft depth) (here (at_called depth) true r) refl b called_fault ts
        (argued (parse_expression bound (symbols_of p)) depth so)
        at
        (λ t e. rw e) (called-number depth r f)
        (λ n place past b₁ us shorter z at₁.
        let named : Sum = next (here (at_called depth) true r) (standing (function_name n) place past) in
        let g = fine quota named (called-number depth r f n place past ∙ z) in
        let fits : RightFits p (with_call r n) = record { limits = f.limits; calls = g.calls; known = f.known; order = f.order } in
        told-follow quota (CallLeft depth) (ExpressionLeft (suc depth)) b₁ us (parse_expression bound (symbols_of p) (suc depth) (past_call so) us)
        (closing place n)
        (tells (suc depth) (past_call so) (with_call r n) fits
        (record { items = tied.items; depth_is = tied.depth_is; coming = tied.coming }) b₁ us (omega arith)
        (subst (λ w. At w b₁ us) {x = named} {y = here (in_expression (suc depth)) false (with_call r n)} (rw g.short) at₁))
        (λ given b₂ vs s l₁. close-told depth place n given l₁.so l₁.fits l₁.tied b₂ vs l₁.at l₁.ended))

    abbrev outside : ℕ → ℕ → Called → List Placed → Parsed Items
    outside bound depth v rest = with_first (then_call v.place v.name v.argument)
        (parse_expression bound (symbols_of p) depth v.progress rest)

    expression-step : (bound : ℕ) → TellsAt bound → (depth : ℕ) (so : Progress) (r : Right) → RightFits p r → Tied p r depth so
        → (b : List Placed) (t : Placed) (ts : List Placed) → length ts ≤ bound → At (here (in_expression depth) false r) b (t ∷ ts)
        → (i o : Bool) → is_item (item_of t.token) ≡ i → is_sign less_than t.token ≡ o
        → Told quota (ExpressionLeft depth) b (t ∷ ts)
        (pick i
        (where_faultless (item_fault (symbols_of p) so (item_of t.token)) t
        (with_first (then_item (item_of t.token)) (parse_expression bound (symbols_of p) depth (past_item (item_of t.token) so) ts)))
        (pick o (follow (parse_call (parse_expression bound (symbols_of p)) depth so t ts) (outside bound depth))
        (parsed (record { expression = end; progress = so }) (t ∷ ts))))
    expression-step bound tells depth so r f tied b t ts l at true o q s =
        let item = item_of t.token in
        let m = next (here (in_expression depth) false r) t in
        let value = item-number depth so r f tied t.place t.past (view t.token) q in
        told-check quota (ExpressionLeft depth) m b t ts at (item_fault (symbols_of p) so item)
        (with_first (then_item item) (parse_expression bound (symbols_of p) depth (past_item item so) ts)) (item-inner t.token q) value
        (λ z at₁.
        let (r₁, same, fits, tied₁) = item-next depth so r f tied t.place t.past (view t.token) q (fine quota m (value ∙ z)) in
        told-first depth (then_item item) (b ++ t ∷ []) ts (parse_expression bound (symbols_of p) depth (past_item item so) ts)
        (tells depth (past_item item so) r₁ fits tied₁ (b ++ t ∷ []) ts l (subst (λ w. At w (b ++ t ∷ []) ts) same at₁)))
    expression-step bound tells depth so r f tied b t ts l at false true q s =
        let m = here (in_expression depth) false r in
        let mark = standing-as t (sign_of less_than t.token s) in
        let inside = pass_name called_fault ts (argued (parse_expression bound (symbols_of p)) depth so) in
        subst (λ x. Told quota (ExpressionLeft depth) b (t ∷ ts) x) (sym (follow-check (call_fault depth so) t inside (outside bound depth)))
        (told-check quota (ExpressionLeft depth) (next m t) b t ts at (call_fault depth so) (follow inside (outside bound depth))
        (sign-inner less_than t.token s) (ap (λ w. number quota (next m w)) mark ∙ bracket-number depth so r f tied t.place t.past)
        (λ z at₁.
        told-follow quota (ExpressionLeft depth) (CallLeft depth) (b ++ t ∷ []) ts inside (outside bound depth)
        (inside-told bound tells depth so (with_bracket r) (bracket-fits p r f depth so tied z) (bracket-tied p r f depth so tied) (b ++ t ∷ []) ts l
        (subst (λ w. At (next m w) (b ++ t ∷ []) ts) mark at₁))
        (λ v b₁ us passes l₁.
        told-first depth (then_call v.place v.name v.argument) b₁ us (parse_expression bound (symbols_of p) depth v.progress us)
        (tells depth v.progress l₁.so l₁.fits l₁.tied b₁ us (omega (arith, trace-length quota passes)) l₁.at))))
    expression-step bound tells depth so r f tied b t ts l at false false q s =
        told-done quota (ExpressionLeft depth) (record { expression = end; progress = so })
        (record { so = r; fits = f; tied = tied; at = at; ended = (q, s) })

    pub expression-told : (bound : ℕ) → TellsAt bound
    unfolding parse_expression
    expression-told zero depth so r f tied b [] l at = told-cut quota (ExpressionLeft depth) at
    expression-told zero depth so r f tied b (t ∷ ts) l at = absurd (omega arith)
    expression-told (suc bound) depth so r f tied b [] l at = told-cut quota (ExpressionLeft depth) at
    expression-told (suc bound) depth so r f tied b (t ∷ ts) l at =
        expression-step bound (expression-told bound) depth so r f tied b t ts (omega arith) at (is_item (item_of t.token))
        (is_sign less_than t.token) refl refl
