-- The readers of a sentence and of a function's sentences, told by the tokens that they pass.
use Prim.Native.Nat.{ℕ, zero, suc, ◌+◌, ◌≤◌, ◌<◌}
use mathlib.Core.Path.{◌≡◌, refl, sym, ap, ◌∙◌}
use mathlib.Core.Bool.{Bool, true, false, not}
use mathlib.Core.List.{List, [], ◌∷◌, ◌++◌}
use native.Mathlib.Omega.{arith}
use borrow.Author.Tests.{leb-true, le-leb}
use lib.Dec.{leb}
use lib.ListN.{length}
use Rattle.meaning.specs.Choice.{Name, pick, both, either}
use Rattle.meaning.specs.Answers.{over_limit, wrong_name}
use Rattle.meaning.specs.Tree.{Element, Condition, Sentence}
use Rattle.meaning.specs.Allowed.{max_conditions, symbols_of, symbols_from, parts_of, letters_in, parted, distinct}
use Rattle.meaning.specs.Tokens.{Token, sign, Placed, right_brace, semicolon, comma, equals, is_sign, begins}
use Rattle.meaning.specs.Grammar.{standing}
use Rattle.meaning.specs.Reading.{stopped, parsed, follow, whether, fault_of, fault_unless, Items, parse_pattern, parse_conditions, parse_expression}
use Rattle.meaning.specs.Reading.{parse_sentence, after_semicolon, after_sentence, parse_sentences}
use Rattle.meaning.proofs.Laws.Choosing.{is_false}
use Rattle.meaning_accepting.proofs.Reading.Basics.{impossible, both_left, both_true, TokenView, a_string, a_symbol, a_part, another, view, sign_of}
use Rattle.meaning_accepting.proofs.Reading.Sentences.{start as progress, after_expression, after_equals, after_conditions, after_pattern}
use Rattle.meaning_accepting.proofs.Reading.Functions.{joined}
use Rattle.meaning_refusing.specs.Faults.{is_malformed, Quota, coming_after_each}
use Rattle.meaning_refusing.proofs.Stages.{Stage, after_function, opened, after_semicolon as past_semicolon, in_expression, failed, step, going}
use Rattle.meaning_refusing.proofs.Sums.{Sum, next, no_sentence, tally, number, table_limits, pattern_limits, declared_right, pattern_right}
use Rattle.meaning_refusing.proofs.Told.{Open, At, Told, told-follow, told-done, told-cut, told-stop, told-pass, told-fault, told-refuse}
use Rattle.meaning_refusing.proofs.Told.{refused-number, sign-inner}
use Rattle.meaning_refusing.proofs.InPattern.{both-unit, Around, Patterned, pattern_at, no-limits, no-predicates, no-calls, no_middle_lem}
use Rattle.meaning_refusing.proofs.InPattern.{no-symbols, no-parts, PatternLeft, pattern-told}
use Rattle.meaning_refusing.proofs.InConditions.{Middle, no_middle, no_right, right_at, waiting-pattern, ConditionsLeft, conditions-told}
use Rattle.meaning_refusing.proofs.InExpression.{Tied, RightFits, ExpressionLeft, quiet, expression-told}

pub lt-leb : (n m : ℕ) → m < n → leb n m ≡ false
lt-leb n m l = is_false (leb n m) (λ e. omega (arith, leb-true n m e))

pub both_false : (b : Bool) → both b false ≡ false
both_false true = refl
both_false false = refl

-- BETWEEN SENTENCES

abbrev pub table_at : Stage → Bool → List Name → ℕ → Sum
table_at s led names begun =
    record { stage = s; formed = true; short = true; names = names; begun = begun; bracket = false; led = led; sentence = no_sentence }

no-pattern : Patterned []
unfolding pattern_limits pattern_right symbols_from parts_of letters_in distinct parted
no-pattern = record { limits = refl; right = refl }

no-right : (p : List Element) → RightFits p no_right
no-right p = record { limits = no-limits; calls = no-calls; known = no-symbols p; order = no-parts p }

none-tied : (p : List Element) → Tied p no_right 0 (progress (parts_of p))
unfolding coming_after_each parts_of
none-tied p = record { items = refl; depth_is = refl; coming = refl }

-- a token that a sentence begins with leads on
begins-on : {token : Token} (place past : ℕ) → TokenView token → begins token ≡ true
    → (going (step opened (standing token place past)) ≡ true) × (is_malformed token ≡ false)
begins-on place past (a_string text) e = (refl, refl)
begins-on place past (a_symbol b x) e = (refl, refl)
begins-on place past (a_part b x) e = (refl, refl)
begins-on place past (another token n) e = by_sign (is_sign comma token) refl (is_sign equals token) refl (rw n at e)
  where
    by_sign : (x : Bool) → is_sign comma token ≡ x → (y : Bool) → is_sign equals token ≡ y → either x y ≡ true
        → (going (step opened (standing token place past)) ≡ true) × (is_malformed token ≡ false)
    by_sign true p y q e = (rw (n, p), rw (sign_of comma token p))
    by_sign false p true q e = (rw (n, p, q), rw (sign_of equals token q))
    by_sign false p false q e = impossible e

-- what can't begin a sentence
no-begin : {token : Token} (place past : ℕ) → TokenView token → begins token ≡ false → step opened (standing token place past) ≡ failed
no-begin place past (a_string text) e = impossible (sym e)
no-begin place past (a_symbol b x) e = impossible (sym e)
no-begin place past (a_part b x) e = impossible (sym e)
no-begin place past (another token n) e = by_sign (is_sign comma token) refl (is_sign equals token) refl (rw n at e)
  where
    by_sign : (x : Bool) → is_sign comma token ≡ x → (y : Bool) → is_sign equals token ≡ y → either x y ≡ false
        → step opened (standing token place past) ≡ failed
    by_sign true p y q e = impossible (sym e)
    by_sign false p true q e = impossible (sym e)
    by_sign false p false q e = rw (n, p, q)

begin-pattern : (names : List Name) (begun : ℕ) (t : Placed) → begins t.token ≡ true
    → next (table_at opened true names begun) t ≡ next (pattern_at names (suc begun) []) t
unfolding parts_of
begin-pattern names begun t e = rw e

closing : {names : List Name} {begun : ℕ} (t : Placed) → t.token ≡ sign right_brace
    → next (table_at past_semicolon true names begun) t ≡ table_at after_function false names begun
closing t e = rw e

semicolon-open : (names : List Name) (begun : ℕ) (t : Placed) → is_sign right_brace t.token ≡ false
    → next (table_at past_semicolon true names begun) t ≡ next (table_at opened true names begun) t
semicolon-open names begun t e = rw e

module _ (quota : Quota) where
  -- what a table comes to between sentences
  pub table-number : (s : Stage) (short led : Bool) (names : List Name) (begun : ℕ) → going s ≡ true
      → number quota
      (record { stage = s; formed = true; short = short; names = names; begun = begun; bracket = false; led = led; sentence = no_sentence })
      ≡ fault_unless (both short (table_limits quota names begun)) over_limit (fault_unless (declared_right names) wrong_name 0)
  table-number s short led names begun g =
      let p = no-pattern in
      rw (
        g,
        p.limits,
        p.right,
        no-limits,
        no-predicates,
        no-calls,
        no_middle_lem [],
        no-symbols [],
        no-parts [],
        both-unit (table_limits quota names begun),
        both-unit (declared_right names),
      )

  pub table-fine : (s : Stage) (led : Bool) (names : List Name) (begun : ℕ) → going s ≡ true → Around quota names begun
      → number quota (table_at s led names begun) ≡ 0
  table-fine s led names begun g a = table-number s true led names begun g ∙ rw (a.table, a.declared)

  pub over-limit : (m : Sum) → m.formed ≡ true → going m.stage ≡ true → table_limits quota m.names m.begun ≡ false
      → number quota m ≡ over_limit
  over-limit m f g l = rw (f, g, l, both_false m.short)

  -- ONE SENTENCE

  -- after a sentence, as far as the next token shows
  record EndingAt (names : List Name) (begun : ℕ) (b : List Placed) (t : Placed) : Type 0 where
    on-brace : is_sign right_brace t.token ≡ true → tally (b ++ t ∷ []) ≡ table_at after_function false names begun
    on-semicolon : is_sign semicolon t.token ≡ true → tally (b ++ t ∷ []) ≡ table_at past_semicolon true names begun
    on-other : is_sign right_brace t.token ≡ false → is_sign semicolon t.token ≡ false → number quota (tally (b ++ t ∷ [])) ≡ fault_of t.token

  abbrev Ending : List Name → ℕ → List Placed → List Placed → Type 0
  Ending names begun b [] = Open b
  Ending names begun b (t ∷ ts) = EndingAt names begun b t

  module _ (names : List Name) (begun : ℕ) (a : Around quota names begun) where
    abbrev SentenceLeft : Sentence → List Placed → List Placed → Type 0
    SentenceLeft s b rest = Ending names begun b rest

    ending : (p : List Element) (c : Middle) (any : Bool) (v : Items) (b rest : List Placed)
        → ExpressionLeft names begun p any c 0 v b rest → Ending names begun b rest
    ending p c any v b [] l = l.at
    ending p c any v b (t ∷ ts) l =
        let e = l.ended in
        let m = right_at names begun p any (in_expression 0) false c l.so in
        record {
          on-brace = λ q. l.at ∙ rw (sign_of right_brace t.token q);
          on-semicolon = λ q. l.at ∙ rw (sign_of semicolon t.token q);
          on-other = λ q r. ap (number quota) l.at ∙ refused-number quota m t refl (rw (e.0, e.1, q, r));
        }

    equals-told : (p : List Element) (h : Patterned p) (cs : List Condition) (b ts : List Placed) → ConditionsLeft names begun p quota cs b ts
        → Told quota SentenceLeft b ts (after_conditions p cs ts)
    equals-told p h cs b [] l = told-cut quota SentenceLeft l.here
    equals-told p h cs b (t ∷ ts) l = by_sign (is_sign equals t.token) refl
      where
        by_sign : (q : Bool) → is_sign equals t.token ≡ q → Told quota SentenceLeft b (t ∷ ts) (whether q t (after_equals p cs ts))
        by_sign true q =
            let (any, e) = l.here.on-equals q in
            let f = no-right p in
            told-pass quota SentenceLeft (right_at names begun p any (in_expression 0) false l.so no_right) b t ts e
            (after_equals p cs ts) (sign-inner equals t.token q)
            (quiet names begun p any l.so quota a h l.fits (in_expression 0) false no_right refl f)
            (λ at.
            told-follow quota SentenceLeft (ExpressionLeft names begun p any l.so 0) (b ++ t ∷ []) ts
            (parse_expression (length ts) (symbols_of p) 0 (progress (parts_of p)) ts) (after_expression p cs)
            (expression-told names begun p any l.so quota a h l.fits (length ts) 0 (progress (parts_of p)) no_right f (none-tied p)
            (b ++ t ∷ []) ts (omega arith) at)
            (λ v b₁ us r l₁.
            told-done quota SentenceLeft {b = b₁} {ts = us} (record { pattern = p; conditions = cs; expression = v.expression })
            (ending p l.so any v b₁ us l₁)))
        by_sign false q = told-fault quota SentenceLeft (tally (b ++ t ∷ [])) b t ts refl (l.here.on-other l.ended q)

    sentence-told : (b ts : List Placed) → At (pattern_at names begun []) b ts → Told quota SentenceLeft b ts (parse_sentence ts)
    unfolding parse_sentence
    sentence-told b ts at =
        told-follow quota SentenceLeft (PatternLeft names begun) b ts (parse_pattern [] ts) after_pattern
        (pattern-told quota names begun a [] no-pattern b ts at)
        (λ p b₁ us r l.
        told-follow quota SentenceLeft (ConditionsLeft names begun p quota) b₁ us (parse_conditions max_conditions (symbols_of p) (parts_of p) us)
        (after_conditions p)
        (conditions-told names begun p quota a l.fits max_conditions no_middle refl
        (record { few = refl; predicates = no-predicates; known = no_middle_lem p }) b₁ us
        (waiting-pattern names begun p quota a l.fits b₁ us l.here l.ended))
        (λ cs b₂ vs r₁ l₁. equals-told p l.fits cs b₂ vs l₁))

  -- THE SENTENCES OF A FUNCTION

  too-many-sentences : (names : List Name) (begun : ℕ) → leb begun quota.sentences ≡ false → table_limits quota names begun ≡ false
  unfolding table_limits
  too-many-sentences names begun e = rw e (both_false (leb (length names) quota.functions))

  -- the first token of a sentence too many
  over-number : (names : List Name) (begun : ℕ) (t : Placed) → begins t.token ≡ true → leb (suc begun) quota.sentences ≡ false
      → number quota (next (table_at opened true names begun) t) ≡ over_limit
  over-number names begun t e f =
      let o = begins-on t.place t.past (view t.token) e in
      over-limit (next (table_at opened true names begun) t) (ap not o.1) o.0 (rw e (too-many-sentences _ (suc begun) f))

  around-more : (names : List Name) (begun : ℕ) → Around quota names begun → suc begun ≤ quota.sentences → Around quota names (suc begun)
  unfolding table_limits
  around-more names begun a l =
      record {
        table = both_true (both_left (leb (length names) quota.functions) _ a.table) (le-leb (suc begun) quota.sentences l);
        declared = a.declared;
      }

  -- what the reader of a function's sentences leaves
  pub record SentencesLeft (names : List Name) (begun left : ℕ) (ss : List Sentence) (b rest : List Placed) : Type 0 where
    pub begun₁ : ℕ
    pub counted : begun₁ ≡ begun + length ss
    pub few : length ss ≤ left
    pub around : Around quota names begun₁
    pub here : At (table_at after_function false names begun₁) b rest

  abbrev TellsSentences : ℕ → Type 0
  TellsSentences left =
      (names : List Name) (begun : ℕ) → Around quota names begun → begun + left ≡ quota.sentences → (b ts : List Placed)
      → At (table_at opened true names begun) b ts → Told quota (SentencesLeft names begun left) b ts (parse_sentences left ts)

  module _ (left : ℕ) (tells : TellsSentences left) (names : List Name) (begun : ℕ) (a : Around quota names (suc begun))
      (l : begun + suc left ≡ quota.sentences) (s : Sentence)
    where
      abbrev reads : List Sentence → List Placed → List Placed → Type 0
      reads = SentencesLeft names begun (suc left)

      brace-told : (b : List Placed) (t : Placed) (ts : List Placed) → is_sign right_brace t.token ≡ true
          → tally (b ++ t ∷ []) ≡ table_at after_function false names (suc begun) → Told quota reads b (t ∷ ts) (parsed (s ∷ []) ts)
      brace-told b t ts q e =
          told-pass quota reads (table_at after_function false names (suc begun)) b t ts e (parsed (s ∷ []) ts) (sign-inner right_brace t.token q)
          (table-fine after_function false names (suc begun) refl a)
          (λ at.
          told-done quota reads {b = b ++ t ∷ []} {ts = ts} (s ∷ [])
          (record { begun₁ = suc begun; counted = omega arith; few = omega arith; around = a; here = at }))

      semicolon-told : (b ts : List Placed) → At (table_at past_semicolon true names (suc begun)) b ts
          → Told quota reads b ts (after_semicolon (parse_sentences left) s ts)
      semicolon-told b [] at = told-cut quota reads at
      semicolon-told b (t ∷ ts) at = by_sign (is_sign right_brace t.token) refl
        where
          by_sign : (q : Bool) → is_sign right_brace t.token ≡ q
              → Told quota reads b (t ∷ ts) (pick q (parsed (s ∷ []) ts) (follow (parse_sentences left (t ∷ ts)) (joined s)))
          by_sign true q = brace-told b t ts q (at ∙ closing t (sign_of right_brace t.token q))
          by_sign false q =
              told-follow quota reads (SentencesLeft names (suc begun) left) b (t ∷ ts) (parse_sentences left (t ∷ ts)) (joined s)
              (tells names (suc begun) a (omega arith) b (t ∷ ts) (at ∙ semicolon-open names (suc begun) t q))
              (λ ss b₁ us r l₁.
              let n = l₁.counted in
              let f = l₁.few in
              told-done quota reads {b = b₁} {ts = us} (s ∷ ss)
              (record { begun₁ = l₁.begun₁; counted = omega arith; few = omega arith; around = l₁.around; here = l₁.here }))

      sentence-after : (b ts : List Placed) → Ending names (suc begun) b ts → Told quota reads b ts (after_sentence (parse_sentences left) s ts)
      sentence-after b [] w = told-cut quota reads w
      sentence-after b (t ∷ ts) w = by_sign (is_sign right_brace t.token) refl (is_sign semicolon t.token) refl
        where
          by_sign : (q : Bool) → is_sign right_brace t.token ≡ q → (r : Bool) → is_sign semicolon t.token ≡ r
              → Told quota reads b (t ∷ ts) (pick q (parsed (s ∷ []) ts) (whether r t (after_semicolon (parse_sentences left) s ts)))
          by_sign true q r o = brace-told b t ts q (w.on-brace q)
          by_sign false q true o =
              told-pass quota reads (table_at past_semicolon true names (suc begun)) b t ts (w.on-semicolon o)
              (after_semicolon (parse_sentences left) s ts)
              (sign-inner semicolon t.token o) (table-fine past_semicolon true names (suc begun) refl a)
              (λ at. semicolon-told (b ++ t ∷ []) ts at)
          by_sign false q false o = told-fault quota reads (tally (b ++ t ∷ [])) b t ts refl (w.on-other q o)

  pub sentences-told : (left : ℕ) → TellsSentences left
  unfolding parse_sentences
  sentences-told zero names begun a l b [] at = told-cut quota (SentencesLeft names begun 0) at
  sentences-told zero names begun a l b (t ∷ ts) at = by-begin (begins t.token) refl
    where
      by-begin : (q : Bool) → begins t.token ≡ q → Told quota (SentencesLeft names begun 0) b (t ∷ ts) (whether q t (stopped over_limit t.place))
      by-begin true q =
          told-stop quota (SentencesLeft names begun 0) (next (table_at opened true names begun) t) b t ts at _
          (over-number names begun t q (lt-leb (suc begun) quota.sentences (omega arith)))
      by-begin false q =
          told-refuse quota (SentencesLeft names begun 0) (table_at opened true names begun) refl b t ts at
          (no-begin t.place t.past (view t.token) q)
  sentences-told (suc left) names begun a l b [] at = told-cut quota (SentencesLeft names begun (suc left)) at
  sentences-told (suc left) names begun a l b (t ∷ ts) at = by-begin (sentences-told left) (begins t.token) refl
    where
      by-begin : TellsSentences left → (q : Bool) → begins t.token ≡ q
          → Told quota (SentencesLeft names begun (suc left)) b (t ∷ ts)
          (whether q t (follow (parse_sentence (t ∷ ts)) (after_sentence (parse_sentences left))))
      by-begin tells true q =
          let more = around-more names begun a (omega arith) in
          told-follow quota (SentencesLeft names begun (suc left)) (SentenceLeft names (suc begun) more) b (t ∷ ts)
          (parse_sentence (t ∷ ts)) (after_sentence (parse_sentences left))
          (sentence-told names (suc begun) more b (t ∷ ts) (at ∙ begin-pattern names begun t q))
          (λ s b₁ us r w. sentence-after left tells names begun more l s b₁ us w)
      by-begin tells false q =
          told-refuse quota (SentencesLeft names begun (suc left)) (table_at opened true names begun) refl b t ts at
          (no-begin t.place t.past (view t.token) q)
