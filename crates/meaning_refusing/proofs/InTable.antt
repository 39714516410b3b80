-- The reader of a table's functions, told by the tokens that it passes.
use Prim.Native.Nat.{ℕ, zero, suc, ◌+◌, ◌-◌, ◌≤◌}
use mathlib.Core.Path.{◌≡◌, refl, sym, ap, ◌∙◌, subst}
use mathlib.Core.Bool.{Bool, true, false, not}
use mathlib.Core.List.{List, [], ◌∷◌, ◌++◌}
use mathlib.Core.Option.{Option, none, some}
use native.Mathlib.Omega.{arith}
use borrow.Author.Tests.{le-leb}
use lib.Dec.{leb}
use lib.ListN.{length, length-append}
use Rattle.meaning.specs.Choice.{Name, pick, both, every}
use Rattle.meaning.specs.Names.{is_reserved}
use Rattle.meaning.specs.Answers.{over_limit, wrong_name}
use Rattle.meaning.specs.Tree.{Function, Table}
use Rattle.meaning.specs.Allowed.{max_name, distinct, member, names_of}
use Rattle.meaning.specs.Tokens.{Placed, is_last_token, left_brace, semicolon, is_sign, is_text_end, name_of}
use Rattle.meaning.specs.Reading.{Parsed, parsed, cut_short, follow, where_faultless, fault_of, name_on, parse_sentences, pass_spare, declared_fault}
use Rattle.meaning.specs.Reading.{parse_function, parse_functions}
use Rattle.meaning_accepting.proofs.Reading.Basics.{impossible, passed, both_left, both_right, both_true, sign_of, name-of}
use Rattle.meaning_accepting.proofs.Reading.Lists.{every_append, distinct-after, both-comm}
use Rattle.meaning_accepting.proofs.Reading.Tables.{declared, after_brace, after_name, after_function as going_on, names-append}
use Rattle.meaning_accepting.proofs.Reading.Lexing.{ended}
use Rattle.meaning_accepting.proofs.Reading.Sound.{is_nil}
use Rattle.meaning_refusing.specs.Faults.{Quota}
use Rattle.meaning_refusing.proofs.Stages.{end_of, start, after_function, named, opened, finished}
use Rattle.meaning_refusing.proofs.Sums.{Sum, no_sentence, tally_from, tally, number, table_limits, declared_right}
use Rattle.meaning_refusing.proofs.Told.{last_is, Open, At, at-tally, Trace, stay, go, Told, told-follow, told-done, told-cut, told-stop}
use Rattle.meaning_refusing.proofs.Told.{told-pass, told-fault, told-sign, refused-number, sign-inner, name-inner}
use Rattle.meaning_refusing.proofs.InPattern.{both-unit, Around}
use Rattle.meaning_refusing.proofs.InSentences.{lt-leb, both_false, table_at, table-number, table-fine, over-limit, SentencesLeft}
use Rattle.meaning_refusing.proofs.InSentences.{sentences-told}

-- NOTHING COMES AFTER THE LAST TOKEN

abbrev pub Closed : List Placed → Type 0
Closed [] = Unit {0}
Closed (t ∷ ts) = ended (t ∷ ts) ≡ true

is-nil : (ts : List Placed) → is_nil ts ≡ true → ts ≡ []
is-nil [] e = refl
is-nil (t ∷ ts) e = impossible e

pub ended-closed : (ts : List Placed) → ended ts ≡ true → Closed ts
ended-closed [] e = tt
ended-closed (t ∷ ts) e = e

closed-tail : (t : Placed) (ts : List Placed) → Closed (t ∷ ts) → Closed ts
unfolding ended
closed-tail t ts e = by_last (is_last_token t.token) e
  where
    by_last : (q : Bool) → pick q (is_nil ts) (ended ts) ≡ true → Closed ts
    by_last true e = subst Closed (sym (is-nil ts e)) tt
    by_last false e = ended-closed ts e

last_one : (t : Placed) (ts : List Placed) → Closed (t ∷ ts) → is_text_end t.token ≡ true → ts ≡ []
unfolding ended
last_one t ts c e = is-nil ts (rw (end_of t.token e) at c)

-- ONE FUNCTION

declared-more : (names : List Name) (n : Name) → declared_right names ≡ true
    → declared_right (names ++ n ∷ []) ≡ both (not (is_reserved n)) (not (member n names))
unfolding declared_right every
declared-more names n h =
    rw (
      distinct-after n names,
      every_append (λ m. not (is_reserved m)) names (n ∷ []),
      both_left (distinct names) _ h,
      both_right (distinct names) _ h,
      both-unit (not (is_reserved n)),
    )
    (both-comm (not (member n names)) (not (is_reserved n)))

names-length : (t : Table) → length (names_of t) ≡ length t
names-length [] = refl
names-length (f ∷ t) = ap suc (names-length t)

abbrev name_at : List Name → ℕ → Name → Sum
name_at names begun n =
    record {
      stage = named;
      formed = true;
      short = both (leb (length n) max_name) true;
      names = names ++ n ∷ [];
      begun = begun;
      bracket = false;
      led = false;
      sentence = no_sentence;
    }

module _ (quota : Quota) where
  trace-closed : {b ts b₁ rest : List Placed} → Trace quota b ts b₁ rest → Closed ts → Closed rest
  trace-closed stay c = c
  trace-closed (go {ts = ts} {t = t} z r) c = trace-closed r (closed-tail t ts c)

  -- outside functions, as far as the next token shows
  record OutsideAt (names : List Name) (begun : ℕ) (b : List Placed) (t : Placed) : Type 0 where
    on-name : (n : Name) → name_of t.token ≡ some n → tally (b ++ t ∷ []) ≡ name_at names begun n
    on-end : is_text_end t.token ≡ true → number quota (tally (b ++ t ∷ [])) ≡ 0
    on-other : name_of t.token ≡ none → is_text_end t.token ≡ false → number quota (tally (b ++ t ∷ [])) ≡ fault_of t.token

  abbrev Outside : List Name → ℕ → List Placed → List Placed → Type 0
  Outside names begun b [] = Open b
  Outside names begun b (t ∷ ts) = OutsideAt names begun b t

  outside-start : (names : List Name) (begun : ℕ) (led : Bool) → Around quota names begun → (b ts : List Placed)
      → At (table_at start led names begun) b ts
      → Outside names begun b ts
  outside-start names begun led a b [] at = at
  outside-start names begun led a b (t ∷ ts) at =
      record {
        on-name = λ n q. at ∙ rw (name-of t.token q, both_false led);
        on-end = λ q. ap (number quota) at ∙ rw (end_of t.token q, both_false led) (table-fine quota finished false names begun refl a);
        on-other = λ q r. ap (number quota) at ∙ refused-number quota (table_at start led names begun) t refl (rw (q, r));
      }

  outside-after : (names : List Name) (begun : ℕ) → Around quota names begun → (b : List Placed) (t : Placed) (ts : List Placed)
      → At (table_at after_function false names begun) b (t ∷ ts) → is_sign semicolon t.token ≡ false → OutsideAt names begun b t
  outside-after names begun a b t ts at o =
      record {
        on-name = λ n q. at ∙ rw (name-of t.token q);
        on-end = λ q. ap (number quota) at ∙ rw (end_of t.token q) (table-fine quota finished false names begun refl a);
        on-other = λ q r. ap (number quota) at ∙ refused-number quota (table_at after_function false names begun) t refl (rw (o, q, r));
      }

  names-limit : (names : List Name) (begun : ℕ) (n : Name) → table_limits quota names begun ≡ true → length names + 1 ≤ quota.functions
      → table_limits quota (names ++ n ∷ []) begun ≡ true
  unfolding table_limits
  names-limit names begun n h l =
      both_true (le-leb (length (names ++ n ∷ [])) quota.functions (rw (length-append names (n ∷ [])) l))
      (both_right (leb (length names) quota.functions) _ h)

  names-over : (names : List Name) (begun : ℕ) (n : Name) → length names ≡ quota.functions → table_limits quota (names ++ n ∷ []) begun ≡ false
  unfolding table_limits
  names-over names begun n e = rw (lt-leb (length (names ++ n ∷ [])) quota.functions (omega (arith, length-append names (n ∷ []))))

  record FunctionLeft (names : List Name) (begun left : ℕ) (f : Function) (b rest : List Placed) : Type 0 where
    begun₁ : ℕ
    counted : begun₁ ≡ begun + length f.sentences
    few : length f.sentences ≤ left
    around : Around quota (names ++ f.name ∷ []) begun₁
    here : At (table_at after_function false (names ++ f.name ∷ []) begun₁) b rest

  module _ (before : Table) (begun left : ℕ) (a : Around quota (names_of before) begun) (l : begun + left ≡ quota.sentences) where
    names : List Name
    names = names_of before

    name-told : (n : Name) → declared_fault before n ≡ 0 → length names + 1 ≤ quota.functions → (place : ℕ) (b ts : List Placed)
        → At (table_at named false (names ++ n ∷ []) begun) b ts → Told quota (FunctionLeft names begun left) b ts (after_name left place n ts)
    unfolding names
    name-told n z few place b ts at =
        let (short, right) = passed (leb (length n) max_name) over_limit _ (omega arith) z in
        let more : Around quota (names ++ n ∷ []) begun =
        record {
          table = names-limit names begun n a.table few;
          declared =
              declared-more names n a.declared ∙ (passed (both (not (is_reserved n)) (not (member n names))) wrong_name 0 (omega arith) right).0;
        }
        in
        told-sign quota (FunctionLeft names begun left) (table_at named false (names ++ n ∷ []) begun) refl b left_brace ts (after_brace left n) at
        (λ t e. rw e)
        (λ place past. table-fine quota opened true (names ++ n ∷ []) begun refl more)
        (λ place past b₁ us at₁.
        told-follow quota (FunctionLeft names begun left) (SentencesLeft quota (names ++ n ∷ []) begun left) b₁ us (parse_sentences left us)
        (declared n)
        (sentences-told quota left (names ++ n ∷ []) begun more l b₁ us at₁)
        (λ ss b₂ vs r l₁.
        told-done quota (FunctionLeft names begun left) {b = b₂} {ts = vs} (record { name = n; sentences = ss })
        (record { begun₁ = l₁.begun₁; counted = l₁.counted; few = l₁.few; around = l₁.around; here = l₁.here })))

    function-told : length names + 1 ≤ quota.functions → (b : List Placed) (t : Placed) (ts : List Placed) → OutsideAt names begun b t
        → is_text_end t.token ≡ false → Told quota (FunctionLeft names begun left) b (t ∷ ts) (parse_function (declared_fault before) left (t ∷ ts))
    unfolding names
    function-told few b t ts w e = by_name (name_of t.token) refl
      where
        name-number : (n : Name) → number quota (name_at names begun n) ≡ declared_fault before n
        name-number n =
            table-number quota named (both (leb (length n) max_name) true) false (names ++ n ∷ []) begun refl
            ∙ rw (
              names-limit names begun n a.table few,
              declared-more names n a.declared,
              both-unit (leb (length n) max_name),
              both-unit (leb (length n) max_name),
            )

        by_name : (o : Option Name) → name_of t.token ≡ o
            → Told quota (FunctionLeft names begun left) b (t ∷ ts) (name_on o (declared_fault before) t (λ n. after_name left t.place n ts))
        by_name none q = told-fault quota (FunctionLeft names begun left) (tally (b ++ t ∷ [])) b t ts refl (w.on-other q e)
        by_name (some n) q = by-fault (declared_fault before n) refl
          where
            by-fault : (m : ℕ) → declared_fault before n ≡ m
                → Told quota (FunctionLeft names begun left) b (t ∷ ts) (where_faultless m t (after_name left t.place n ts))
            by-fault zero z =
                told-pass quota (FunctionLeft names begun left) (name_at names begun n) b t ts (w.on-name n q) (after_name left t.place n ts)
                (name-inner t.token q) (name-number n ∙ z)
                (λ at.
                name-told n z few t.place (b ++ t ∷ []) ts
                (subst (λ m. At m (b ++ t ∷ []) ts) {x = name_at names begun n} {y = table_at named false (names ++ n ∷ []) begun}
                (rw (passed (leb (length n) max_name) over_limit _ (omega arith) z).0) at))
            by-fault (suc m) z = told-stop quota (FunctionLeft names begun left) (name_at names begun n) b t ts (w.on-name n q) m (name-number n ∙ z)

  -- THE FUNCTIONS

  -- nothing is left
  abbrev pub Whole : Table → List Placed → List Placed → Type 0
  Whole v b rest = rest ≡ []

  -- where the text ends, or what comes else
  end-told : (before : Table) (begun : ℕ) (b : List Placed) (t : Placed) (ts : List Placed) (later : Parsed Table)
      → OutsideAt (names_of before) begun b t
      → Closed (t ∷ ts) → (q : Bool) → is_text_end t.token ≡ q → (is_text_end t.token ≡ false → Told quota Whole b (t ∷ ts) later)
      → Told quota Whole b (t ∷ ts) (pick q (parsed before ts) later)
  end-told before begun b t ts later w c true q others =
      record { used = b ++ t ∷ []; trace = go (w.on-end q) stay; holds = last_one t ts c q }
  end-told before begun b t ts later w c false q others = others q

  abbrev TellsFunctions : ℕ → Type 0
  TellsFunctions left =
      (sentences_left : ℕ) (before : Table) (begun : ℕ) → Around quota (names_of before) begun → length before + left ≡ quota.functions
      → begun + sentences_left ≡ quota.sentences → (b ts : List Placed) → Outside (names_of before) begun b ts → Closed ts
      → Told quota Whole b ts (parse_functions left sentences_left before ts)

  -- a spare `;`
  spare-told : (left : ℕ) → TellsFunctions left → (sentences_left : ℕ) (before : Table) (begun : ℕ) → Around quota (names_of before) begun
      → length before + left ≡ quota.functions → begun + sentences_left ≡ quota.sentences → (b ts : List Placed)
      → At (table_at after_function false (names_of before) begun) b ts → Closed ts
      → Told quota Whole b ts (parse_functions left sentences_left before (pass_spare ts))
  spare-told left tells sentences_left before begun a l m b [] here c = tells sentences_left before begun a l m b [] here tt
  spare-told left tells sentences_left before begun a l m b (t ∷ ts) here c = by_sign (is_sign semicolon t.token) refl
    where
      by_sign : (q : Bool) → is_sign semicolon t.token ≡ q →
          Told quota Whole b (t ∷ ts) (parse_functions left sentences_left before (pick q ts (t ∷ ts)))
      by_sign true q =
          told-pass quota Whole (table_at start true (names_of before) begun) b t ts (here ∙ rw (sign_of semicolon t.token q))
          (parse_functions left sentences_left before ts) (sign-inner semicolon t.token q)
          (table-fine quota start true (names_of before) begun refl a)
          (λ at.
          tells sentences_left before begun a l m (b ++ t ∷ []) ts (outside-start (names_of before) begun true a (b ++ t ∷ []) ts at)
          (closed-tail t ts c))
      by_sign false q = tells sentences_left before begun a l m b (t ∷ ts) (outside-after (names_of before) begun a b t ts here q) c

  functions-told : (left : ℕ) → TellsFunctions left
  unfolding parse_functions names
  functions-told zero sentences_left before begun a l m b [] w c = told-cut quota Whole w
  functions-told zero sentences_left before begun a l m b (t ∷ ts) w c =
      end-told before begun b t ts (follow (parse_function (λ n. over_limit) sentences_left (t ∷ ts)) (λ f rest. cut_short)) w c (is_text_end t.token)
      refl
      (λ e. by_name e (name_of t.token) refl)
    where
      by_name : is_text_end t.token ≡ false → (o : Option Name) → name_of t.token ≡ o
          → Told quota Whole b (t ∷ ts) (follow (name_on o (λ n. over_limit) t (λ n. after_name sentences_left t.place n ts)) (λ f rest. cut_short))
      by_name e none q = told-fault quota Whole (tally (b ++ t ∷ [])) b t ts refl (w.on-other q e)
      by_name e (some n) q =
          told-stop quota Whole (name_at (names_of before) begun n) b t ts (w.on-name n q) _
          (over-limit quota (name_at (names_of before) begun n) refl refl
          (names-over (names_of before) begun n (names-length before ∙ (let f : length before ≡ quota.functions = omega arith in f))))
  functions-told (suc left) sentences_left before begun a l m b [] w c = told-cut quota Whole w
  functions-told (suc left) sentences_left before begun a l m b (t ∷ ts) w c =
      end-told before begun b t ts
      (follow (parse_function (declared_fault before) sentences_left (t ∷ ts)) (going_on (parse_functions left) sentences_left before)) w c
      (is_text_end t.token) refl
      (λ e.
      told-follow quota Whole (FunctionLeft (names_of before) begun sentences_left) b (t ∷ ts)
      (parse_function (declared_fault before) sentences_left (t ∷ ts))
      (going_on (parse_functions left) sentences_left before)
      (function-told before begun sentences_left a m (rw (names-length before) (omega arith)) b t ts w e)
      (λ f b₁ us passes r.
      let n = r.counted in
      let few = r.few in
      let more = names-append before (f ∷ []) in
      spare-told left (functions-told left) (sentences_left - length f.sentences) (before ++ f ∷ []) r.begun₁
      (rw more r.around) (omega (arith, length-append before (f ∷ []))) (omega arith) b₁ us (rw more r.here) (trace-closed passes c)))

  none-around : Around quota [] 0
  unfolding table_limits declared_right distinct every
  none-around =
      record { table = both_true (le-leb 0 quota.functions (omega arith)) (le-leb 0 quota.sentences (omega arith)); declared = refl }

  -- no tokens have no fault
  pub nothing-fine : number quota (tally []) ≡ 0
  unfolding tally_from
  nothing-fine = table-fine quota start false [] 0 refl none-around

  pub table-told : (ts : List Placed) → Closed ts → Told quota Whole [] ts (parse_functions quota.functions quota.sentences [] ts)
  unfolding tally_from last_is
  table-told ts c =
      functions-told quota.functions quota.sentences [] 0 none-around (omega arith) (omega arith) [] ts
      (outside-start [] 0 false none-around [] ts (at-tally (table_at start false [] 0) [] ts refl refl)) c
