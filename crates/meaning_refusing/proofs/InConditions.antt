-- The conditions' reader, told by the tokens that it passes.
use Prim.Native.Nat.{ℕ, zero, suc, ◌+◌}
use mathlib.Core.Path.{◌≡◌, refl, sym, ap, ◌∙◌, subst}
use mathlib.Core.Bool.{Bool, true, false}
use mathlib.Core.List.{List, [], ◌∷◌, ◌++◌}
use mathlib.Core.Option.{Option, none, some}
use native.Mathlib.Omega.{arith}
use borrow.Author.Tests.{le-leb}
use lib.Dec.{leb, eqb}
use lib.ListN.{length}
use Rattle.meaning.specs.Choice.{Bytes, Name, pick, both, is_some, every}
use Rattle.meaning.specs.Classes.{Class}
use Rattle.meaning.specs.Names.{predicate_of, is_predicate}
use Rattle.meaning.specs.Answers.{over_limit, wrong_name, wrong_later_variable}
use Rattle.meaning.specs.Tree.{Element, letter, symbol, part, Subject, of_symbol, of_part, Condition}
use Rattle.meaning.specs.Allowed.{max_name, max_conditions, max_identifier, symbols_of, parts_of, member}
use Rattle.meaning.specs.Tokens.{Token, function_name, quoted, Placed, comma, colon, equals, less_than, greater_than, is_sign, is_last_token, name_of}
use Rattle.meaning.specs.Tokens.{Item}
use Rattle.meaning.specs.Tokens.{characters, symbol_item, part_item, no_item, item_of, is_item}
use Rattle.meaning.specs.Grammar.{standing, symbol_word, part_word, characters_of, truth_byte}
use Rattle.meaning.specs.Reading.{Parsed, stopped, parsed, where_faultless, fault_of, fault_unless, name_on, length_fault, with_class, subject_fault}
use Rattle.meaning.specs.Reading.{pass_subject, truth_of, truth_on, pass_truth, parse_condition, parse_conditions}
use Rattle.meaning_accepting.proofs.Reading.Basics.{impossible, both_left, both_right, TokenView, a_string, a_symbol, a_part, another, view, sign_of}
use Rattle.meaning_accepting.proofs.Reading.Basics.{name-of}
use Rattle.meaning_accepting.proofs.Reading.Conditions.{truth-of, after_truth, after_colon, after_close, after_variable, after_predicate, after_open}
use Rattle.meaning_accepting.proofs.Reading.Conditions.{after_condition as going_on, after_conditions as joining, after_comma as in_condition}
use Rattle.meaning_accepting.proofs.Reading.Lists.{every_append, member-every}
use Rattle.meaning_accepting.proofs.Reading.PatternItems.{characters-same-symbols, characters-same-parts, symbol-adds, symbol-same-parts}
use Rattle.meaning_accepting.proofs.Reading.PatternItems.{part-same-symbols, part-adds}
use Rattle.meaning_refusing.specs.Faults.{Quota}
use Rattle.meaning_refusing.proofs.Stages.{Stage, in_pattern, after_condition, at_bracket, at_predicate, at_variable, at_close, at_colon, at_truth}
use Rattle.meaning_refusing.proofs.Stages.{in_expression, failed, step, going}
use Rattle.meaning_refusing.proofs.Sums.{SentenceSum, Sum, next, tally, number, predicates_right, symbols_right, parts_known, middle_right}
use Rattle.meaning_refusing.proofs.Told.{Open, At, Told, told-follow, told-done, told-cut, told-stop, told-pass, told-check, told-refuse}
use Rattle.meaning_refusing.proofs.Told.{told-sign, refused-number, sign-inner, fine}
use Rattle.meaning_refusing.proofs.InPattern.{both-unit, Around, Patterned, pattern_at, no-limits, no-calls, no-symbols, no-parts, NoItemNext}

-- THE TESTS WITH A TOKEN MORE

every_one : (f : Name → Bool) (xs : List Name) (x : Name) → every f xs ≡ true → every f (xs ++ x ∷ []) ≡ f x
unfolding every
every_one f xs x h = every_append f xs (x ∷ []) ∙ rw h (both-unit (f x))

every-added : (f : Name → Bool) (b : Bool) (x : Name) (xs : List Name) → member x xs ≡ b → every f xs ≡ true
    → every f (pick b xs (xs ++ x ∷ [])) ≡ f x
every-added f true x xs m h = h ∙ sym (member-every f x xs h m)
every-added f false x xs m h = every_one f xs x h

pub symbol-known : (p es : List Element) (x : Name) → symbols_right p es ≡ true
    → symbols_right p (es ++ letter (symbol x) ∷ []) ≡ member x (symbols_of p)
unfolding symbols_right
symbol-known p es x h =
    rw (symbol-adds es x) (every-added (λ y. member y (symbols_of p)) (member x (symbols_of es)) x (symbols_of es) refl h)

pub string-known : (p es : List Element) (text : Bytes) → symbols_right p (es ++ characters_of text) ≡ symbols_right p es
unfolding symbols_right
string-known p es text = rw (characters-same-symbols es text)

pub symbols-part : (p es : List Element) (x : Name) → symbols_right p (es ++ part x ∷ []) ≡ symbols_right p es
unfolding symbols_right
symbols-part p es x = rw (part-same-symbols es x)

part-known : (p es : List Element) (x : Name) → parts_known p es ≡ true → parts_known p (es ++ part x ∷ []) ≡ member x (parts_of p)
unfolding parts_known
part-known p es x h = rw (part-adds es x) (every_one (λ y. member y (parts_of p)) (parts_of es) x h)

-- the conditions' variables, after a string and after one more variable of either kind
middle-string : (p es : List Element) (text : Bytes) → middle_right p (es ++ characters_of text) ≡ middle_right p es
unfolding middle_right parts_known
middle-string p es text = rw (string-known p es text, characters-same-parts es text)

middle-symbol : (p es : List Element) (x : Name) → middle_right p es ≡ true
    → middle_right p (es ++ letter (symbol x) ∷ []) ≡ member x (symbols_of p)
unfolding middle_right parts_known
middle-symbol p es x h =
    rw (symbol-known p es x (both_left (symbols_right p es) _ h), symbol-same-parts es x, both_right (symbols_right p es) _ h)
    (both-unit (member x (symbols_of p)))

middle-part : (p es : List Element) (x : Name) → middle_right p es ≡ true → middle_right p (es ++ part x ∷ []) ≡ member x (parts_of p)
unfolding middle_right
middle-part p es x h =
    rw (symbols-part p es x, both_left (symbols_right p es) _ h) (part-known p es x (both_right (symbols_right p es) _ h))

predicate-known : (names : List Name) (n : Name) → predicates_right names ≡ true → predicates_right (names ++ n ∷ []) ≡ is_predicate n
unfolding predicates_right
predicate-known names n h = every_one is_predicate names n h

-- SUMS

-- the conditions so far: how many `,`, what stands in them, and the names right after `<`
pub record Middle : Type 0 where
  pub commas : ℕ
  pub elements : List Element
  pub names : List Name

abbrev pub no_middle : Middle
no_middle = record { commas = 0; elements = []; names = [] }

abbrev with_comma : Middle → Middle
with_comma c = record { commas = suc c.commas; elements = c.elements; names = c.names }

abbrev with_name : Middle → Name → Middle
with_name c n = record { commas = c.commas; elements = c.elements; names = c.names ++ n ∷ [] }

abbrev with_elements : Middle → List Element → Middle
with_elements c es = record { commas = c.commas; elements = c.elements ++ es; names = c.names }

pub record MiddleFits (p : List Element) (c : Middle) : Type 0 where
  pub few : leb c.commas max_conditions ≡ true
  pub predicates : predicates_right c.names ≡ true
  pub known : middle_right p c.elements ≡ true

abbrev middle_sentence : List Element → Middle → Bool → SentenceSum
middle_sentence p c bracket =
    record {
      any_comma = true;
      any_equals = false;
      pattern = p;
      commas = c.commas;
      middle = c.elements;
      predicates = c.names;
      middle_bracket = bracket;
      items = [];
      calls = [];
      right_bracket = false;
      opens = 0;
      closes = 0;
    }

-- the expression so far: what stands in it, the names right after `<`, how many `<` and `>`
pub record Right : Type 0 where
  pub items : List Element
  pub calls : List Name
  pub opens : ℕ
  pub closes : ℕ

abbrev pub no_right : Right
no_right = record { items = []; calls = []; opens = 0; closes = 0 }

abbrev pub right_sentence : Bool → List Element → Middle → Right → Bool → SentenceSum
right_sentence any p c r bracket =
    record {
      any_comma = any;
      any_equals = true;
      pattern = p;
      commas = c.commas;
      middle = c.elements;
      predicates = c.names;
      middle_bracket = false;
      items = r.items;
      calls = r.calls;
      right_bracket = bracket;
      opens = r.opens;
      closes = r.closes;
    }

-- the next token is no `,`
abbrev pub NoCommaNext : List Placed → Type 0
NoCommaNext [] = Unit {0}
NoCommaNext (t ∷ ts) = is_sign comma t.token ≡ false

module _ (names : List Name) (begun : ℕ) (p : List Element) where
  -- in a sentence of that pattern
  abbrev pub sentence_at : Stage → Bool → Bool → Bool → SentenceSum → Sum
  sentence_at s short bracket led sentence =
      record { stage = s; formed = true; short = short; names = names; begun = begun; bracket = bracket; led = led; sentence = sentence }

  abbrev middle_at : Stage → Bool → Middle → Sum
  middle_at s bracket c = sentence_at s true bracket false (middle_sentence p c bracket)

  abbrev pub right_at : Bool → Stage → Bool → Middle → Right → Sum
  right_at any s bracket c r = sentence_at s true bracket false (right_sentence any p c r bracket)

  -- what a condition's reader leaves
  record ConditionLeft (commas : ℕ) (v : Condition) (b rest : List Placed) : Type 0 where
    so : Middle
    same : so.commas ≡ commas
    fits : MiddleFits p so
    here : At (middle_at after_condition false so) b rest

  module _ (quota : Quota) where
    -- between conditions, as far as the next token shows
    pub record WaitingAt (c : Middle) (b : List Placed) (t : Placed) : Type 0 where
      pub on-comma : is_sign comma t.token ≡ true → tally (b ++ t ∷ []) ≡ middle_at at_bracket false (with_comma c)
      pub on-equals : is_sign equals t.token ≡ true → (any : Bool) × (tally (b ++ t ∷ []) ≡ right_at any (in_expression 0) false c no_right)
      pub on-other : is_sign comma t.token ≡ false → is_sign equals t.token ≡ false → number quota (tally (b ++ t ∷ [])) ≡ fault_of t.token

    abbrev pub Waiting : Middle → List Placed → List Placed → Type 0
    Waiting c b [] = Open b
    Waiting c b (t ∷ ts) = WaitingAt c b t

    -- what the conditions' reader leaves
    pub record ConditionsLeft (v : List Condition) (b rest : List Placed) : Type 0 where
      pub so : Middle
      pub fits : MiddleFits p so
      pub here : Waiting so b rest
      pub ended : NoCommaNext rest

    module _ (a : Around quota names begun) (h : Patterned p) where
      -- what tokens come to among the conditions
      middle-number : (s : Stage) (short bracket led inner : Bool) (c : Middle) → going s ≡ true
          → number quota (sentence_at s short bracket led (middle_sentence p c inner))
          ≡ fault_unless (both short (leb c.commas max_conditions)) over_limit
          (fault_unless (predicates_right c.names) wrong_name (fault_unless (middle_right p c.elements) wrong_later_variable 0))
      middle-number s short bracket led inner c g =
          rw (
            g,
            a.table,
            a.declared,
            h.limits,
            h.right,
            no-limits,
            no-calls,
            no-symbols p,
            no-parts p,
            both-unit (leb c.commas max_conditions),
            both-unit (predicates_right c.names),
            both-unit (middle_right p c.elements),
          )

      -- a token that adds nothing
      quiet : (s : Stage) (bracket : Bool) (c : Middle) → going s ≡ true → MiddleFits p c → number quota (middle_at s bracket c) ≡ 0
      quiet s bracket c g f = middle-number s true bracket false bracket c g ∙ rw (f.few, f.predicates, f.known)

      -- THE CLOSING STRING

      truth-told : (class : Class) (v : Subject) (c : Middle) → MiddleFits p c → (b ts : List Placed) → At (middle_at at_truth false c) b ts
          → Told quota (ConditionLeft c.commas) b ts (pass_truth ts (after_truth class v))
      truth-told class v c f b [] here = told-cut quota (ConditionLeft c.commas) here
      truth-told class v c f b (t ∷ ts) here = by-truth (truth_of t.token (eqb t.past (t.place + 3))) refl
        where
          passes : (truth : Bool) → t.token ≡ quoted (truth_byte truth ∷ []) → truth_of t.token (eqb t.past (t.place + 3)) ≡ some truth
              → next (middle_at at_truth false c) t ≡ middle_at after_condition false (with_elements c (characters_of (truth_byte truth ∷ [])))
          passes truth e q = rw (q, e)

          by-truth : (o : Option Bool) → truth_of t.token (eqb t.past (t.place + 3)) ≡ o
              → Told quota (ConditionLeft c.commas) b (t ∷ ts) (truth_on o t (λ truth. after_truth class v truth ts))
          by-truth none q = told-refuse quota (ConditionLeft c.commas) (middle_at at_truth false c) refl b t ts here (rw q)
          by-truth (some truth) q =
              let later = with_elements c (characters_of (truth_byte truth ∷ [])) in
              let fits : MiddleFits p later =
              record { few = f.few; predicates = f.predicates; known = middle-string p c.elements (truth_byte truth ∷ []) ∙ f.known }
              in
              let (three, token) = truth-of t.token (eqb t.past (t.place + 3)) q in
              told-pass quota (ConditionLeft c.commas) (middle_at after_condition false later) b t ts (here ∙ passes truth token q)
              (after_truth class v truth ts) (rw token) (quiet after_condition false later refl fits)
              (λ at.
              told-done quota (ConditionLeft c.commas) (record { predicate = class; subject = v; expected = truth })
              (record { so = later; same = refl; fits = fits; here = at }))

      close-told : (class : Class) (v : Subject) (c : Middle) → MiddleFits p c → (b ts : List Placed) → At (middle_at at_close false c) b ts
          → Told quota (ConditionLeft c.commas) b ts (after_variable class v ts)
      close-told class v c f b ts here =
          told-sign quota (ConditionLeft c.commas) (middle_at at_close false c) refl b greater_than ts (after_close class v) here (λ t e. rw e)
          (λ place past. quiet at_colon false c refl f)
          (λ place past b₁ us at.
          told-sign quota (ConditionLeft c.commas) (middle_at at_colon false c) refl b₁ colon us (after_colon class v) at (λ t e. rw e)
          (λ place past. quiet at_truth false c refl f)
          (λ place past b₂ vs at₁. truth-told class v c f b₂ vs at₁))

      -- THE VARIABLE

      -- a variable of either kind adds its element, and its name is looked for among those of its kind
      variable-told : (class : Class) (v : Subject) (c : Middle) → MiddleFits p c → (b : List Placed) (t : Placed) (ts : List Placed)
          → At (middle_at at_variable false c) b (t ∷ ts) → is_last_token t.token ≡ false → (e : Element) (x : Name) (among : List Name)
          → next (middle_at at_variable false c) t
          ≡ sentence_at at_close (leb (length x) max_identifier) false false (middle_sentence p (with_elements c (e ∷ [])) false)
          → middle_right p (c.elements ++ e ∷ []) ≡ member x among
          → Told quota (ConditionLeft c.commas) b (t ∷ ts) (where_faultless (subject_fault among x) t (after_variable class v ts))
      variable-told class v c f b t ts at inner e x among grows known =
          let later = with_elements c (e ∷ []) in
          let m = sentence_at at_close (leb (length x) max_identifier) false false (middle_sentence p later false) in
          let value : number quota m ≡ subject_fault among x =
          middle-number at_close (leb (length x) max_identifier) false false false later refl
          ∙ rw (f.few, f.predicates, known, both-unit (leb (length x) max_identifier))
          in
          told-check quota (ConditionLeft c.commas) m b t ts (at ∙ grows) (subject_fault among x) (after_variable class v ts) inner value
          (λ z at₁.
          let g = fine quota m (value ∙ z) in
          close-told class v later (record { few = f.few; predicates = f.predicates; known = g.middle }) (b ++ t ∷ []) ts
          (subst (λ w. At w (b ++ t ∷ []) ts) {x = m} {y = middle_at at_close false later} (rw g.short) at₁))

      subject-told : (class : Class) (c : Middle) → MiddleFits p c → (b ts : List Placed) → At (middle_at at_variable false c) b ts
          → Told quota (ConditionLeft c.commas) b ts (pass_subject (symbols_of p) (parts_of p) ts (after_variable class))
      subject-told class c f b [] here = told-cut quota (ConditionLeft c.commas) here
      subject-told class c f b (t ∷ ts) here = by-view t.place t.past (view t.token) here
        where
          by-view : {token : Token} (place past : ℕ) → TokenView token → At (middle_at at_variable false c) b (standing token place past ∷ ts)
              → Told quota (ConditionLeft c.commas) b (standing token place past ∷ ts)
              (pass_subject (symbols_of p) (parts_of p) (standing token place past ∷ ts) (after_variable class))
          by-view place past (a_string text) at =
              told-refuse quota (ConditionLeft c.commas) (middle_at at_variable false c) refl b (standing (quoted text) place past) ts at refl
          by-view place past (a_symbol d x) at =
              variable-told class (of_symbol (d ∷ x)) c f b (standing (symbol_word d x) place past) ts at refl (letter (symbol (d ∷ x))) (d ∷ x)
              (symbols_of p) refl (middle-symbol p c.elements (d ∷ x) f.known)
          by-view place past (a_part d x) at =
              variable-told class (of_part (d ∷ x)) c f b (standing (part_word d x) place past) ts at refl (part (d ∷ x)) (d ∷ x)
              (parts_of p) refl (middle-part p c.elements (d ∷ x) f.known)
          by-view place past (another token n) at =
              rw n (told-refuse quota (ConditionLeft c.commas) (middle_at at_variable false c) refl b (standing token place past) ts at (rw n))

      -- THE PREDICATE

      name-told : (c : Middle) → MiddleFits p c → (b ts : List Placed) → At (middle_at at_predicate true c) b ts
          → Told quota (ConditionLeft c.commas) b ts (after_open (symbols_of p) (parts_of p) ts)
      name-told c f b [] here = told-cut quota (ConditionLeft c.commas) here
      name-told c f b (t ∷ ts) here = by_name (name_of t.token) refl
        where
          m : Sum
          m = next (middle_at at_predicate true c) t

          name-number : (n : Name) → t.token ≡ function_name n
              → number quota (next (middle_at at_predicate true c) t) ≡ fault_unless (leb (length n) max_name) over_limit
              (fault_unless (is_predicate n) wrong_name 0)
          name-number n e =
              rw e
              (middle-number at_variable (both (leb (length n) max_name) true) false false false (with_name c n) refl
              ∙ rw (
                f.few,
                f.known,
                predicate-known c.names n f.predicates,
                both-unit (both (leb (length n) max_name) true),
                both-unit (leb (length n) max_name),
              ))

          by-class : (n : Name) → t.token ≡ function_name n → (l : Bool) → leb (length n) max_name ≡ l → (o : Option Class) → predicate_of n ≡ o
              → Told quota (ConditionLeft c.commas) b (t ∷ ts)
              (where_faultless (fault_unless l over_limit 0) t (with_class o t.place
              (λ class. pass_subject (symbols_of p) (parts_of p) ts (after_variable class))))
          by-class n e false l o q = told-stop quota (ConditionLeft c.commas) m b t ts here _ (name-number n e ∙ rw l)
          by-class n e true l none q = told-stop quota (ConditionLeft c.commas) m b t ts here _ (name-number n e ∙ rw (l, q))
          by-class n e true l (some class) q =
              told-pass quota (ConditionLeft c.commas) m b t ts here (pass_subject (symbols_of p) (parts_of p) ts (after_variable class)) (rw e)
              (name-number n e ∙ rw (l, q))
              (λ at.
              subject-told class (with_name c n)
              (record { few = f.few; predicates = predicate-known c.names n f.predicates ∙ ap is_some q; known = f.known })
              (b ++ t ∷ []) ts (subst (λ w. At w (b ++ t ∷ []) ts) {x = m} {y = middle_at at_variable false (with_name c n)} (rw (e, l)) at))

          by_name : (o : Option Name) → name_of t.token ≡ o
              → Told quota (ConditionLeft c.commas) b (t ∷ ts)
              (name_on o (λ n. length_fault n 0) t (λ n. after_predicate (symbols_of p) (parts_of p) t.place n ts))
          by_name none q = told-refuse quota (ConditionLeft c.commas) (middle_at at_predicate true c) refl b t ts here (rw q)
          by_name (some n) q = by-class n (name-of t.token q) (leb (length n) max_name) refl (predicate_of n) refl

      condition-told : (c : Middle) → MiddleFits p c → (b ts : List Placed) → At (middle_at at_bracket false c) b ts
          → Told quota (ConditionLeft c.commas) b ts (parse_condition (symbols_of p) (parts_of p) ts)
      unfolding parse_condition
      condition-told c f b ts here =
          told-sign quota (ConditionLeft c.commas) (middle_at at_bracket false c) refl b less_than ts (after_open (symbols_of p) (parts_of p)) here
          (λ t e. rw e)
          (λ place past. quiet at_predicate true c refl f)
          (λ place past b₁ us at. name-told c f b₁ us at)

      -- ALL CONDITIONS

      no-item-step : (n : ℕ) (t : Placed) (item : Item) → item_of t.token ≡ item → is_item item ≡ false
          → is_sign comma t.token ≡ false → is_sign equals t.token ≡ false → step (in_pattern n) t ≡ failed
      no-item-step n t (characters text) e i q r = impossible (sym i)
      no-item-step n t (symbol_item x) e i q r = impossible (sym i)
      no-item-step n t (part_item x) e i q r = impossible (sym i)
      no-item-step n t no_item e i q r = rw (e, q, r)

      pub waiting-pattern : (b ts : List Placed) → At (pattern_at names begun p) b ts → NoItemNext ts → Waiting no_middle b ts
      waiting-pattern b [] here n = here
      waiting-pattern b (t ∷ ts) here n =
          record {
            on-comma = λ e. here ∙ rw (sign_of comma t.token e);
            on-equals = λ e. (false, here ∙ rw (sign_of equals t.token e));
            on-other =
                λ q r. ap (number quota) here ∙ refused-number quota (pattern_at names begun p) t refl
                (no-item-step _ t (item_of t.token) refl n q r);
          }

      waiting-middle : (c : Middle) (b ts : List Placed) → At (middle_at after_condition false c) b ts → Waiting c b ts
      waiting-middle c b [] here = here
      waiting-middle c b (t ∷ ts) here =
          record {
            on-comma = λ e. here ∙ rw (sign_of comma t.token e);
            on-equals = λ e. (true, here ∙ rw (sign_of equals t.token e));
            on-other = λ q r. ap (number quota) here ∙ refused-number quota (middle_at after_condition false c) t refl (rw (q, r));
          }

      comma-told : (c : Middle) (b : List Placed) (t : Placed) (ts : List Placed) (q : Bool) (later : Parsed (List Condition)) → MiddleFits p c
          → is_sign comma t.token ≡ q → WaitingAt c b t
          → (is_sign comma t.token ≡ true → tally (b ++ t ∷ []) ≡ middle_at at_bracket false (with_comma c)
          → Told quota ConditionsLeft b (t ∷ ts) later)
          → Told quota ConditionsLeft b (t ∷ ts) (pick q later (parsed [] (t ∷ ts)))
      comma-told c b t ts true later f e w go = go e (w.on-comma e)
      comma-told c b t ts false later f e w go = told-done quota ConditionsLeft [] (record { so = c; fits = f; here = w; ended = e })

      comma-number : (c : Middle) → MiddleFits p c
          → number quota (middle_at at_bracket false (with_comma c)) ≡ fault_unless (leb (suc c.commas) max_conditions) over_limit 0
      comma-number c f = middle-number at_bracket true false false false (with_comma c) refl ∙ rw (f.predicates, f.known)

      pub conditions-told : (left : ℕ) (c : Middle) → c.commas + left ≡ max_conditions → MiddleFits p c → (b ts : List Placed) → Waiting c b ts
          → Told quota ConditionsLeft b ts (parse_conditions left (symbols_of p) (parts_of p) ts)
      unfolding parse_conditions
      conditions-told zero c l f b [] w = told-cut quota ConditionsLeft w
      conditions-told zero c l f b (t ∷ ts) w =
          comma-told c b t ts (is_sign comma t.token) (stopped over_limit t.place) f refl w
          (λ q e.
          told-stop quota ConditionsLeft (middle_at at_bracket false (with_comma c)) b t ts e _
          (let full : c.commas ≡ max_conditions = omega arith in comma-number c f ∙ rw full))
      conditions-told (suc left) c l f b [] w = told-cut quota ConditionsLeft w
      conditions-told (suc left) c l f b (t ∷ ts) w =
          comma-told c b t ts (is_sign comma t.token) (in_condition left (symbols_of p) (parts_of p) t ts) f refl w
          (λ q e.
          let m = with_comma c in
          let room : leb (suc c.commas) max_conditions ≡ true = le-leb (suc c.commas) max_conditions (omega arith) in
          let fits : MiddleFits p m = record { few = room; predicates = f.predicates; known = f.known } in
          told-pass quota ConditionsLeft (middle_at at_bracket false m) b t ts e (in_condition left (symbols_of p) (parts_of p) t ts)
          (sign-inner comma t.token q) (comma-number c f ∙ rw room)
          (λ at.
          told-follow quota ConditionsLeft (ConditionLeft m.commas) (b ++ t ∷ []) ts (parse_condition (symbols_of p) (parts_of p) ts)
          (going_on left (symbols_of p) (parts_of p))
          (condition-told m fits (b ++ t ∷ []) ts at)
          (λ v b₁ us r l₁.
          let same = l₁.same in
          told-follow quota ConditionsLeft ConditionsLeft b₁ us (parse_conditions left (symbols_of p) (parts_of p) us) (joining v)
          (conditions-told left l₁.so (omega arith) l₁.fits b₁ us (waiting-middle l₁.so b₁ us l₁.here))
          (λ vs b₂ vs₁ r₁ l₂.
          told-done quota ConditionsLeft {b = b₂} {ts = vs₁} (v ∷ vs)
          (record { so = l₂.so; fits = l₂.fits; here = l₂.here; ended = l₂.ended })))))
