-- Readers told by the tokens that they pass: what stops them is the fault of the tokens up to there, and what they pass has none.
use Prim.Native.Nat.{ℕ, zero, suc, ◌≤◌, ◌<◌}
use mathlib.Core.Path.{◌≡◌, refl, ap, ◌∙◌, subst}
use mathlib.Core.Bool.{Bool, true, false, not}
use mathlib.Core.List.{List, [], ◌∷◌, ◌++◌}
use mathlib.Core.Option.{Option, none, some}
use native.Mathlib.Omega.{arith}
use lib.Dec.{leb}
use lib.ListN.{length}
use Rattle.meaning.specs.Choice.{Name}
use Rattle.meaning.specs.Answers.{malformed_token, not_allowed_here}
use Rattle.meaning.specs.Tokens.{Token, function_name, word, quoted, sign, text_end, malformed, Placed, is_last_token, is_sign, name_of, item_of}
use Rattle.meaning.specs.Tokens.{is_item}
use Rattle.meaning.specs.Allowed.{max_conditions}
use Rattle.meaning.specs.Grammar.{standing}
use Rattle.meaning.specs.Reading.{Parsed, stopped, parsed, cut_short, follow, fault_of, refuse, whether, where_faultless, fault_unless, pass}
use Rattle.meaning.specs.Reading.{pass_name}
use Rattle.meaning.specs.Reading.{name_on}
use Rattle.meaning_accepting.proofs.Reading.Basics.{impossible, both_left, both_right, passed, sign_of, name-of, standing-as}
use Rattle.meaning_refusing.specs.Faults.{is_malformed, Quota}
use Rattle.meaning_refusing.proofs.Stages.{failed, step, going}
use Rattle.meaning_refusing.proofs.Sums.{Sum, next, tally, at_first, tally-more, number, table_limits, pattern_limits, item_limits, declared_right}
use Rattle.meaning_refusing.proofs.Sums.{predicates_right, calls_right, pattern_right, middle_right, symbols_right, parts_right}

-- TOKENS AFTER WHICH OTHERS COME

pub sign-inner : (c : ℕ) (token : Token) → is_sign c token ≡ true → is_last_token token ≡ false
sign-inner c token e = rw (sign_of c token e)

pub name-inner : (token : Token) {n : Name} → name_of token ≡ some n → is_last_token token ≡ false
name-inner token e = rw (name-of token e)

pub item-inner : (token : Token) → is_item (item_of token) ≡ true → is_last_token token ≡ false
item-inner (function_name n) e = refl
item-inner (word w) e = refl
item-inner (quoted text) e = refl
item-inner (sign b) e = refl
item-inner text_end e = impossible e
item-inner malformed e = impossible e

-- the last token passes, or what stood before
unfoldable pub last_is : (Token → Bool) → Bool → List Placed → Bool
last_is f before [] = before
last_is f before (t ∷ ts) = last_is f (f t.token) ts

pub last_more : (f : Token → Bool) (before : Bool) (s : List Placed) (t : Placed) → last_is f before (s ++ t ∷ []) ≡ f t.token
unfolding last_is
last_more f before [] t = refl
last_more f before (u ∷ s) t = last_more f (f u.token) s t

-- others come after the tokens
abbrev pub Open : List Placed → Type 0
Open b = last_is is_last_token false b ≡ false

-- the tokens so far come to this, as far as the next token shows
abbrev pub At : Sum → List Placed → List Placed → Type 0
At m b [] = Open b
At m b (t ∷ ts) = tally (b ++ t ∷ []) ≡ next m t

pub at-tally : (m : Sum) (b ts : List Placed) → Open b → tally b ≡ m → At m b ts
at-tally m b [] o e = o
at-tally m b (t ∷ ts) o e = tally-more at_first b t ∙ ap (λ z. next z t) e

module _ (quota : Quota) where
  -- PASSING TOKENS

  -- from some tokens and those after them to more tokens and those after them, each beginning without a fault
  pub data Trace : List Placed → List Placed → List Placed → List Placed → Type 0 where
    stay : {b ts : List Placed} → Trace b ts b ts
    go : {b ts b₁ rest : List Placed} {t : Placed}
        → number quota (tally (b ++ t ∷ [])) ≡ 0 → Trace (b ++ t ∷ []) ts b₁ rest → Trace b (t ∷ ts) b₁ rest

  pub trace-join : {b ts b₁ ts₁ b₂ rest : List Placed} → Trace b ts b₁ ts₁ → Trace b₁ ts₁ b₂ rest → Trace b ts b₂ rest
  trace-join stay s = s
  trace-join (go z r) s = go z (trace-join r s)

  pub trace-length : {b ts b₁ rest : List Placed} → Trace b ts b₁ rest → length rest ≤ length ts
  trace-length stay = omega arith
  trace-length (go z r) = omega (arith, trace-length r)

  pub record Stops (b ts : List Placed) (n k : ℕ) : Type 0 where
    pub used : List Placed
    pub first : Placed
    pub others : List Placed
    pub trace : Trace b ts used (first ∷ others)
    pub place : first.place ≡ k
    pub fault : number quota (tally (used ++ first ∷ [])) ≡ n

  -- the tokens end where others should come
  pub record Cut (b ts : List Placed) : Type 0 where
    pub used : List Placed
    pub trace : Trace b ts used []
    pub inner : Open used

  pub record Reads {A : Type 0} (reads : A → List Placed → List Placed → Type 0) (b ts : List Placed) (v : A) (rest : List Placed) : Type 0 where
    pub used : List Placed
    pub trace : Trace b ts used rest
    pub holds : reads v used rest

  -- what is told of a reader's result
  abbrev pub Told : {A : Type 0} → (A → List Placed → List Placed → Type 0) → List Placed → List Placed → Parsed A → Type 0
  Told reads b ts (stopped zero k) = Cut b ts
  Told reads b ts (stopped (suc n) k) = Stops b ts (suc n) k
  Told reads b ts (parsed v rest) = Reads reads b ts v rest

  module _ {A : Type 0} (reads : A → List Placed → List Placed → Type 0) where
    pub told-after : {b ts b₁ rest : List Placed} → Trace b ts b₁ rest → (x : Parsed A) → Told reads b₁ rest x → Told reads b ts x
    told-after r (stopped zero k) s = record { used = s.used; trace = trace-join r s.trace; inner = s.inner }
    told-after r (stopped (suc n) k) s =
        record { used = s.used; first = s.first; others = s.others; trace = trace-join r s.trace; place = s.place; fault = s.fault }
    told-after r (parsed v rest) s = record { used = s.used; trace = trace-join r s.trace; holds = s.holds }

    pub told-follow : {B : Type 0} (first : B → List Placed → List Placed → Type 0) (b ts : List Placed) (x : Parsed B)
        (k : B → List Placed → Parsed A) → Told first b ts x
        → ((v : B) (b₁ rest : List Placed) → Trace b ts b₁ rest → first v b₁ rest → Told reads b₁ rest (k v rest))
        → Told reads b ts (follow x k)
    told-follow first b ts (stopped zero p) k s later = s
    told-follow first b ts (stopped (suc n) p) k s later = s
    told-follow first b ts (parsed v rest) k s later = told-after s.trace (k v rest) (later v s.used rest s.trace s.holds)

    pub told-done : {b ts : List Placed} (v : A) → reads v b ts → Told reads b ts (parsed v ts)
    told-done v h = record { used = _; trace = stay; holds = h }

    pub told-cut : {b : List Placed} → Open b → Told reads b [] cut_short
    told-cut o = record { used = _; trace = stay; inner = o }

    -- ONE TOKEN

    module _ (m : Sum) (b : List Placed) (t : Placed) (ts : List Placed) (same : tally (b ++ t ∷ []) ≡ m) where
      pub told-stop : (n : ℕ) → number quota m ≡ suc n → Told reads b (t ∷ ts) (stopped (suc n) t.place)
      told-stop n e = record { used = b; first = t; others = ts; trace = stay; place = refl; fault = ap (number quota) same ∙ e }

      pub told-pass : (later : Parsed A) → is_last_token t.token ≡ false → number quota m ≡ 0
          → (At m (b ++ t ∷ []) ts → Told reads (b ++ t ∷ []) ts later) → Told reads b (t ∷ ts) later
      told-pass later o e h =
          told-after (go (ap (number quota) same ∙ e) stay) later (h (at-tally m (b ++ t ∷ []) ts (last_more is_last_token false b t ∙ o) same))

      pub told-check : (n : ℕ) (later : Parsed A) → is_last_token t.token ≡ false → number quota m ≡ n
          → (n ≡ 0 → At m (b ++ t ∷ []) ts → Told reads (b ++ t ∷ []) ts later) → Told reads b (t ∷ ts) (where_faultless n t later)
      told-check zero later o e h = told-pass later o e (h refl)
      told-check (suc n) later o e h = told-stop n e

      -- a token with the fault of one that isn't allowed
      pub told-fault : number quota m ≡ fault_of t.token → Told reads b (t ∷ ts) (refuse t)
      told-fault e = by_token t.token refl
        where
          by_token : (token : Token) → t.token ≡ token → Told reads b (t ∷ ts) (stopped (fault_of token) t.place)
          by_token (function_name n) q = told-stop _ (e ∙ ap fault_of q)
          by_token (word w) q = told-stop _ (e ∙ ap fault_of q)
          by_token (quoted text) q = told-stop _ (e ∙ ap fault_of q)
          by_token (sign c) q = told-stop _ (e ∙ ap fault_of q)
          by_token text_end q = told-stop _ (e ∙ ap fault_of q)
          by_token malformed q = told-stop _ (e ∙ ap fault_of q)

  -- a token that the stage doesn't allow
  pub refused-number : (m : Sum) (t : Placed) → m.formed ≡ true → step m.stage t ≡ failed → number quota (next m t) ≡ fault_of t.token
  refused-number m t f e = rw (f, e) (by_token t.token)
    where
      by_token : (token : Token) → fault_unless (not (is_malformed token)) malformed_token not_allowed_here ≡ fault_of token
      by_token (function_name n) = refl
      by_token (word w) = refl
      by_token (quoted text) = refl
      by_token (sign b) = refl
      by_token text_end = refl
      by_token malformed = refl

  module _ {A : Type 0} (reads : A → List Placed → List Placed → Type 0) (m : Sum) (f : m.formed ≡ true) where
    pub told-refuse : (b : List Placed) (t : Placed) (ts : List Placed) → At m b (t ∷ ts) → step m.stage t ≡ failed
        → Told reads b (t ∷ ts) (refuse t)
    told-refuse b t ts a e = told-fault reads (next m t) b t ts a (refused-number m t f e)

    -- a sign that must come, with no fault of its own
    pub told-sign : (b : List Placed) (c : ℕ) (ts : List Placed) (later : List Placed → Parsed A) → At m b ts
        → ((t : Placed) → is_sign c t.token ≡ false → step m.stage t ≡ failed)
        → ((place past : ℕ) → number quota (next m (standing (sign c) place past)) ≡ 0)
        → ((place past : ℕ) (b₁ us : List Placed) → At (next m (standing (sign c) place past)) b₁ us → Told reads b₁ us (later us))
        → Told reads b ts (pass c ts later)
    told-sign b c [] later a others quiet told = told-cut reads a
    told-sign b c (t ∷ ts) later a others quiet told = by-test (is_sign c t.token) refl
      where
        by-test : (q : Bool) → is_sign c t.token ≡ q → Told reads b (t ∷ ts) (whether q t (later ts))
        by-test true p =
            let same = standing-as t (sign_of c t.token p) in
            told-pass reads (next m t) b t ts a (later ts) (sign-inner c t.token p)
            (ap (λ z. number quota (next m z)) same ∙ quiet t.place t.past)
            (λ a₁. told t.place t.past (b ++ t ∷ []) ts (subst (λ z. At (next m z) (b ++ t ∷ []) ts) same a₁))
        by-test false p = told-refuse b t ts a (others t p)

    -- a name that must come
    pub told-name : (b : List Placed) (fault : Name → ℕ) (ts : List Placed) (later : ℕ → Name → List Placed → Parsed A) → At m b ts
        → ((t : Placed) → name_of t.token ≡ none → step m.stage t ≡ failed)
        → ((n : Name) (place past : ℕ) → number quota (next m (standing (function_name n) place past)) ≡ fault n)
        → ((n : Name) (place past : ℕ) (b₁ us : List Placed) → length us < length ts → fault n ≡ 0
        → At (next m (standing (function_name n) place past)) b₁ us → Told reads b₁ us (later place n us))
        → Told reads b ts (pass_name fault ts later)
    told-name b fault [] later a others faults told = told-cut reads a
    told-name b fault (t ∷ ts) later a others faults told = by-test (name_of t.token) refl
      where
        by-test : (o : Option Name) → name_of t.token ≡ o → Told reads b (t ∷ ts) (name_on o fault t (λ n. later t.place n ts))
        by-test (some n) p =
            let same = standing-as t (name-of t.token p) in
            told-check reads (next m t) b t ts a (fault n) (later t.place n ts) (name-inner t.token p)
            (ap (λ z. number quota (next m z)) same ∙ faults n t.place t.past)
            (λ z a₁. told n t.place t.past (b ++ t ∷ []) ts (omega arith) z (subst (λ z. At (next m z) (b ++ t ∷ []) ts) same a₁))
        by-test none p = told-refuse b t ts a (others t p)

  -- WHAT NO FAULT MEANS

  pub record Fine (m : Sum) : Type 0 where
    pub formed : m.formed ≡ true
    pub going : going m.stage ≡ true
    pub short : m.short ≡ true
    pub table : table_limits quota m.names m.begun ≡ true
    pub pattern : pattern_limits m.sentence.pattern ≡ true
    pub commas : leb m.sentence.commas max_conditions ≡ true
    pub items : item_limits m.sentence.items m.sentence.opens m.sentence.closes ≡ true
    pub declared : declared_right m.names ≡ true
    pub predicates : predicates_right m.sentence.predicates ≡ true
    pub calls : calls_right m.sentence.calls ≡ true
    pub elements : pattern_right m.sentence.pattern ≡ true
    pub middle : middle_right m.sentence.pattern m.sentence.middle ≡ true
    pub symbols : symbols_right m.sentence.pattern m.sentence.items ≡ true
    pub parts : parts_right m.sentence.pattern m.sentence.items ≡ true

  pub fine : (m : Sum) → number quota m ≡ 0 → Fine m
  fine m e =
      let formed = passed m.formed 2 _ (omega arith) e in
      let goes = passed (going m.stage) 3 _ (omega arith) formed.1 in
      let limits = passed _ 4 _ (le-two 2) goes.1 in
      let named = passed _ 5 _ (le-two 3) limits.1 in
      let elements = passed _ 6 _ (le-two 4) named.1 in
      let later = passed _ 7 _ (le-two 5) elements.1 in
      let limits₁ = both_right m.short _ limits.0 in
      let limits₂ = both_right (table_limits quota m.names m.begun) _ limits₁ in
      let limits₃ = both_right (pattern_limits m.sentence.pattern) _ limits₂ in
      let named₁ = both_right (declared_right m.names) _ named.0 in
      let later₁ = both_right (middle_right m.sentence.pattern m.sentence.middle) _ later.0 in
      record {
        formed = formed.0;
        going = goes.0;
        short = both_left m.short _ limits.0;
        table = both_left (table_limits quota m.names m.begun) _ limits₁;
        pattern = both_left (pattern_limits m.sentence.pattern) _ limits₂;
        commas = both_left (leb m.sentence.commas max_conditions) _ limits₃;
        items = both_right (leb m.sentence.commas max_conditions) _ limits₃;
        declared = both_left (declared_right m.names) _ named.0;
        predicates = both_left (predicates_right m.sentence.predicates) _ named₁;
        calls = both_right (predicates_right m.sentence.predicates) _ named₁;
        elements = elements.0;
        middle = both_left (middle_right m.sentence.pattern m.sentence.middle) _ later.0;
        symbols = both_left (symbols_right m.sentence.pattern m.sentence.items) _ later₁;
        parts = both_right (symbols_right m.sentence.pattern m.sentence.items) _ later₁;
      }
    where
      le-two : (n : ℕ) → 0 < suc (suc n)
      le-two n = omega arith
