-- The call's reader.
use Prim.Native.Nat.{ℕ, zero, suc, ◌+◌, ◌≤◌}
use mathlib.Core.Path.{◌≡◌, refl, ◌∙◌, ap}
use mathlib.Core.List.{List, [], ◌∷◌}
use mathlib.Core.Option.{Option, none, some}
use native.Mathlib.Numerals.{add-one}
use native.Mathlib.Omega.{arith}
use lib.ListN.{length, set}
use Rattle.meaning.specs.Choice.{Bytes, Name}
use Rattle.tape_layout.specs.Tape.{tape_word, close_kind}
use Rattle.meaning.specs.Tokens as Tokens
use Rattle.meaning.specs.Grammar.{standing}
use Rattle.meaning.specs.Reading as Reading
use Rattle.meaning.specs.Reading.{Parsed, parsed, follow, where_faultless, name_on, pass_name}
use Rattle.read_tokens.specs.View.{stream}
use Rattle.answers.specs.declared.Fault.{Fault}
use Rattle.read_bookkeeping.specs.declared.variables.Variables.{Variables}
use Rattle.read_functions.specs.declared.expressions.ExpressionCounts.{ExpressionCounts}
use Rattle.std.specs.Prelude.{Result, Ok, Err}
use Rattle.read_bookkeeping.specs.Answered.{Agrees}
use Rattle.read_bookkeeping.specs.Written.{Ready, Went}
use Rattle.read_bookkeeping.specs.Tokened.{unless_word, Taken, Barred}
use Rattle.read_bookkeeping.specs.Items.{symbol_names}
use Rattle.read_functions.specs.Expressions.{progress_at, Going, ExpressionRead}
use Rattle.read_functions.specs.Expressions.{CalledName, call_opening, OpeningRead, CallRead}
use Rattle.read_functions.specs.Expressions.{CloseGives, Closes}
use Rattle.read_bookkeeping.proofs.Going.{stops, reads, ReadAt, has-read, went_then, word-went, ready-after, stops-too}
use Rattle.read_bookkeeping.proofs.Tokening.{passes_on, passes-not}
use Rattle.read_bookkeeping.proofs.Refusing.{word-at-once}
use Rattle.read_functions.proofs.Opened.{opening_at, OpeningAgrees}
use Rattle.read_functions.proofs.Onward.{going_on, going-after}

-- THE DEFINITION

-- what follows a token without a fault, or a name without one, follows all that begins with it
check-follow : {A B : Type 0} (number : ℕ) (t : Tokens.Placed) (p : Parsed A) (next : A → List Tokens.Placed → Parsed B)
    → where_faultless number t (follow p next) ≡ follow (where_faultless number t p) next
check-follow zero t p next = refl
check-follow (suc number) t p next = refl

name_follow : {A B : Type 0} (fault : Name → ℕ) (ts : List Tokens.Placed) (first : ℕ → Name → List Tokens.Placed → Parsed A)
    (next : A → List Tokens.Placed → Parsed B)
    → pass_name fault ts (λ place n rest. follow (first place n rest) next) ≡ follow (pass_name fault ts first) next
name_follow fault [] first next = refl
name_follow {A} {B} fault (t ∷ ts) first next = chosen (Reading.name_of t.token)
  where
    chosen : (o : Option Name) → name_on o fault t (λ n. follow (first t.place n ts) next) ≡
        follow (name_on o fault t (λ n. first t.place n ts)) next
    chosen none = refl
    chosen (some n) = check-follow (fault n) t (first t.place n ts) next

-- a call after its argument, and after its name
abbrev after_argument : CalledName → Reading.Items → List Tokens.Placed → Parsed Reading.Called
after_argument n given ts =
    Reading.pass Tokens.greater_than ts λ rest.
    parsed (record { place = n.place; name = n.name; argument = given.expression; progress = given.progress }) rest

abbrev after_name : (ℕ → Reading.Progress → List Tokens.Placed → Parsed Reading.Items) → ℕ → Reading.Progress → CalledName → List Tokens.Placed →
    Parsed Reading.Called
after_name argument deeper so n ts =
    follow (argument deeper (Reading.past_call so) ts) (after_argument n)

call-is : (argument : ℕ → Reading.Progress → List Tokens.Placed → Parsed Reading.Items) (depth : ℕ) (so : Reading.Progress) (t : Tokens.Placed)
    (ts : List Tokens.Placed)
    → Reading.parse_call argument depth so t ts ≡ follow (call_opening depth so.items t ts) (after_name argument (suc depth) so)
call-is argument depth so t ts =
    rw (name_follow Reading.called_fault ts (λ place n rest. parsed (record { place = place; name = n }) rest) (after_name argument (suc depth) so))
    (check-follow (Reading.call_fault depth so) t
    (pass_name Reading.called_fault ts (λ place n rest. parsed (record { place = place; name = n }) rest))
    (after_name argument (suc depth) so))

-- THE READER

-- what the definition reads of a call after its `<`
abbrev pub call_at : Bytes → Variables → ℕ → ℕ → ExpressionCounts → ℕ → Parsed Reading.Called
call_at text v bound depth s place =
    Reading.parse_call (Reading.parse_expression bound (symbol_names text v)) depth (progress_at text v s)
    (standing (Tokens.sign Tokens.less_than) place s.at)
    (stream text Tokens.naming s.at)

abbrev pub CallAgrees : Bytes → Variables → ℕ → ℕ → ExpressionCounts → ℕ → List ℕ → List ℕ → Result ExpressionCounts Fault → Type 0
CallAgrees text v bound depth s place tape tape' r =
    Agrees (CallRead text v s tape tape') (call_at text v bound depth s place) r

-- what it reads of an expression
abbrev pub expression_at : Bytes → Variables → ℕ → ℕ → ExpressionCounts → Parsed Reading.Items
expression_at text v bound depth start =
    Reading.parse_expression bound (symbol_names text v) depth (progress_at text v start) (stream text Tokens.inside start.at)

abbrev pub ExpressionAgrees : Bytes → Variables → ℕ → ℕ → ExpressionCounts → List ℕ → List ℕ → Result ExpressionCounts Fault → Type 0
ExpressionAgrees text v bound depth start tape tape' r =
    Agrees (ExpressionRead text v start tape tape')
    (unless_word (expression_at text v bound depth start)) r

-- with every bound that is large enough
abbrev pub ExpressionsAgree : Bytes → Variables → ℕ → ExpressionCounts → List ℕ → List ℕ → Result ExpressionCounts Fault → Type 0
ExpressionsAgree text v depth start tape tape' r =
    (bound : ℕ) → length (stream text Tokens.inside start.at) ≤ bound → ExpressionAgrees text v bound depth start tape tape' r

module _ (text : Bytes) (v : Variables) (bound depth : ℕ) (s : ExpressionCounts) (place : ℕ) where
  at-opening : call_at text v bound depth s place
      ≡ follow (opening_at text depth s place) (after_name (Reading.parse_expression bound (symbol_names text v)) (suc depth)
      (progress_at text v s))
  at-opening =
      call-is (Reading.parse_expression bound (symbol_names text v)) depth (progress_at text v s)
      (standing (Tokens.sign Tokens.less_than) place s.at)
      (stream text Tokens.naming s.at)

  pub call-unopened : {tape tape' : List ℕ} {fault : Fault} → OpeningAgrees text depth s place tape tape' (Err fault)
      → CallAgrees text v bound depth s place tape tape' (Err fault)
  call-unopened a = stops-too a refl refl (λ h. at-opening ∙ rw h)

-- the call is open
pub record Opened (text : Bytes) (depth : ℕ) (s : ExpressionCounts) (place : ℕ) (tape tape₁ : List ℕ) (start : ExpressionCounts) : Type 0 where
  pub read : ReadAt (OpeningRead text depth s tape tape₁) (opening_at text depth s place) start

module _ {text : Bytes} {depth : ℕ} {s : ExpressionCounts} {place : ℕ} {tape tape₁ : List ℕ} {start : ExpressionCounts}
    (o : Opened text depth s place tape tape₁ start) where
  argument-shorter : length (stream text Tokens.inside start.at) ≤ length (stream text Tokens.naming s.at)
  argument-shorter = rw o.read.how.tokens at o.read.how.shorter

  pub argument-going : {v : Variables} → Going text v s → Going text v start
  argument-going g =
      going-after g o.read.how.went (omega (arith, o.read.how.counted, o.read.how.few)) (rw o.read.how.passed g.passed)

  -- the argument was read
  pub argument-ready : {v : Variables} {tape₂ : List ℕ} {argument : ExpressionCounts}
      → ExpressionsAgree text v (depth + 1) start tape₁ tape₂ (Ok argument)
      → Ready text argument.at argument.words
  argument-ready a = (has-read _ _ refl (a (length (stream text Tokens.inside start.at)) (omega arith))).how.going.ready

  module _ (v : Variables) (bound : ℕ) where
    from-argument : call_at text v bound depth s place
        ≡ follow (expression_at text v bound (depth + 1) start) (after_argument o.read.value)
    from-argument =
        let r = o.read in
        at-opening text v bound depth s place ∙ rw (r.same, r.how.tokens, r.how.counted, r.how.passed, add-one depth)

    -- a word after the argument is no `>`
    at-argument : call_at text v bound depth s place
        ≡ follow (unless_word (expression_at text v bound (depth + 1) start)) (after_argument o.read.value)
    at-argument =
        from-argument
        ∙ word-at-once (expression_at text v bound (depth + 1) start) (after_argument o.read.value) (λ given w at past rest. refl)

    -- the argument is read
    module _ {tape₂ tape₃ : List ℕ} {argument : ExpressionCounts}
        (h : ReadAt (ExpressionRead text v start tape₁ tape₂)
        (unless_word (expression_at text v bound (depth + 1) start)) argument) where
      close-barred : {fault : Fault} → Barred text Tokens.inside Tokens.greater_than argument.at fault
          → CallAgrees text v bound depth s place tape tape₃ (Err fault)
      close-barred x = stops (at-argument ∙ rw (h.same, h.how.tokens) (passes-not _ x))

      close-done : {at : ℕ} → Taken text Tokens.inside Tokens.greater_than argument.at at
          → tape₃ ≡ set tape₂ argument.words (tape_word close_kind 0)
          → CallAgrees text v bound depth s place tape tape₃
          (Ok (record { at = at; words = argument.words + 1; items = argument.items; passed = argument.passed }))
      close-done {at} x y =
          let w : Went text argument.at argument.words tape₂ at (argument.words + 1) tape₃ (tape_word close_kind 0 ∷ []) =
          word-went h.how.going.ready x.onward x.inside y
          in
          let short : suc (length (stream text Tokens.inside at)) ≤ length (stream text Tokens.inside start.at) =
          rw (h.how.tokens, x.unrolled) at h.how.shorter
          in
          reads _ (stream text Tokens.inside at) (at-argument ∙ rw (h.same, h.how.tokens) (passes_on _ x))
          (record {
            tokens = refl;
            shorter = omega (arith, argument-shorter);
            went = went_then o.read.how.went (went_then h.how.went w);
            progress = h.how.progress;
            going = going_on h.how.going (ready-after h.how.going.ready.short w);
            named = o.read.how.stands;
            stands = h.how.stands;
          })

      -- what comes of the `>`
      close-with : (r : Result ExpressionCounts Fault) → CloseGives text argument tape₂ tape₃ r →
          CallAgrees text v bound depth s place tape tape₃ r
      close-with (Err fault) x = close-barred x
      close-with (Ok next) x = rw x.1 (close-done x.0 x.2)

  module _ {v : Variables} {tape₂ : List ℕ} (bound : ℕ) (h : length (stream text Tokens.naming s.at) ≤ bound) where
    pub argument-stops : {fault : Fault} → ExpressionsAgree text v (depth + 1) start tape₁ tape₂ (Err fault)
        → CallAgrees text v bound depth s place tape tape₂ (Err fault)
    argument-stops a = stops-too (a bound (omega (arith, argument-shorter))) refl refl (λ q. at-argument v bound ∙ rw q)

    pub call-closes : {tape₃ : List ℕ} {argument : ExpressionCounts} {q : Result ExpressionCounts Fault}
        → ExpressionsAgree text v (depth + 1) start tape₁ tape₂ (Ok argument) → Closes text argument tape₂ tape₃ q
        → CallAgrees text v bound depth s place tape tape₃ q
    call-closes {q = q} a x = close-with v bound (has-read _ _ refl (a bound (omega (arith, argument-shorter)))) q x.gives
