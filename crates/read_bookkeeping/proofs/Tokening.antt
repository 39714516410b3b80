-- The first token from a place on, as the readers look at it.
use Prim.Native.Nat.{ℕ, ◌<◌}
use mathlib.Core.Path.{◌≡◌, refl, sym, ◌∙◌}
use mathlib.Core.Bool.{Bool, true, false, false≢true}
use mathlib.Core.List.{List, ◌∷◌}
use mathlib.Core.Option.{none}
use native.Mathlib.Omega.{arith}
use borrow.Author.Tests.{eqb-true, eq-eqb}
use Rattle.std.specs.Prelude.{Err}
use Rattle.meaning.specs.Choice.{Bytes}
use Rattle.meaning.specs.Tokens as Tokens
use Rattle.meaning.specs.Grammar.{standing}
use Rattle.meaning.specs.Reading as Reading
use Rattle.read_tokens.specs.View as View
use Rattle.read_tokens.specs.View.{token_of, placed_of, stream, Comes}
use Rattle.read_tokens.specs.declared.Span.{Span}
use Rattle.read_tokens.specs.declared.Token.{Token}
use Rattle.read_tokens.specs.declared.Token.TheVariants.{Name}
use Rattle.read_tokens.proofs.Variants.{by_kind}
use Rattle.read_tokens.specs.declared.Placed.{Placed}
use Rattle.answers.specs.declared.Fault.{Fault}
use Rattle.read_bookkeeping.specs.Tables.{Inside}
use Rattle.answers.specs.Numbers.{refusal_number}
use Rattle.read_bookkeeping.specs.Answered.{Agrees}
use Rattle.read_bookkeeping.specs.Written.{Ready, Went}
use Rattle.read_bookkeeping.specs.Tokened.{token_fault, sign_is, Taken, Barred}
use Rattle.read_bookkeeping.proofs.Going.{stops, went_on}

-- a token's fault, and a token that is no name
abbrev pub FaultOf : Placed → Fault → Type 0
FaultOf t fault = (refusal_number fault.refusal ≡ token_fault t.token) × (fault.place ≡ t.place)

abbrev pub NoName : Token → Type 0
NoName t = (name : Span) → t ≡ Name name → ⊥

module _ (text : Bytes) (place past : ℕ) where
  pub fault-same : (t : Token) → token_fault t ≡ Reading.fault_of (token_of text t place past)
  fault-same =
      by_kind (λ t. token_fault t ≡ Reading.fault_of (token_of text t place past))
      (λ n. refl) (λ x. refl) (λ x. refl) refl (λ n. refl) (λ b. refl) refl refl

  pub sign_same : (byte : ℕ) (t : Token) → sign_is byte t ≡ Reading.is_sign byte (token_of text t place past)
  sign_same byte =
      by_kind (λ t. sign_is byte t ≡ Reading.is_sign byte (token_of text t place past))
      (λ n. refl) (λ x. refl) (λ x. refl) refl (λ n. refl) (λ b. refl)
      refl refl

pub sign-shown : (text : Bytes) (t : Placed) (byte : ℕ) {is : Bool} → sign_is byte t.token ≡ is
    → Reading.is_sign byte (token_of text t.token t.place t.past) ≡ is
sign-shown text t byte e = sym (sign_same text t.place t.past byte t.token) ∙ e

module _ (text : Bytes) (mode : Tokens.Mode) (at : ℕ) where
  -- a token that is a byte
  abbrev SignHere : ℕ → ℕ → ℕ → Token → Type 0
  SignHere byte place past t =
      Comes text mode at (record { token = t; place = place; past = past }) → sign_is byte t ≡ true
      → (stream text mode at ≡ standing (Tokens.sign byte) place past ∷ stream text (Tokens.mode_after mode (Tokens.sign byte)) past) × (at < past)

  sign-here : (byte place past : ℕ) (t : Token) → SignHere byte place past t
  sign-here byte place past =
      by_kind (SignHere byte place past) (λ n c e. absurd (false≢true e)) (λ x c e. absurd (false≢true e)) (λ x c e. absurd (false≢true e))
      (λ c e. absurd (false≢true e)) (λ n c e. absurd (false≢true e))
      (λ b c e. (rw (eqb-true b byte e) at c.unrolled, omega (arith, c.onward, c.moves tt)))
      (λ c e. absurd (false≢true e)) (λ c e. absurd (false≢true e))

  pub sign-first : {byte : ℕ} {t : Placed} → Comes text mode at t → sign_is byte t.token ≡ true
      → stream text mode at ≡ standing (Tokens.sign byte) t.place t.past ∷ stream text (Tokens.mode_after mode (Tokens.sign byte)) t.past
  sign-first {byte} {t} c e = (sign-here byte t.place t.past t.token c e).0

  -- a token that is the byte, and one that is not
  pub takes : (byte : ℕ) (t : Placed) → Comes text mode at t → sign_is byte t.token ≡ true → Taken text mode byte at t.past
  takes byte t c e =
      let h = sign-here byte t.place t.past t.token c e in
      record { place = t.place; unrolled = h.0; onward = h.1; inside = c.inside }

  pub bars : (byte : ℕ) (t : Placed) (fault : Fault) → Comes text mode at t → sign_is byte t.token ≡ false
      → FaultOf t fault → Barred text mode byte at fault
  bars byte t fault c e f =
      record {
        token = placed_of text t;
        rest = _;
        unrolled = c.unrolled;
        other = sign-shown text t byte e;
        number = f.0 ∙ fault-same text t.place t.past t.token;
        place = f.1;
      }

-- a token that was asked whether it is a byte, and is
pub is-taken : {text : Bytes} {mode : Tokens.Mode} {byte at : ℕ} {t : Placed} {is : Bool} → Comes text mode at t → is ≡ sign_is byte t.token → is ≡
    true
    → Taken text mode byte at t.past
is-taken {text} {mode} {byte} {at} {t} c s e = takes text mode at byte t c (sym s ∙ e)

-- PASSING

module _ {A : Type 0} {text : Bytes} {mode : Tokens.Mode} {byte at : ℕ} (next : List Tokens.Placed → Reading.Parsed A) where
  pub passes_on : {past : ℕ} → Taken text mode byte at past
      → Reading.pass byte (stream text mode at) next ≡ next (stream text (Tokens.mode_after mode (Tokens.sign byte)) past)
  passes_on t = rw (t.unrolled, eq-eqb byte byte refl)

  pub passes-not : {fault : Fault} → Barred text mode byte at fault
      → Reading.pass byte (stream text mode at) next ≡ Reading.stopped (refusal_number fault.refusal) fault.place
  passes-not b = rw (b.unrolled, b.other, b.number, b.place)

  -- a byte that isn't there stops a reader that begins with it
  pub barred-stops : {P : Type 0} {Reads : A → List Tokens.Placed → P → Type 0} {fault : Fault} → Barred text mode byte at fault
      → Agrees Reads (Reading.pass byte (stream text mode at) next) (Err fault)
  barred-stops b = stops (passes-not b)

-- NAMES

-- the first token from a place on is a name
pub record NameFirst (text : Bytes) (mode : Tokens.Mode) (at : ℕ) (t : Placed) (n : Span) : Type 0 where
  pub unrolled : stream text mode at
      ≡ standing (Tokens.function_name (View.span_text text n)) t.place t.past ∷ stream text (Tokens.after_name mode) t.past
  pub from : n.from ≡ t.place
  pub past : n.past ≡ t.past
  pub some : t.place < t.past
  pub inside : Inside text n

module _ {text : Bytes} {mode : Tokens.Mode} {at : ℕ} {t : Placed} (c : Comes text mode at t) where
  pub name-first : {n : Span} → t.token ≡ Name n → NameFirst text mode at t n
  name-first e =
      let s = rw e at c.sound in
      let m : t.place < t.past = c.moves (rw e tt) in
      record {
        unrolled = c.unrolled ∙ rw e;
        from = s.0;
        past = s.1;
        some = m;
        inside = record { forward = omega (arith, s.0, s.1); inside = omega (arith, s.1, c.inside) };
      }

  -- any other token
  no_name : (k : Token) (place past : ℕ) → NoName k → Reading.name_of (token_of text k place past) ≡ none
  no_name k place past =
      by_kind (λ t'. NoName t' → Reading.name_of (token_of text t' place past) ≡ none) (λ n o. absurd (o n refl))
      (λ x o. refl) (λ x o. refl) (λ o. refl) (λ n o. refl) (λ b o. refl) (λ o. refl) (λ o. refl) k

  pub names-not : {A : Type 0} (fault : Bytes → ℕ) (next : ℕ → Bytes → List Tokens.Placed → Reading.Parsed A)
      → NoName t.token
      → Reading.pass_name fault (stream text mode at) next ≡ Reading.refuse (placed_of text t)
  names-not fault next o = rw (c.unrolled, no_name t.token t.place t.past o)

-- a token is refused
module _ {text : Bytes} {mode : Tokens.Mode} {at : ℕ} {t : Placed} {fault : Fault} {A : Type 0} {p : Reading.Parsed A} where
  pub refused : {P : Type 0} {Reads : A → List Tokens.Placed → P → Type 0} → Comes text mode at t → p ≡ Reading.refuse (placed_of text t)
      → FaultOf t fault
      → Agrees Reads p (Err fault)
  refused c e f = stops (e ∙ rw (f.0 ∙ fault-same text t.place t.past t.token, f.1))

-- a reader may go on at a token's place and after it
module _ {text : Bytes} {mode : Tokens.Mode} {at words : ℕ} {t : Placed} (r : Ready text at words) (c : Comes text mode at t) where
  pub ready-place : Ready text t.place words
  ready-place =
      record { inside = omega (arith, c.forward, c.inside); charged = omega (arith, r.charged, c.onward); short = r.short }

  pub ready-past : Ready text t.past words
  ready-past = record { inside = c.inside; charged = omega (arith, r.charged, c.onward, c.forward); short = r.short }

pub ready-taken : {text : Bytes} {mode : Tokens.Mode} {byte at past words : ℕ} → Ready text at words → Taken text mode byte at past →
    Ready text past words
ready-taken r t = record { inside = t.inside; charged = omega (arith, r.charged, t.onward); short = r.short }

-- what was read ends before the first token that was not
pub went-before : {text : Bytes} {at words : ℕ} {tape : List ℕ} {at' words' : ℕ} {tape' added : List ℕ} {mode : Tokens.Mode} {t : Placed}
    → Went text at words tape at' words' tape' added → Comes text mode at' t → Went text at words tape t.place words' tape' added
went-before {t = t} w c = went_on t.place w c.onward (omega (arith, c.forward, c.inside))
