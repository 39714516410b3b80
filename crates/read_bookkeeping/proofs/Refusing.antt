-- "Inside a sentence a word that is no variable is refused with 3": such a word among the tokens, and what reading comes to where it is refused at
-- once.
use Prim.Native.Nat.{ℕ}
use mathlib.Core.Path.{◌≡◌, refl, ap}
use mathlib.Core.Bool.{Bool, true, false, true≢false, false≢true}
use mathlib.Core.List.{List, [], ◌∷◌}
use types.Run.{OneOf, miss}
use denote.Enum.Declared.{tag_of}
use Rattle.meaning.specs.Choice.{Bytes, pick}
use Rattle.meaning.specs.Answers.{not_allowed_here}
use Rattle.meaning.specs.Tokens as Tokens
use Rattle.meaning.specs.Grammar.{standing}
use Rattle.meaning.specs.Reading.{Parsed, stopped, parsed, follow, whether, is_sign, pass, is_item}
use Rattle.read_tokens.specs.contracts.Token as token
use Rattle.read_tokens.specs.View.{Sound, Comes}
use Rattle.read_tokens.specs.declared.Token.{Token}
use Rattle.read_tokens.specs.declared.Placed.{Placed}
use Rattle.read_tokens.proofs.Variants.{by_kind}
use Rattle.answers.specs.declared.Refusal.TheVariants.{NotAllowedHere}
use Rattle.read_bookkeeping.specs.Tokened.{word_is, is_word, unless_word}
use Rattle.read_bookkeeping.specs.Items.{NoItem, WordRefused}

-- AMONG THE TOKENS

abbrev all_but_string : List ℕ
all_but_string = 0 ∷ 1 ∷ 2 ∷ 3 ∷ 5 ∷ 6 ∷ 7 ∷ []

abbrev all_but_symbol : List ℕ
all_but_symbol = 0 ∷ 2 ∷ 3 ∷ 4 ∷ 5 ∷ 6 ∷ 7 ∷ []

abbrev all_but_part : List ℕ
all_but_part = 0 ∷ 1 ∷ 3 ∷ 4 ∷ 5 ∷ 6 ∷ 7 ∷ []

module _ (text : Bytes) (place past : ℕ) where
  abbrev placed : Token → Placed
  placed k = record { token = k; place = place; past = past }

  -- neither a string nor a word
  abbrev NoItemIf : Token → Type 0
  NoItemIf k = OneOf all_but_string (tag_of token.the_type k) → word_is k ≡ false → NoItem text (placed k)

  no-item-if : (k : Token) → NoItemIf k
  no-item-if =
      by_kind NoItemIf (λ n o w. record { other = refl; wordless = refl }) (λ x o w. absurd (true≢false w)) (λ x o w. absurd (true≢false w))
      (λ o w. absurd (true≢false w)) (λ n o w. absurd (miss all_but_string 4 tt o)) (λ b o w. record { other = refl; wordless = refl })
      (λ o w. record { other = refl; wordless = refl }) (λ o w. record { other = refl; wordless = refl })

  -- a word, but neither an s-variable nor an e-variable
  abbrev RefusedIf : Token → Type 0
  RefusedIf k =
      Sound text k place past → word_is k ≡ true → OneOf all_but_symbol (tag_of token.the_type k) → OneOf all_but_part (tag_of token.the_type k)
      → WordRefused text (placed k) (record { refusal = NotAllowedHere; place = place })

  refused-if : (k : Token) → RefusedIf k
  refused-if =
      by_kind RefusedIf (λ n s w o p. absurd (false≢true w)) (λ x s w o p. absurd (miss all_but_symbol 1 tt o))
      (λ x s w o p. absurd (miss all_but_part 2 tt p))
      (λ s w o p. record { other = ap is_item s; word = refl; number = refl; place = refl }) (λ n s w o p. absurd (false≢true w))
      (λ b s w o p. absurd (false≢true w)) (λ s w o p. absurd (false≢true w)) (λ s w o p. absurd (false≢true w))

module _ {text : Bytes} {mode : Tokens.Mode} {at : ℕ} {t : Placed} (c : Comes text mode at t) where
  pub no-item : OneOf all_but_string (tag_of token.the_type t.token) → word_is t.token ≡ false → NoItem text t
  no-item = no-item-if text t.place t.past t.token

  pub no-variable : word_is t.token ≡ true → OneOf all_but_symbol (tag_of token.the_type t.token) →
      OneOf all_but_part (tag_of token.the_type t.token)
      → WordRefused text t (record { refusal = NotAllowedHere; place = t.place })
  no-variable = refused-if text t.place t.past t.token c.sound

-- a word is no byte that stands for itself
pub word-no-sign : (byte : ℕ) (k : Tokens.Token) → is_word k ≡ true → is_sign byte k ≡ false
word-no-sign byte (Tokens.function_name n) e = absurd (false≢true e)
word-no-sign byte (Tokens.word w) e = refl
word-no-sign byte (Tokens.quoted text) e = absurd (false≢true e)
word-no-sign byte (Tokens.sign b) e = absurd (false≢true e)
word-no-sign byte Tokens.text_end e = absurd (false≢true e)
word-no-sign byte Tokens.malformed e = absurd (false≢true e)

-- WHAT READING COMES TO

-- what has stopped has stopped
pub stopped-before : {A : Type 0} {p : Parsed A} {number place : ℕ} → p ≡ stopped number place → unless_word p ≡ stopped number place
stopped-before e = rw e

-- a word may be refused at once where what comes next would refuse it
pub word-at-once : {A B : Type 0} (p : Parsed A) (next : A → List Tokens.Placed → Parsed B)
    → ((value : A) (w : Bytes) (place past : ℕ) (rest : List Tokens.Placed)
    → next value (standing (Tokens.word w) place past ∷ rest) ≡ stopped not_allowed_here place)
    → follow p next ≡ follow (unless_word p) next
word-at-once (stopped number place) next h = refl
word-at-once (parsed value []) next h = refl
word-at-once {A} {B} (parsed value (t ∷ rest)) next h = at-token t.token
  where
    at-token : (k : Tokens.Token) → let t' = standing k t.place t.past in
        next value (t' ∷ rest) ≡ follow (pick (is_word k) (stopped not_allowed_here t.place) (parsed value (t' ∷ rest))) next
    at-token (Tokens.function_name n) = refl
    at-token (Tokens.word w) = h value w t.place t.past rest
    at-token (Tokens.quoted text) = refl
    at-token (Tokens.sign b) = refl
    at-token Tokens.text_end = refl
    at-token Tokens.malformed = refl

-- what comes after the last that is read comes after all of it
pub word_after : {A B : Type 0} (p : Parsed A) (first second : A → List Tokens.Placed → Parsed B)
    → ((value : A) (rest : List Tokens.Placed) → unless_word (first value rest) ≡ second value rest)
    → unless_word (follow p first) ≡ follow p second
word_after (stopped number place) first second e = refl
word_after (parsed value rest) first second e = e value rest

pub word-after-pass : {A : Type 0} (byte : ℕ) (ts : List Tokens.Placed) (first second : List Tokens.Placed → Parsed A)
    → ((rest : List Tokens.Placed) → unless_word (first rest) ≡ second rest)
    → unless_word (pass byte ts first) ≡ pass byte ts second
word-after-pass byte [] first second e = refl
word-after-pass {A} byte (t ∷ ts) first second e = chosen (is_sign byte t.token)
  where
    chosen : (is : Bool) → unless_word (whether is t (first ts)) ≡ whether is t (second ts)
    chosen true = e ts
    chosen false = refl

pub word-after-made : {A B : Type 0} (make : A → B) (p : Parsed A)
    → unless_word (follow p (λ value rest. parsed (make value) rest)) ≡ follow (unless_word p) (λ value rest. parsed (make value) rest)
word-after-made make (stopped number place) = refl
word-after-made make (parsed value []) = refl
word-after-made {A} {B} make (parsed value (t ∷ rest)) = chosen (is_word t.token)
  where
    chosen : (is : Bool)
        → pick is (stopped not_allowed_here t.place) (parsed (make value) (t ∷ rest))
        ≡ follow (pick is (stopped not_allowed_here t.place) (parsed value (t ∷ rest))) (λ v r. parsed (make v) r)
    chosen true = refl
    chosen false = refl
