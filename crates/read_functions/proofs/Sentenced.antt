-- The sentence's reader, and what comes before and after a sentence.
use Prim.Native.Nat.{ℕ, zero, suc, ◌+◌, ◌≤◌, ◌<◌}
use mathlib.Core.Path.{◌≡◌, refl, ◌∙◌, ap}
use mathlib.Core.Bool.{true, false}
use mathlib.Core.List.{List, [], ◌∷◌}
use native.Mathlib.Omega.{arith}
use lib.Dec.{eqb}
use lib.ListN.{length, set}
use types.Run.{OneOf, miss}
use denote.Enum.Declared.{tag_of}
use borrow.Author.Tests.{ne_eqb}
use Rattle.meaning.specs.Choice.{Bytes}
use Rattle.meaning.specs.Tree.{Element, Condition, Sentence}
use Rattle.meaning.specs.Allowed.{symbols_of, parts_of, max_conditions, max_table}
use Rattle.meaning.specs.Tokens as Tokens
use Rattle.meaning.specs.Reading as Reading
use Rattle.meaning.specs.Reading.{Parsed, parsed, follow}
use Rattle.read_tokens.specs.contracts.Token as token
use Rattle.read_tokens.specs.View.{token_of, placed_of, stream, Comes}
use Rattle.read_tokens.specs.declared.Token.{Token}
use Rattle.read_tokens.specs.declared.Token.TheVariants.{Sign}
use Rattle.read_tokens.specs.declared.Placed as Code
use Rattle.std.specs.Prelude.{Result, Ok, Err}
use Rattle.answers.specs.declared.Refusal.TheVariants.{OverLimit}
use Rattle.answers.specs.declared.Fault.{Fault}
use Rattle.read_bookkeeping.specs.declared.progress.Progress.{Progress}
use Rattle.read_bookkeeping.specs.declared.variables.Variables.{Variables}
use Rattle.read_patterns.specs.declared.Counts.{Counts}
use Rattle.read_functions.specs.declared.expressions.ExpressionCounts.{ExpressionCounts}
use Rattle.read_functions.specs.declared.sentences.Sequel.TheVariants.{Ends, Another}
use Rattle.read_bookkeeping.specs.Answered.{Agrees}
use Rattle.read_bookkeeping.specs.Written.{Ready}
use Rattle.read_bookkeeping.specs.Tokened.{sign_is, unless_word, Taken}
use Rattle.read_bookkeeping.specs.Items.{Known, symbol_names, part_names}
use Rattle.read_patterns.specs.Patterns.{PatternRead}
use Rattle.read_conditions.specs.Conditions.{ConditionsRead}
use Rattle.read_functions.specs.Expressions.{Going, fault_at, uncounted}
use Rattle.read_functions.specs.Sentences.{from_equals, EqualsRead, SentenceRead, begins_sentence, sentence_within_limit, first_sentence}
use Rattle.read_functions.specs.Sentences.{FirstRead, Follows}
use Rattle.read_bookkeeping.proofs.Items.{variable-of, variable-at}
use Rattle.read_bookkeeping.proofs.Going.{stops, reads, ReadAt, has-read, follow-same, pass-follow, follow-alone, makes, went-from, went_then}
use Rattle.read_bookkeeping.proofs.Going.{word-went, ready-after, stops-too}
use Rattle.read_bookkeeping.proofs.Tokening.{fault-same, sign-shown, passes_on, refused, FaultOf}
use Rattle.read_bookkeeping.proofs.Refusing.{word-at-once, word_after, word-after-pass, word-after-made}
use Rattle.read_functions.proofs.Calling.{ExpressionAgrees}
use Rattle.read_tokens.proofs.Variants.{by_kind}

-- WHERE A SENTENCE BEGINS

pub begins-sign : {t : Token} {b : ℕ} → t ≡ Sign b → (b ≡ Tokens.comma → ⊥) → eqb b Tokens.equals ≡ begins_sentence t
begins-sign {b = b} e d = rw (e, ne_eqb b Tokens.comma d)

abbrev no_beginning : List ℕ
no_beginning = 0 ∷ 3 ∷ 6 ∷ 7 ∷ []

pub begins-other : (t : Token) → OneOf no_beginning (tag_of token.the_type t) → false ≡ begins_sentence t
begins-other =
    by_kind (λ t. OneOf no_beginning (tag_of token.the_type t) → false ≡ begins_sentence t) (λ n o. refl) (λ x o. absurd (miss no_beginning 1 tt o))
    (λ x o. absurd (miss no_beginning 2 tt o)) (λ o. refl) (λ n o. absurd (miss no_beginning 4 tt o)) (λ b o. absurd (miss no_beginning 5 tt o))
    (λ o. refl) (λ o. refl)

pub begins-same : {text : Bytes} {mode : Tokens.Mode} {at : ℕ} {t : Code.Placed} → Comes text mode at t
    → Reading.begins (token_of text t.token t.place t.past) ≡ begins_sentence t.token
begins-same {text} {t = t} c =
    by_kind (λ k. t.token ≡ k → Reading.begins (token_of text k t.place t.past) ≡ begins_sentence k) (λ n e. refl)
    (λ x e. rw (variable-of (variable-at c false x e) false)) (λ x e. rw (variable-of (variable-at c true x e) true)) (λ e. rw (rw e at c.sound))
    (λ n e. refl) (λ b e. refl) (λ e. refl) (λ e. refl) t.token refl

-- WHAT COMES AFTER A SENTENCE

module _ {text : Bytes} {from : ℕ} where
  pub ends-at-once : {past : ℕ} → Taken text Tokens.inside Tokens.right_brace from past → Follows text from (Ok (Ends past))
  ends-at-once k = record { gives = (λ more s. rw k.unrolled, k.onward, k.inside) }

  pub follows_nothing : {t : Code.Placed} {fault : Fault} → Comes text Tokens.inside from t → sign_is Tokens.right_brace t.token ≡ false
      → sign_is Tokens.semicolon t.token ≡ false
      → FaultOf t fault
      → Follows text from (Err fault)
  follows_nothing {t} c e d f =
      record {
        gives = λ more s. rw (
          c.unrolled,
          sign-shown text t Tokens.right_brace e,
          sign-shown text t Tokens.semicolon d,
          f.0 ∙ fault-same text t.place t.past t.token,
          f.1,
        );
      }

  module _ {next : ℕ} (k : Taken text Tokens.inside Tokens.semicolon from next) where
    pub ends-after : {past : ℕ} → Taken text Tokens.inside Tokens.right_brace next past → Follows text from (Ok (Ends past))
    ends-after l = record { gives = (λ more s. rw (k.unrolled, l.unrolled), omega (arith, k.onward, l.onward), l.inside) }

    pub goes_after : {t : Code.Placed} → Comes text Tokens.inside next t → sign_is Tokens.right_brace t.token ≡ false
        → Follows text from (Ok (Another t.place))
    goes_after {t} c e =
        record {
          gives = (
            λ more s. rw (k.unrolled, c.again, c.unrolled, sign-shown text t Tokens.right_brace e),
            omega (arith, k.onward, c.onward),
            omega (arith, c.forward, c.inside),
          );
        }

-- A SENTENCE FROM ITS `=` ON

abbrev expression_start : ℕ → ℕ → ExpressionCounts
expression_start at words = record { at = at; words = words + 1; items = 0; passed = 0 }

abbrev EqualsAgrees : Bytes → Variables → ℕ → ℕ → List ℕ → List ℕ → Result Progress Fault → Type 0
EqualsAgrees text v from words tape tape' r =
    Agrees (EqualsRead text from words tape tape') (from_equals (symbol_names text v) (part_names text v)
    (stream text Tokens.inside from)) r

-- the `=` was passed
pub record AfterEquals (text : Bytes) (from words at : ℕ) : Type 0 where
  pub ready : Ready text from words
  pub taken : Taken text Tokens.inside Tokens.equals from at

module _ {text : Bytes} {from words at : ℕ} (q : AfterEquals text from words at) where
  pub equals-room : words < max_table
  equals-room = omega (arith, q.ready.charged, q.ready.short, q.taken.onward, q.taken.inside)

  module _ {v : Variables} where
    pub equals-going : Known text v → Going text v (expression_start at words)
    equals-going known =
        record {
          variables = known;
          passed = omega arith;
          few = omega arith;
          ready =
              record {
                inside = q.taken.inside;
                charged = omega (arith, q.ready.charged, q.taken.onward);
                short = q.ready.short;
              };
        }

    -- what the expression's reader came to, with every bound that is large enough
    pub equals-stop : {tape tape₁ tape' : List ℕ} {fault : Fault}
        → ((bound : ℕ) → length (stream text Tokens.inside at) ≤ bound
        → ExpressionAgrees text v bound 0 (expression_start at words) tape₁ tape' (Err fault))
        → EqualsAgrees text v from words tape tape' (Err fault)
    equals-stop a = stops-too (a (length (stream text Tokens.inside at)) (omega arith)) refl refl (λ k. passes_on _ q.taken ∙ k)

    pub equals-read : {tape tape₁ tape' : List ℕ} {s : ExpressionCounts} → tape₁ ≡ set tape words 1024
        → ((bound : ℕ) → length (stream text Tokens.inside at) ≤ bound
        → ExpressionAgrees text v bound 0 (expression_start at words) tape₁ tape' (Ok s))
        → EqualsAgrees text v from words tape tape' (Ok (uncounted s))
    equals-read {s = s} e a =
        let k = has-read _ s refl (a (length (stream text Tokens.inside at)) (omega arith)) in
        reads k.value k.rest (passes_on _ q.taken ∙ k.same)
        (record {
          tokens = k.how.tokens;
          went = went_then (word-went q.ready q.taken.onward q.taken.inside e) k.how.went;
          stands = k.how.stands;
        })

-- A SENTENCE

abbrev SentenceAgrees : Bytes → ℕ → ℕ → List ℕ → List ℕ → Result Progress Fault → Type 0
SentenceAgrees text from words tape tape' r =
    Agrees (SentenceRead text from words tape tape') (unless_word (Reading.parse_sentence (stream text Tokens.inside from))) r

-- after its pattern, and after its conditions
abbrev with_expression : List Element → List Condition → Reading.Items → Sentence
with_expression p cs i = record { pattern = p; conditions = cs; expression = i.expression }

abbrev after_pattern : List Element → List Tokens.Placed → Parsed Sentence
after_pattern p ts =
    follow (Reading.parse_conditions max_conditions (symbols_of p) (parts_of p) ts) λ cs ts₁.
    Reading.pass Tokens.equals ts₁ λ ts₂.
    follow (unless_word (Reading.parse_expression (length ts₂) (symbols_of p) 0 (record { items = 0; coming = parts_of p }) ts₂)) λ i rest.
    parsed (with_expression p cs i) rest

-- a word that is no variable is refused after the pattern and after the expression
sentence-is : (ts : List Tokens.Placed) → unless_word (Reading.parse_sentence ts) ≡ follow (unless_word (Reading.parse_pattern [] ts)) after_pattern
unfolding Reading.parse_sentence Reading.parse_conditions
sentence-is ts =
    word_after (Reading.parse_pattern [] ts) _ after_pattern (λ p ts₁.
    word_after (Reading.parse_conditions max_conditions (symbols_of p) (parts_of p) ts₁) _ _ λ cs ts₂.
    word-after-pass Tokens.equals ts₂ _ _ λ ts₃.
    word-after-made (with_expression p cs) (Reading.parse_expression (length ts₃) (symbols_of p) 0 (record { items = 0; coming = parts_of p }) ts₃))
    ∙ word-at-once (Reading.parse_pattern [] ts) after_pattern (λ p w place past rest. refl)

-- what the definition reads after the pattern
abbrev conditions_at : Bytes → Variables → ℕ → Parsed (List Condition)
conditions_at text v at =
    Reading.parse_conditions max_conditions (symbol_names text v) (part_names text v) (stream text Tokens.inside at)

-- the pattern was read
pub record AfterPattern (text : Bytes) (from words : ℕ) (tape : List ℕ) (v : Variables) (tape₁ : List ℕ) (p : Counts) : Type 0 where
  pub ready : Ready text from words
  pub read : ReadAt (PatternRead text from words tape v tape₁) (unless_word (Reading.parse_pattern [] (stream text Tokens.inside from))) p

-- the conditions were read after it
pub record AfterConditions {text : Bytes} {from words : ℕ} {tape : List ℕ} {v : Variables} {tape₁ : List ℕ} {p : Counts}
    (pattern : AfterPattern text from words tape v tape₁ p) (tape₂ : List ℕ) (c : Progress) : Type 0 where
  pub read : ReadAt (ConditionsRead text p.at p.words tape₁ tape₂) (conditions_at text v p.at) c

module _ {text : Bytes} {from words : ℕ} {tape : List ℕ} {v : Variables} {tape₁ : List ℕ} where
  pub pattern-stops : {fault : Fault}
      → Agrees (PatternRead text from words tape v tape₁) (unless_word (Reading.parse_pattern [] (stream text Tokens.inside from))) (Err fault)
      → SentenceAgrees text from words tape tape₁ (Err fault)
  pattern-stops a = stops-too a refl refl (λ h. sentence-is _ ∙ rw h)

  pub pattern-done : {p : Counts}
      → Agrees (PatternRead text from words tape v tape₁) (unless_word (Reading.parse_pattern [] (stream text Tokens.inside from))) (Ok p)
      → Ready text from words → AfterPattern text from words tape v tape₁ p
  pattern-done a ready = record { ready = ready; read = has-read _ _ refl a }

module _ {text : Bytes} {from words : ℕ} {tape : List ℕ} {v : Variables} {tape₁ : List ℕ} {p : Counts}
    (k : AfterPattern text from words tape v tape₁ p) where
  pub pattern-ready : Ready text p.at p.words
  pattern-ready = ready-after k.ready.short k.read.how.went

  pub pattern-variables : Known text v
  pattern-variables = k.read.how.variables

  at-conditions : unless_word (Reading.parse_sentence (stream text Tokens.inside from))
      ≡ follow (conditions_at text v p.at) (λ cs ts. follow (from_equals (symbol_names text v) (part_names text v) ts)
      (λ i rest. parsed (with_expression k.read.value cs i) rest))
  at-conditions =
      sentence-is _
      ∙ rw (k.read.same, k.read.how.tokens, k.read.how.symbols, k.read.how.parts)
      (follow-same (conditions_at text v p.at) (λ cs ts. pass-follow Tokens.equals ts _ _))

  module _ {tape₂ : List ℕ} where
    pub conditions-stop : {fault : Fault}
        → Agrees (ConditionsRead text p.at p.words tape₁ tape₂) (conditions_at text v p.at) (Err fault) → SentenceAgrees text from words tape tape₂ (Err fault)
    conditions-stop a = stops-too a refl refl (λ h. at-conditions ∙ rw h)

    pub conditions-done : {c : Progress}
        → Agrees (ConditionsRead text p.at p.words tape₁ tape₂) (conditions_at text v p.at) (Ok c) → AfterConditions k tape₂ c
    conditions-done a = record { read = has-read _ _ refl a }

module _ {text : Bytes} {from words : ℕ} {tape : List ℕ} {v : Variables} {tape₁ : List ℕ} {p : Counts}
    {k : AfterPattern text from words tape v tape₁ p} {tape₂ : List ℕ} {c : Progress}
    (l : AfterConditions k tape₂ c) where
  pub conditions-ready : Ready text c.at c.words
  conditions-ready = ready-after k.ready.short l.read.how.went

  pub sentence-reads : {tape' : List ℕ} {r : Result Progress Fault}
      → EqualsAgrees text v c.at c.words tape₂ tape' r
      → SentenceAgrees text from words tape tape' r
  sentence-reads a =
      makes (with_expression k.read.value l.read.value) _
      (λ i rest s h. record {
        tokens = h.tokens;
        went = went_then k.read.how.went (went_then l.read.how.went h.went);
        stands = record { pattern = k.read.how.quiet; conditions = l.read.how.quiet; expression = h.stands };
      })
      (at-conditions k ∙ rw (l.read.same, l.read.how.tokens))
      a

-- THE NEXT SENTENCE

sentence-of : (left : ℕ) (t : Tokens.Placed) (ts : List Tokens.Placed) → (left ≡ 0 → ⊥) → sentence_within_limit left t ts ≡
    unless_word (Reading.parse_sentence (t ∷ ts))
sentence-of zero t ts h = absurd (h refl)
sentence-of (suc left) t ts h = refl

abbrev FirstAgrees : Bytes → ℕ → ℕ → ℕ → List ℕ → List ℕ → Result Progress Fault → Type 0
FirstAgrees text left from words tape tape' r =
    Agrees (FirstRead text left from words tape tape') (first_sentence left (stream text Tokens.inside from)) r

module _ (left words : ℕ) {text : Bytes} {from : ℕ} {t : Code.Placed} (c : Comes text Tokens.inside from t) where
  pub first-refused : {tape tape' : List ℕ} {fault : Fault} → begins_sentence t.token ≡ false → FaultOf t fault
      → FirstAgrees text left from words tape tape' (Err fault)
  first-refused e f = refused c (rw (c.unrolled, begins-same c ∙ e)) f

  module _ (e : begins_sentence t.token ≡ true) where
    pub first-many : {tape tape' : List ℕ} → left ≡ 0 → FirstAgrees text left from words tape tape' (Err (fault_at OverLimit t.place))
    first-many z = stops (rw (c.unrolled, begins-same c ∙ e, z))

    pub first_reads : (left ≡ 0 → ⊥) → {tape tape' : List ℕ} {r : Result Progress Fault} → SentenceAgrees text t.place words tape tape' r
        → FirstAgrees text left from words tape tape' r
    first_reads z a =
        makes (λ s. s) _
        (λ s rest p h. record {
          read = record { tokens = h.tokens; went = went-from c.onward h.went; stands = h.stands };
          some = omega arith;
        })
        (rw (c.again, c.unrolled, begins-same c ∙ e, sentence-of left (placed_of text t) _ z) (follow-alone _))
        a
