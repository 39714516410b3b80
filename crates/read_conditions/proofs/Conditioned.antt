-- The conditions' reader.
use Prim.Native.Nat.{ℕ, zero, suc, ◌+◌, ◌-◌, ◌*◌, ◌≤◌, ◌<◌}
use mathlib.Core.Path.{◌≡◌, refl, sym, ◌∙◌, ap}
use mathlib.Core.Bool.{Bool, true, false, true≢false}
use mathlib.Core.List.{List, [], ◌∷◌, ◌++◌, append-nil, append_assoc}
use mathlib.Core.Option as maybe
use Rattle.std.specs.Prelude.{Option, Some, None, Result, Ok, Err, IfErr}
use native.Mathlib.Omega.{arith}
use lib.Dec.{T, eqb, ltb, lt→ltb}
use lib.ListN.{length, get_or}
use lib.Seq.{length-slice}
use types.Run.{OneOf, miss}
use denote.Enum.Declared.{tag_of}
use borrow.Author.Tests.{eq-eqb, ne_eqb, eqb-true, ltb-true, ltb-false}
use Rattle.meaning.specs.Choice.{Bytes, Name, pick, both, every, same_bytes}
use Rattle.meaning.specs.Classes.{Class, digit, upper, lower, alphabetic, blank, class_number}
use Rattle.meaning.specs.Tree.{Subject, Condition}
use Rattle.meaning.specs.Answers.{over_limit}
use Rattle.meaning.specs.Names.{predicate_of}
use Rattle.tape_layout.specs.Tape.{class_count, condition_truth, condition_part, condition_size, condition_word}
use Rattle.tape_layout.specs.Tape.{truth_number, subject_tape, condition_tape, conditions_tape}
use Rattle.meaning.specs.Tokens as Tokens
use Rattle.meaning.specs.Grammar.{standing, truth_byte}
use Rattle.meaning.specs.Reading as Reading
use Rattle.meaning.specs.Reading.{Parsed, stopped, parsed, follow, subject_fault, item_of, subject_on}
use Rattle.meaning.proofs.Laws.Passing.{both-pass}
use Rattle.meaning.specs.Allowed.{max_conditions, max_identifier, max_name, max_table}
use Rattle.read_tokens.specs.contracts.Token as token
use Rattle.read_tokens.proofs.Shortest.{three-bytes}
use Rattle.read_tokens.specs.View as View
use Rattle.read_tokens.specs.View.{token_of, placed_of, Sound, stream, Comes}
use Rattle.read_tokens.specs.declared.Span.{Span}
use Rattle.read_tokens.specs.declared.Token.{Token}
use Rattle.read_tokens.specs.declared.Token.TheVariants.{Quoted}
use Rattle.read_tokens.proofs.Variants.{by_kind}
use Rattle.read_tokens.specs.declared.Placed as Code
use Rattle.answers.specs.declared.Fault.{Fault}
use Rattle.answers.specs.declared.Refusal.TheVariants.{WrongName}
use Rattle.byte_classes.specs.declared.Class.{Class as CodeClass}
use Rattle.byte_classes.specs.Classed.{class_meant, class_found}
use Rattle.read_bookkeeping.specs.declared.progress.Progress.{Progress}
use Rattle.read_bookkeeping.specs.declared.variables.Variables.{Variables}
use Rattle.read_bookkeeping.specs.Tables.{Inside}
use Rattle.answers.specs.Numbers.{fault_number}
use Rattle.read_bookkeeping.specs.Answered.{Agrees}
use Rattle.read_bookkeeping.specs.Written.{WroteOnTape, is_quiet, Ready, Went}
use Rattle.read_bookkeeping.specs.Tokened.{sign_is, Taken, Barred}
use Rattle.read_bookkeeping.specs.Items.{Known, symbol_names, part_names}
use Rattle.read_conditions.specs.declared.VariableKind.{VariableKind}
use Rattle.read_conditions.specs.declared.VariableKind.TheVariants as kind
use Rattle.read_conditions.specs.declared.Variable.{Variable}
use Rattle.tape_words.specs.Words.{subject_of}
use Rattle.read_conditions.specs.Conditions.{variable_in, variable_names, is_part, kind_number, condition_end, condition_on}
use Rattle.read_conditions.specs.Conditions.{truth_found, truth_said, truth_between, Standing, Before, ConditionRead, ConditionsRead}
use Rattle.meaning_accepting.proofs.Reading.Basics.{no_value}
use Rattle.std.proofs.lemmas.Option.{none-some, same_Some}
use Rattle.read_bookkeeping.proofs.Choosing.{every_append, both_true, not-refused}
use Rattle.read_bookkeeping.proofs.Lengths.{too_long, short-enough, within}
use Rattle.read_bookkeeping.proofs.Going.{checked-wrong, refused-wrong, stops, reads, has-read, stops-too, follow-alone, makes, behind, behind_more, went-none}
use Rattle.read_bookkeeping.proofs.Going.{ready-after, went-from, went_then}
use Rattle.read_bookkeeping.proofs.Items.{variable_token, variable_item, identifier-inside, variable-at, variable-here, item-then}
use Rattle.read_bookkeeping.proofs.Tokening.{FaultOf, NoName, NameFirst, sign-shown, takes, passes_on, barred-stops, names-not, refused}
use Rattle.read_bookkeeping.proofs.Tokening.{ready-past, ready-taken, went-before}

-- A CONDITION'S VARIABLE

abbrev no_variable : List ℕ
no_variable = 0 ∷ 3 ∷ 4 ∷ 5 ∷ 6 ∷ 7 ∷ []

pub no-variable : (k : Token) → OneOf no_variable (tag_of token.the_type k) → None ≡ variable_in k
no-variable =
    by_kind (λ k. OneOf no_variable (tag_of token.the_type k) → None ≡ variable_in k) (λ n o. refl) (λ x o. absurd (miss no_variable 1 tt o))
    (λ x o. absurd (miss no_variable 2 tt o)) (λ o. refl) (λ n o. refl) (λ b o. refl) (λ o. refl) (λ o. refl)

-- a token that is no variable is refused where one is to stand
abbrev Refuses : Bytes → ℕ → ℕ → Token → Type 0
Refuses text place past k =
    Sound text k place past → (symbols parts : List Name) (t : Tokens.Placed) (next : Subject → Parsed Condition)
    → subject_on (item_of (token_of text k place past)) symbols parts t next ≡ Reading.refuse t

abbrev Tells : Bytes → ℕ → ℕ → Token → Option Variable → Type 0
Tells text place past k (Some v) = k ≡ variable_token (is_part v.kind) v.identifier
Tells text place past k None = Refuses text place past k

tells : (text : Bytes) (place past : ℕ) (k : Token) → Tells text place past k (variable_in k)
tells text place past =
    by_kind (λ k. Tells text place past k (variable_in k)) (λ n s ss ps t next. refl) (λ x. refl) (λ x. refl) (λ s ss ps t next. rw s)
    (λ n s ss ps t next. refl) (λ b s ss ps t next. refl) (λ s ss ps t next. refl) (λ s ss ps t next. refl)

-- what is (asked text vs v) of the pattern's variables of a kind
subject-asked : {A : Type 0} (text : Bytes) (vs : Variables) (k : VariableKind) (x : Name) (t : Tokens.Placed)
    (next : Subject → Parsed A)
    → subject_on (variable_item (is_part k) x) (symbol_names text vs) (part_names text vs) t next
    ≡ Reading.where_faultless (subject_fault (variable_names text vs k) x) t (next (subject_of (is_part k) x))
subject-asked text vs kind.Symbol x t next = refl
subject-asked text vs kind.Part x t next = refl

-- its word carries the length of its identifier, its kind, its truth value and its class
subject-tape : (k : VariableKind) (x : Name) {word : ℕ} (truth class : ℕ)
    → word ≡ condition_word + length x * condition_size + kind_number k + truth + class
    → subject_tape (truth + class) (subject_of (is_part k) x) ≡ word ∷ x
subject-tape kind.Symbol x truth class e = rw e (ap (λ (w : ℕ). w ∷ x) (omega arith))
subject-tape kind.Part x truth class e = rw e (ap (λ (w : ℕ). w ∷ x) (omega arith))

kind-low : (k : VariableKind) → kind_number k ≤ condition_part
kind-low kind.Symbol = omega arith
kind-low kind.Part = omega arith

truth-low : (truth : Bool) → truth_number truth ≤ condition_truth
truth-low true = omega arith
truth-low false = omega arith

class-low : (c : Class) → class_number c < class_count
class-low digit = omega arith
class-low upper = omega arith
class-low lower = omega arith
class-low alphabetic = omega arith
class-low blank = omega arith

-- THE CLOSING STRING

abbrev all_but_quoted : List ℕ
all_but_quoted = 0 ∷ 1 ∷ 2 ∷ 3 ∷ 5 ∷ 6 ∷ 7 ∷ []

no-string : (text : Bytes) (k : Token) (place past : ℕ) (three : Bool) → OneOf all_but_quoted (tag_of token.the_type k)
    → Reading.truth_of (token_of text k place past) three ≡ maybe.none
no-string text k place past three =
    by_kind (λ t. OneOf all_but_quoted (tag_of token.the_type t) → Reading.truth_of (token_of text t place past) three ≡ maybe.none)
    (λ n o. refl) (λ x o. refl) (λ x o. refl)
    (λ o. refl) (λ n o. absurd (miss all_but_quoted 4 tt o)) (λ b o. refl) (λ o. refl) (λ o. refl) k

-- what a token says that says nothing, and that says a truth value
pub says_nothing : (o : maybe.Option Bool) → None ≡ truth_found o → o ≡ maybe.none
says_nothing maybe.none e = refl
says_nothing (maybe.some truth) e = absurd (none-some truth e)

pub says_truth : (o : maybe.Option Bool) {truth : Bool} → Some truth ≡ truth_found o → o ≡ maybe.some truth
says_truth maybe.none {truth} e = absurd (none-some truth (sym e))
says_truth (maybe.some said) {truth} e = ap maybe.some (sym (same_Some truth said e))

pub truth-none : (text : Bytes) (t : Code.Placed) → OneOf all_but_quoted (tag_of token.the_type t.token) → None ≡ truth_found (truth_said text t)
truth-none text t o = rw (no-string text t.token t.place t.past (eqb t.past (t.place + 3)) o)

module _ (text : Bytes) (t : Code.Placed) (count : ℕ) (e : t.token ≡ Quoted count) where
  pub truth-long : (t.past ≡ t.place + 3 → ⊥) → None ≡ truth_found (truth_said text t)
  truth-long d = rw (e, ne_eqb t.past (t.place + 3) d)

  module _ (s : Standing text t) (d : t.past ≡ t.place + 3) where
    abbrev middle : ℕ
    middle = get_or text (t.place + 1) 0

    three : truth_said text t
        ≡ pick (both (eqb middle (truth_byte true)) true) (maybe.some true) (pick (both (eqb middle (truth_byte false)) true) (maybe.some false) maybe.none)
    unfolding same_bytes
    three =
        let q = rw e at s.sound in
        rw (e, eq-eqb t.past (t.place + 3) d, three-bytes text t.place t.past d s.inside q.0)

    pub truth-three : {closing : Option Bool} → closing ≡ truth_found (truth_between middle) → closing ≡ truth_found (truth_said text t)
    truth-three v =
        let e : truth_said text t ≡ truth_between middle =
        three ∙ rw (← (both_true (eqb middle (truth_byte true))), ← (both_true (eqb middle (truth_byte false)))) in
        v ∙ ap truth_found (sym e)

-- a condition that is read from a later place on is read from here
earlier : {text : Bytes} {at from words : ℕ} {tape tape' : List ℕ} {p q : Parsed Condition} {r : Result Progress Fault} → at ≤ from → p ≡ q
    → Agrees (ConditionRead text from words tape tape') q r
    → Agrees (ConditionRead text at words tape tape') p r
earlier {q = q} h e a =
    makes (λ c. c) q (λ c rest s k. record { tokens = k.tokens; went = went-from h k.went; quiet = k.quiet }) (e ∙ follow-alone q) a

-- A CONDITION AFTER ITS VARIABLE

abbrev EndAgrees : Bytes → ℕ → ℕ → List ℕ → List ℕ → Variable → Class → Result Progress Fault → Type 0
EndAgrees text from words tape tape' v c r =
    Agrees (ConditionRead text from words tape tape')
    (condition_end c (subject_of (is_part v.kind) (View.span_text text v.identifier)) (stream text Tokens.inside from)) r

-- what is left of a condition at its closing string
abbrev with_truth : Class → Subject → Bool → List Tokens.Placed → Parsed Condition
with_truth c v truth rest = parsed (record { predicate = c; subject = v; expected = truth }) rest

-- the token is a string, and the tokens go on after it
abbrev GoesOn : Bytes → ℕ → ℕ → Bool → Bool → Token → Type 0
GoesOn text place past is truth k =
    Reading.truth_of (token_of text k place past) is ≡ maybe.some truth
    → pick (Tokens.is_last_token (token_of text k place past)) [] (stream text (Tokens.mode_after Tokens.inside (token_of text k place past)) past) ≡
    stream text Tokens.inside past

goes_on_lem : (text : Bytes) (place past : ℕ) (is truth : Bool) (k : Token) → GoesOn text place past is truth k
goes_on_lem text place past is truth =
    by_kind (GoesOn text place past is truth) (λ n e. no_value e) (λ x e. no_value e) (λ x e. no_value e) (λ e. no_value e) (λ n e. refl)
    (λ b e. no_value e)
    (λ e. no_value e) (λ e. no_value e)

-- the variable lies in the text, and the tape has room for it
pub before-room : {text : Bytes} {from words : ℕ} {x : Span} → Ready text from words → Before text words from x
    → Inside text x × (words + 1 + (x.past - x.from) ≤ max_table)
before-room r b = (
  record { forward = omega (arith, b.some); inside = omega (arith, b.before, r.inside) },
  omega (arith, b.after, b.some, b.before, r.inside, r.short),
)

-- `>` and `:` stand after a condition's variable, and a token that says this after them
pub record ClosingAt (text : Bytes) (from words : ℕ) (x : Span) (close colon : ℕ) (t : Code.Placed) (closing : Option Bool) : Type 0 where
  pub ready : Ready text from words
  pub variable : Before text words from x
  pub closed : Taken text Tokens.inside Tokens.greater_than from close
  pub parted : Taken text Tokens.inside Tokens.colon close colon
  pub first : Comes text Tokens.inside colon t
  pub truth : closing ≡ truth_found (truth_said text t)

module _ (v : Variable) {text : Bytes} {from words : ℕ} where
  module _ {close colon : ℕ} {t : Code.Placed} {closing : Option Bool} (a : ClosingAt text from words v.identifier close colon t closing) (c : Class) where
    at-truth : condition_end c (subject_of (is_part v.kind) (View.span_text text v.identifier)) (stream text Tokens.inside from)
        ≡ Reading.pass_truth (stream text Tokens.inside colon) (with_truth c (subject_of (is_part v.kind) (View.span_text text v.identifier)))
    at-truth = passes_on _ a.closed ∙ passes_on _ a.parted

    pub end-no-truth : {tape tape' : List ℕ} {fault : Fault} → closing ≡ None → FaultOf t fault
        → EndAgrees text from words tape tape' v c (Err fault)
    end-no-truth e f = refused a.first (at-truth ∙ rw (a.first.unrolled, says_nothing (truth_said text t) (rw e at a.truth))) f

    pub end_reads : {tape tape' : List ℕ} {expected : Bool} {word after : ℕ} → closing ≡ Some expected
        → word ≡ condition_word + (v.identifier.past - v.identifier.from) * condition_size + kind_number v.kind + truth_number expected + class_number c
        → WroteOnTape tape words (word ∷ View.span_text text v.identifier) after tape' × T (every is_quiet (View.span_text text v.identifier))
        → EndAgrees text from words tape tape' v c (Ok (record { at = t.past; words = after }))
    unfolding every
    end_reads {expected = expected} {word = word} {after = after} e w o =
        let b = a.variable in
        let same : truth_said text t ≡ maybe.some expected = says_truth (truth_said text t) (rw e at a.truth) in
        let l : length (View.span_text text v.identifier) ≡ v.identifier.past - v.identifier.from =
        length-slice v.identifier.from v.identifier.past text (omega (arith, b.before, a.ready.inside)) in
        let q : subject_tape (truth_number expected + class_number c) (subject_of (is_part v.kind) (View.span_text text v.identifier)) ≡ word ∷ View.span_text text v.identifier =
        subject-tape v.kind (View.span_text text v.identifier) (truth_number expected) (class_number c) (rw l w)
        in
        let m : after ≡ words + suc (length (View.span_text text v.identifier)) = o.0.reached in
        reads (record { predicate = c; subject = subject_of (is_part v.kind) (View.span_text text v.identifier); expected = expected }) (stream text Tokens.inside t.past)
        (at-truth ∙ rw (a.first.unrolled, same, goes_on_lem text t.place t.past _ _ t.token same))
        (record {
          tokens = refl;
          went =
              record {
                onward = omega (arith, a.closed.onward, a.parted.onward, a.first.onward, a.first.forward);
                inside = a.first.inside;
                charged = omega (arith, l, b.after, b.before, b.some, a.closed.onward, a.parted.onward, a.first.onward, a.first.forward);
                counted = rw q m;
                wrote = rw q o.0.same;
              };
          quiet =
              rw q
              (both-pass (is_quiet word) (every is_quiet (View.span_text text v.identifier)) (lt→ltb word 2304 (omega (arith, w, b.short, kind-low v.kind, truth-low expected, class-low c))) o.1);
        })

-- A CONDITION AFTER ITS PREDICATE

-- with the variables of a sentence
abbrev on_names : Bytes → Variables → Class → List Tokens.Placed → Parsed Condition
on_names text vs = condition_on (symbol_names text vs) (part_names text vs)

abbrev OnAgrees : Bytes → Variables → ℕ → ℕ → List ℕ → List ℕ → Class → Result Progress Fault → Type 0
OnAgrees text vs from words tape tape' c r =
    Agrees (ConditionRead text from words tape tape') (on_names text vs c (stream text Tokens.inside from)) r

-- the first token after a condition's predicate
pub record OnToken (text : Bytes) (vs : Variables) (from words : ℕ) (t : Code.Placed) : Type 0 where
  pub known : Known text vs
  pub ready : Ready text from words
  pub first : Comes text Tokens.inside from t

-- it is a variable
pub record OnVariable {text : Bytes} {vs : Variables} {from words : ℕ} {t : Code.Placed}
    (on : OnToken text vs from words t) (v : Variable) : Type 0 where
  pub variable : t.token ≡ variable_token (is_part v.kind) v.identifier

-- what is wrong with it
abbrev asked : Bytes → Variables → Variable → ℕ
asked text vs v = subject_fault (variable_names text vs v.kind) (View.span_text text v.identifier)

told : (text : Bytes) (t : Code.Placed) (named : Option Variable) → named ≡ variable_in t.token → Tells text t.place t.past t.token named
told text t named e = rw e (tells text t.place t.past t.token)

module _ {text : Bytes} {vs : Variables} {from words : ℕ} {t : Code.Placed} where
  pub on-no-variable : OnToken text vs from words t → (c : Class) {tape tape' : List ℕ} {fault : Fault}
      → None ≡ variable_in t.token
      → FaultOf t fault
      → OnAgrees text vs from words tape tape' c (Err fault)
  on-no-variable a c o f =
      let k = a.first in
      refused k
      (rw k.unrolled (told text t None o k.sound (symbol_names text vs) (part_names text vs) (placed_of text t) _))
      f

  module _ {on : OnToken text vs from words t} {v : Variable} where
    pub on-variable : Some v ≡ variable_in t.token → OnVariable on v
    on-variable e = record { variable = told text t (Some v) e }

    pub on-inside : OnVariable on v → Inside text v.identifier
    on-inside a = identifier-inside (variable-at on.first (is_part v.kind) _ a.variable)

    at-subject : OnVariable on v → (c : Class) → on_names text vs c (stream text Tokens.inside from)
        ≡ Reading.where_faultless (asked text vs v) (placed_of text t)
        (condition_end c (subject_of (is_part v.kind) (View.span_text text v.identifier)) (stream text Tokens.inside t.past))
    at-subject a c =
        let h = variable-here on.first (is_part v.kind) _ a.variable in
        rw ((item-then on.first (rw h.is h.some)).unrolled, h.is)
        (subject-asked text vs v.kind (View.span_text text v.identifier) (placed_of text t) _)

    pub on-wrong : OnVariable on v → (c : Class) {tape tape' : List ℕ} {U : Type 0} {r : Result U Fault} {fault : Fault} → r ≡ Err fault
        → fault_number r ≡ (asked text vs v)
        → IfErr r (λ f. f.place ≡ t.place)
        → OnAgrees text vs from words tape tape' c (Err fault)
    on-wrong s c e n p = stops (at-subject s c ∙ checked-wrong n (placed_of text t) _ e p)

    module _ (s : OnVariable on v) (right : (asked text vs v) ≡ 0) where
      pub on-before : Ready text t.past words × Before text words t.past v.identifier
      on-before =
          let i = variable-at on.first (is_part v.kind) _ s.variable in (
            ready-past on.ready on.first,
            record {
              after = omega (arith, on.ready.charged, i.after);
              some = i.some;
              before = omega (arith, (variable-here on.first (is_part v.kind) _ s.variable).ends);
              short = within text v.identifier (identifier-inside i) max_identifier 3 _ right;
            },
          )

      -- what is read from a later place on is read from here
      pub on-reads : (c : Class) {tape tape' : List ℕ} {r : Result Progress Fault} → EndAgrees text t.past words tape tape' v c r
          → OnAgrees text vs from words tape tape' c r
      on-reads c e = earlier (omega (arith, on.first.onward, on.first.forward)) (at-subject s c ∙ rw right) e

-- A CONDITION AFTER ITS `,`

-- with the variables of a sentence
abbrev condition_names : Bytes → Variables → List Tokens.Placed → Parsed Condition
condition_names text vs = Reading.parse_condition (symbol_names text vs) (part_names text vs)

abbrev ConditionAgrees : Bytes → Variables → ℕ → ℕ → List ℕ → List ℕ → Result Progress Fault → Type 0
ConditionAgrees text vs from words tape tape' r =
    Agrees (ConditionRead text from words tape tape') (condition_names text vs (stream text Tokens.inside from)) r

abbrev with_name : (Class → List Tokens.Placed → Parsed Condition) → ℕ → Name → List Tokens.Placed → Parsed Condition
with_name next place n ts = Reading.with_class (predicate_of n) place λ class. next class ts

-- `<` stands after the `,`, and a token after it
pub record OpenedAt (text : Bytes) (vs : Variables) (from words start : ℕ) (t : Code.Placed) : Type 0 where
  pub known : Known text vs
  pub ready : Ready text from words
  pub opened : Taken text Tokens.inside Tokens.less_than from start
  pub first : Comes text Tokens.naming start t

-- it is a name
pub record NamedAt {text : Bytes} {vs : Variables} {from words start : ℕ} {t : Code.Placed}
    (o : OpenedAt text vs from words start t) (n : Span) : Type 0 where
  pub name : NameFirst text Tokens.naming start t n

module _ {text : Bytes} {vs : Variables} {from words : ℕ} where
  pub open-not : {tape tape' : List ℕ} {fault : Fault} → Known text vs → Barred text Tokens.inside Tokens.less_than from fault
      → ConditionAgrees text vs from words tape tape' (Err fault)
  unfolding Reading.parse_condition
  open-not known b = barred-stops _ b

  module _ {start : ℕ} {t : Code.Placed} where
    at_name : OpenedAt text vs from words start t
        → condition_names text vs (stream text Tokens.inside from)
        ≡ Reading.pass_name (λ n. Reading.length_fault n 0) (stream text Tokens.naming start) (with_name (on_names text vs))
    unfolding Reading.parse_condition
    at_name a = passes_on _ a.opened

    pub name-not : {tape tape' : List ℕ} {fault : Fault} → OpenedAt text vs from words start t
        → NoName t.token
        → FaultOf t fault
        → ConditionAgrees text vs from words tape tape' (Err fault)
    name-not a n f = refused a.first (at_name a ∙ names-not a.first _ _ n) f

    module _ {o : OpenedAt text vs from words start t} {n : Span} (a : NamedAt o n) where
      pub name-ready : Ready text t.past words
      name-ready = ready-past (ready-taken o.ready o.opened) o.first

      length-number : (wrong : Bool) → ltb max_name (n.past - n.from) ≡ wrong
          → pick wrong over_limit 0 ≡ Reading.length_fault (View.span_text text n) 0
      length-number true h = rw (too_long text n a.name.inside max_name (ltb-true max_name (n.past - n.from) h))
      length-number false h = rw (short-enough text n a.name.inside max_name (ltb-false max_name (n.past - n.from) h))

      pub name-long : {tape tape' : List ℕ} {U : Type 0} {r : Result U Fault} {fault : Fault} → r ≡ Err fault
          → fault_number r ≡ pick (ltb max_name (n.past - n.from)) over_limit 0
          → IfErr r (λ f. f.place ≡ t.place)
          → ConditionAgrees text vs from words tape tape' (Err fault)
      name-long e m q =
          stops (at_name o ∙ rw a.name.unrolled (checked-wrong (m ∙ length-number _ refl) (standing _ t.place t.past) _ e q))

      pub name-short : (number : ℕ) → 0 ≡ pick (ltb max_name (n.past - n.from)) (suc number) 0 → n.past - n.from ≤ max_name
      name-short number e = ltb-false max_name (n.past - n.from) (not-refused _ number e)

      module _ (l : n.past - n.from ≤ max_name) where
        at-class : condition_names text vs (stream text Tokens.inside from)
            ≡ with_name (on_names text vs) t.place (View.span_text text n) (stream text Tokens.inside t.past)
        at-class = at_name o ∙ rw (a.name.unrolled, short-enough text n a.name.inside max_name l)

        pub class-not : {tape tape' : List ℕ} {p : Option CodeClass} → class_found p ≡ predicate_of (View.span_text text n) → p ≡ None
            → ConditionAgrees text vs from words tape tape' (Err (record { refusal = WrongName; place = t.place }))
        class-not d e = stops (at-class ∙ rw (← d, e))

        pub class-reads : {tape tape' : List ℕ} {r : Result Progress Fault} {p : Option CodeClass} {class : CodeClass} → class_found p ≡
            predicate_of (View.span_text text n) → p ≡ Some class
            → OnAgrees text vs t.past words tape tape' (class_meant class) r
            → ConditionAgrees text vs from words tape tape' r
        class-reads d e a₁ =
            earlier (omega (arith, o.opened.onward, o.first.onward, o.first.forward)) (at-class ∙ rw (← d, e)) a₁

-- CONDITIONS

module _ (symbols parts : List Name) where
  -- where no `,` stands the conditions end
  conditions-end : (left : ℕ) (t : Tokens.Placed) (ts : List Tokens.Placed) → Reading.is_sign Tokens.comma t.token ≡ false
      → Reading.parse_conditions left symbols parts (t ∷ ts) ≡ parsed [] (t ∷ ts)
  unfolding Reading.parse_conditions
  conditions-end zero t ts e = rw e
  conditions-end (suc left) t ts e = rw e

  conditions-full : (t : Tokens.Placed) (ts : List Tokens.Placed) → Reading.is_sign Tokens.comma t.token ≡ true
      → Reading.parse_conditions 0 symbols parts (t ∷ ts) ≡ stopped over_limit t.place
  unfolding Reading.parse_conditions
  conditions-full t ts e = rw e

  conditions-next : (more left : ℕ) (t : Tokens.Placed) (ts : List Tokens.Placed) → more ≡ suc left → Reading.is_sign Tokens.comma t.token ≡ true
      → Reading.parse_conditions more symbols parts (t ∷ ts)
      ≡ follow (Reading.parse_condition symbols parts ts) (λ c ts₁. follow (Reading.parse_conditions left symbols parts ts₁)
      (λ cs rest. parsed (c ∷ cs) rest))
  unfolding Reading.parse_conditions
  conditions-next more left t ts n e = rw (n, e)

-- the conditions from the start are those from here with these before them
pub record Conditioned (text start : List ℕ) (symbols parts : List Name) (from words : ℕ) (tape : List ℕ) (at to left : ℕ) : Type 0 where
  pub before : List Condition
  pub same : Reading.parse_conditions max_conditions symbols parts (stream text Tokens.inside from)
      ≡ follow (Reading.parse_conditions left symbols parts (stream text Tokens.inside at)) (behind before)
  pub went : Went text from words start at to tape (conditions_tape before)
  pub quiet : T (every is_quiet (conditions_tape before))
  pub short : length text ≤ max_table

pub conditions-ready : {text start : List ℕ} {symbols parts : List Name} {from words : ℕ} {tape : List ℕ} {at to left : ℕ}
    → Conditioned text start symbols parts from words tape at to left → Ready text at to
conditions-ready k = ready-after k.short k.went

tape-more : (cs : List Condition) (c : Condition) → conditions_tape (cs ++ c ∷ []) ≡ conditions_tape cs ++ condition_tape c
unfolding conditions_tape
tape-more [] c = append-nil (condition_tape c)
tape-more (d ∷ cs) c = rw (tape-more cs c) (sym (append_assoc (condition_tape d) (conditions_tape cs) (condition_tape c)))

pub conditions-start : (text start : List ℕ) (symbols parts : List Name) (from words : ℕ) → Ready text from words
    → Conditioned text start symbols parts from words start from words max_conditions
unfolding conditions_tape every
conditions-start text start symbols parts from words r =
    record {
      before = [];
      same = follow-alone (Reading.parse_conditions max_conditions symbols parts (stream text Tokens.inside from));
      went = went-none text from words start r;
      quiet = tt;
      short = r.short;
    }

-- the token after those, a `,` or another one
pub record LookedAt (text start : List ℕ) (symbols parts : List Name) (from words : ℕ) (tape : List ℕ) (at to left : ℕ)
    (t : Code.Placed) (comma : Bool) : Type 0 where
  pub read : Conditioned text start symbols parts from words tape at to left
  pub first : Comes text Tokens.inside at t
  pub sign : sign_is Tokens.comma t.token ≡ comma

abbrev ConditionsAgree : List ℕ → List ℕ → List Name → List Name → ℕ → ℕ → List ℕ → Result Progress Fault → Type 0
ConditionsAgree text start symbols parts from words tape r =
    Agrees (ConditionsRead text from words start tape) (Reading.parse_conditions max_conditions symbols parts (stream text Tokens.inside from)) r

module _ {text start : List ℕ} {symbols parts : List Name} {from words : ℕ} {tape : List ℕ} {at to left : ℕ} {t : Code.Placed} where
  shown : {comma : Bool} → LookedAt text start symbols parts from words tape at to left t comma
      → Reading.is_sign Tokens.comma (token_of text t.token t.place t.past) ≡ comma
  shown a = sign-shown text t Tokens.comma a.sign

  pub conditions-done : LookedAt text start symbols parts from words tape at to left t false
      → ConditionsAgree text start symbols parts from words tape (Ok (record { at = t.place; words = to }))
  conditions-done a =
      let k = a.read in
      let c = a.first in
      reads k.before (stream text Tokens.inside at)
      (k.same ∙ rw (c.unrolled, conditions-end symbols parts left (placed_of text t) _ (shown a), append-nil k.before))
      (record {
        tokens = sym c.again;
        went = went-before k.went c;
        quiet = k.quiet;
      })

  module _ (a : LookedAt text start symbols parts from words tape at to left t true) where
    -- the condition after its `,`
    pub condition-ready : Ready text t.past to
    condition-ready = ready-past (conditions-ready a.read) a.first

    pub conditions-many : {U : Type 0} {r : Result U Fault} {fault : Fault} → r ≡ Err fault
        → fault_number r ≡ pick (eqb left 0) over_limit 0
        → IfErr r (λ f. f.place ≡ t.place)
        → ConditionsAgree text start symbols parts from words tape (Err fault)
    conditions-many {fault = fault} e n p =
        let w = refused-wrong (eqb left 0) e n in
        let q : fault.place ≡ t.place = rw e at p in
        stops
        (a.read.same
        ∙ rw (a.first.unrolled, eqb-true left 0 w.0, conditions-full symbols parts (placed_of text t) _ (shown a), w.1, q))

    pub some-left : (number : ℕ) → 0 ≡ pick (eqb left 0) (suc number) 0 → left ≡ 0 → ⊥
    some-left number e z = true≢false (sym (eq-eqb left 0 z) ∙ not-refused _ number e)

    -- what was read of it stops the conditions, or they go on after it
    abbrev pub ConditionsOn : List ℕ → Result Progress Fault → Type 0
    ConditionsOn tape' (Err fault) = ConditionsAgree text start symbols parts from words tape' (Err fault)
    ConditionsOn tape' (Ok s) = Conditioned text start symbols parts from words tape' s.at s.words (left - 1)

    pub conditions-on : (left ≡ 0 → ⊥) → {tape' : List ℕ} (r : Result Progress Fault)
        → Agrees (ConditionRead text t.past to tape tape') (Reading.parse_condition symbols parts (stream text Tokens.inside t.past)) r
        → ConditionsOn tape' r
    conditions-on z {tape'} r e = turned r e
      where
        at-condition : Reading.parse_conditions max_conditions symbols parts (stream text Tokens.inside from)
            ≡ follow
            (follow (Reading.parse_condition symbols parts (stream text Tokens.inside t.past))
            (λ d ts. follow (Reading.parse_conditions (left - 1) symbols parts ts) (λ ds rest. parsed (d ∷ ds) rest)))
            (behind a.read.before)
        at-condition =
            let comma = takes text Tokens.inside at Tokens.comma t a.first a.sign in
            a.read.same
            ∙ rw (
              comma.unrolled,
              conditions-next symbols parts left (left - 1) (standing (Tokens.sign Tokens.comma) comma.place t.past)
                  (stream text Tokens.inside t.past) (omega arith) refl,
            )

        goes_with : {s : Progress} (d : Condition) (rest : List Tokens.Placed)
            → Reading.parse_condition symbols parts (stream text Tokens.inside t.past) ≡ parsed d rest
            → ConditionRead text t.past to tape tape' d rest s
            → ConditionsOn tape' (Ok s)
        goes_with {s} d rest q h =
            let k = a.read in
            record {
              before = k.before ++ d ∷ [];
              same =
                  at-condition
                  ∙ rw (q, h.tokens) (behind_more k.before d (Reading.parse_conditions (left - 1) symbols parts
                  (stream text Tokens.inside s.at)));
              went = rw (tape-more k.before d) (went_then k.went (went-from (omega (arith, a.first.onward, a.first.forward)) h.went));
              quiet =
                  rw (tape-more k.before d)
                  (every_append is_quiet (conditions_tape k.before) (condition_tape d) k.quiet h.quiet);
              short = k.short;
            }

        turned : (r' : Result Progress Fault)
            → Agrees (ConditionRead text t.past to tape tape') (Reading.parse_condition symbols parts (stream text Tokens.inside t.past)) r'
            → ConditionsOn tape' r'
        turned (Err fault) e' = stops-too e' refl refl (λ h. at-condition ∙ rw h)
        turned (Ok s) e' = let h = has-read _ s refl e' in goes_with h.value h.rest h.same h.how
