-- The readers of a function and of a table's functions.
use Prim.Native.Nat.{ℕ, zero, suc, ◌+◌, ◌-◌, ◌≤◌, ◌<◌}
use mathlib.Core.Path.{◌≡◌, refl, sym, ◌∙◌, ap}
use mathlib.Core.Bool.{Bool, true, false, not}
use mathlib.Core.List.{List, [], ◌∷◌, ◌++◌, append_assoc, append-nil}
use native.Mathlib.Numerals.{add-one}
use native.Mathlib.Omega.{arith}
use lib.Dec.{T, leb, ltb, eqb}
use lib.ListN.{length, take, drop, set, length-append, length-set}
use lib.Seq.{take-suc-set}
use types.Run.{OneOf, miss}
use denote.Enum.Declared.{tag_of}
use borrow.Author.Tests.{lt-ltb, le-ltb}
use Rattle.meaning.specs.Choice.{Bytes, Name, pick, both, either, every}
use Rattle.meaning.specs.Answers.{over_limit, wrong_name}
use Rattle.meaning.specs.Names.{is_built_in, is_predicate}
use Rattle.meaning.specs.Tree.{Function, Table}
use Rattle.meaning.specs.Allowed.{max_table, max_functions, max_name, member, names_of}
use Rattle.tape_layout.specs.Tape as Tape
use Rattle.tape_layout.specs.Tape.{named, function_kind, function_tape, sentences_tape, function_word}
use Rattle.meaning.specs.Tokens as Tokens
use Rattle.meaning.specs.Reading as Reading
use Rattle.meaning.specs.Reading.{Parsed, stopped, parsed, follow, fault_unless}
use Rattle.read_tokens.specs.contracts.Token as token
use Rattle.read_tokens.specs.View as View
use Rattle.read_tokens.specs.View.{token_of, placed_of, stream, Comes}
use Rattle.read_tokens.specs.declared.Span.{Span}
use Rattle.read_tokens.specs.declared.Token.{Token}
use Rattle.read_tokens.specs.declared.Token.TheVariants.{Name as NameToken}
use Rattle.read_tokens.specs.declared.Placed as Code
use Rattle.std.specs.Prelude.{Result, Ok, Err, IfOk}
use Rattle.std.specs.declared.ops.ControlFlow.TheVariants.{Continue, Break}
use Rattle.answers.specs.declared.Refusal.TheVariants.{OverLimit, WrongName}
use Rattle.answers.specs.declared.Fault.{Fault}
use Rattle.answers.proofs.Refused.{not-accepted}
use Rattle.read_functions.specs.declared.sentences.SentencesEnd.{SentencesEnd}
use Rattle.tape_words.specs.Words.{head_names}
use Rattle.tape_words.specs.Finding.{is_known_among}
use Rattle.read_bookkeeping.specs.Tables.{Inside}
use Rattle.answers.specs.Numbers.{refusal_number}
use Rattle.read_bookkeeping.specs.Answered.{Agrees}
use Rattle.read_bookkeeping.specs.Written.{WroteOnTape, is_quiet, Ready, Went}
use Rattle.read_bookkeeping.specs.Tokened.{sign_is, Taken}
use Rattle.read_functions.specs.declared.functions.Tally.{Tally}
use Rattle.read_functions.specs.Expressions.{fault_at}
use Rattle.read_functions.specs.Sentences.{SentencesRead}
use Rattle.read_functions.specs.Functions.{heads_from, Heads, declared_fault_in}
use Rattle.read_functions.specs.Functions.{FunctionStands, from_brace, declared, Declarable, BodyRead, Opening, name_fault, DeclaredRead, SpareTo}
use Rattle.read_functions.specs.Functions.{is_end_token, functions_of, Functioned, TallyIs, StageIs, Underway}
use Rattle.read_functions.specs.Functions.{new_tally, FunctionsAgree, Stage, Declares}
use Rattle.read_bookkeeping.proofs.Lengths.{part_length, within}
use Rattle.read_bookkeeping.proofs.Words.{written_over, written-before, OnTape, on-tape}
use Rattle.read_bookkeeping.proofs.Going.{check-wrong, stops, reads, ReadAt, has-read, pass-follow, follow-alone, makes, went-none, went-from}
use Rattle.read_bookkeeping.proofs.Going.{went_on, went_then, went-length, ready-after, name-went, stops-too, name-quiet}
use Rattle.read_bookkeeping.proofs.Tokening.{NameFirst, sign-shown, passes_on, name-first, names-not, refused, ready-place, FaultOf, NoName}
use Rattle.read_functions.proofs.Sentencing.{each_none, each_more}
use Rattle.read_functions.proofs.Noting.{begins, heads-more, names-noted, noted-kept}
use Rattle.read_tokens.proofs.Variants.{by_kind}

-- A FUNCTION AFTER ITS NAME

abbrev BodyAgrees : Bytes → ℕ → ℕ → Span → List ℕ → List ℕ → Result SentencesEnd Fault → Type 0
BodyAgrees text limit words n tape tape' r =
    Agrees (BodyRead text limit n.from words (View.span_text text n) tape tape')
    (from_brace limit (stream text Tokens.outside n.past)) r

-- the `{` was passed after a name
pub record AfterBrace (text : Bytes) (words : ℕ) (n : Span) (at : ℕ) : Type 0 where
  pub name : Declarable text words n
  pub taken : Taken text Tokens.outside Tokens.left_brace n.past at

module _ {text : Bytes} {words : ℕ} {n : Span} {at : ℕ} (b : AfterBrace text words n at) where
  pub name-room : Inside text n × (words + 1 + (n.past - n.from) ≤ max_table)
  name-room = (b.name.inside, omega (arith, b.name.after, b.name.short, b.name.inside.forward, b.taken.onward, b.taken.inside))

  module _ {tape tape₁ : List ℕ} {word to : ℕ} (e : word ≡ function_word + (n.past - n.from))
      (w : WroteOnTape tape words (word ∷ View.span_text text n) to tape₁ × T (every is_quiet (View.span_text text n))) where
    named-went : Went text n.from words tape at to tape₁ (named function_kind (View.span_text text n))
    named-went =
        name-went function_kind b.name.inside (omega (arith, b.name.inside.forward, b.taken.onward)) b.taken.inside
        (omega (arith, b.name.after, b.name.inside.forward, b.taken.onward)) e w.0

    pub body-ready : Ready text at to
    body-ready = ready-after b.name.short named-went

    pub body_reads : {limit : ℕ} {tape' : List ℕ} {r : Result SentencesEnd Fault}
        → Agrees (SentencesRead text limit at to tape₁ tape') (Reading.parse_sentences limit (stream text Tokens.inside at)) r
        → BodyAgrees text limit words n tape tape' r
    body_reads a =
        makes (λ ss. ss) _
        (λ ss rest s h. record {
          tokens = h.tokens;
          went = went_then named-went h.went;
          left = h.left;
          stands = record { name = name-quiet function_kind b.name.inside (omega (arith, b.name.brief)) w.1; sentences = h.stand };
        })
        (passes_on _ b.taken ∙ follow-alone _)
        a

-- A FUNCTION

abbrev FunctionAgrees : Bytes → List ℕ → List ℕ → ℕ → ℕ → ℕ → Code.Placed → List ℕ → List ℕ → Result SentencesEnd Fault → Type 0
FunctionAgrees text tape heads functions limit words t tape' heads' r =
    Agrees (DeclaredRead text limit t.place words functions tape tape' heads heads')
    (Reading.parse_function (name_fault functions (head_names tape (take functions heads))) limit (stream text Tokens.outside t.place)) r

module _ {text tape heads : List ℕ} {functions words : ℕ} {t : Code.Placed} {limit : ℕ} (o : Opening text tape heads functions words t) where
  pub function-nameless : {tape' heads' : List ℕ} {fault : Fault} → NoName t.token
      → FaultOf t fault
      → FunctionAgrees text tape heads functions limit words t tape' heads' (Err fault)
  function-nameless n f = refused o.comes (names-not o.comes _ _ n) f

  module _ {n : Span} (e : t.token ≡ NameToken n) where
    pub function-many : {tape' heads' : List ℕ} → max_functions ≤ functions
        → FunctionAgrees text tape heads functions limit words t tape' heads' (Err (fault_at OverLimit t.place))
    function-many h = stops (rw ((name-first o.comes e).unrolled, le-ltb functions max_functions h))

-- a declared name has the fault that it has where it is called, or else may not be known
declared-fault : (names : List Name) (n : Name)
    → declared_fault_in names n
    ≡ pick (eqb (Reading.called_fault n) 0) (pick (is_known_among names n) wrong_name 0) (Reading.called_fault n)
declared-fault names n = by_tests (leb (length n) max_name) (is_predicate n) (is_built_in n) (member n names)
  where
    by_tests : (short predicate built_in among : Bool)
        → let called = fault_unless short over_limit (fault_unless (not predicate) wrong_name 0) in
        fault_unless short over_limit (fault_unless (both (not (either predicate built_in)) (not among)) wrong_name 0)
        ≡ pick (eqb called 0) (pick (either built_in among) wrong_name 0) called
    by_tests false predicate built_in among = refl
    by_tests true true built_in among = refl
    by_tests true false true among = refl
    by_tests true false false true = refl
    by_tests true false false false = refl

-- a name comes, and one more function may
pub record NameComes (text tape heads : List ℕ) (functions words : ℕ) (t : Code.Placed) (n : Span) : Type 0 where
  pub opening : Opening text tape heads functions words t
  pub is : t.token ≡ NameToken n
  pub few : functions < max_functions

module _ {text tape heads : List ℕ} {functions words : ℕ} {t : Code.Placed} {n : Span} (m : NameComes text tape heads functions words t n) where
  pub named_here : NameFirst text Tokens.outside t.place t n
  named_here = name-first m.opening.comes m.is

  name-after : words + (n.past - n.from) ≤ length text
  name-after = omega (arith, m.opening.ready.charged, named_here.from, named_here.inside.forward, named_here.inside.inside)

  pub copy-room : Inside text n × (words + (n.past - n.from) ≤ max_table)
  copy-room = (named_here.inside, omega (arith, name-after, m.opening.ready.short))

  -- the fault of the name, by the names at the heads
  abbrev fault_here : ℕ
  fault_here = declared_fault_in (head_names tape (take functions heads)) (View.span_text text n)

  module _ {limit : ℕ} {tape' heads' : List ℕ} {fault : Fault} where
    function-misnamed : refusal_number fault.refusal ≡ fault_here → fault.place ≡ t.place
        → FunctionAgrees text tape heads functions limit words t tape' heads' (Err fault)
    function-misnamed f p =
        stops (rw (named_here.unrolled, lt-ltb functions max_functions m.few, ← f, p)
        (check-wrong (refusal_number fault.refusal) _ _ (not-accepted fault.refusal)))

    pub function-uncallable : refusal_number fault.refusal ≡ Reading.called_fault (View.span_text text n) → fault.place ≡ t.place
        → FunctionAgrees text tape heads functions limit words t tape' heads' (Err fault)
    function-uncallable f p =
        function-misnamed (sym (declared-fault _ (View.span_text text n) ∙ rw (← f, not-accepted fault.refusal))) p

-- its name could be called, and is copied to the tape's end
pub record NameCopied (text tape tape₁ heads : List ℕ) (functions words : ℕ) (t : Code.Placed) (n : Span) (to : ℕ) : Type 0 where
  pub comes : NameComes text tape heads functions words t n
  pub callable : Reading.called_fault (View.span_text text n) ≡ 0
  pub wrote : WroteOnTape tape words (View.span_text text n) to tape₁

module _ {text tape tape₁ heads : List ℕ} {functions words : ℕ} {t : Code.Placed} {n : Span} {to : ℕ}
    (m : NameCopied text tape tape₁ heads functions words t n to) where
  abbrev here : NameFirst text Tokens.outside t.place t n
  here = named_here m.comes

  abbrev opens : Opening text tape heads functions words t
  opens = m.comes.opening

  copy-fits : words + (n.past - n.from) ≤ length tape
  copy-fits = omega (arith, name-after m.comes, opens.room)

  standing : OnTape text n tape₁ words
  standing = on-tape here.inside copy-fits m.wrote

  pub name-standing : (words ≤ to) × (to ≤ length tape₁)
  name-standing = (omega (arith, m.wrote.reached), omega (arith, m.wrote.reached, part_length text n here.inside, standing.inside))

  names-kept : head_names tape₁ (take functions heads) ≡ head_names tape (take functions heads)
  names-kept =
      let fits : words + length (View.span_text text n) ≤ length tape = rw (part_length text n here.inside) copy-fits in
      let kept : take words tape₁ ≡ take words tape = rw m.wrote.same (written-before (View.span_text text n) tape words fits) in
      names-noted (noted-kept opens.named kept) ∙ sym (names-noted opens.named)

  pub declarable : Declarable text words n
  declarable =
      record {
        after = omega (arith, opens.ready.charged, here.from);
        inside = here.inside;
        brief = within text n here.inside max_name 3 _ m.callable;
        short = opens.ready.short;
      }

  -- the function's words stand where its name was copied to
  function-went : (f : Function) {at at' words' : ℕ} {tape' : List ℕ} → f.name ≡ View.span_text text n
      → Went text at words tape₁ at' words' tape' (function_tape f)
      → Went text at words tape at' words' tape' (function_tape f)
  function-went f e w =
      let longer : length (View.span_text text n) ≤ length (function_tape f) =
      rw (← e, length-append f.name (sentences_tape f.sentences)) (omega arith) in
      record {
        onward = w.onward;
        inside = w.inside;
        charged = w.charged;
        counted = w.counted;
        wrote = w.wrote ∙ rw m.wrote.same (written_over (View.span_text text n) (function_tape f) tape words longer);
      }

  -- whether it is known is asked of the tape
  name-size : to - words ≡ n.past - n.from
  name-size = omega (arith, m.wrote.reached, part_length text n here.inside)

  module _ {known : Bool} (e : known ≡ is_known_among (head_names tape₁ (take functions heads)) (take (to - words) (drop words tape₁)))
    where
      fault-left : fault_here m.comes ≡ pick known wrong_name 0
      fault-left = declared-fault _ (View.span_text text n) ∙ rw (m.callable, e, name-size, names-kept, standing.same)

      pub function-known : {limit : ℕ} {tape' heads' : List ℕ} → known ≡ true
          → FunctionAgrees text tape heads functions limit words t tape' heads' (Err (fault_at WrongName t.place))
      function-known k = function-misnamed m.comes (sym (fault-left ∙ rw k)) refl

      pub function-reads : {tape' heads' : List ℕ} {limit : ℕ} {r : Result SentencesEnd Fault} → known ≡ false
          → heads' ≡ set heads functions words
          → BodyAgrees text limit words n tape₁ tape' r
          → FunctionAgrees text tape heads functions limit words t tape' heads' r
      function-reads {limit = limit} k w a =
          let few : functions < length heads = rw opens.long m.comes.few in
          let sound : fault_here m.comes ≡ 0 = fault-left ∙ rw k in
          makes (declared (View.span_text text n)) _
          (λ ss rest s h. record {
            read =
                record {
                  tokens = h.tokens;
                  went = went-from (omega (arith, here.from)) (function-went (declared (View.span_text text n) ss) refl h.went);
                  left = h.left;
                  stands = h.stands;
                };
            noted = rw (w, add-one) (take-suc-set heads functions words few);
            few = m.comes.few;
            long = rw w (length-set heads functions words ∙ opens.long);
          })
          (rw (here.unrolled, lt-ltb functions max_functions m.comes.few, sound, ← here.past)
          (pass-follow Tokens.left_brace (stream text Tokens.outside n.past) (λ ts. Reading.parse_sentences limit ts)
          (λ ss rest. parsed (declared (View.span_text text n) ss) rest)))
          a

-- A SPARE `;`

pub spare-passed : {text : Bytes} {at past : ℕ} → Taken text Tokens.outside Tokens.semicolon at past → SpareTo text at past
spare-passed k = record { tokens = rw k.unrolled; onward = omega (arith, k.onward); inside = k.inside }

pub spare-none : {text : Bytes} {at : ℕ} {t : Code.Placed} → Comes text Tokens.outside at t → sign_is Tokens.semicolon t.token ≡ false →
    SpareTo text at t.place
spare-none {text} {t = t} c e =
    record {
      tokens = c.again ∙ rw (c.unrolled, sign-shown text t Tokens.semicolon e);
      onward = c.onward;
      inside = omega (arith, c.forward, c.inside);
    }

-- THE END

abbrev all_but_end : List ℕ
all_but_end = 0 ∷ 1 ∷ 2 ∷ 3 ∷ 4 ∷ 5 ∷ 7 ∷ []

pub no_end : (t : Token) → OneOf all_but_end (tag_of token.the_type t) → false ≡ is_end_token t
no_end =
    by_kind (λ t. OneOf all_but_end (tag_of token.the_type t) → false ≡ is_end_token t)
    (λ n o. refl) (λ x o. refl) (λ x o. refl) (λ o. refl) (λ n o. refl)
    (λ b o. refl)
    (λ o. absurd (miss all_but_end 6 tt o)) (λ o. refl)

end_same : (text : Bytes) (place past : ℕ) (t : Token) → Reading.is_text_end (token_of text t place past) ≡ is_end_token t
end_same text place past =
    by_kind (λ t. Reading.is_text_end (token_of text t place past) ≡ is_end_token t) (λ n. refl) (λ x. refl) (λ x. refl) refl (λ n. refl)
    (λ b. refl) refl refl

-- THE DEFINITION

module _ (limit : ℕ) (before : Table) (t : Tokens.Placed) (ts : List Tokens.Placed) where
  functions-end : (room : ℕ) → Reading.is_text_end t.token ≡ true → Reading.parse_functions room limit before (t ∷ ts) ≡ parsed before ts
  unfolding Reading.parse_functions
  functions-end zero e = rw e
  functions-end (suc room) e = rw e

  functions-next : (more room : ℕ) → more ≡ suc room → Reading.is_text_end t.token ≡ false
      → Reading.parse_functions more limit before (t ∷ ts)
      ≡ follow (Reading.parse_function (Reading.declared_fault before) limit (t ∷ ts))
      (λ f rest. Reading.parse_functions room (limit - length f.sentences) (before ++ f ∷ []) (Reading.pass_spare rest))
  unfolding Reading.parse_functions
  functions-next more room n e = rw (n, e)

  -- the faults of a name before the last function and after it
  fault-is : (count : ℕ) {room : Bool} → ltb count max_functions ≡ room
      → Reading.parse_function (λ n. pick room (declared_fault_in (names_of before) n) over_limit) limit (t ∷ ts)
      ≡ Reading.parse_function (name_fault count (names_of before)) limit (t ∷ ts)
  fault-is count e = ap (λ (room : Bool). Reading.parse_function (λ n. pick room (declared_fault_in (names_of before) n) over_limit) limit (t ∷ ts))
      (sym e)

  -- what stops a function stops the functions
  functions-stop : (room count : ℕ) {number place : ℕ} → count + room ≡ max_functions → Reading.is_text_end t.token ≡ false
      → Reading.parse_function (name_fault count (names_of before)) limit (t ∷ ts) ≡ stopped number place
      → Reading.parse_functions room limit before (t ∷ ts) ≡ stopped number place
  unfolding Reading.parse_functions
  functions-stop zero count n e h = rw (e, fault-is count (le-ltb count max_functions (omega arith)) ∙ h)
  functions-stop (suc room) count n e h = rw (e, fault-is count (lt-ltb count max_functions (omega arith)) ∙ h)

-- one function more
tape-more : (fs : Table) (f : Function) → Tape.tape (fs ++ f ∷ []) ≡ Tape.tape fs ++ function_tape f
unfolding Tape.tape
tape-more [] f = append-nil (function_tape f)
tape-more (g ∷ fs) f = rw (tape-more fs f) (sym (append_assoc (function_tape g) (Tape.tape fs) (function_tape f)))

tape-none : Tape.tape [] ≡ []
unfolding Tape.tape
tape-none = refl

-- ONE AFTER ANOTHER

pub functions-start : (text start heads : List ℕ) → length text ≤ max_table → length text ≤ length start → length heads ≡ max_functions
    → TallyIs text start start heads 0 new_tally
unfolding heads_from
functions-start text start heads h room l =
    record {
      before = [];
      same = refl;
      went = rw tape-none (went-none text 0 0 start (record { inside = omega arith; charged = omega arith; short = h }));
      noted = refl;
      few = omega arith;
      counted = refl;
      long = l;
      stand = each_none FunctionStands;
      short = h;
      room = room;
    }

-- a token is read again at its place
comes-again : {text : Bytes} {mode : Tokens.Mode} {at : ℕ} {t : Code.Placed} → Comes text mode at t → Comes text mode t.place t
comes-again c =
    record {
      unrolled = c.again ∙ c.unrolled;
      again = refl;
      onward = omega arith;
      forward = c.forward;
      inside = c.inside;
      moves = c.moves;
      sound = c.sound;
    }

module _ {text start tape heads : List ℕ} {at words count left : ℕ} {t : Code.Placed}
    (k : Functioned text start tape heads at words count left) (c : Comes text Tokens.outside at t) where
  -- the tokens after it
  abbrev following : List Tokens.Placed
  following =
      pick (Tokens.is_last_token (token_of text t.token t.place t.past)) []
      (stream text (Tokens.mode_after Tokens.outside (token_of text t.token t.place t.past)) t.past)

  functions-done : is_end_token t.token ≡ true → FunctionsAgree text start tape heads
      (Ok (record { words = words; functions = count; left = left }))
  functions-done e =
      reads k.before following
      (k.same ∙ rw c.unrolled (functions-end left k.before (placed_of text t) following (max_functions - count)
      (end_same text t.place t.past t.token ∙ e)))
      (record { at = at; went = k.went; noted = k.noted; few = omega (arith, k.few, k.long); count = k.counted; stand = k.stand })

  -- the function that comes next, by the heads before it
  abbrev next_function : Parsed Function
  next_function = Reading.parse_function (name_fault count (head_names tape (take count heads))) left (stream text Tokens.outside t.place)

  -- the tape begins with the functions before it, and their heads are noted
  heads-here : Heads tape heads words count k.before
  heads-here = record { written = begins k.went k.room; noted = k.noted; stand = k.stand }

  next-is : Reading.parse_function (name_fault count (names_of k.before)) left (stream text Tokens.outside at) ≡ next_function
  next-is =
      ap (λ (ts : List Tokens.Placed). Reading.parse_function (name_fault count (names_of k.before)) left ts) (sym c.again)
      ∙ ap (λ (known : List Name). Reading.parse_function (name_fault count known) left (stream text Tokens.outside t.place))
      (sym (names-noted heads-here))

-- another function comes after those
pub record Another {text start tape heads : List ℕ} {at words count left : ℕ} (others : Functioned text start tape heads at words count left)
    (t : Code.Placed) : Type 0 where
  pub comes : Comes text Tokens.outside at t
  pub is : is_end_token t.token ≡ false

module _ {text start tape heads : List ℕ} {at words count left : ℕ} {k : Functioned text start tape heads at words count left} {t : Code.Placed}
    (n : Another k t) where
  opening : Opening text tape heads count words t
  opening =
      record {
        before = k.before;
        comes = comes-again n.comes;
        ready = ready-place (ready-after k.short k.went) n.comes;
        named = heads-here k n.comes;
        few = k.few;
        long = k.long;
        room = k.room;
      }

  not_end : Reading.is_text_end (token_of text t.token t.place t.past) ≡ false
  not_end = end_same text t.place t.past t.token ∙ n.is

  function-stops : {tape' heads' : List ℕ} {fault : Fault} → FunctionAgrees text tape heads count left words t tape' heads' (Err fault)
      → FunctionsAgree text start tape' heads' (Err fault)
  function-stops a =
      let c = n.comes in
      stops-too a refl refl λ h.
      k.same
      ∙ rw c.unrolled
      (functions-stop left k.before (placed_of text t) (following k c) (max_functions - count) count (omega (arith, k.few)) not_end
      (rw c.unrolled at (next-is k c ∙ h)))

-- a function was read after those
pub record OneMore (text start tape₁ heads₁ : List ℕ) (count : ℕ) (p : SentencesEnd) : Type 0 where
  pub tape : List ℕ
  pub heads : List ℕ
  pub at : ℕ
  pub words : ℕ
  pub left : ℕ
  pub token : Code.Placed
  pub others : Functioned text start tape heads at words count left
  pub next : Another others token
  pub read : ReadAt (DeclaredRead text left (token).place words count tape tape₁ heads heads₁) (next_function others next.comes) p

one_more_lem : {text start tape heads tape₁ heads₁ : List ℕ} {at words count left : ℕ} {k : Functioned text start tape heads at words count left}
    {t : Code.Placed}
    {p : SentencesEnd} → Another k t
    → FunctionAgrees text tape heads count left words t tape₁ heads₁ (Ok p)
    → OneMore text start tape₁ heads₁ count p
one_more_lem n a =
    record {
      tape = _;
      heads = _;
      at = _;
      words = _;
      left = _;
      token = _;
      others = _;
      next = n;
      read = has-read _ _ refl a;
    }

module _ {text start tape₁ heads₁ : List ℕ} {count : ℕ} {p : SentencesEnd} (o : OneMore text start tape₁ heads₁ count p) where
  -- it was one of those that a table may have
  room-before : count < max_functions
  room-before = o.read.how.few

  at_next : functions_of text
      ≡ Reading.parse_functions (max_functions - (count + 1)) p.left (o.others.before ++ o.read.value ∷ [])
      (Reading.pass_spare (stream text Tokens.outside p.at))
  at_next =
      let c = o.next.comes in
      let t = placed_of text o.token in
      let q : Reading.parse_function (Reading.declared_fault o.others.before) o.left (t ∷ following o.others c) ≡
      parsed o.read.value o.read.rest =
      fault-is o.left o.others.before t (following o.others c) count (lt-ltb count max_functions room-before) ∙
      (rw c.unrolled at (next-is o.others c ∙ o.read.same))
      in
      let n : max_functions - count ≡ suc (max_functions - (count + 1)) = omega (arith, room-before) in
      let l : o.left - length o.read.value.sentences ≡ p.left = omega (arith, o.read.how.read.left) in
      o.others.same
      ∙ rw c.unrolled
      (functions-next o.left o.others.before t (following o.others c) (max_functions - count) (max_functions - (count + 1)) n
      (not_end o.next)
      ∙ rw (q, o.read.how.read.tokens, l))

  heads-grown : take count o.heads ++ o.words ∷ [] ≡ heads_from 0 (o.others.before ++ o.read.value ∷ [])
  heads-grown =
      let counted : 0 + length (Tape.tape o.others.before) ≡ o.words = sym o.others.went.counted in
      rw (o.others.noted, heads-more o.others.before o.read.value 0, counted)

  function-goes : {at' : ℕ} → SpareTo text p.at at' → Functioned text start tape₁ heads₁ at' p.words (count + 1) p.left
  function-goes {at'} s =
      record {
        before = o.others.before ++ o.read.value ∷ [];
        same = at_next ∙ rw s.tokens;
        went =
            rw (tape-more o.others.before o.read.value)
            (went_then o.others.went (went_on at' (went-from o.next.comes.onward o.read.how.read.went) s.onward s.inside));
        noted = o.read.how.noted ∙ heads-grown;
        few = omega (arith, room-before);
        counted = rw (length-append o.others.before (o.read.value ∷ [])) (omega (arith, o.others.counted));
        long = o.read.how.long;
        stand = each_more FunctionStands o.others.before o.read.value o.others.stand o.read.how.read.stands;
        short = o.others.short;
        room = rw (went-length o.read.how.read.went) o.others.room;
      }

-- DECLARATIONS

-- what is over stays so
pub stage-over : {text tape heads : List ℕ} {at : ℕ} {stage : Stage} {read : Result Tally Fault} → stage ≡ Break read →
    Declares text tape heads at stage tape heads (Break read)
stage-over {stage = stage} {read} e =
    record {
      keeps = λ start s. rw e at s;
      counts = λ n f. absurd (ended f);
      falls = λ n f. absurd (ended f);
      stays = λ b f. (ap Break (over f), refl, refl);
    }
  where
    over : {b : Result Tally Fault} → stage ≡ Break b → read ≡ b
    over f = let same : ◌≡◌ {A = Stage} (Break read) (Break _) = sym e ∙ f in cc

    ended : {n : Tally} → stage ≡ Continue n → ⊥
    ended f =
        let both : ◌≡◌ {A = Stage} (Break read) (Continue _) = sym e ∙ f in
        let z : ◌≡◌ {A = ℕ} 0 1 = cc in
        omega arith

pub place_inside : {text tape heads : List ℕ} {at : ℕ} {stage : Stage} {n : Tally} → Underway text tape heads at stage → stage ≡ Continue n →
    at ≤ length text
place_inside u e = (rw e at u.is).went.inside

-- more may come, and a token does
pub record StageAt (text tape heads : List ℕ) (at : ℕ) (stage : Stage) (n : Tally) (t : Code.Placed) : Type 0 where
  pub underway : Underway text tape heads at stage
  pub onward : stage ≡ Continue n
  pub comes : Comes text Tokens.outside at t

module _ {text tape heads : List ℕ} {at : ℕ} {stage : Stage} {n : Tally} {t : Code.Placed} (k : StageAt text tape heads at stage n t) where
  functioned : {start : List ℕ} → StageIs text start tape heads at stage → Functioned text start tape heads at n.words n.functions n.left
  functioned s = rw k.onward at s

  abbrev so_far : Functioned text k.underway.start tape heads at n.words n.functions n.left
  so_far = functioned k.underway.is

  this-tally : {m : Tally} → stage ≡ Continue m → n ≡ m
  this-tally f = let same : ◌≡◌ {A = Stage} (Continue n) (Continue _) = sym k.onward ∙ f in cc

  goes-on : {A : Type 0} {read : Result Tally Fault} → stage ≡ Break read → A
  goes-on {read = read} f =
      let both : ◌≡◌ {A = Stage} (Continue n) (Break read) = sym k.onward ∙ f in
      let z : ◌≡◌ {A = ℕ} 0 1 = cc in
      absurd (omega arith)

  -- the reading is over
  ends_with : {tape' heads' : List ℕ} {read : Result Tally Fault} → IfOk read (λ all. all ≡ n)
      → ((start : List ℕ) → Functioned text start tape heads at n.words n.functions n.left → FunctionsAgree text start tape' heads' read)
      → Declares text tape heads at stage tape' heads' (Break read)
  ends_with c a =
      record {
        keeps = λ start s. a start (functioned s);
        counts = λ m f. rw (sym (this-tally f)) c;
        falls = λ m f. rw k.onward (omega (arith, so_far.few));
        stays = λ b f. goes-on f;
      }

  pub text-ends : is_end_token t.token ≡ true → Declares text tape heads at stage tape heads (Break (Ok n))
  text-ends e = ends_with refl (λ start f. functions-done f k.comes e)

  module _ (e : is_end_token t.token ≡ false) where
    another : {start : List ℕ} (f : Functioned text start tape heads at n.words n.functions n.left) → Another f t
    another f = record { comes = k.comes; is = e }

    pub next-opening : Opening text tape heads n.functions n.words t
    next-opening = opening (another so_far)

    module _ {tape' heads' : List ℕ} {r : Result SentencesEnd Fault}
        (a : FunctionAgrees text tape heads n.functions n.left n.words t tape' heads' r) where
      pub next-stops : {fault : Fault} → r ≡ Err fault → Declares text tape heads at stage tape' heads' (Break (Err fault))
      next-stops q = ends_with tt (λ start f. function-stops (another f) (rw q at a))

      module _ {p : SentencesEnd} (q : r ≡ Ok p) where
        more : {start : List ℕ} → Functioned text start tape heads at n.words n.functions n.left →
            OneMore text start tape' heads' n.functions p
        more f = one_more_lem (another f) (rw q at a)

        pub next-inside : p.at ≤ length text
        next-inside = (more so_far).read.how.read.went.inside

        pub next-few : n.functions < max_functions
        next-few = room-before (more so_far)

        pub next-goes : {at' : ℕ} → SpareTo text p.at at'
            → Declares text tape heads at stage tape' heads'
            (Continue (record { tally = record { words = p.words; functions = n.functions + 1; left = p.left }; at = at' }))
        next-goes s =
            record {
              keeps = λ start f. function-goes (more (functioned f)) s;
              counts = λ m f. ap (λ (x : Tally). x.functions + 1) (this-tally f);
              falls = λ m f. rw k.onward (omega (arith, next-few));
              stays = λ b f. goes-on f;
            }
