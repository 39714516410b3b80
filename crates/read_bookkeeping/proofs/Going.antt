-- How far a reader has come, and what it comes to.
use Prim.Native.Nat.{ℕ, zero, suc, ◌+◌, ◌-◌, ◌*◌, ◌≤◌, ◌<◌}
use mathlib.Core.Path.{◌≡◌, refl, sym, ◌∙◌, ap}
use mathlib.Core.Bool.{Bool, true, false, true≢false}
use mathlib.Core.List.{List, [], ◌∷◌, ◌++◌, append_assoc}
use native.Mathlib.Omega.{arith}
use lib.Dec.{T, eqb, lt→ltb}
use lib.ListN.{length, set, length-append}
use Rattle.std.specs.Prelude.{Result, Ok, Err, IfErr}
use Rattle.meaning.specs.Choice.{Bytes, pick, every}
use Rattle.tape_layout.specs.Tape.{named, call_word, kind_width}
use Rattle.meaning.specs.Tokens.{Placed}
use Rattle.meaning.specs.Reading.{Parsed, stopped, parsed, follow, whether, is_sign, pass, where_faultless}
use Rattle.meaning.proofs.Laws.Passing.{both-pass}
use Rattle.meaning.specs.Allowed.{max_table}
use Rattle.read_tokens.specs.View as View
use Rattle.read_tokens.specs.declared.Span.{Span}
use Rattle.answers.specs.declared.Fault.{Fault}
use Rattle.answers.specs.Numbers.{refusal_number, fault_number}
use Rattle.answers.proofs.Refused.{not-accepted}
use Rattle.read_bookkeeping.specs.Answered.{ComesTo, Agrees}
use Rattle.read_bookkeeping.specs.Tables.{Inside}
use Rattle.read_bookkeeping.specs.Written.{WroteOnTape, is_quiet, Ready, Went}
use Rattle.read_bookkeeping.proofs.Lengths.{part_length}
use Rattle.read_bookkeeping.proofs.Words.{written_none, written_one, written-append, wrote-length}

-- STOPPING

-- a fault that is none of no faults stops
pub check-wrong : {A : Type 0} (number : ℕ) (t : Placed) (later : Parsed A) → eqb number 0 ≡ false → where_faultless number t later ≡
    stopped number t.place
check-wrong zero t later e = absurd (true≢false e)
check-wrong (suc number) t later e = refl

-- a check that refuses stops, and one that doesn't has found no fault
module _ {U : Type 0} {r : Result U Fault} {number : ℕ} (n : fault_number r ≡ number) where
  pub checked-wrong : {A : Type 0} (t : Placed) (later : Parsed A) {fault : Fault} → r ≡ Err fault → IfErr r (λ f. f.place ≡ t.place)
      → where_faultless number t later ≡ stopped (refusal_number fault.refusal) fault.place
  checked-wrong t later {fault} e p =
      let m : refusal_number fault.refusal ≡ number = rw e at n in
      let q : fault.place ≡ t.place = rw e at p in
      check-wrong number t later (rw m at (not-accepted fault.refusal)) ∙ rw (m, q)

  pub checked-right : {done : U} → r ≡ Ok done → number ≡ 0
  checked-right e = sym (rw e at n)

-- what a test refuses
pub refused-wrong : {U : Type 0} {r : Result U Fault} {fault : Fault} (wrong : Bool) {number : ℕ} → r ≡ Err fault
    → fault_number r ≡ pick wrong number 0 → (wrong ≡ true) × (refusal_number fault.refusal ≡ number)
refused-wrong true e n = (refl, rw e at n)
refused-wrong {fault = fault} false e n = absurd (true≢false (rw (rw e at n) at (not-accepted fault.refusal)))

-- what the definition has read, where the code has
pub record ReadAt {A P : Type 0} (Reads : A → List Placed → P → Type 0) (p : Parsed A) (s : P) : Type 0 where
  pub value : A
  pub rest : List Placed
  pub same : p ≡ parsed value rest
  pub how : Reads value rest s

module _ {A P : Type 0} {Reads : A → List Placed → P → Type 0} where
  -- the definition stops with this fault
  pub stops : {p : Parsed A} {fault : Fault} → p ≡ stopped (refusal_number fault.refusal) fault.place → Agrees Reads p (Err fault)
  stops e = record { comes = rw e (refl, refl) }

  -- the definition reads
  pub reads : {p : Parsed A} {s : P} (value : A) (rest : List Placed) → p ≡ parsed value rest → Reads value rest s → Agrees Reads p (Ok s)
  reads value rest e how = record { comes = rw e how }

  -- the code has stopped, so the definition has
  pub has-stopped : (p : Parsed A) {r : Result P Fault} (fault : Fault) → r ≡ Err fault → Agrees Reads p r
      → p ≡ stopped (refusal_number fault.refusal) fault.place
  has-stopped p fault h a = told p (rw h at a.comes)
    where
      told : (p' : Parsed A) → ComesTo Reads p' (Err fault) → p' ≡ stopped (refusal_number fault.refusal) fault.place
      told (stopped number place) c = rw (c.0, c.1)
      told (parsed value rest) c = absurd c

  -- the code has read, so the definition has
  pub has-read : (p : Parsed A) {r : Result P Fault} (s : P) → r ≡ Ok s → Agrees Reads p r → ReadAt Reads p s
  has-read p s h a = told p (rw h at a.comes)
    where
      told : (p' : Parsed A) → ComesTo Reads p' (Ok s) → ReadAt Reads p' s
      told (stopped number place) c = absurd c
      told (parsed value rest) c = record { value = value; rest = rest; same = refl; how = c }

-- what stops a reader stops what begins with it
pub stops-too : {A B P Q : Type 0} {Reads : A → List Placed → P → Type 0} {Makes : B → List Placed → Q → Type 0}
    {p : Parsed A} {q : Parsed B} {r : Result P Fault} {s : Result Q Fault} {fault : Fault} → Agrees Reads p r → r ≡ Err fault → s ≡ Err fault
    → (p ≡ stopped (refusal_number fault.refusal) fault.place → q ≡ stopped (refusal_number fault.refusal) fault.place)
    → Agrees Makes q s
stops-too {fault = fault} a e h begins = rw h (stops (begins (has-stopped _ fault e a)))

-- FOLLOWING

-- what follows a byte that stands for itself follows all that begins with it
pub pass-follow : {A B : Type 0} (byte : ℕ) (ts : List Placed) (first : List Placed → Parsed A) (next : A → List Placed → Parsed B)
    → pass byte ts (λ rest. follow (first rest) next) ≡ follow (pass byte ts first) next
pass-follow byte [] first next = refl
pass-follow {A} {B} byte (t ∷ ts) first next = chosen (is_sign byte t.token)
  where
    chosen : (is : Bool) → whether is t (follow (first ts) next) ≡ follow (whether is t (first ts)) next
    chosen true = refl
    chosen false = refl

pub follow-same : {A B : Type 0} {first second : A → List Placed → Parsed B} (p : Parsed A)
    → ((value : A) (rest : List Placed) → first value rest ≡ second value rest)
    → follow p first ≡ follow p second
follow-same (stopped number place) e = refl
follow-same (parsed value rest) e = e value rest

-- nothing is made of what was read
pub follow-alone : {A : Type 0} (p : Parsed A) → p ≡ follow p parsed
follow-alone (stopped number place) = refl
follow-alone (parsed value rest) = refl

-- what the definition makes of what it has read, the code has read
pub makes : {A B P : Type 0} {Reads : A → List Placed → P → Type 0} {Makes : B → List Placed → P → Type 0} {p : Parsed B}
    {r : Result P Fault}
    (make : A → B) (q : Parsed A)
    → ((value : A) (rest : List Placed) (s : P) → Reads value rest s → Makes (make value) rest s)
    → p ≡ follow q (λ value rest. parsed (make value) rest)
    → Agrees Reads q r
    → Agrees Makes p r
makes {A} {B} {P} {Reads} {Makes} {p} {r} make q how e a = rw e (record { comes = made q r a.comes })
  where
    made : (q' : Parsed A) (o : Result P Fault) → ComesTo Reads q' o → ComesTo Makes (follow q' (λ value rest. parsed (make value) rest)) o
    made (stopped number place) (Err fault) c = c
    made (stopped number place) (Ok s) c = c
    made (parsed value rest) (Err fault) c = c
    made (parsed value rest) (Ok s) c = how value rest s c

-- these before the others
abbrev pub behind : {A : Type 0} → List A → List A → List Placed → Parsed (List A)
behind before xs rest = parsed (before ++ xs) rest

pub behind_more : {A : Type 0} (before : List A) (x : A) (p : Parsed (List A))
    → follow (follow p (λ xs rest. parsed (x ∷ xs) rest)) (behind before) ≡ follow p (behind (before ++ x ∷ []))
behind_more before x (stopped number place) = refl
behind_more {A} before x (parsed xs rest) = ap (λ (all : List A). parsed all rest) (sym (append_assoc before (x ∷ []) xs))

-- GOING ON

-- nothing yet
pub went-none : (text : Bytes) (at words : ℕ) (tape : List ℕ) → Ready text at words → Went text at words tape at words tape []
went-none text at words tape r =
    record { onward = omega arith; inside = r.inside; charged = r.charged; counted = omega arith; wrote = sym (written_none tape words) }

-- the tape stays as long as it was
pub went-length : {text : Bytes} {at words : ℕ} {tape : List ℕ} {at' words' : ℕ} {tape' added : List ℕ} →
    Went text at words tape at' words' tape' added
    → length tape' ≡ length tape
went-length w = wrote-length (record { reached = w.counted; same = w.wrote })

-- after what was read
pub ready-after : {text : Bytes} {at words : ℕ} {tape : List ℕ} {at' words' : ℕ} {tape' added : List ℕ} → length text ≤ max_table
    → Went text at words tape at' words' tape' added → Ready text at' words'
ready-after h w = record { inside = w.inside; charged = w.charged; short = h }

-- from an earlier place on
pub went-from : {text : Bytes} {at from words : ℕ} {tape : List ℕ} {at' words' : ℕ} {tape' added : List ℕ}
    → at ≤ from → Went text from words tape at' words' tape' added → Went text at words tape at' words' tape' added
went-from h w =
    record { onward = omega (arith, w.onward); inside = w.inside; charged = w.charged; counted = w.counted; wrote = w.wrote }

-- further on in the text
pub went_on : {text : Bytes} {at words : ℕ} {tape : List ℕ} {at' words' : ℕ} {tape' added : List ℕ} (further : ℕ)
    → Went text at words tape at' words' tape' added → at' ≤ further → further ≤ length text → Went text at words tape further words' tape' added
went_on further w h k =
    record { onward = omega (arith, w.onward); inside = k; charged = omega (arith, w.charged); counted = w.counted; wrote = w.wrote }

-- one after the other
pub went_then : {text : Bytes} {at₁ words₁ : ℕ} {tape₁ : List ℕ} {at₂ words₂ : ℕ} {tape₂ : List ℕ} {at₃ words₃ : ℕ} {tape₃ : List ℕ} {a b : List ℕ}
    → Went text at₁ words₁ tape₁ at₂ words₂ tape₂ a
    → Went text at₂ words₂ tape₂ at₃ words₃ tape₃ b
    → Went text at₁ words₁ tape₁ at₃ words₃ tape₃ (a ++ b)
went_then {words₁ = words₁} {tape₁ = tape₁} {a = a} {b = b} v w =
    record {
      onward = omega (arith, v.onward, w.onward);
      inside = w.inside;
      charged = w.charged;
      counted = rw (length-append a b) (omega (arith, v.counted, w.counted));
      wrote = w.wrote ∙ rw (v.wrote, v.counted) (written-append a b tape₁ words₁);
    }

-- one word, charged to what stands before a further place
pub word-went : {text : Bytes} {at words further : ℕ} {tape tape' : List ℕ} {word : ℕ} → Ready text at words → at < further → further ≤ length text
    → tape' ≡ set tape words word
    → Went text at words tape further (words + 1) tape' (word ∷ [])
word-went {words = words} {tape = tape} {word = word} r h k e =
    record { onward = omega arith; inside = k; charged = omega (arith, r.charged); counted = refl; wrote = e ∙ written_one tape words word }

-- a word of a kind and a name, charged to what stands before a further place
module _ {text : Bytes} {n : Span} (kind : ℕ) (i : Inside text n) where
  pub name-went : {at words further : ℕ} {word : ℕ} {tape tape' : List ℕ} {words' : ℕ} → at ≤ further → further ≤ length text
      → words + (n.past - n.from) < further
      → word ≡ kind * kind_width + (n.past - n.from)
      → WroteOnTape tape words (word ∷ View.span_text text n) words' tape'
      → Went text at words tape further words' tape' (named kind (View.span_text text n))
  name-went o h c e w =
      let l = part_length text n i in
      record { onward = o; inside = h; charged = omega (arith, w.reached, l); counted = w.reached; wrote = rw (l, ← e) w.same }

  pub name-quiet : kind * kind_width + (n.past - n.from) < call_word → T (every is_quiet (View.span_text text n))
      → T (every is_quiet (named kind (View.span_text text n)))
  unfolding every
  name-quiet s q =
      both-pass (is_quiet (kind * kind_width + length (View.span_text text n))) (every is_quiet (View.span_text text n))
      (rw (part_length text n i) (lt→ltb (kind * kind_width + (n.past - n.from)) call_word s))
      q
