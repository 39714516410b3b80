-- The reader of the functions reads exactly the programs of the grammar that the limits and the name rules allow.
use Prim.Native.Nat.{ℕ, zero, suc, ◌-◌, ◌≤◌}
use mathlib.Core.Path.{◌≡◌, refl, sym, ap, ◌∙◌, subst}
use mathlib.Core.Bool.{Bool, true, false, not}
use mathlib.Core.List.{List, [], ◌∷◌, ◌++◌, append_assoc, append-nil}
use native.Mathlib.Omega.{arith}
use lib.Dec.{leb}
use lib.ListN.{length}
use Rattle.meaning.specs.Choice.{Name, pick, both, every}
use Rattle.meaning.specs.Tree.{Sentence, Function, Table}
use Rattle.meaning.specs.Names.{is_reserved}
use Rattle.meaning.specs.Allowed.{allowed_sentence, allowed_function, some_sentence, sentences_in, names_of, distinct, member, spelled_name, max_name}
use Rattle.meaning.specs.Tokens.{Token, function_name, word, quoted, sign, text_end, malformed, Placed}
use Rattle.meaning.specs.Grammar.{standing, IsSentences, last_sentence, last_sentence_parted, sentence_then, IsFunction, is_function, IsProgram}
use Rattle.meaning.specs.Grammar.{no_functions, function_then, function_parted_then}
use Rattle.meaning.specs.Reading.{Parsed, stopped, parsed, follow, pass, is_sign, is_text_end, parse_sentences, pass_spare, declared_fault}
use Rattle.meaning.specs.Reading.{parse_function}
use Rattle.meaning.specs.Reading.{at_function, parse_functions}
use Rattle.meaning_accepting.proofs.Reading.Basics.{both_left, both_right, both_true, impossible, never_both, passed, Followed, follow-parsed}
use Rattle.meaning_accepting.proofs.Reading.Basics.{Passed, pass-parsed, NamePassed, name-parsed, sign_of, standing-as}
use Rattle.meaning_accepting.proofs.Reading.Lists.{distinct-after, distinct-first}
use Rattle.meaning_accepting.proofs.Reading.Sound.{sound_tokens, sound-first, sound-rest, sound-end, name_spelling, name-spelled}
use Rattle.meaning_accepting.proofs.Reading.Sound.{spelled-name-short}
use Rattle.meaning_accepting.proofs.Reading.Functions.{SentencesRead, sentences-sound, sentences-complete}

-- ONE FUNCTION

pub record FunctionRead (fault : Name → ℕ) (left : ℕ) (ts : List Placed) (f : Function) (rest : List Placed) : Type 0 where
  pub derived : IsFunction ts f rest
  pub faultless : fault f.name ≡ 0
  pub spelling : name_spelling f.name ≡ true
  pub allowed : every allowed_sentence f.sentences ≡ true
  pub some-there : some_sentence f.sentences ≡ true
  pub few : length f.sentences ≤ left
  pub sound : sound_tokens rest ≡ true

some-sentence : {ts rest : List Placed} {ss : List Sentence} → IsSentences ts ss rest → some_sentence ss ≡ true
some-sentence (last_sentence d) = refl
some-sentence (last_sentence_parted d) = refl
some-sentence (sentence_then d ds) = refl

abbrev pub declared : Name → List Sentence → List Placed → Parsed Function
declared n ss rest = parsed (record { name = n; sentences = ss }) rest

abbrev pub after_brace : ℕ → Name → List Placed → Parsed Function
after_brace left n ts = follow (parse_sentences left ts) (declared n)

abbrev pub after_name : ℕ → ℕ → Name → List Placed → Parsed Function
after_name left place n ts = pass 123 ts (after_brace left n)

module _ (fault : Name → ℕ) (left : ℕ) {ts : List Placed} {f : Function} {rest : List Placed} where
  function-whole : sound_tokens ts ≡ true
      → (p : NamePassed Function fault ts (after_name left) f rest)
      → (q : Passed Function 123 p.tail (after_brace left p.name) f rest)
      → (r : Followed (List Sentence) Function (parse_sentences left q.tail) (declared p.name) f rest)
      → SentencesRead left q.tail r.value r.between
      → FunctionRead fault left ts f rest
  function-whole k p q r d =
      let end = r.after in
      let made : record { name = p.name; sentences = r.value } ≡ f = cc in
      let left_over : r.between ≡ rest = cc in
      let shape = p.shape ∙ ap (λ z. standing (function_name p.name) p.place p.past ∷ z) q.shape in
      record {
        derived = rw (shape, ← made, ← left_over) (is_function d.derived);
        faultless = rw (← made) p.faultless;
        spelling = rw (← made) (sound-first (standing (function_name p.name) p.place p.past) p.tail (rw p.shape at k));
        allowed = rw (← made) d.allowed;
        some-there = rw (← made) (some-sentence d.derived);
        few = rw (← made) d.few;
        sound = rw left_over at d.sound;
      }

pub function-sound : (fault : Name → ℕ) (left : ℕ) (ts : List Placed) {f : Function} {rest : List Placed}
    → sound_tokens ts ≡ true → parse_function fault left ts ≡ parsed f rest → FunctionRead fault left ts f rest
function-sound fault left ts k e =
    let p = name-parsed fault ts (after_name left) e in
    let q = pass-parsed 123 p.tail (after_brace left p.name) p.after in
    let r = follow-parsed (parse_sentences left q.tail) (declared p.name) q.after in
    let sound =
    sound-rest (standing (sign 123) q.place q.past) q.tail
    (rw q.shape at (sound-rest (standing (function_name p.name) p.place p.past) p.tail (rw p.shape at k)))
    in
    function-whole fault left k p q r (sentences-sound left q.tail r.value r.between sound r.before)

pub function-complete : (fault : Name → ℕ) (left : ℕ) {ts rest : List Placed} {f : Function} → IsFunction ts f rest
    → fault f.name ≡ 0 → every allowed_sentence f.sentences ≡ true → length f.sentences ≤ left
    → parse_function fault left ts ≡ parsed f rest
function-complete fault left (is_function d) z a l = rw (z, sentences-complete left d a l)

-- THE FUNCTIONS

pub record FunctionsRead (left sentences_left : ℕ) (before : Table) (ts : List Placed) (t : Table) : Type 0 where
  pub others : Table
  pub whole : t ≡ before ++ others
  pub derived : IsProgram ts others
  pub allowed : every allowed_function others ≡ true
  pub different : distinct (names_of t) ≡ true
  pub few : length others ≤ left
  pub short : sentences_in others ≤ sentences_left

pub names-append : (a b : Table) → names_of (a ++ b) ≡ names_of a ++ names_of b
names-append [] b = refl
names-append (f ∷ a) b = rw (names-append a b)

-- a name without a fault is allowed, and differs from those before it
module _ (before : Table) (f : Function) where
  abbrev name_tests : Bool
  name_tests = both (not (is_reserved f.name)) (not (member f.name (names_of before)))

  name-tests : declared_fault before f.name ≡ 0 → (leb (length f.name) max_name ≡ true) × (name_tests ≡ true)
  name-tests z =
      let (short, z₁) = passed (leb (length f.name) max_name) 4 _ (omega arith) z in
      (short, (passed name_tests 5 0 (omega arith) z₁).0)

  name-allowed : declared_fault before f.name ≡ 0 → name_spelling f.name ≡ true → both (spelled_name f.name) (not (is_reserved f.name)) ≡ true
  name-allowed z s =
      let (short, tests) = name-tests z in
      both_true (name-spelled f.name s short) (both_left (not (is_reserved f.name)) (not (member f.name (names_of before))) tests)

  name-different : distinct (names_of before) ≡ true → declared_fault before f.name ≡ 0 → distinct (names_of (before ++ f ∷ [])) ≡ true
  name-different d z =
      rw (names-append before (f ∷ []), distinct-after f.name (names_of before))
      (both_true d (both_right (not (is_reserved f.name)) (not (member f.name (names_of before))) (name-tests z).1))

  name-faultless : both (spelled_name f.name) (not (is_reserved f.name)) ≡ true → distinct (names_of (before ++ f ∷ [])) ≡ true
      → declared_fault before f.name ≡ 0
  name-faultless a d =
      let after : both (distinct (names_of before)) (not (member f.name (names_of before))) ≡ true =
      sym (distinct-after f.name (names_of before)) ∙ (ap distinct (sym (names-append before (f ∷ []))) ∙ d)
      in
      rw (
        spelled-name-short f.name (both_left (spelled_name f.name) (not (is_reserved f.name)) a),
        both_right (spelled_name f.name) (not (is_reserved f.name)) a,
        both_right (distinct (names_of before)) (not (member f.name (names_of before))) after,
      )

-- a spare `;` after a function
spare-sound : (b : Bool) (t : Placed) (ts : List Placed) → sound_tokens (t ∷ ts) ≡ true → sound_tokens (pick b ts (t ∷ ts)) ≡ true
spare-sound true t ts k = sound-rest t ts k
spare-sound false t ts k = k

passed-spare-sound : (ts : List Placed) → sound_tokens ts ≡ true → sound_tokens (pass_spare ts) ≡ true
passed-spare-sound [] k = k
passed-spare-sound (t ∷ ts) k = spare-sound (is_sign 59 t.token) t ts k

spare-program : (b : Bool) (t : Placed) {ts us : List Placed} {f : Function} {fs : Table} → is_sign 59 t.token ≡ b
    → IsFunction us f (t ∷ ts) → IsProgram (pick b ts (t ∷ ts)) fs → IsProgram us (f ∷ fs)
spare-program true t {ts} {us} {f} p d e = function_parted_then (subst (λ z. IsFunction us f (z ∷ ts)) (standing-as t (sign_of 59 t.token p)) d) e
spare-program false t p d e = function_then d e

passed-spare-program : (rest : List Placed) {us : List Placed} {f : Function} {fs : Table}
    → IsFunction us f rest → IsProgram (pass_spare rest) fs → IsProgram us (f ∷ fs)
passed-spare-program [] d e = function_then d e
passed-spare-program (t ∷ rest) d e = spare-program (is_sign 59 t.token) t refl d e

text-end : (token : Token) → is_text_end token ≡ true → token ≡ text_end
text-end (function_name n) e = impossible e
text-end (word w) e = impossible e
text-end (quoted text) e = impossible e
text-end (sign b) e = impossible e
text-end text_end e = refl
text-end malformed e = impossible e

at-end : (left sentences_left : ℕ) (before : Table) (t : Placed) (ts : List Placed) {table : Table} {rest : List Placed}
    → sound_tokens (t ∷ ts) ≡ true → distinct (names_of before) ≡ true → is_text_end t.token ≡ true
    → parsed before ts ≡ parsed table rest → FunctionsRead left sentences_left before (t ∷ ts) table
unfolding every sentences_in
at-end left sentences_left before t ts {table} k d p e =
    let same : before ≡ table = cc in
    record {
      others = [];
      whole = sym same ∙ sym (append-nil before);
      derived = rw (sound-end t ts k p, standing-as t (text-end t.token p)) no_functions;
      allowed = refl;
      different = rw same at d;
      few = omega arith;
      short = omega arith;
    }

abbrev pub Rest : Type 0
Rest = ℕ → Table → List Placed → Parsed Table

abbrev pub after_function : Rest → ℕ → Table → Function → List Placed → Parsed Table
after_function next sentences_left before f rest = next (sentences_left - length f.sentences) (before ++ f ∷ []) (pass_spare rest)

module _ (left sentences_left : ℕ) (before : Table) {ts : List Placed} {table : Table} {rest : List Placed} (next : Rest) where
  one_more_lem : (p : Followed Function Table (parse_function (declared_fault before) sentences_left ts) (after_function next sentences_left before)
      table
      rest)
      → FunctionRead (declared_fault before) sentences_left ts p.value p.between
      → FunctionsRead left (sentences_left - length p.value.sentences) (before ++ p.value ∷ []) (pass_spare p.between) table
      → FunctionsRead (suc left) sentences_left before ts table
  unfolding every sentences_in
  one_more_lem p r q =
      let few = q.few in
      let own = r.few in
      let short = q.short in
      record {
        others = p.value ∷ q.others;
        whole = q.whole ∙ append_assoc before (p.value ∷ []) q.others;
        derived = passed-spare-program p.between r.derived q.derived;
        allowed =
            both_true
            (both_true (name-allowed before p.value r.faultless r.spelling) (both_true r.some-there r.allowed))
            q.allowed;
        different = q.different;
        few = omega arith;
        short = omega arith;
      }

functions-step : (left sentences_left : ℕ) (before : Table) (t : Placed) (ts : List Placed) {table : Table} {rest : List Placed} (b : Bool)
    (later : Parsed Table)
    → is_text_end t.token ≡ b → sound_tokens (t ∷ ts) ≡ true → distinct (names_of before) ≡ true
    → (later ≡ parsed table rest → FunctionsRead left sentences_left before (t ∷ ts) table)
    → pick b (parsed before ts) later ≡ parsed table rest
    → FunctionsRead left sentences_left before (t ∷ ts) table
functions-step left sentences_left before t ts true later p k d go e = at-end left sentences_left before t ts k d p e
functions-step left sentences_left before t ts false later p k d go e = go e

-- what the functions' reader reads is a program of the grammar within the limits and with different names
pub functions-sound : (left sentences_left : ℕ) (before : Table) (ts : List Placed) (table : Table) (rest : List Placed)
    → sound_tokens ts ≡ true → distinct (names_of before) ≡ true → parse_functions left sentences_left before ts ≡ parsed table rest
    → FunctionsRead left sentences_left before ts table
unfolding parse_functions
functions-sound zero sentences_left before [] table rest k d e = never_both 0 0 table rest e
functions-sound zero sentences_left before (t ∷ ts) table rest k d e =
    functions-step zero sentences_left before t ts (is_text_end t.token)
    (follow (parse_function (λ n. 4) sentences_left (t ∷ ts)) (λ f more. stopped 0 0)) refl k d
    (λ g. never_both 0 0 table rest (follow-parsed (parse_function (λ n. 4) sentences_left (t ∷ ts)) (λ f more. stopped 0 0) g).after)
    e
functions-sound (suc left) sentences_left before [] table rest k d e = never_both 0 0 table rest e
functions-sound (suc left) sentences_left before (t ∷ ts) table rest k d e =
    functions-step (suc left) sentences_left before t ts (is_text_end t.token)
    (follow (parse_function (declared_fault before) sentences_left (t ∷ ts)) (after_function (parse_functions left) sentences_left before)) refl k d
    (λ g.
    let p = follow-parsed (parse_function (declared_fault before) sentences_left (t ∷ ts))
    (after_function (parse_functions left) sentences_left before)
    g in
    let r = function-sound (declared_fault before) sentences_left (t ∷ ts) k p.before in
    one_more_lem left sentences_left before (parse_functions left) p r
    (functions-sound left (sentences_left - length p.value.sentences) (before ++ p.value ∷ []) (pass_spare p.between) table rest
    (passed-spare-sound p.between r.sound) (name-different before p.value d r.faultless) p.after))
    e

-- EVERY ALLOWED PROGRAM IS READ

-- a program does not begin with `;`
program-first : {ts : List Placed} {t : Table} → IsProgram ts t → pass_spare ts ≡ ts
program-first no_functions = refl
program-first (function_then (is_function d) e) = refl
program-first (function_parted_then (is_function d) e) = refl

at-function : {ts rest : List Placed} {f : Function} → IsFunction ts f rest → (before : Table) (later : Parsed Table) → at_function before ts later ≡
    later
at-function (is_function d) before later = refl

-- what a function and those after it need
record Led (left sentences_left : ℕ) (before : Table) (f : Function) (fs : Table) : Type 0 where
  faultless : declared_fault before f.name ≡ 0
  own : every allowed_sentence f.sentences ≡ true
  room : length f.sentences ≤ sentences_left
  allowed : every allowed_function fs ≡ true
  different : distinct (names_of ((before ++ f ∷ []) ++ fs)) ≡ true
  few : length fs ≤ left
  short : sentences_in fs ≤ sentences_left - length f.sentences

led : (left sentences_left : ℕ) (before : Table) (f : Function) (fs : Table)
    → every allowed_function (f ∷ fs) ≡ true → distinct (names_of (before ++ f ∷ fs)) ≡ true
    → length (f ∷ fs) ≤ suc left → sentences_in (f ∷ fs) ≤ sentences_left → Led left sentences_left before f fs
unfolding every sentences_in
led left sentences_left before f fs a d l s =
    let first = both_left (allowed_function f) (every allowed_function fs) a in
    let together : distinct (names_of ((before ++ f ∷ []) ++ fs)) ≡ true = rw (append_assoc before (f ∷ []) fs) d in
    record {
      faultless =
          name-faultless before f (both_left (both (spelled_name f.name) (not (is_reserved f.name))) _ first)
          (distinct-first (names_of (before ++ f ∷ [])) (names_of fs) (rw (names-append (before ++ f ∷ []) fs) at together));
      own =
          both_right (some_sentence f.sentences) (every allowed_sentence f.sentences)
          (both_right (both (spelled_name f.name) (not (is_reserved f.name))) _ first);
      room = omega arith;
      allowed = both_right (allowed_function f) (every allowed_function fs) a;
      different = together;
      few = omega arith;
      short = omega arith;
    }

-- the first function is read
first_read : (left : ℕ) {sentences_left : ℕ} {before : Table} {ts rest : List Placed} {f : Function} {fs : Table} → IsFunction ts f rest
    → Led left sentences_left before f fs → parse_functions (suc left) sentences_left before ts ≡
    after_function (parse_functions left) sentences_left before f rest
unfolding parse_functions
first_read left {sentences_left} {before} d o =
    rw (
      at-function d before (follow (parse_function (declared_fault before) sentences_left _)
          (after_function (parse_functions left) sentences_left before)),
      function-complete (declared_fault before) sentences_left d o.faultless o.own o.room,
    )

-- functions after these are read
abbrev ReadOn : ℕ → ℕ → Table → List Placed → Table → Type 0
ReadOn left sentences_left before ts fs =
    every allowed_function fs ≡ true → distinct (names_of (before ++ fs)) ≡ true → length fs ≤ left → sentences_in fs ≤ sentences_left
    → parse_functions left sentences_left before ts ≡ parsed (before ++ fs) []

one-complete : (left sentences_left : ℕ) (before : Table) {ts between rest : List Placed} {f : Function} {fs : Table} → IsFunction ts f between
    → pass_spare between ≡ rest → ((m : ℕ) (b : Table) → ReadOn left m b rest fs) → ReadOn (suc left) sentences_left before ts (f ∷ fs)
one-complete left sentences_left before {f = f} {fs = fs} d spare later a e l s =
    let o = led left sentences_left before f fs a e l s in
    first_read left d o
    ∙ rw (spare, ← append_assoc before (f ∷ []) fs)
    (later (sentences_left - length f.sentences) (before ++ f ∷ []) o.allowed o.different o.few o.short)

-- a program of the grammar within the limits and with different names is read
pub functions-complete : (left sentences_left : ℕ) (before : Table) {ts : List Placed} {fs : Table} → IsProgram ts fs
    → every allowed_function fs ≡ true → distinct (names_of (before ++ fs)) ≡ true → length fs ≤ left → sentences_in fs ≤ sentences_left
    → parse_functions left sentences_left before ts ≡ parsed (before ++ fs) []
unfolding parse_functions
functions-complete zero sentences_left before no_functions a d l s = rw (append-nil before)
functions-complete (suc left) sentences_left before no_functions a d l s = rw (append-nil before)
functions-complete zero sentences_left before (function_then f p) a d l s = absurd (omega arith)
functions-complete zero sentences_left before (function_parted_then f p) a d l s = absurd (omega arith)
functions-complete (suc left) sentences_left before (function_then d p) a e l s =
    one-complete left sentences_left before d (program-first p) (λ m b a₁ e₁ l₁ s₁. functions-complete left m b p a₁ e₁ l₁ s₁) a e l s
functions-complete (suc left) sentences_left before (function_parted_then d p) a e l s =
    one-complete left sentences_left before d refl (λ m b a₁ e₁ l₁ s₁. functions-complete left m b p a₁ e₁ l₁ s₁) a e l s
