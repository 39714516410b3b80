-- Listing the tape of an allowed tree word by word gives meaning's listing of the tree.
use Prim.Native.Nat.{ℕ, pred, ◌+◌, ◌*◌, ◌/◌, ◌%◌, ◌<◌, ◌≤◌}
use native.Mathlib.Omega.{arith}
use native.Mathlib.Nat.{not-suc-le-zero}
use mathlib.Core.Path.{◌≡◌, refl, sym, ◌∙◌, ap}
use mathlib.Core.Bool.{Bool, true, false}
use mathlib.Core.List.{List, [], ◌∷◌, ◌++◌, append_assoc}
use borrow.Author.Tests.{lt-ltb, le-ltb, lt-leb}
use lib.Dec.{T, ltb, leb, eqb, ltb→lt}
use lib.ListN.{length, length-append}
use Rattle.meaning.specs.Choice.{Bytes, Name, pick, both, every}
use Rattle.meaning.specs.Classes.{Class, class_number, class_name}
use Rattle.meaning.specs.Tree.{character, symbol, Element, letter, part, Subject, of_symbol, of_part, Condition, Expression, end, then_character}
use Rattle.meaning.specs.Tree.{then_symbol, then_part, then_call, Sentence, Function, Table}
use Rattle.meaning.specs.Allowed.{max_identifier, is_byte, spelled_name, spelled_identifier, spelled_element, allowed_sentence, some_sentence}
use Rattle.meaning.specs.Allowed.{allowed_function, allowed}
use Rattle.tape_layout.specs.Tape.{tape_word, symbol_kind, part_kind, condition_kind, equals_kind, close_kind, next_kind, end_kind, function_kind}
use Rattle.tape_layout.specs.Tape.{call_kind}
use Rattle.tape_layout.specs.Tape.{named, pattern_tape, truth_number, subject_tape, condition_tape, conditions_tape, expression_tape, sentence_tape}
use Rattle.tape_layout.specs.Tape.{sentences_tape, function_tape, tape}
use Rattle.meaning.specs.Grammar.{truth_byte}
use Rattle.meaning.specs.Listing.{Quoted, unquoted, in_string, after_code, close_quote, is_coded, after_character, quoted_character, pattern_text}
use Rattle.meaning.specs.Listing.{subject_text, condition_text, conditions_text, expression_text, without_blank, sentence_text, sentences_text}
use Rattle.meaning.specs.Listing.{function_text}
use Rattle.meaning.specs.Listing.{listing}
use Rattle.meaning.proofs.Laws.Passing.{both_left, both_right, every-head, every-tail}
use Rattle.meaning.proofs.Laws.Spelling.{identifier-short}
use Rattle.meaning.proofs.Laws.Words.{by-class, class-below}
use Rattle.meaning_accepting.proofs.RoundTrip.Legible.{legible}
use Rattle.list_strings.specs.declared.State.{State}
use Rattle.list_strings.specs.declared.State.TheVariants.{Start, Plain, InString, AfterCode, Name as NameLeft, Condition as ConditionLeft, Header}
use Rattle.list_strings.specs.Steps.{Step, step, character_step}
use Rattle.list_items.specs.Steps.{ending, separator, class_text, letter_text, truth_text, parted_step, ended_step}
use Rattle.list_table.specs.Words.{kind_step, item_step, copy_step, word_step, list_from}
use Rattle.list_table.proofs.Stepping.{others, other-kind}
use Rattle.list_table.proofs.Spelled.{Short, short-name, short-identifier, identifier_of, spelled_variable, Written, sentence-written}

-- ONE WORD

-- how the listing stands after an item
abbrev standing : Quoted → State
standing unquoted = Plain
standing in_string = InString
standing after_code = AfterCode

list-word : (s : State) (w : ℕ) (ws : List ℕ) {x : Step} → word_step s w ≡ x → list_from s (w ∷ ws) ≡ x.bytes ++ list_from x.state ws
unfolding list_from
list-word s w ws e = rw e

-- what holds however a string stands
by-quoted : (P : Quoted → Type 0) → P unquoted → P in_string → P after_code → (q : Quoted) → P q
by-quoted P x y z unquoted = x
by-quoted P x y z in_string = y
by-quoted P x y z after_code = z

item-word : (q : Quoted) (w : ℕ) → word_step (standing q) w ≡ item_step (standing q) w
item-word q w = by-quoted (λ q. word_step (standing q) w ≡ item_step (standing q) w) refl refl refl q

kind-item : (s : State) (kind carried : ℕ) → 0 < kind → carried < 256 → item_step s (tape_word kind carried) ≡ kind_step s kind carried
kind-item s kind carried h l =
    let high : ltb (tape_word kind carried) 256 ≡ false = le-ltb (tape_word kind carried) 256 (omega arith) in
    let above : tape_word kind carried / 256 ≡ kind = omega arith in
    let below : tape_word kind carried % 256 ≡ carried = omega arith in
    rw (high, above, below)

-- what stands after an item, whether or not a string is open there
record Follows (rest : List ℕ) (after : Bytes) : Type 0 where
  at : (q : Quoted) → list_from (standing q) rest ≡ close_quote q ++ after

-- a word that is an item however the listing stands
word-follows : (w : ℕ) (ws : List ℕ) (bytes : State → Bytes) (t : State) (after : Bytes) → ((s : State) → item_step s w ≡ step (bytes s) t)
    → ((q : Quoted) → bytes (standing q) ++ list_from t ws ≡ close_quote q ++ after)
    → Follows (w ∷ ws) after
word-follows w ws bytes t after is go = record { at = λ q. list-word (standing q) w ws (item-word q w ∙ is (standing q)) ∙ go q }

-- bytes right after an item
ended-follows : (w : ℕ) (bytes : Bytes) (t : State) → ((s : State) → item_step s w ≡ ended_step s bytes t) → (ws : List ℕ) →
    Follows (w ∷ ws) (bytes ++ list_from t ws)
ended-follows w bytes t is ws =
    word-follows w ws (λ s. ending s ++ bytes) t _ is
    (by-quoted (λ q. (ending (standing q) ++ bytes) ++ list_from t ws ≡ close_quote q ++ (bytes ++ list_from t ws)) refl refl refl)

-- a byte after the blank between items
parted-follows : (w b : ℕ) (t : State) → ((s : State) → item_step s w ≡ parted_step s b t) → (ws : List ℕ)
    → Follows (w ∷ ws) (32 ∷ b ∷ list_from t ws)
parted-follows w b t is ws =
    word-follows w ws (λ s. separator s ++ b ∷ []) t _ is
    (by-quoted (λ q. (separator (standing q) ++ b ∷ []) ++ list_from t ws ≡ close_quote q ++ (32 ∷ b ∷ list_from t ws)) refl refl refl)

equals-follows : (ws : List ℕ) → Follows (tape_word equals_kind 0 ∷ ws) (32 ∷ 61 ∷ list_from Plain ws)
equals-follows = parted-follows (tape_word equals_kind 0) 61 Plain (λ s. refl)

close_follows : (ws : List ℕ) → Follows (tape_word close_kind 0 ∷ ws) (62 ∷ list_from Plain ws)
close_follows = ended-follows (tape_word close_kind 0) (62 ∷ []) Plain (λ s. refl)

next-follows : (ws : List ℕ) → Follows (tape_word next_kind 0 ∷ ws) (59 ∷ 10 ∷ list_from Start ws)
next-follows = ended-follows (tape_word next_kind 0) (59 ∷ 10 ∷ []) Start (λ s. refl)

end-follows : (ws : List ℕ) → Follows (tape_word end_kind 0 ∷ ws) (59 ∷ 10 ∷ 125 ∷ 10 ∷ list_from Start ws)
end-follows = ended-follows (tape_word end_kind 0) (59 ∷ 10 ∷ 125 ∷ 10 ∷ []) Start (λ s. refl)

-- NAMES

-- a state that copies so many bytes, and after the last one writes a tail
abbrev Copies : (ℕ → State) → Bytes → State → Type 0
Copies more tail after = (n w : ℕ) → word_step (more n) w ≡ copy_step n (w % 256) (more (pred n)) tail after

copied : (more : ℕ → State) (tail : Bytes) (after : State) → Copies more tail after → (x : Name) → 0 < length x → T (every is_byte x) →
    (rest : List ℕ) →
    list_from (more (length x)) (x ++ rest) ≡ x ++ (tail ++ list_from after rest)
copied more tail after is [] h t rest = absurd (not-suc-le-zero h)
copied more tail after is (b ∷ []) h t rest =
    let byte : b % 256 ≡ b = omega (arith, ltb→lt b 256 (every-head is_byte b [] t)) in
    list-word (more 1) b rest (is 1 b) ∙ rw byte
copied more tail after is (b ∷ c ∷ x) h t rest =
    let byte : b % 256 ≡ b = omega (arith, ltb→lt b 256 (every-head is_byte b (c ∷ x) t)) in
    let more_left : leb (length (b ∷ c ∷ x)) 1 ≡ false = lt-leb (length (b ∷ c ∷ x)) 1 (omega arith) in
    let one_less : pred (length (b ∷ c ∷ x)) ≡ length (c ∷ x) = omega arith in
    list-word (more (length (b ∷ c ∷ x))) b (c ∷ (x ++ rest)) (is (length (b ∷ c ∷ x)) b)
    ∙ rw (more_left, byte, one_less) (ap (λ (l : Bytes). b ∷ l)
    (copied more tail after is (c ∷ x) (omega arith) (every-tail is_byte b (c ∷ x) t) rest))

-- a kind of word that begins a variable or a call by a byte
record Begins (kind b : ℕ) : Type 0 where
  some : 0 < kind
  is : (s : State) (n : ℕ) → kind_step s kind n ≡ parted_step s b (NameLeft n)

named-item : {kind b : ℕ} → Begins kind b → {x : Name} → Short x → (s : State) → item_step s (tape_word kind (length x)) ≡
    parted_step s b (NameLeft (length x))
named-item {kind} k {x} d s = kind-item s kind (length x) k.some (omega (arith, d.short)) ∙ k.is s (length x)

named-follows : {kind b : ℕ} → Begins kind b → {x : Name} → Short x → (ws : List ℕ)
    → Follows (named kind x ++ ws) (32 ∷ b ∷ (x ++ list_from Plain ws))
named-follows {kind} {b} k {x} d ws =
    rw (← (copied NameLeft [] Plain (λ n w. refl) x d.filled d.bytes ws))
    (parted-follows (tape_word kind (length x)) b (NameLeft (length x)) (named-item k d) (x ++ ws))

symbol-begins : Begins symbol_kind 115
symbol-begins = record { some = omega arith; is = λ s n. refl }

part-begins : Begins part_kind 101
part-begins = record { some = omega arith; is = λ s n. refl }

call-begins : (place : ℕ) → Begins (call_kind + place) 60
call-begins place = record { some = omega arith; is = λ s n. other-kind s (call_kind + place) n (others (call_kind + place) 8 (omega arith)) }

-- ITEMS

character-item : (s : State) (c : ℕ) → c < 256 → item_step s c ≡ character_step s c
character-item s c h = rw (lt-ltb c 256 h)

module _ (body rest : List ℕ) (text after : Bytes) where
  -- a character, and what comes after it
  character-then : (c : ℕ) (others : Bool) → T (both (is_byte c) others) → (q : Quoted)
      → (T others → list_from (standing (after_character q c)) (body ++ rest) ≡ text ++ after)
      → list_from (standing q) (c ∷ (body ++ rest)) ≡ (quoted_character q c ++ text) ++ after
  character-then c others t q later =
      list-word (standing q) c (body ++ rest) (item-word q c ∙ character-item (standing q) c (ltb→lt c 256 (both_left (is_byte c) others t)) ∙ go q)
      ∙ rw (later (both_right (is_byte c) others t)) (simp append_assoc)
    where
      state : (b : Bool) → pick b AfterCode InString ≡ standing (pick b after_code in_string)
      state true = refl
      state false = refl

      go : (q : Quoted) → character_step (standing q) c ≡ step (quoted_character q c) (standing (after_character q c))
      go unquoted = rw (state (is_coded unquoted c))
      go in_string = rw (state (is_coded in_string c))
      go after_code = rw (state (is_coded after_code c))

  -- another item, and what comes after it
  item-then : (item : List ℕ) (bytes : Bytes) → ((ws : List ℕ) → Follows (item ++ ws) (bytes ++ list_from Plain ws)) →
      list_from Plain (body ++ rest) ≡ text ++ after → (q : Quoted) →
      list_from (standing q) ((item ++ body) ++ rest) ≡ (close_quote q ++ (bytes ++ text)) ++ after
  item-then item bytes follows later q =
      rw (append_assoc item body rest) ((follows (body ++ rest)).at q ∙ rw later (simp append_assoc))

  -- a variable, and what comes after it
  variable-then : {kind b : ℕ} → Begins kind b → (x : Name) (others : Bool) → T (both (spelled_identifier x) others)
      → (T others → list_from Plain (body ++ rest) ≡ text ++ after) → (q : Quoted)
      → list_from (standing q) ((named kind x ++ body) ++ rest) ≡ (close_quote q ++ ((32 ∷ b ∷ x) ++ text)) ++ after
  variable-then {kind} {b} k x others t later =
      item-then (named kind x) (32 ∷ b ∷ x) (named-follows k (short-identifier x (both_left (spelled_identifier x) others t)))
      (later (both_right (spelled_identifier x) others t))

-- a pattern, and what follows it
pattern-listed : (p : List Element) → T (every spelled_element p) → {rest : List ℕ} {after : Bytes} → Follows rest after → (q : Quoted) →
    list_from (standing q) (pattern_tape p ++ rest) ≡ pattern_text q p ++ after
unfolding pattern_tape pattern_text every
pattern-listed [] t f q = f.at q
pattern-listed (letter (character c) ∷ es) t {rest} {after} f q =
    character-then (pattern_tape es) rest (pattern_text (after_character q c) es) after c _ t q (λ u. pattern-listed es u f (after_character q c))
pattern-listed (letter (symbol x) ∷ es) t {rest} {after} f q =
    variable-then (pattern_tape es) rest (pattern_text unquoted es) after symbol-begins x _ t (λ u. pattern-listed es u f unquoted) q
pattern-listed (part x ∷ es) t {rest} {after} f q =
    variable-then (pattern_tape es) rest (pattern_text unquoted es) after part-begins x _ t (λ u. pattern-listed es u f unquoted) q

-- an expression, and what follows it
expression-listed : (e : Expression) → T (legible e) → {rest : List ℕ} {after : Bytes} → Follows rest after → (q : Quoted) →
    list_from (standing q) (expression_tape e ++ rest) ≡ expression_text q e ++ after
unfolding expression_tape expression_text legible
expression-listed end t f q = f.at q
expression-listed (then_character c e) t {rest} {after} f q =
    character-then (expression_tape e) rest (expression_text (after_character q c) e) after c _ t q
    (λ u. expression-listed e u f (after_character q c))
expression-listed (then_symbol x e) t {rest} {after} f q =
    variable-then (expression_tape e) rest (expression_text unquoted e) after symbol-begins x _ t (λ u. expression-listed e u f unquoted) q
expression-listed (then_part x e) t {rest} {after} f q =
    variable-then (expression_tape e) rest (expression_text unquoted e) after part-begins x _ t (λ u. expression-listed e u f unquoted) q
expression-listed (then_call place n a e) t {rest} {after} f q =
    let inner = both_right (spelled_name n) (both (legible a) (legible e)) t in
    item-then (expression_tape a ++ tape_word close_kind 0 ∷ expression_tape e) rest
    (expression_text unquoted a ++ 62 ∷ expression_text unquoted e) after
    (named (call_kind + place) n) (32 ∷ 60 ∷ n) (named-follows (call-begins place)
    (short-name n (both_left (spelled_name n) (both (legible a) (legible e)) t)))
    (rw (append_assoc (expression_tape a) (tape_word close_kind 0 ∷ expression_tape e) rest)
    (expression-listed a (both_left (legible a) (legible e) inner) (close_follows (expression_tape e ++ rest)) unquoted
    ∙ rw (expression-listed e (both_right (legible a) (legible e) inner) f unquoted) (simp append_assoc))) q

-- CONDITIONS

class-named : (k : Class) → class_text (class_number k) ≡ class_name k
class-named = by-class (λ k. class_text (class_number k) ≡ class_name k) refl refl refl refl refl

-- what a condition's word carries is read off it
record Carries (count kind class : ℕ) (expected : Bool) (carried : ℕ) : Type 0 where
  low : carried < 256
  counted : carried / 20 ≡ count
  lettered : carried / 10 % 2 ≡ kind
  classed : carried % 5 ≡ class
  truth : truth_text (carried / 5 % 2) ≡ truth_byte expected

carries-bit : {count kind class bit : ℕ} {expected : Bool} → count ≤ max_identifier → kind < 2 → class < 5 → bit < 2
    → truth_text bit ≡ truth_byte expected
    → Carries count kind class expected (count * 20 + 10 * kind + (5 * bit + class))
carries-bit {count} {kind} {class} {bit} h l k b e =
    let same : (count * 20 + 10 * kind + (5 * bit + class)) / 5 % 2 ≡ bit = omega arith in
    record { low = omega arith; counted = omega arith; lettered = omega arith; classed = omega arith; truth = rw same e }

carries : (count kind class : ℕ) (expected : Bool) → count ≤ max_identifier → kind < 2 → class < 5
    → Carries count kind class expected (count * 20 + 10 * kind + (truth_number expected + class))
carries count kind class true h l k = carries-bit {bit = 1} h l k (omega arith) refl
carries count kind class false h l k = carries-bit {bit = 0} h l k (omega arith) refl

condition-item : (s : State) {count kind : ℕ} (k : Class) {expected : Bool} {carried : ℕ} → Carries count kind (class_number k) expected carried →
    item_step s (tape_word condition_kind carried)
    ≡ ended_step s (44 ∷ 32 ∷ 60 ∷ (class_name k ++ letter_text kind)) (ConditionLeft count (truth_byte expected))
condition-item s k {carried = carried} r =
    kind-item s condition_kind carried (omega arith) r.low
    ∙ rw (r.classed, r.lettered, r.counted, r.truth, class-named k) (simp append_assoc)

-- the kind of a condition's variable on the tape, and its identifier there and in the text
abbrev kind_bit : Subject → ℕ
kind_bit (of_symbol x) = 0
kind_bit (of_part x) = 1

kind-below : (v : Subject) → kind_bit v < 2
kind-below (of_symbol x) = omega arith
kind-below (of_part x) = omega arith

subject-tape : (v : Subject) (carried : ℕ)
    → subject_tape carried v ≡ tape_word condition_kind (length (identifier_of v) * 20 + 10 * kind_bit v + carried) ∷ identifier_of v
subject-tape (of_symbol x) carried = ap (λ (n : ℕ). tape_word condition_kind n ∷ x) (omega arith)
subject-tape (of_part x) carried = ap (λ (n : ℕ). tape_word condition_kind n ∷ x) (omega arith)

subject-text : (v : Subject) → subject_text v ≡ letter_text (kind_bit v) ++ identifier_of v
subject-text (of_symbol x) = refl
subject-text (of_part x) = refl

-- what a condition's word carries
abbrev carried_by : Condition → ℕ
carried_by c = length (identifier_of c.subject) * 20 + 10 * kind_bit c.subject + (truth_number c.expected + class_number c.predicate)

condition-tape : (c : Condition) → condition_tape c ≡ tape_word condition_kind (carried_by c) ∷ identifier_of c.subject
condition-tape c = subject-tape c.subject (truth_number c.expected + class_number c.predicate)

-- `, <Predicate s` or `e`
abbrev opening_text : Condition → Bytes
opening_text c = 44 ∷ 32 ∷ 60 ∷ (class_name c.predicate ++ letter_text (kind_bit c.subject))

condition-word : (c : Condition) → T (spelled_variable c) → (s : State) → item_step s (tape_word condition_kind (carried_by c))
    ≡ ended_step s (opening_text c) (ConditionLeft (length (identifier_of c.subject)) (truth_byte c.expected))
condition-word c t s =
    condition-item s c.predicate
    (carries _ _ _ c.expected (identifier-short (identifier_of c.subject) t) (kind-below c.subject) (class-below c.predicate))

regrouped : (k v x tail l : Bytes) → (k ++ v) ++ (x ++ (tail ++ l)) ≡ (k ++ ((v ++ x) ++ tail)) ++ l
regrouped k v x tail l = simp append_assoc

condition-follows : (c : Condition) → T (spelled_variable c) → (ws : List ℕ)
    → Follows (condition_tape c ++ ws) (condition_text c ++ list_from Plain ws)
condition-follows c t ws =
    let x = identifier_of c.subject in
    let d = short-identifier x t in
    let truth = truth_byte c.expected in
    let tail : Bytes = 62 ∷ 58 ∷ 32 ∷ 39 ∷ truth ∷ 39 ∷ [] in
    let spelled : opening_text c ++ list_from (ConditionLeft (length x) truth) (x ++ ws) ≡ condition_text c ++ list_from Plain ws =
    rw (copied (λ n. ConditionLeft n truth) tail Plain (λ n w. refl) x d.filled d.bytes ws, subject-text c.subject)
    (ap (λ (l : Bytes). 44 ∷ 32 ∷ 60 ∷ l) (regrouped (class_name c.predicate) (letter_text (kind_bit c.subject)) x tail (list_from Plain ws))) in
    rw (condition-tape c, ← spelled)
    (ended-follows (tape_word condition_kind (carried_by c)) (opening_text c) (ConditionLeft (length x) truth) (condition-word c t) (x ++ ws))

conditions-follow : (cs : List Condition) → T (every spelled_variable cs) → {rest : List ℕ} {after : Bytes} → Follows rest after →
    Follows (conditions_tape cs ++ rest) (conditions_text cs ++ after)
unfolding conditions_tape conditions_text
conditions-follow [] t f = f
conditions-follow (c ∷ cs) t {rest} {after} f =
    rw (
      append_assoc (condition_tape c) (conditions_tape cs) rest,
      append_assoc (condition_text c) (conditions_text cs) after,
      ← ((conditions-follow cs (every-tail spelled_variable c cs t) f).at unquoted),
    )
    (condition-follows c (every-head spelled_variable c cs t) (conditions_tape cs ++ rest))

-- SENTENCES

-- a sentence as if an item stood before it
sentence-listed : {s : Sentence} → Written s → {rest : List ℕ} {after : Bytes} → Follows rest after →
    list_from Plain (sentence_tape s ++ rest) ≡
    pattern_text unquoted s.pattern ++ (conditions_text s.conditions ++ 32 ∷ 61 ∷ (expression_text unquoted s.expression ++ after))
sentence-listed {s} d {rest} f =
    let tail = tape_word equals_kind 0 ∷ expression_tape s.expression in
    rw (
      append_assoc (pattern_tape s.pattern) (conditions_tape s.conditions ++ tail) rest,
      append_assoc (conditions_tape s.conditions) tail rest,
      ← (expression-listed s.expression d.expression f unquoted),
    )
    (pattern-listed s.pattern d.pattern (conditions-follow s.conditions d.conditions
    (equals-follows (expression_tape s.expression ++ rest))) unquoted)

-- no blank stands before a line's first item
abbrev Leads : ℕ → Type 0
Leads w = (ws : List ℕ) → list_from Start (w ∷ ws) ≡ without_blank (list_from Plain (w ∷ ws))

leads : (w : ℕ) {first later : Bytes} {t : State} → item_step Start w ≡ step first t → item_step Plain w ≡ step later t →
    ((l : Bytes) → first ++ l ≡ without_blank (later ++ l)) → Leads w
leads w {t = t} e f h ws = list-word Start w ws e ∙ h (list_from t ws) ∙ ap without_blank (sym (list-word Plain w ws f))

named-leads : {kind b : ℕ} → Begins kind b → (x : Name) → T (spelled_identifier x) → Leads (tape_word kind (length x))
named-leads {kind} k x t =
    let d = short-identifier x t in
    leads (tape_word kind (length x)) (named-item k d Start) (named-item k d Plain) (λ l. refl)

line-start : (p : List Element) → T (every spelled_element p) → (cs : List Condition) → T (every spelled_variable cs) → (tail rest : List ℕ) →
    let line = (pattern_tape p ++ (conditions_tape cs ++ tape_word equals_kind 0 ∷ tail)) ++ rest in
    list_from Start line ≡ without_blank (list_from Plain line)
unfolding pattern_tape conditions_tape every
line-start [] t [] u tail rest = leads (tape_word equals_kind 0) refl refl (λ l. refl) (tail ++ rest)
line-start [] t (c ∷ cs) u tail rest =
    let spelled = every-head spelled_variable c cs u in
    rw (condition-tape c)
    (leads (tape_word condition_kind (carried_by c)) (condition-word c spelled Start) (condition-word c spelled Plain) (λ l. refl) _)
line-start (letter (character c) ∷ es) t cs u tail rest =
    let h = ltb→lt c 256 (both_left (is_byte c) (every spelled_element es) t) in
    leads c (character-item Start c h) (character-item Plain c h) (λ l. refl) _
line-start (letter (symbol x) ∷ es) t cs u tail rest = named-leads symbol-begins x (both_left (spelled_identifier x) (every spelled_element es) t) _
line-start (part x ∷ es) t cs u tail rest = named-leads part-begins x (both_left (spelled_identifier x) (every spelled_element es) t) _

-- where a line begins with a byte, dropping its blank leaves what comes after it alone
without_blank-append : (line rest : Bytes) → 0 < length line → without_blank (line ++ rest) ≡ without_blank line ++ rest
without_blank-append [] rest h = absurd (not-suc-le-zero h)
without_blank-append (b ∷ line) rest h = go (eqb b 32)
  where
    go : (blank : Bool) → pick blank (line ++ rest) (b ∷ (line ++ rest)) ≡ pick blank line (b ∷ line) ++ rest
    go true = refl
    go false = refl

line-append : (p c e after : Bytes) →
    without_blank (p ++ (c ++ 32 ∷ 61 ∷ (e ++ 59 ∷ 10 ∷ after))) ≡ without_blank (p ++ (c ++ 32 ∷ 61 ∷ (e ++ 59 ∷ 10 ∷ []))) ++ after
line-append p c e after =
    let line : Bytes = p ++ (c ++ 32 ∷ 61 ∷ (e ++ 59 ∷ 10 ∷ [])) in
    let whole : p ++ (c ++ 32 ∷ 61 ∷ (e ++ 59 ∷ 10 ∷ after)) ≡ line ++ after = simp append_assoc in
    rw whole (without_blank-append line after (simp length-append (omega arith)))

-- a sentence's line, ended by `;` and byte 10
line-listed : {s : Sentence} → Written s → {rest : List ℕ} {after : Bytes} → Follows rest (59 ∷ 10 ∷ after) →
    list_from Start (sentence_tape s ++ rest) ≡ sentence_text s ++ after
line-listed {s} d {rest} {after} f =
    line-start s.pattern d.pattern s.conditions d.conditions (expression_tape s.expression) rest
    ∙ ap without_blank (sentence-listed d f)
    ∙ line-append (pattern_text unquoted s.pattern) (conditions_text s.conditions) (expression_text unquoted s.expression) after

sentences-listed : (s : Sentence) (ss : List Sentence) → T (every allowed_sentence (s ∷ ss)) → (rest : List ℕ) →
    list_from Start (sentences_tape (s ∷ ss) ++ rest) ≡ sentences_text (s ∷ ss) ++ 125 ∷ 10 ∷ list_from Start rest
unfolding sentences_tape sentences_text
sentences-listed s [] t rest =
    rw (append_assoc (sentence_tape s) (tape_word end_kind 0 ∷ []) rest)
    (line-listed (sentence-written s (every-head allowed_sentence s [] t)) (end-follows rest) ∙ simp append_assoc)
sentences-listed s (r ∷ rs) t rest =
    rw (append_assoc (sentence_tape s) (tape_word next_kind 0 ∷ sentences_tape (r ∷ rs)) rest)
    (line-listed (sentence-written s (every-head allowed_sentence s (r ∷ rs) t)) (next-follows (sentences_tape (r ∷ rs) ++ rest))
    ∙ rw (sentences-listed r rs (every-tail allowed_sentence s (r ∷ rs) t) rest) (simp append_assoc))

-- FUNCTIONS AND THE TABLE

function-listed : (f : Function) → T (allowed_function f) → (rest : List ℕ) → list_from Start (function_tape f ++ rest) ≡
    function_text f ++ list_from Start rest
function-listed f t rest = go f.name f.sentences (short-name f.name (search (both_left, both_right))) (search (both_left, both_right))
    (search (both_left, both_right))
  where
    go : (n : Name) (ss : List Sentence) → Short n → T (some_sentence ss) → T (every allowed_sentence ss) →
        list_from Start ((named function_kind n ++ sentences_tape ss) ++ rest) ≡
        (n ++ 32 ∷ 123 ∷ 10 ∷ (sentences_text ss ++ 125 ∷ 10 ∷ [])) ++ list_from Start rest
    go n [] d u v = absurd u
    go n (s ∷ ss) d u v =
        list-word Start (tape_word function_kind (length n)) _ (kind-item Start function_kind (length n) (omega arith) (omega (arith, d.short)))
        ∙ rw (
          append_assoc n (sentences_tape (s ∷ ss)) rest,
          copied Header (32 ∷ 123 ∷ 10 ∷ []) Start (λ k w. refl) n d.filled d.bytes (sentences_tape (s ∷ ss) ++ rest),
          sentences-listed s ss v rest,
        )
        (simp append_assoc)

functions-listed : (t : Table) → T (every allowed_function t) → list_from Start (tape t) ≡ listing t
unfolding tape listing list_from
functions-listed [] t = refl
functions-listed (f ∷ fs) t =
    function-listed f (every-head allowed_function f fs t) (tape fs) ∙ rw (functions-listed fs (every-tail allowed_function f fs t))

-- the tape of an allowed table, listed word by word, gives the table's listing
pub tape-listed : (t : Table) → T (allowed t) → list_from Start (tape t) ≡ listing t
tape-listed t h = functions-listed t (search both_left)
