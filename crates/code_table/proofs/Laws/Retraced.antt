-- The tape of an allowed table is read as that table.
use Prim.Native.Nat.{ℕ, zero, suc, ◌+◌, ◌*◌, ◌-◌, ◌/◌, ◌%◌, ◌≤◌, ◌<◌}
use native.Mathlib.Omega.{arith}
use native.Mathlib.Nat.{add-zero}
use mathlib.Core.Path.{◌≡◌, refl, ◌∙◌, ap}
use mathlib.Core.Bool.{Bool, true, false, not, false≢true}
use mathlib.Core.List.{List, [], ◌∷◌, ◌++◌, append_assoc, map}
use borrow.Author.Tests.{lt-ltb, le-ltb, le-leb, lt-leb, ne_eqb, leb-true, ltb-true}
use lib.Dec.{T, eqb, leb, ltb}
use lib.ListN.{length, take, drop}
use lib.Seq.{take-append_seam, drop-append_seam}
use Rattle.meaning.specs.Choice.{Name, pick, both, is_some, every}
use Rattle.meaning.specs.Names.{is_reserved}
use Rattle.meaning.specs.Classes.{Class, class_number}
use Rattle.meaning.specs.Tree.{character, symbol, Element, letter, part, Subject, of_symbol, of_part, Condition, Expression, end, then_character}
use Rattle.meaning.specs.Tree.{then_symbol, then_part, then_call, Sentence, Function, Table}
use Rattle.meaning.specs.Allowed.{max_functions, max_sentences, max_letters, max_items, distinct, parted, symbols_of, spelled_items, coming_after_all}
use Rattle.meaning.specs.Allowed.{allowed_pattern, of_pattern, all_of_pattern, allowed_conditions, allowed_sentence, allowed_function, names_of}
use Rattle.meaning.specs.Allowed.{allowed}
use Rattle.meaning.specs.Allowed.{is_byte, spelled_name, spelled_identifier, spelled_element, letters_in, parts_of, items_in, nesting, some_sentence}
use Rattle.meaning.specs.Allowed.{sentences_in as sentences_of}
use Rattle.tape_layout.specs.Tape.{tape_word, symbol_kind, part_kind, condition_kind, equals_kind, close_kind, next_kind, end_kind}
use Rattle.tape_layout.specs.Tape.{function_kind}
use Rattle.tape_layout.specs.Tape.{call_kind}
use Rattle.tape_layout.specs.Tape.{truth_number, subject_tape, pattern_tape, conditions_tape, expression_tape, sentence_tape, sentences_tape}
use Rattle.tape_layout.specs.Tape.{function_tape}
use Rattle.tape_layout.specs.Tape.{tape}
use Rattle.meaning.specs.Packing.{truth_bit}
use Rattle.tape_words.specs.declared.tape.Parts.{Parts}
use Rattle.tape_words.specs.declared.tape.Parts.TheVariants.{Zero, One, Two}
use Rattle.tape_words.specs.declared.tape.Piece.TheVariants.{EVariable}
use Rattle.tape_words.specs.declared.tape.Item.TheVariants.{Byte, Symbol, Part, Call, Close, Stop}
use Rattle.tape_words.specs.Words.{carried, subject_of, piece_of, class_in, opening_of, item_of_word}
use Rattle.code_expressions.specs.Levels.{place_in, Levels, levels_ended, on_current, level_opened, item_by, levels_in}
use Rattle.code_sentences.specs.Trees.{is_function_word, conditions_at, levels_at, sentence_on_tape, sentences_on_tape, functions_on_tape}
use Rattle.code_sentences.specs.Trees.{function_on_tape}
use Rattle.code_sentences.specs.Trees.{tree_of}
use Rattle.code_patterns.specs.Scans.{scanned, prepended, one_more, pattern_on_tape, condition_by, conditions_on_tape, pattern_at}
use Rattle.code_patterns.proofs.Laws.Scanning.{pattern-skip}
use Rattle.code_patterns.proofs.Laws.Conditioned.{conditions-skip}
use Rattle.code_expressions.proofs.Laws.Items.{levels-skip}
use Rattle.meaning_accepting.proofs.Reading.Basics.{both_left, both_right}
use Rattle.meaning.proofs.Laws.Choosing.{passed-true, true-passed}
use Rattle.meaning.proofs.Laws.Spelling.{name-short, name-bytes, identifier-bytes, identifier-short as short-identifier}
use Rattle.meaning.proofs.Laws.Words.{by-class, class-below, truth-below}
use Rattle.meaning_accepting.proofs.RoundTrip.Legible.{legible, allowed-legible}
use Rattle.meaning_accepting.proofs.Reading.Sentences.{symbols-spelled, parts-spelled}
use Rattle.meaning_accepting.proofs.Reading.Lists.{member-every}

-- WORDS

-- a word's kind and what it carries
pub carried-back : (kind n : ℕ) → n < 256 → carried (tape_word kind n) ≡ n
carried-back kind n h = omega arith

pub place-back : (place n : ℕ) → n < 256 → place_in (tape_word (call_kind + place) n) ≡ place
place-back place n h = omega arith

-- a name is read back, and what comes after it is read on: `read` takes so many words to be passed over first
name_back : {A B : Type 0} (made : Name → A → B) (read : ℕ → List ℕ → A) → ((n : ℕ) (l : List ℕ) → read n l ≡ read 0 (drop n l))
    → (x r ws : List ℕ) {a : A} → read 0 (r ++ ws) ≡ a → made (take (length x) ((x ++ r) ++ ws)) (read (length x) ((x ++ r) ++ ws)) ≡ made x a
name_back made read skips x r ws e =
    rw (append_assoc x r ws, take-append_seam x (r ++ ws), skips (length x) (x ++ (r ++ ws)), drop-append_seam x (r ++ ws)) (ap (made x) e)

-- the same after the word that carries its length
named_back : {A B : Type 0} (made : Name → A → B) (read : ℕ → List ℕ → A) → ((n : ℕ) (l : List ℕ) → read n l ≡ read 0 (drop n l))
    → (kind : ℕ) (x r ws : List ℕ) {a : A} → length x < 256 → read 0 (r ++ ws) ≡ a
    → made (take (carried (tape_word kind (length x))) ((x ++ r) ++ ws)) (read (carried (tape_word kind (length x))) ((x ++ r) ++ ws)) ≡ made x a
named_back made read skips kind x r ws h e = rw (carried-back kind (length x) h) (name_back made read skips x r ws e)

-- EXPRESSIONS

-- an expression with another after it
unfoldable pub followed : Expression → Expression → Expression
followed end tail = tail
followed (then_character c e) tail = then_character c (followed e tail)
followed (then_symbol x e) tail = then_symbol x (followed e tail)
followed (then_part x e) tail = then_part x (followed e tail)
followed (then_call place n a e) tail = then_call place n a (followed e tail)

pub followed-end : (e : Expression) → followed e end ≡ e
unfolding followed
followed-end end = refl
followed-end (then_character c e) = ap (then_character c) (followed-end e)
followed-end (then_symbol x e) = ap (then_symbol x) (followed-end e)
followed-end (then_part x e) = ap (then_part x) (followed-end e)
followed-end (then_call place n a e) = ap (then_call place n a) (followed-end e)

-- what reading an expression back asks of it: bytes are bytes and names are short
abbrev pub Short : Expression → Type 0
Short end = Unit {0}
Short (then_character c e) = (c < 256) × Short e
Short (then_symbol x e) = (length x < 256) × Short e
Short (then_part x e) = (length x < 256) × Short e
Short (then_call place n a e) = (length n < 256) × Short a × Short e

-- ITEMS OF WORDS
module _ (depth items : ℕ) (low : items < 128) where
  byte-item : (c : ℕ) → c < 256 → item_of_word c depth items ≡ Byte
  byte-item c h = rw (lt-leb 128 items low, lt-ltb c 256 h)

  symbol-item : (n : ℕ) → n < 256 → item_of_word (tape_word symbol_kind n) depth items ≡ Symbol
  symbol-item n h = rw (lt-leb 128 items low, le-ltb (tape_word symbol_kind n) 256 (omega arith), lt-ltb (tape_word symbol_kind n) 512 (omega arith))

  part-item : (n : ℕ) → n < 256 → item_of_word (tape_word part_kind n) depth items ≡ Part
  part-item n h =
      rw (
        lt-leb 128 items low,
        le-ltb (tape_word part_kind n) 256 (omega arith),
        le-ltb (tape_word part_kind n) 512 (omega arith),
        lt-ltb
            (tape_word part_kind n) 768 (omega arith),
      )

  call-item : (place n : ℕ) → n < 256 → depth < 16 → item_of_word (tape_word (call_kind + place) n) depth items ≡ Call
  call-item place n h d =
      let w = tape_word (call_kind + place) n in
      rw (
        lt-leb 128 items low,
        le-ltb w 256 (omega arith),
        le-ltb w 512 (omega arith),
        le-ltb w 768 (omega arith),
        le-ltb w 2304 (omega arith),
        lt-ltb depth 16 d,
      )

close-item : (depth items : ℕ) → item_of_word (tape_word close_kind 0) (depth + 1) items ≡ Close
close-item depth items = go (leb 128 items)
  where
    go : (b : Bool) → pick b (pick (eqb (depth + 1) 0) Stop Close) (pick (eqb (depth + 1) 0) Stop Close) ≡ Close
    go true = rw (ne_eqb (depth + 1) 0 (λ e. omega arith))
    go false = rw (ne_eqb (depth + 1) 0 (λ e. omega arith))

-- a call's argument is closed, and what comes after the call is read on
call-closed : (place : ℕ) (n : Name) (a e : Expression) (depth items : ℕ) (ws : List ℕ) (l : Levels) → levels_in depth items 0 ws
    ≡ on_current (followed e) l →
    level_opened place n (on_current (followed a) (levels_in (depth + 1) items 0 (tape_word close_kind 0 ∷ ws))) ≡
    on_current (followed (then_call place n a e)) l
unfolding levels_in followed
call-closed place n a e depth items ws l ih =
    let back : depth + 1 - 1 ≡ depth = omega arith in
    rw (close-item depth items, back, ih, followed-end a)

one_item_more : (items n : ℕ) → items + suc n ≡ items + 1 + n
one_item_more items n = omega arith

-- an expression's words are read as it, and then what comes after it is read on
pub levels-expression : (e : Expression) (depth items : ℕ) (ws : List ℕ) → Short e → items + items_in e ≤ 128 → depth + nesting e ≤ 16 →
    levels_in depth items 0 (expression_tape e ++ ws) ≡ on_current (followed e) (levels_in depth (items + items_in e) 0 ws)
unfolding levels_in expression_tape items_in nesting followed
levels-expression end depth items ws s h k = rw (add-zero items)
levels-expression (then_character c e) depth items ws s h k =
    let ih = levels-expression e depth (items + 1) ws s.1 (omega arith) k in
    rw (byte-item depth items (omega arith) c s.0, one_item_more items (items_in e)) (ap (on_current (then_character c)) ih)
levels-expression (then_symbol x e) depth items ws s h k =
    let ih = levels-expression e depth (items + 1) ws s.1 (omega arith) k in
    rw (symbol-item depth items (omega arith) (length x) s.0, one_item_more items (items_in e))
    (named_back (λ y. on_current (then_symbol y)) (levels_in depth (items + 1)) (levels-skip depth (items + 1)) symbol_kind x (expression_tape e)
    ws s.0
    ih)
levels-expression (then_part x e) depth items ws s h k =
    let ih = levels-expression e depth (items + 1) ws s.1 (omega arith) k in
    rw (part-item depth items (omega arith) (length x) s.0, one_item_more items (items_in e))
    (named_back (λ y. on_current (then_part y)) (levels_in depth (items + 1)) (levels-skip depth (items + 1)) part_kind x (expression_tape e) ws
    s.0 ih)
levels-expression (then_call place n a e) depth items ws s h k =
    let more = tape_word close_kind 0 ∷ (expression_tape e ++ ws) in
    let inner = levels-expression a (depth + 1) (items + 1) more s.1 (omega arith) (omega arith) in
    let outer = levels-expression e depth (items + 1 + items_in a) ws s.2 (omega arith) (omega arith) in
    let sum : items + suc (items_in a + items_in e) ≡ items + 1 + items_in a + items_in e = omega arith in
    rw (call-item depth items (omega arith) place (length n) s.0 (omega arith), place-back place (length n) s.0, sum)
    (named_back (level_opened place) (levels_in (depth + 1) (items + 1)) (levels-skip (depth + 1) (items + 1)) (call_kind + place) n
    (expression_tape a ++ tape_word close_kind 0 ∷ expression_tape e) ws s.0
    (ap (levels_in (depth + 1) (items + 1) 0) (append_assoc (expression_tape a) (tape_word close_kind 0 ∷ expression_tape e) ws) ∙ inner)
    ∙ call-closed place n a e depth (items + 1 + items_in a) (expression_tape e ++ ws)
    (levels_in depth (items + 1 + items_in a + items_in e) 0 ws) outer)

-- SPELLING

pub identifier-short : (x : Name) → spelled_identifier x ≡ true → length x ≤ 8
identifier-short x e = short-identifier x (true-passed (spelled_identifier x) e)

pub name-small : (n : Name) → spelled_name n ≡ true → length n ≤ 24
name-small n e = name-short n (true-passed (spelled_name n) e)

-- a variable's identifier, and what comes after it
variable-short : (x : Name) (e : Expression) → both (spelled_identifier x) (legible e) ≡ true → (length x < 256) × (legible e ≡ true)
variable-short x e l = (omega (arith, identifier-short x (both_left (spelled_identifier x) _ l)), both_right (spelled_identifier x) _ l)

pub legible-short : (e : Expression) → legible e ≡ true → Short e
unfolding legible
legible-short end l = tt
legible-short (then_character c e) l = (ltb-true c 256 (both_left (is_byte c) (legible e) l), legible-short e (both_right (is_byte c) (legible e) l))
legible-short (then_symbol x e) l = let (short, more) = variable-short x e l in (short, legible-short e more)
legible-short (then_part x e) l = let (short, more) = variable-short x e l in (short, legible-short e more)
legible-short (then_call place n a e) l =
    let others = both_right (spelled_name n) (both (legible a) (legible e)) l in (
      omega (arith, name-small n (both_left (spelled_name n) (both (legible a) (legible e)) l)),
      legible-short a (both_left (legible a) (legible e) others),
      legible-short e (both_right (legible a) (legible e) others),
    )

-- PATTERNS

-- how many e-variables may still come
abbrev parts_left : Parts → ℕ
parts_left Zero = 2
parts_left One = 1
parts_left Two = 0

-- no pattern goes on here
abbrev PatternEnds : List ℕ → Type 0
PatternEnds ws = (letters : ℕ) (parts : Parts) → pattern_on_tape letters parts 0 ws ≡ scanned [] ws

ends_at : (w : ℕ) (ws : List ℕ) → 768 ≤ w → PatternEnds (w ∷ ws)
unfolding pattern_on_tape
ends_at w ws h letters parts = rw (le-leb 768 w h)

part-piece : (n letters : ℕ) (parts : Parts) → n < 256 → 0 < parts_left parts → piece_of (tape_word part_kind n) letters parts ≡ EVariable
part-piece n letters Zero h k = rw (lt-leb 768 (tape_word part_kind n) (omega arith), le-leb 512 (tape_word part_kind n) (omega arith))
part-piece n letters One h k = rw (lt-leb 768 (tape_word part_kind n) (omega arith), le-leb 512 (tape_word part_kind n) (omega arith))
part-piece n letters Two h k = absurd (omega arith)

one_less : (parts : Parts) (n : ℕ) → suc n ≤ parts_left parts → n ≤ parts_left (one_more parts)
one_less Zero n h = omega arith
one_less One n h = omega arith
one_less Two n h = omega arith

pub pattern-back : (p : List Element) (letters : ℕ) (parts : Parts) (ws : List ℕ) → every spelled_element p ≡ true → letters + letters_in p ≤ 64 →
    length (parts_of p) ≤ parts_left parts → PatternEnds ws → pattern_on_tape letters parts 0 (pattern_tape p ++ ws) ≡ scanned p ws
unfolding pattern_on_tape pattern_tape letters_in parts_of every
pattern-back [] letters parts ws s h k ends = ends letters parts
pattern-back (letter (character c) ∷ p) letters parts ws s h k ends =
    let low = ltb-true c 256 (both_left (is_byte c) (every spelled_element p) s) in
    let ih = pattern-back p (letters + 1) parts ws (both_right (is_byte c) (every spelled_element p) s) (omega arith) k ends in
    rw (lt-leb 768 c (omega arith), lt-leb 512 c (omega arith), lt-leb 64 letters (omega arith), lt-leb 256 c low)
    (ap (prepended (letter (character c))) ih)
pattern-back (letter (symbol x) ∷ p) letters parts ws s h k ends =
    let short = identifier-short x (both_left (spelled_identifier x) (every spelled_element p) s) in
    let ih = pattern-back p (letters + 1) parts ws (both_right (spelled_identifier x) (every spelled_element p) s) (omega arith) k ends in
    let w = tape_word symbol_kind (length x) in
    rw (lt-leb 768 w (omega arith), lt-leb 512 w (omega arith), lt-leb 64 letters (omega arith), le-leb 256 w (omega arith))
    (named_back (λ y. prepended (letter (symbol y))) (pattern_on_tape (letters + 1) parts) (pattern-skip (letters + 1) parts) symbol_kind x
    (pattern_tape p) ws
    (omega arith) ih)
pattern-back (part x ∷ p) letters parts ws s h k ends =
    let short = identifier-short x (both_left (spelled_identifier x) (every spelled_element p) s) in
    let ih = pattern-back p letters (one_more parts) ws (both_right (spelled_identifier x) (every spelled_element p) s) h
    (one_less parts (length (parts_of p)) k) ends in
    rw (part-piece (length x) letters parts (omega arith) (omega arith))
    (named_back (λ y. prepended (part y)) (pattern_on_tape letters (one_more parts)) (pattern-skip letters (one_more parts)) part_kind x
    (pattern_tape p) ws
    (omega arith) ih)

-- CONDITIONS

class_back : (c : Class) → class_in (class_number c) ≡ c
class_back = by-class (λ c. class_in (class_number c) ≡ c) refl refl refl refl refl

truth-number : (b : Bool) → truth_number b ≡ 5 * truth_bit b
truth-number true = refl
truth-number false = refl

bit-back : {n : ℕ} (b : Bool) → n ≡ truth_bit b → eqb n 1 ≡ b
bit-back true e = rw e
bit-back false e = rw e

-- what a condition's word carries, by its kind of variable: true for an e-variable
abbrev carried_by : Bool → ℕ → ℕ → ℕ
carried_by true size told = size * 20 + 10 + told
carried_by false size told = size * 20 + told

carried-number : (kind : Bool) (size told : ℕ) → carried_by kind size told ≡ size * 20 + 10 * truth_bit kind + told
carried-number true size told = refl
carried-number false size told = omega arith

-- and what is read back from it
record Carries (n : ℕ) (kind : Bool) (size : ℕ) (expected : Bool) (class : ℕ) : Type 0 where
  identifier : n / 20 ≡ size
  part : n / 10 % 2 ≡ truth_bit kind
  truth : n / 5 % 2 ≡ truth_bit expected
  predicate : n % 5 ≡ class
  small : n < 256

carries : (kind : Bool) (size : ℕ) (expected : Bool) (class : ℕ) → size ≤ 8 → class < 5
    → Carries (carried_by kind size (truth_number expected + class)) kind size expected class
carries kind size expected class h k =
    let number = carried-number kind size (truth_number expected + class) in
    let five = truth-number expected in
    let first = truth-below kind in
    let second = truth-below expected in
    record { identifier = omega arith; part = omega arith; truth = omega arith; predicate = omega arith; small = omega arith }

-- a condition's variable is spelled as an identifier
abbrev identifier_of : Subject → Name
identifier_of (of_symbol x) = x
identifier_of (of_part x) = x

abbrev pub spelled_condition : Condition → Bool
spelled_condition c = spelled_identifier (identifier_of c.subject)

-- what holds of a condition's words on either kind of variable holds of every subject's
by_kind : (P : Name → List ℕ → Subject → Type 0) (told : ℕ)
    → ((kind : Bool) (x : Name) → P x (tape_word condition_kind (carried_by kind (length x) told) ∷ x) (subject_of kind x))
    → (v : Subject) → P (identifier_of v) (subject_tape told v) v
by_kind P told each (of_symbol x) = each false x
by_kind P told each (of_part x) = each true x

condition-back : (count : ℕ) (class : Class) (expected kind : Bool) (x : Name) (cs : List Condition) (tail ws : List ℕ)
    → count < 8 → conditions_on_tape (count + 1) 0 (tail ++ ws) ≡ scanned cs ws → spelled_identifier x ≡ true
    → conditions_on_tape count 0 (tape_word condition_kind (carried_by kind (length x) (truth_number expected + class_number class))
    ∷ ((x ++ tail) ++ ws))
    ≡ scanned (record { predicate = class; subject = subject_of kind x; expected = expected } ∷ cs) ws
unfolding conditions_on_tape
condition-back count class expected kind x cs tail ws h ih s =
    let n = carried_by kind (length x) (truth_number expected + class_number class) in
    let told = carries kind (length x) expected (class_number class) (identifier-short x s) (class-below class) in
    let fits = told.small in
    rw (
      lt-leb 8 count h,
      le-ltb (tape_word condition_kind n) 768 (omega arith),
      lt-ltb (tape_word condition_kind n) 1024 (omega arith),
      carried-back condition_kind n fits,
      told.predicate,
      class_back class,
      told.identifier,
      bit-back kind told.part,
      bit-back expected told.truth,
    )
    (name_back (λ y. prepended (record { predicate = class; subject = subject_of kind y; expected = expected })) (conditions_on_tape (count + 1))
    (conditions-skip (count + 1)) x tail ws ih)

pub conditions-back : (cs : List Condition) (count w : ℕ) (ws : List ℕ) → every spelled_condition cs ≡ true → count + length cs ≤ 8 → 1024 ≤ w →
    conditions_on_tape count 0 (conditions_tape cs ++ (w ∷ ws)) ≡ scanned cs (w ∷ ws)
unfolding conditions_on_tape conditions_tape every
conditions-back [] count w ws s h k = go (leb 8 count)
  where
    go : (b : Bool) → condition_by (pick b false (pick (ltb w 768) false (ltb w 1024))) count w ws (λ n skip. conditions_on_tape n skip ws)
        ≡ scanned [] (w ∷ ws)
    go true = refl
    go false = rw (le-ltb w 768 (omega arith), le-ltb w 1024 k)
conditions-back (c ∷ cs) count w ws s h k =
    let ih = conditions-back cs (count + 1) w ws (both_right (spelled_condition c) (every spelled_condition cs) s) (omega arith) k in
    by_kind
    (λ x tape v. spelled_identifier x ≡ true → conditions_on_tape count 0 ((tape ++ conditions_tape cs) ++ (w ∷ ws))
    ≡ scanned (record { predicate = c.predicate; subject = v; expected = c.expected } ∷ cs) (w ∷ ws))
    (truth_number c.expected + class_number c.predicate)
    (λ kind x. condition-back count c.predicate c.expected kind x cs (conditions_tape cs) (w ∷ ws) (omega arith) ih)
    c.subject (both_left (spelled_condition c) (every spelled_condition cs) s)

-- SENTENCES

-- what of a sentence's rules reading it back rests on
pub record Retraceable (s : Sentence) : Type 0 where
  pub elements : every spelled_element s.pattern ≡ true
  pub letters : letters_in s.pattern ≤ 64
  pub parts : length (parts_of s.pattern) ≤ 2
  pub variables : every spelled_condition s.conditions ≡ true
  pub conditions : length s.conditions ≤ 8
  pub spelled : legible s.expression ≡ true
  pub items : items_in s.expression ≤ 128
  pub nested : nesting s.expression ≤ 16

-- the word after a sentence ends its expression
level-ends : (items w : ℕ) (ws : List ℕ) → 1536 ≤ w → w < 2304 → levels_in 0 items 0 (w ∷ ws) ≡ levels_ended (w ∷ ws)
unfolding levels_in
level-ends items w ws h k = go (leb 128 items)
  where
    go : (b : Bool) → item_by (pick b Stop (pick (ltb w 256) Byte
        (pick (ltb w 512) Symbol (pick (ltb w 768) Part (pick (ltb w 2304) Stop (opening_of 0)))))) 0 items w ws
        (λ d n skip. levels_in d n skip ws) ≡ levels_ended (w ∷ ws)
    go true = refl
    go false = rw (le-ltb w 256 (omega arith), le-ltb w 512 (omega arith), le-ltb w 768 (omega arith), lt-ltb w 2304 k)

-- conditions and `=` end a pattern
body-ends : (cs : List Condition) (ws : List ℕ) → PatternEnds (conditions_tape cs ++ (tape_word equals_kind 0 ∷ ws))
unfolding conditions_tape
body-ends [] ws = ends_at (tape_word equals_kind 0) ws (omega arith)
body-ends (c ∷ cs) ws =
    by_kind (λ x tape v. PatternEnds ((tape ++ conditions_tape cs) ++ (tape_word equals_kind 0 ∷ ws)))
    (truth_number c.expected + class_number c.predicate) (λ kind x. ends_at _ _ (omega arith)) c.subject

module _ (s : Sentence) (r : Retraceable s) (w : ℕ) (ws : List ℕ) (h : 1536 ≤ w) (k : w < 2304) where
  rest : List ℕ
  rest = tape_word equals_kind 0 ∷ (expression_tape s.expression ++ (w ∷ ws))

  laid : sentence_tape s ++ (w ∷ ws) ≡ pattern_tape s.pattern ++ (conditions_tape s.conditions ++ rest)
  unfolding rest
  laid =
      rw (
        append_assoc (pattern_tape s.pattern) (conditions_tape s.conditions ++ tape_word equals_kind 0 ∷ expression_tape s.expression) (w ∷ ws),
        append_assoc (conditions_tape s.conditions) (tape_word equals_kind 0 ∷ expression_tape s.expression) (w ∷ ws),
      )

  pattern-read : pattern_at (sentence_tape s ++ (w ∷ ws)) ≡ scanned s.pattern (conditions_tape s.conditions ++ rest)
  unfolding rest
  pattern-read =
      rw laid (pattern-back s.pattern 0 Zero (conditions_tape s.conditions ++ rest) r.elements (omega (arith, r.letters)) r.parts
      (body-ends s.conditions _))

  conditions-read : conditions_at (sentence_tape s ++ (w ∷ ws)) ≡ scanned s.conditions rest
  unfolding rest
  conditions-read = rw pattern-read (conditions-back s.conditions 0 (tape_word equals_kind 0) _ r.variables (omega (arith, r.conditions))
      (omega arith))

  levels-read : levels_at (sentence_tape s ++ (w ∷ ws)) ≡ record { current = s.expression; outer = []; rest = w ∷ ws }
  unfolding rest
  levels-read =
      rw conditions-read
      (levels-expression s.expression 0 0 (w ∷ ws) (legible-short s.expression r.spelled) (omega (arith, r.items))
      (omega (arith, r.nested))
      ∙ rw (level-ends (0 + items_in s.expression) w ws h k, followed-end s.expression))

  pub sentence-back : sentence_on_tape (sentence_tape s ++ (w ∷ ws)) ≡ s
  sentence-back = rw (levels-read, conditions-read, pattern-read)

-- every sentence of a list can be read back
abbrev pub AllRetraceable : List Sentence → Type 0
AllRetraceable [] = Unit {0}
AllRetraceable (s ∷ ss) = Retraceable s × AllRetraceable ss

pub sentences-back : (s : Sentence) (ss : List Sentence) (left : ℕ) (ws : List ℕ) → AllRetraceable (s ∷ ss) → length (s ∷ ss) ≤ left →
    sentences_on_tape left (sentences_tape (s ∷ ss) ++ ws) ≡ s ∷ ss
unfolding sentences_on_tape sentences_tape
sentences-back s ss zero ws r h = absurd (omega arith)
sentences-back s [] (suc left) ws r h =
    let last = tape_word end_kind 0 in
    rw (
      append_assoc (sentence_tape s) (last ∷ []) ws,
      sentence-back s r.0 last ws (omega arith) (omega arith),
      levels-read s r.0 last ws
          (omega arith) (omega arith),
    )
sentences-back s (t ∷ ts) (suc left) ws r h =
    let next = tape_word next_kind 0 in
    let ih = sentences-back t ts left ws r.1 (omega arith) in
    let more = sentences_tape (t ∷ ts) ++ ws in
    rw (
      append_assoc (sentence_tape s) (next ∷ sentences_tape (t ∷ ts)) ws,
      sentence-back s r.0 next more (omega arith) (omega arith),
      levels-read s r.0 next more (omega arith) (omega arith),
    )
    (ap (s ∷◌) ih)

-- FUNCTIONS

-- a word that begins no function
abbrev quiet : ℕ → Bool
quiet w = not (is_function_word w)

quiet-low : (w : ℕ) → w < 2048 → quiet w ≡ true
quiet-low w h = rw (lt-ltb w 2048 h)

quiet-high : (w : ℕ) → 2304 ≤ w → quiet w ≡ true
quiet-high w h = rw (le-ltb w 2048 (omega arith), le-ltb w 2304 h)

functions-past : (xs ws : List ℕ) → every quiet xs ≡ true → functions_on_tape (xs ++ ws) ≡ functions_on_tape ws
unfolding functions_on_tape every
functions-past [] ws q = refl
functions-past (x ∷ xs) ws q = go (is_function_word x) (both_left (quiet x) (every quiet xs) q)
    (functions-past xs ws (both_right (quiet x) (every quiet xs) q))
  where
    go : (b : Bool) → not b ≡ true → functions_on_tape (xs ++ ws) ≡ functions_on_tape ws
        → pick b ((x ∷ (xs ++ ws)) ∷ functions_on_tape (xs ++ ws)) (functions_on_tape (xs ++ ws)) ≡ functions_on_tape ws
    go true e ih = absurd (false≢true e)
    go false e ih = ih

every_append : (f : ℕ → Bool) (xs ys : List ℕ) → every f xs ≡ true → every f ys ≡ true → every f (xs ++ ys) ≡ true
unfolding every
every_append f [] ys p q = q
every_append f (x ∷ xs) ys p q = rw (both_left (f x) (every f xs) p) (every_append f xs ys (both_right (f x) (every f xs) p) q)

every_more : (f g : ℕ → Bool) → ((b : ℕ) → f b ≡ true → g b ≡ true) → (xs : List ℕ) → every f xs ≡ true → every g xs ≡ true
unfolding every
every_more f g h [] p = refl
every_more f g h (x ∷ xs) p = rw (h x (both_left (f x) (every f xs) p)) (every_more f g h xs (both_right (f x) (every f xs) p))

byte-quiet : (b : ℕ) → is_byte b ≡ true → quiet b ≡ true
byte-quiet b e = quiet-low b (omega (arith, ltb-true b 256 e))

bytes-quiet : (x : Name) → T (every is_byte x) → every quiet x ≡ true
bytes-quiet x t = every_more is_byte quiet byte-quiet x (passed-true (every is_byte x) t)

-- a word, the identifier after it, and what comes then
variable-quiet : (w : ℕ) (x : Name) (ws : List ℕ) → w < 2048 → spelled_identifier x ≡ true → every quiet ws ≡ true
    → every quiet (w ∷ (x ++ ws)) ≡ true
unfolding every
variable-quiet w x ws h e q =
    rw (quiet-low w h) (every_append quiet x ws (bytes-quiet x (identifier-bytes x (true-passed (spelled_identifier x) e))) q)

identifier-quiet : (kind : ℕ) (x : Name) (ws : List ℕ) → kind < 8 → spelled_identifier x ≡ true → every quiet ws ≡ true
    → every quiet (tape_word kind (length x) ∷ (x ++ ws)) ≡ true
identifier-quiet kind x ws h e q = variable-quiet (tape_word kind (length x)) x ws (omega (arith, identifier-short x e)) e q

name-quiet : (n : Name) → spelled_name n ≡ true → every quiet n ≡ true
name-quiet n e = bytes-quiet n (name-bytes n (true-passed (spelled_name n) e))

pattern-quiet : (p : List Element) → every spelled_element p ≡ true → every quiet (pattern_tape p) ≡ true
unfolding every pattern_tape
pattern-quiet [] s = refl
pattern-quiet (letter (character c) ∷ p) s =
    rw (byte-quiet c (both_left (is_byte c) (every spelled_element p) s)) (pattern-quiet p (both_right (is_byte c) (every spelled_element p) s))
pattern-quiet (letter (symbol x) ∷ p) s =
    identifier-quiet symbol_kind x (pattern_tape p) (omega arith) (both_left (spelled_identifier x) _ s)
    (pattern-quiet p (both_right (spelled_identifier x) _ s))
pattern-quiet (part x ∷ p) s =
    identifier-quiet part_kind x (pattern_tape p) (omega arith) (both_left (spelled_identifier x) _ s)
    (pattern-quiet p (both_right (spelled_identifier x) _ s))

conditions-quiet : (cs : List Condition) → every spelled_condition cs ≡ true → every quiet (conditions_tape cs) ≡ true
unfolding every conditions_tape
conditions-quiet [] s = refl
conditions-quiet (c ∷ cs) s =
    let told = truth_number c.expected + class_number c.predicate in
    let later = conditions-quiet cs (both_right (spelled_condition c) (every spelled_condition cs) s) in
    by_kind (λ x tape v. spelled_identifier x ≡ true → every quiet (tape ++ conditions_tape cs) ≡ true) told
    (λ kind x t.
    let fits = (carries kind (length x) c.expected (class_number c.predicate) (identifier-short x t) (class-below c.predicate)).small in
    variable-quiet (tape_word condition_kind (carried_by kind (length x) told)) x (conditions_tape cs) (omega arith) t later)
    c.subject (both_left (spelled_condition c) (every spelled_condition cs) s)

expression-quiet : (e : Expression) → legible e ≡ true → every quiet (expression_tape e) ≡ true
unfolding every expression_tape legible
expression-quiet end l = refl
expression-quiet (then_character c e) l = rw (byte-quiet c (both_left (is_byte c) (legible e) l))
    (expression-quiet e (both_right (is_byte c) (legible e) l))
expression-quiet (then_symbol x e) l =
    identifier-quiet symbol_kind x (expression_tape e) (omega arith) (both_left (spelled_identifier x) _ l)
    (expression-quiet e (both_right (spelled_identifier x) _ l))
expression-quiet (then_part x e) l =
    identifier-quiet part_kind x (expression_tape e) (omega arith) (both_left (spelled_identifier x) _ l)
    (expression-quiet e (both_right (spelled_identifier x) _ l))
expression-quiet (then_call place n a e) l =
    let spelled = both_left (spelled_name n) (both (legible a) (legible e)) l in
    let others = both_right (spelled_name n) (both (legible a) (legible e)) l in
    rw (quiet-high (tape_word (call_kind + place) (length n)) (omega arith))
    (every_append quiet n (expression_tape a ++ tape_word close_kind 0 ∷ expression_tape e) (name-quiet n spelled)
    (every_append quiet (expression_tape a) (tape_word close_kind 0 ∷ expression_tape e)
    (expression-quiet a (both_left (legible a) (legible e) others))
    (expression-quiet e (both_right (legible a) (legible e) others))))

sentence-quiet : (s : Sentence) → Retraceable s → every quiet (sentence_tape s) ≡ true
unfolding every
sentence-quiet s r =
    every_append quiet (pattern_tape s.pattern) _ (pattern-quiet s.pattern r.elements)
    (every_append quiet (conditions_tape s.conditions) _ (conditions-quiet s.conditions r.variables)
    (expression-quiet s.expression r.spelled))

sentences-quiet : (ss : List Sentence) → AllRetraceable ss → every quiet (sentences_tape ss) ≡ true
unfolding every sentences_tape
sentences-quiet [] r = refl
sentences-quiet (s ∷ []) r = every_append quiet (sentence_tape s) (tape_word end_kind 0 ∷ []) (sentence-quiet s r.0) refl
sentences-quiet (s ∷ t ∷ ts) r =
    every_append quiet (sentence_tape s) (tape_word next_kind 0 ∷ sentences_tape (t ∷ ts)) (sentence-quiet s r.0) (sentences-quiet (t ∷ ts) r.1)

-- THE TABLE

pub record RetraceableFunction (f : Function) : Type 0 where
  pub spelled : spelled_name f.name ≡ true
  pub some : some_sentence f.sentences ≡ true
  pub few : length f.sentences ≤ 512
  pub each : AllRetraceable f.sentences

function-back : (f : Function) (ws : List ℕ) → RetraceableFunction f → function_on_tape (function_tape f ++ ws) ≡ f
function-back f ws r = go f.sentences refl
  where
    short : length f.name < 256
    short = omega (arith, name-small f.name r.spelled)

    go : (ss : List Sentence) → f.sentences ≡ ss → function_on_tape (function_tape f ++ ws) ≡ f
    go [] e = absurd (false≢true (rw e at r.some))
    go (s ∷ ss) e =
        named_back (λ n x. record { name = n; sentences = x }) (λ n l. sentences_on_tape 512 (drop n l)) (λ n l. refl) function_kind f.name
        (sentences_tape f.sentences) ws short (rw e (sentences-back s ss 512 ws (rw e at r.each) (rw e at r.few)))

abbrev pub AllFunctions : Table → Type 0
AllFunctions [] = Unit {0}
AllFunctions (f ∷ fs) = RetraceableFunction f × AllFunctions fs

is-function : (n : ℕ) → n < 256 → is_function_word (tape_word function_kind n) ≡ true
is-function n h = rw (le-ltb (tape_word function_kind n) 2048 (omega arith), lt-ltb (tape_word function_kind n) 2304 (omega arith))

-- a tape's functions, one after another
functions-here : (f : Function) (ws : List ℕ) → RetraceableFunction f → functions_on_tape (function_tape f ++ ws) ≡
    (function_tape f ++ ws) ∷ functions_on_tape ws
unfolding functions_on_tape
functions-here f ws r =
    let quietly = every_append quiet f.name (sentences_tape f.sentences) (name-quiet f.name r.spelled)
    (sentences-quiet f.sentences r.each) in
    rw (
      is-function (length f.name) (omega (arith, name-small f.name r.spelled)),
      functions-past (f.name ++ sentences_tape f.sentences) ws
          quietly,
    )

pub functions-back : (t : Table) (limit : ℕ) → AllFunctions t → length t ≤ limit → map function_on_tape (take limit (functions_on_tape (tape t))) ≡ t
unfolding functions_on_tape tape
functions-back [] zero r h = refl
functions-back [] (suc limit) r h = refl
functions-back (f ∷ fs) zero r h = absurd (omega arith)
functions-back (f ∷ fs) (suc limit) r h =
    rw (functions-here f (tape fs) r.0, function-back f (tape fs) r.0) (ap (f ∷◌) (functions-back fs limit r.1 (omega arith)))

-- FROM THE RULES

module _ (symbols parts : List Name) (s : every spelled_identifier symbols ≡ true) (p : every spelled_identifier parts ≡ true) where
  subject-spelled : (v : Subject) → of_pattern symbols parts v ≡ true → spelled_identifier (identifier_of v) ≡ true
  subject-spelled (of_symbol x) m = member-every spelled_identifier x symbols s m
  subject-spelled (of_part x) m = member-every spelled_identifier x parts p m

  conditions-spelled : (cs : List Condition) → all_of_pattern symbols parts cs ≡ true → every spelled_condition cs ≡ true
  unfolding every
  conditions-spelled [] m = refl
  conditions-spelled (c ∷ cs) m =
      rw (subject-spelled c.subject (both_left (of_pattern symbols parts c.subject) _ m))
      (conditions-spelled cs (both_right (of_pattern symbols parts c.subject) _ m))

sentence-retraceable : (s : Sentence) → allowed_sentence s ≡ true → Retraceable s
unfolding every
sentence-retraceable s a =
    let p = s.pattern in
    let in_pattern = both_left (allowed_pattern p) _ a in
    let others = both_right (allowed_pattern p) _ a in
    let in_conditions = both_left (allowed_conditions (symbols_of p) (parts_of p) s.conditions) _ others in
    let in_expression = both_right (allowed_conditions (symbols_of p) (parts_of p) s.conditions) _ others in
    let elements = both_left (every spelled_element p) _ in_pattern in
    let a₁ = both_right (every spelled_element p) _ in_pattern in
    let a₂ = both_right (leb (length (parts_of p)) 2) _ a₁ in
    let a₃ = both_right (parted p) _ a₂ in
    let a₄ = both_right (distinct (symbols_of p ++ parts_of p)) _ a₃ in
    let e₁ = both_right (spelled_items (symbols_of p) s.expression) _ in_expression in
    let e₂ = both_right (is_some (coming_after_all s.expression (parts_of p))) _ e₁ in
    let symbols = symbols-spelled [] p refl elements in
    let parts = parts-spelled p elements in
    record {
      elements = elements;
      letters = leb-true (letters_in p) 64 (both_left (leb (letters_in p) max_letters) _ a₄);
      parts = leb-true (length (parts_of p)) 2 (both_left (leb (length (parts_of p)) 2) _ a₁);
      variables =
          conditions-spelled (symbols_of p) (parts_of p) symbols parts s.conditions
          (both_left (all_of_pattern (symbols_of p) (parts_of p) s.conditions) _ in_conditions);
      conditions = leb-true (length s.conditions) 8 (both_right (all_of_pattern (symbols_of p) (parts_of p) s.conditions) _ in_conditions);
      spelled = allowed-legible (symbols_of p) (parts_of p) s.expression symbols parts in_expression;
      items = leb-true (items_in s.expression) 128 (both_left (leb (items_in s.expression) max_items) _ e₂);
      nested = leb-true (nesting s.expression) 16 (both_right (leb (items_in s.expression) max_items) _ e₂);
    }

sentences-retraceable : (ss : List Sentence) → every allowed_sentence ss ≡ true → AllRetraceable ss
unfolding every
sentences-retraceable [] a = tt
sentences-retraceable (s ∷ ss) a = (
  sentence-retraceable s (both_left (allowed_sentence s) (every allowed_sentence ss) a),
  sentences-retraceable ss
      (both_right (allowed_sentence s) (every allowed_sentence ss) a),
)

functions-retraceable : (t : Table) → every allowed_function t ≡ true → sentences_of t ≤ 512 → AllFunctions t
unfolding every sentences_of
functions-retraceable [] a h = tt
functions-retraceable (f ∷ fs) a h =
    let this = both_left (allowed_function f) (every allowed_function fs) a in
    let named = both_left (both (spelled_name f.name) (not (is_reserved f.name))) _ this in
    let body = both_right (both (spelled_name f.name) (not (is_reserved f.name)))
    (both (some_sentence f.sentences) (every allowed_sentence f.sentences)) this in (
      record {
        spelled = both_left (spelled_name f.name) (not (is_reserved f.name)) named;
        some = both_left (some_sentence f.sentences) (every allowed_sentence f.sentences) body;
        few = omega arith;
        each = sentences-retraceable f.sentences (both_right (some_sentence f.sentences) (every allowed_sentence f.sentences) body);
      },
      functions-retraceable fs (both_right (allowed_function f) (every allowed_function fs) a) (omega arith),
    )

-- the tape of an allowed table is read as that table
pub tape-retraced : (t : Table) → T (allowed t) → tree_of (tape t) ≡ t
tape-retraced t ok =
    let a = passed-true (allowed t) ok in
    let a₁ = both_right (every allowed_function t) _ a in
    let a₂ = both_right (distinct (names_of t)) _ a₁ in
    let a₃ = both_right (leb (length t) max_functions) _ a₂ in
    functions-back t max_functions
    (functions-retraceable t (both_left (every allowed_function t) _ a)
    (leb-true (sentences_of t) 512 (both_left (leb (sentences_of t) max_sentences) _ a₃)))
    (leb-true (length t) max_functions (both_left (leb (length t) max_functions) _ a₂))
