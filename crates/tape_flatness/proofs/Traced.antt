-- The scan of the tape of an allowed table finds the leftmost declared call of the table that is no tail call.
use Prim.Native.Nat.{ℕ, suc, ◌+◌, ◌-◌, ◌/◌, ◌%◌, ◌<◌}
use native.Mathlib.Omega.{arith}
use mathlib.Core.Path.{◌≡◌, refl, sym, ◌∙◌, ap}
use mathlib.Core.Bool.{Bool, true, false, not}
use mathlib.Core.List.{List, [], ◌∷◌, ◌++◌, append_assoc, append-nil}
use lib.Dec.{T, ltb→lt}
use lib.ListN.{length}
use lib.Seq.{take-append_seam}
use borrow.Author.Tests.{lt-ltb, le-ltb, le-leb, lt-leb, ne_eqb}
use Rattle.meaning.specs.Choice.{Name, both, every}
use Rattle.meaning.specs.Names.{Calling as Called, as_emission, as_angles, as_function, calling_of, built_in, is_built_in, is_reserved}
use Rattle.meaning.specs.Tree.{Expression, end, then_character, then_symbol, then_part, then_call, Sentence, Function, Table}
use Rattle.meaning.specs.Allowed.{is_byte, spelled_name, spelled_identifier, some_sentence, allowed_sentence, allowed_function, allowed}
use Rattle.tape_layout.specs.Tape.{tape_word, named, symbol_kind, part_kind, equals_kind, close_kind, next_kind, end_kind, function_kind, call_kind}
use Rattle.tape_layout.specs.Tape.{pattern_tape, conditions_tape, expression_tape, sentence_tape, sentences_tape, tape}
use Rattle.meaning.specs.Translation.{Manner, emits, computes, replaces, nests, Level, outermost, in_argument, in_tail_position, manner_as, manner_of}
use Rattle.meaning.specs.Flat.{nested_at, nested_calls, nested_sentences, nested_in, leftmost}
use Rattle.meaning.proofs.Laws.Passing.{both_left, both_right, both-pass, every-head, every-tail}
use Rattle.meaning.proofs.Laws.Spelling.{name-short, identifier-short, identifier-bytes}
use Rattle.meaning_accepting.proofs.RoundTrip.Legible.{legible}
use Rattle.tape_flatness.specs.Scanned.{placed, place_of, earlier, only_if, is_item_word, item_follows, CallScan, out_of_calls, in_call, call_opened}
use Rattle.tape_flatness.specs.Scanned.{call_closed, scanned_calls, nested_call}
use Rattle.tape_flatness.proofs.Places.{earlier-nothing, earlier-either-way, earlier-assoc, told-placed, found_in, found_first, found-append}
use Rattle.tape_flatness.proofs.Places.{found-then}
use Rattle.tape_flatness.proofs.Passing.{word-then, name-then, quiet, quiet-low, quiet_word, quiet_then}
use Rattle.tape_flatness.proofs.Spelled.{byte-quiet, bytes-quiet, name-quiet, allowed-plain}

-- CALLS

-- where the scan stands: outside all calls, or with so many open inside an outermost one
data Standing : Type 0 where
  outside : Standing
  within : ℕ → ℕ → Standing

-- as translation says it
abbrev level_of : Standing → Level
level_of outside = outermost
level_of (within d p) = in_argument

-- there, with the leftmost place so far
abbrev at : Standing → ℕ → CallScan
at outside o = out_of_calls o
at (within d p) o = in_call d p o

-- where it stands in a call's argument, and the leftmost place after the call is opened and after it is closed
abbrev open_in : Standing → ℕ
open_in outside = 0
open_in (within d p) = suc d

abbrev outermost_in : Standing → ℕ → ℕ
outermost_in outside call = call
outermost_in (within d p) call = p

abbrev deeper : Standing → ℕ → Standing
deeper st call = within (open_in st) (outermost_in st call)

abbrev when_opened : Standing → ℕ → ℕ → ℕ
when_opened outside call o = o
when_opened (within d p) call o = earlier call o

abbrev when_closed : Standing → Bool → ℕ → ℕ → ℕ
when_closed outside followed call o = earlier (only_if followed call) o
when_closed (within d p) followed call o = o

opens : (st : Standing) (call o : ℕ) → call_opened call (at st o) ≡ at (deeper st call) (when_opened st call o)
opens outside call o = refl
opens (within d p) call o = refl

closes : (st : Standing) (followed : Bool) (call o : ℕ) → call_closed followed (at (deeper st call) o) ≡ at st (when_closed st followed call o)
closes outside followed call o = refl
closes (within d p) followed call o = refl

close-then : (st : Standing) (call : ℕ) (rest : List ℕ) (o : ℕ)
    → scanned_calls 0 (tape_word close_kind 0 ∷ rest) (at (deeper st call) o) ≡ scanned_calls 0 rest
    (at st (when_closed st (item_follows rest) call o))
unfolding scanned_calls
close-then st call rest o = ap (scanned_calls 0 rest) (closes st (item_follows rest) call o)

-- the word of a call and the name after it
module _ (place : ℕ) (n : Name) (rest : List ℕ) (s : CallScan) (t : T (spelled_name n)) where
  abbrev word : ℕ
  word = tape_word (call_kind + place) (length n)

  call-passed : scanned_calls 0 (word ∷ (n ++ rest)) s ≡ scanned_calls (length n) (n ++ rest)
      (call_opened (only_if (not (is_built_in n)) (suc place)) s)
  call-passed =
      let short = name-short n t in
      let size : word % 256 ≡ length n = omega arith in
      let stands : word / 256 - call_kind ≡ place = omega arith in
      rw (word-then word (n ++ rest) s, le-leb 2304 word (omega arith), size, take-append_seam n rest, stands)

  named-opens : scanned_calls 0 (named (call_kind + place) n ++ rest) s ≡ scanned_calls 0 rest
      (call_opened (only_if (not (is_built_in n)) (suc place)) s)
  named-opens = call-passed ∙ name-then n rest _

-- a call that is done in this manner, where it counts
abbrev counted_call : Manner → ℕ → ℕ
counted_call emits place = 0
counted_call (computes op) place = 0
counted_call replaces place = 0
counted_call nests place = suc place

manner-place : (c : Called) (last : Bool) (place : ℕ)
    → only_if (not last) (only_if (not (built_in c)) (suc place)) ≡ counted_call (manner_as c last) place
manner-place as_emission true place = refl
manner-place as_emission false place = refl
manner-place (as_angles op) true place = refl
manner-place (as_angles op) false place = refl
manner-place as_function true place = refl
manner-place as_function false place = refl

nested-found : (m : Manner) (place : ℕ) (xs ys : List ℕ)
    → found_in (nested_at m place (xs ++ ys)) ≡ earlier (counted_call m place) (earlier (found_in xs) (found_in ys))
nested-found emits place xs ys = found-append xs ys
nested-found (computes op) place xs ys = found-append xs ys
nested-found replaces place xs ys = found-append xs ys
nested-found nests place xs ys = found_first place (xs ++ ys) ∙ rw (found-append xs ys)

-- a call's place, those in its argument, those after it and what was known before: found in two orders
found-late : (q a e o : ℕ) → earlier e (earlier q (earlier a o)) ≡ earlier (earlier q (earlier a e)) o
found-late q a e o =
    ap (earlier e) (sym (earlier-assoc q a o))
    ∙ sym (earlier-assoc e (earlier q a) o)
    ∙ ap (λ (p : ℕ). earlier p o) (earlier-either-way e (earlier q a) ∙ earlier-assoc q a e)

found_early : (q a e o : ℕ) → earlier e (earlier a (earlier q o)) ≡ earlier (earlier q (earlier a e)) o
found_early q a e o =
    ap (earlier e) (sym (earlier-assoc a q o) ∙ ap (λ (p : ℕ). earlier p o) (earlier-either-way a q) ∙ earlier-assoc q a o)
    ∙ found-late q a e o

-- EXPRESSIONS

-- an item follows a call unless it is the last
item-follows : (e : Expression) (rest : List ℕ) → T (legible e) → item_follows rest ≡ false
    → item_follows (expression_tape e ++ rest) ≡ not (in_tail_position outermost e)
unfolding expression_tape legible
item-follows end rest t h = h
item-follows (then_character c e) rest t h = rw (lt-ltb c 768 (omega (arith, ltb→lt c 256 (both_left (is_byte c) _ t))))
item-follows (then_symbol x e) rest t h =
    rw (lt-ltb (tape_word symbol_kind (length x)) 768 (omega (arith, identifier-short x (both_left (spelled_identifier x) _ t))))
item-follows (then_part x e) rest t h =
    rw (lt-ltb (tape_word part_kind (length x)) 768 (omega (arith, identifier-short x (both_left (spelled_identifier x) _ t))))
item-follows (then_call place n a e) rest t h =
    let w = tape_word (call_kind + place) (length n) in
    rw (le-ltb w 768 (omega arith), le-leb 2304 w (omega arith))

-- no item follows an outermost expression
abbrev Ends : Standing → List ℕ → Type 0
Ends outside rest = item_follows rest ≡ false
Ends (within d p) rest = Unit {0}

call-told : (st : Standing) (place : ℕ) (n : Name) (e : Expression) (rest : List ℕ) (xs : List ℕ) (o : ℕ) → T (legible e) → Ends st rest
    → let call = only_if (not (is_built_in n)) (suc place) in
    let ys = nested_calls (level_of st) e in
    earlier (found_in ys) (when_closed st (item_follows (expression_tape e ++ rest)) call (earlier (found_in xs) (when_opened st call o)))
    ≡ earlier (found_in (nested_at (manner_of (level_of st) e n) place (xs ++ ys))) o
call-told outside place n e rest xs o t h =
    let m = manner_of outermost e n in
    rw (item-follows e rest t h, manner-place (calling_of n) (in_tail_position outermost e) place, nested-found m place xs (nested_calls outermost e))
    (found-late (counted_call m place) (found_in xs) (found_in (nested_calls outermost e)) o)
call-told (within d p) place n e rest xs o t h =
    rw (nested-found (manner_of in_argument e n) place xs (nested_calls in_argument e), ← (manner-place (calling_of n) false place))
    (found_early (only_if (not (is_built_in n)) (suc place)) (found_in xs) (found_in (nested_calls in_argument e)) o)

variable-then : (kind : ℕ) (x : Name) (ws : List ℕ) (s : CallScan) → kind < 3 → T (spelled_identifier x)
    → scanned_calls 0 (named kind x ++ ws) s ≡ scanned_calls 0 ws s
unfolding every
variable-then kind x ws s h t =
    quiet_then (named kind x) ws s
    (both-pass (quiet (tape_word kind (length x))) (every quiet x) (quiet-low (tape_word kind (length x)) (omega (arith, identifier-short x t)))
    (bytes-quiet x (identifier-bytes x t)))

expression-traced : (st : Standing) (e : Expression) (rest : List ℕ) (o : ℕ) → T (legible e) → Ends st rest
    → scanned_calls 0 (expression_tape e ++ rest) (at st o) ≡ scanned_calls 0 rest (at st (earlier (found_in (nested_calls (level_of st) e)) o))
unfolding expression_tape legible nested_calls leftmost
expression-traced st end rest o t h = refl
expression-traced st (then_character c e) rest o t h =
    quiet_word c (expression_tape e ++ rest) (at st o) (byte-quiet c (both_left (is_byte c) _ t))
    ∙ expression-traced st e rest o (both_right (is_byte c) _ t) h
expression-traced st (then_symbol x e) rest o t h =
    rw (append_assoc (named symbol_kind x) (expression_tape e) rest)
    (variable-then symbol_kind x (expression_tape e ++ rest) (at st o) (omega arith) (both_left (spelled_identifier x) _ t))
    ∙ expression-traced st e rest o (both_right (spelled_identifier x) _ t) h
expression-traced st (then_part x e) rest o t h =
    rw (append_assoc (named part_kind x) (expression_tape e) rest)
    (variable-then part_kind x (expression_tape e ++ rest) (at st o) (omega arith) (both_left (spelled_identifier x) _ t))
    ∙ expression-traced st e rest o (both_right (spelled_identifier x) _ t) h
expression-traced st (then_call place n a e) rest o t h =
    let spelled = both_left (spelled_name n) (both (legible a) (legible e)) t in
    let others = both_right (spelled_name n) (both (legible a) (legible e)) t in
    let in_a = both_left (legible a) (legible e) others in
    let in_e = both_right (legible a) (legible e) others in
    let call = only_if (not (is_built_in n)) (suc place) in
    let later = expression_tape e ++ rest in
    let xs = nested_calls in_argument a in
    rw (
      append_assoc (named (call_kind + place) n) (expression_tape a ++ tape_word close_kind 0 ∷ expression_tape e) rest,
      append_assoc (expression_tape a) (tape_word close_kind 0 ∷ expression_tape e) rest,
    )
    (named-opens place n (expression_tape a ++ tape_word close_kind 0 ∷ later) (at st o) spelled)
    ∙ ap (scanned_calls 0 (expression_tape a ++ tape_word close_kind 0 ∷ later)) (opens st call o)
    ∙ expression-traced (deeper st call) a (tape_word close_kind 0 ∷ later) (when_opened st call o) in_a tt
    ∙ close-then st call later _
    ∙ expression-traced st e rest _ in_e h
    ∙ ap (λ (q : ℕ). scanned_calls 0 rest (at st q)) (call-told st place n e rest xs o in_e h)

-- SENTENCES

-- the word after a sentence: another follows, or the function ends
sentence-traced : (s : Sentence) (w : ℕ) (ws : List ℕ) (o : ℕ) → T (allowed_sentence s) → is_item_word w ≡ false
    → scanned_calls 0 (sentence_tape s ++ (w ∷ ws)) (at outside o)
    ≡ scanned_calls 0 (w ∷ ws) (at outside (earlier (found_in (nested_calls outermost s.expression)) o))
sentence-traced s w ws o t h =
    let plain = allowed-plain s t in
    let p = pattern_tape s.pattern in
    let c = conditions_tape s.conditions in
    let x = expression_tape s.expression in
    rw (append_assoc p (c ++ tape_word equals_kind 0 ∷ x) (w ∷ ws), append_assoc c (tape_word equals_kind 0 ∷ x) (w ∷ ws))
    (quiet_then p (c ++ tape_word equals_kind 0 ∷ (x ++ (w ∷ ws))) (at outside o) plain.pattern)
    ∙ quiet_then c (tape_word equals_kind 0 ∷ (x ++ (w ∷ ws))) (at outside o) plain.conditions
    ∙ quiet_word (tape_word equals_kind 0) (x ++ (w ∷ ws)) (at outside o) tt
    ∙ expression-traced outside s.expression (w ∷ ws) o plain.expression h

sentences-traced : (ss : List Sentence) (rest : List ℕ) (o : ℕ) → T (every allowed_sentence ss)
    → scanned_calls 0 (sentences_tape ss ++ rest) (at outside o) ≡ scanned_calls 0 rest (at outside (earlier (found_in (nested_sentences ss)) o))
unfolding sentences_tape nested_sentences leftmost
sentences-traced [] rest o t = quiet_word (tape_word end_kind 0) rest (at outside o) tt
sentences-traced (s ∷ []) rest o t =
    rw (append_assoc (sentence_tape s) (tape_word end_kind 0 ∷ []) rest, append-nil (nested_calls outermost s.expression))
    (sentence-traced s (tape_word end_kind 0) rest o (every-head allowed_sentence s [] t) refl)
    ∙ quiet_word (tape_word end_kind 0) rest _ tt
sentences-traced (s ∷ r ∷ rs) rest o t =
    let later = sentences_tape (r ∷ rs) in
    rw (append_assoc (sentence_tape s) (tape_word next_kind 0 ∷ later) rest)
    (sentence-traced s (tape_word next_kind 0) (later ++ rest) o (every-head allowed_sentence s (r ∷ rs) t) refl)
    ∙ quiet_word (tape_word next_kind 0) (later ++ rest) _ tt
    ∙ sentences-traced (r ∷ rs) rest _ (every-tail allowed_sentence s (r ∷ rs) t)
    ∙ ap (λ (q : ℕ). scanned_calls 0 rest (at outside q)) (found-then (nested_calls outermost s.expression) (nested_sentences (r ∷ rs)) o)

-- THE TABLE

head-quiet : (n : Name) → T (spelled_name n) → T (every quiet (named function_kind n))
unfolding every
head-quiet n t =
    let w = tape_word function_kind (length n) in
    let short = name-short n t in
    rw (lt-leb 2304 w (omega arith), ne_eqb w 1280 (omega arith)) (name-quiet n t)

functions-traced : (fs : List Function) (o : ℕ) → T (every allowed_function fs)
    → scanned_calls 0 (tape fs) (at outside o) ≡ earlier (found_in (nested_in fs)) o
unfolding tape scanned_calls nested_in leftmost
functions-traced [] o t = refl
functions-traced (f ∷ fs) o t =
    let this = every-head allowed_function f fs t in
    let heading = both_left (both (spelled_name f.name) (not (is_reserved f.name))) _ this in
    let body = both_right (both (spelled_name f.name) (not (is_reserved f.name))) _ this in
    let head = named function_kind f.name in
    rw (append_assoc head (sentences_tape f.sentences) (tape fs))
    (quiet_then head (sentences_tape f.sentences ++ tape fs) (at outside o) (head-quiet f.name (both_left (spelled_name f.name) _ heading)))
    ∙ sentences-traced f.sentences (tape fs) o (both_right (some_sentence f.sentences) _ body)
    ∙ functions-traced fs _ (every-tail allowed_function f fs t)
    ∙ found-then (nested_sentences f.sentences) (nested_in fs) o

-- the scan of an allowed table's tape
pub tape-traced : (t : Table) → T (allowed t) → nested_call (tape t) ≡ placed (leftmost (nested_in t))
tape-traced t ok =
    ap place_of (functions-traced t 0 (both_left (every allowed_function t) _ ok))
    ∙ ap place_of (earlier-nothing (found_in (nested_in t)))
    ∙ told-placed (leftmost (nested_in t))
