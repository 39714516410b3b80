-- The called names of a tape are those of its table: the search over words is the search over the tree.
use Prim.Native.Nat.{ℕ, suc, ◌+◌, ◌/◌, ◌≤◌, ◌<◌}
use mathlib.Core.Path.{◌≡◌, refl, ◌∙◌}
use mathlib.Core.Bool.{Bool, true, false}
use mathlib.Core.List.{List, [], ◌∷◌, ◌++◌, append_assoc, append-nil}
use mathlib.Core.Option.{Option, none, some}
use native.Mathlib.Omega.{arith}
use borrow.Author.Tests.{lt-ltb, le-ltb, ltb-false}
use lib.Dec.{T, ltb, ltb→lt}
use lib.ListN.{length, get_or, take, drop, length-append, drop_of_length-le}
use lib.Seq.{take-append_seam}
use Rattle.meaning.specs.Choice.{Name, pick, either, or_else, every, same_bytes}
use Rattle.meaning.specs.Tree.{Expression, end, then_character, then_symbol, then_part, then_call, Sentence, Function, Table}
use Rattle.meaning.specs.Names.{number_from, is_known}
use Rattle.meaning.specs.Allowed.{member, names_of}
use Rattle.tape_layout.specs.Tape.{tape_word, symbol_kind, part_kind, equals_kind, close_kind, next_kind}
use Rattle.tape_layout.specs.Tape.{end_kind, function_kind, call_kind, call_word, named}
use Rattle.tape_layout.specs.Tape.{pattern_tape, conditions_tape, expression_tape, sentence_tape, sentences_tape, function_tape, tape}
use Rattle.meaning.specs.Reading.{unknown_call, unknown_in_sentences, unknown_in}
use Rattle.meaning.proofs.Laws.Passing.{every-head, every-tail}
use Rattle.meaning.proofs.Laws.Remaining.{at_place}
use Rattle.meaning_accepting.proofs.Reading.Lists.{either-left-false}
use Rattle.tape_words.specs.Words.{carried, called_place, head_names}
use Rattle.tape_words.specs.Finding.{is_known_among}
use Rattle.read_bookkeeping.specs.Written.{is_quiet}
use Rattle.read_functions.specs.Expressions.{CallStands, ExpressionStands}
use Rattle.read_functions.specs.Sentences.{Each, SentenceStands}
use Rattle.read_functions.specs.Functions.{FunctionStands}
use Rattle.read_table.specs.Calls.{NameFollows, NamesFollow, word_known, Holds}

-- the first word that opens a call of an undeclared name, by the name's place
unfoldable pub unknown_from : List Name → List ℕ → Option ℕ
unknown_from names [] = none
unknown_from names (w ∷ ws) =
    let later = unknown_from names ws in
    pick (word_known names w ws) later (some (called_place w))

-- DECLARED NAMES

number-member : (count : ℕ) (t : Table) (n : Name) → ltb 0 (number_from count t n) ≡ member n (names_of t)
unfolding number_from member
number-member count [] n = refl
number-member count (f ∷ fs) n = go (same_bytes n f.name) (number-member (suc count) fs n)
  where
    go : (b : Bool) → ltb 0 (number_from (suc count) fs n) ≡ member n (names_of fs)
        → ltb 0 (pick b (suc count) (number_from (suc count) fs n)) ≡ either b (member n (names_of fs))
    go true e = lt-ltb 0 (suc count) (omega arith)
    go false e = e

-- PIECES OF A TAPE

-- what the search finds among some words, whatever words come after them, and that the names that they call follow them
pub record Scans (names : List Name) (words : List ℕ) (found : Option ℕ) : Type 0 where
  pub same : (after : List ℕ) → unknown_from names (words ++ after) ≡ or_else found (unknown_from names after)
  pub follow : (after : List ℕ) → NamesFollow after → NamesFollow (words ++ after)

pick-or : (b : Bool) (place : ℕ) (o p : Option ℕ) → pick b (or_else o p) (some place) ≡ or_else (pick b o (some place)) p
pick-or true place o p = refl
pick-or false place o p = refl

or-or : (o p q : Option ℕ) → or_else o (or_else p q) ≡ or_else (or_else o p) q
or-or none p q = refl
or-or (some x) p q = refl

or-none : (o : Option ℕ) → or_else o none ≡ o
or-none none = refl
or-none (some x) = refl

module _ (t : Table) where
  abbrev names : List Name
  names = names_of t

  abbrev Finds : List ℕ → Option ℕ → Type 0
  Finds words found = Scans names words found

  append-finds : (xs : List ℕ) {ys : List ℕ} {o p : Option ℕ} → Finds xs o → Finds ys p → Finds (xs ++ ys) (or_else o p)
  append-finds xs {ys} {o} {p} s r =
      record {
        same = λ after. rw (append_assoc xs ys after, s.same (ys ++ after), r.same after) (or-or o p (unknown_from names after));
        follow = λ after k. rw (append_assoc xs ys after) (s.follow (ys ++ after) (r.follow after k));
      }

  none-finds : Finds [] none
  none-finds = record { same = λ after. refl; follow = λ after k. k }

  -- words that open no call
  word-finds : (w : ℕ) → T (is_quiet w) → Finds (w ∷ []) none
  unfolding unknown_from NamesFollow
  word-finds w q =
      let h : w < call_word = ltb→lt w call_word q in
      record { same = λ after. rw (lt-ltb w call_word h); follow = λ after k. (λ l. absurd (omega arith), k) }

  -- before others
  word-then : (w : ℕ) → T (is_quiet w) → {ys : List ℕ} {p : Option ℕ} → Finds ys p → Finds (w ∷ ys) p
  word-then w q r = append-finds (w ∷ []) (word-finds w q) r

  quiet_then : (ws : List ℕ) → T (every is_quiet ws) → {ys : List ℕ} {p : Option ℕ} → Finds ys p → Finds (ws ++ ys) p
  quiet_then [] q r = r
  quiet_then (w ∷ ws) q r = word-then w (every-head is_quiet w ws q) (quiet_then ws (every-tail is_quiet w ws q) r)

  -- CALLS

  -- a call's word gives its place and its name back
  module _ (place : ℕ) (n : Name) (s : CallStands n) where
    abbrev word : ℕ
    word = tape_word (call_kind + place) (length n)

    word-place : called_place word ≡ place
    word-place = omega (arith, s.short)

    word_size : carried word ≡ length n
    word_size = omega (arith, s.short)

    module _ (words after : List ℕ) where
      -- the name, and what comes after it
      abbrev tail : List ℕ
      tail = (n ++ words) ++ after

      word-known : word_known names word tail ≡ is_known t n
      word-known =
          rw (le-ltb word call_word (omega arith), word_size, append_assoc n words after, take-append_seam n (words ++ after), number-member 0 t n)

      word-follows : NameFollows word tail
      word-follows h = rw (word_size, append_assoc n words after, length-append n (words ++ after)) (omega arith)

    call-finds : {words : List ℕ} {found : Option ℕ} → Finds words found
        → Finds (named (call_kind + place) n ++ words) (pick (is_known t n) found (some place))
    unfolding unknown_from NamesFollow
    call-finds {words} {found} r =
        let named = quiet_then n s.quiet r in
        record {
          same = λ after. rw (word-known words after, word-place, named.same after) (pick-or (is_known t n) place found (unknown_from names after));
          follow = λ after k. (word-follows words after, named.follow after k);
        }

  -- THE TREE

  expression-finds : (e : Expression) → ExpressionStands e → Finds (expression_tape e) (unknown_call t e)
  unfolding expression_tape ExpressionStands unknown_call
  expression-finds end s = none-finds
  expression-finds (then_character c e) s = word-then c s.0 (expression-finds e s.1)
  expression-finds (then_symbol x e) s = quiet_then (named symbol_kind x) s.0 (expression-finds e s.1)
  expression-finds (then_part x e) s = quiet_then (named part_kind x) s.0 (expression-finds e s.1)
  expression-finds (then_call place n a e) s =
      call-finds place n s.0
      (append-finds (expression_tape a) (expression-finds a s.1) (word-then (tape_word close_kind 0) tt (expression-finds e s.2)))

  sentence-finds : (s : Sentence) → SentenceStands s → Finds (sentence_tape s) (unknown_call t s.expression)
  sentence-finds s k =
      quiet_then (pattern_tape s.pattern) k.pattern
      (quiet_then (conditions_tape s.conditions) k.conditions
      (word-then (tape_word equals_kind 0) tt (expression-finds s.expression k.expression)))

  sentences-find : (ss : List Sentence) → Each SentenceStands ss → Finds (sentences_tape ss) (unknown_in_sentences t ss)
  unfolding sentences_tape unknown_in_sentences Each
  sentences-find [] k = word-finds (tape_word end_kind 0) tt
  sentences-find (s ∷ []) k = append-finds (sentence_tape s) (sentence-finds s k.0) (word-finds (tape_word end_kind 0) tt)
  sentences-find (s ∷ r ∷ rs) k =
      append-finds (sentence_tape s) (sentence-finds s k.0) (word-then (tape_word next_kind 0) tt (sentences-find (r ∷ rs) k.1))

  functions-find : (fs : List Function) → Each FunctionStands fs → Finds (tape fs) (unknown_in t fs)
  unfolding tape unknown_in Each
  functions-find [] k = none-finds
  functions-find (f ∷ fs) k =
      append-finds (function_tape f) (quiet_then (named function_kind f.name) k.0.name (sentences-find f.sentences k.0.sentences))
      (functions-find fs k.1)

  -- THE TABLE THAT WAS READ

  module _ (stand : Each FunctionStands t) where
    pub tape-found : unknown_from (names_of t) (tape t) ≡ unknown_in t t
    unfolding unknown_from
    tape-found = (rw (append-nil (tape t)) at ((functions-find t stand).same [])) ∙ or-none (unknown_in t t)

    -- what the search requires of the tape
    pub tape-follows : NamesFollow (tape t)
    unfolding NamesFollow
    tape-follows = rw (append-nil (tape t)) at ((functions-find t stand).follow [] tt)

-- ONE WORD

module _ (names : List Name) (w : ℕ) (after : List ℕ) where
  -- a word that is not known opens a call
  pub unknown-opens : word_known names w after ≡ false → call_kind ≤ w / 256
  unknown-opens e = omega (arith, ltb-false w call_word (either-left-false (is_quiet w) _ e))

  pub no_call : w < call_word → true ≡ word_known names w after
  no_call h = rw (lt-ltb w call_word h)

  pub a_call : call_word ≤ w → {known : Bool} → known ≡ is_known_among names (take (carried w) after) → known ≡ word_known names w after
  a_call h e = rw (le-ltb w call_word h) e

-- THE LOOP

-- the search from here on gives what the search from the start gives
pub record Searching (names : List Name) (tape : List ℕ) (i : ℕ) : Type 0 where
  pub before : i ≤ length tape
  pub rest : unknown_from names tape ≡ unknown_from names (drop i tape)
  pub follow : NamesFollow (drop i tape)

module _ {names : List Name} {words : List ℕ} where
  pub search-starts : NamesFollow words → Searching names words 0
  search-starts k = record { before = omega arith; rest = refl; follow = k }

  module _ {i : ℕ} (s : Searching names words i) where
    module _ (h : i < length words) where
      abbrev after : List ℕ
      after = drop (i + 1) words

      pub searched-follows : NameFollows (get_or words i 0) after
      unfolding NamesFollow
      searched-follows = (rw (at_place words i h) at s.follow).0

      pub search-goes : word_known names (get_or words i 0) after ≡ true → Searching names words (i + 1)
      unfolding unknown_from NamesFollow
      search-goes e =
          record {
            before = omega arith;
            rest = s.rest ∙ rw (at_place words i h, e);
            follow = (rw (at_place words i h) at s.follow).1;
          }

      pub search-finds : word_known names (get_or words i 0) after ≡ false → unknown_from names words ≡ some (called_place (get_or words i 0))
      unfolding unknown_from
      search-finds e = s.rest ∙ rw (at_place words i h, e)

    pub search-ends : length words ≤ i → unknown_from names words ≡ none
    unfolding unknown_from
    search-ends h = s.rest ∙ rw (drop_of_length-le words h)

-- what the search comes to, for the table whose tape it is
pub table-found : {words heads : List ℕ} {t : Table} → Holds words heads t
    → unknown_from (head_names words heads) words ≡ unknown_in t t
table-found h = rw (h.declared, h.written) (tape-found _ h.stand)
