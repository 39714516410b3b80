-- The pattern's reader: what an item without a fault adds.
use Prim.Native.Nat.{ℕ, ◌+◌, ◌-◌, ◌*◌, ◌≤◌}
use mathlib.Core.Path.{◌≡◌, refl, sym, ◌∙◌}
use mathlib.Core.Bool.{Bool, true, false}
use mathlib.Core.List.{List, [], ◌∷◌, ◌++◌, append-nil}
use mathlib.Core.Logic.{inl}
use native.Mathlib.Nat.{add-zero}
use native.Mathlib.Omega.{arith}
use lib.Dec.{T, leb, ltb, eqb}
use lib.ListN.{length}
use borrow.Author.Tests.{le-leb, leb-true}
use Rattle.std.specs.Prelude.{Result, Option, Some, Ok, Err}
use Rattle.meaning.specs.Choice.{Bytes, Name, pick, both, every}
use Rattle.meaning.specs.Tree.{symbol, Element, letter, part}
use Rattle.meaning.specs.Allowed.{added, member, symbols_from, parts_of, letters_in, max_identifier, max_letters, max_symbols}
use Rattle.tape_layout.specs.Tape.{named, pattern_tape, kind_width, part_word, symbol_word}
use Rattle.meaning.specs.Reading.{Item, characters, symbol_item, part_item, elements_of, ends_in_part, pattern_fault}
use Rattle.meaning_accepting.proofs.Reading.Basics.{both_left, both_right}
use Rattle.meaning_accepting.proofs.Reading.PatternFacts.{parts-append, letters-append, symbols-append, characters-parts, characters-letters}
use Rattle.meaning_accepting.proofs.Reading.PatternFacts.{characters-symbols}
use Rattle.read_tokens.specs.View as View
use Rattle.read_tokens.specs.View.{characters_in, quotation_at}
use Rattle.read_tokens.specs.declared.Span.{Span}
use Rattle.read_tokens.specs.declared.Placed.{Placed}
use Rattle.answers.specs.declared.Fault.{Fault}
use Rattle.read_patterns.specs.declared.Counts.{Counts}
use Rattle.read_bookkeeping.specs.declared.variables.Variables.{Variables}
use Rattle.read_bookkeeping.specs.Tables.{max_parts}
use Rattle.read_bookkeeping.specs.Written.{WroteOnTape, string_from, is_quiet, Went}
use Rattle.read_bookkeeping.specs.Items.{Known, symbol_spans, part_spans, symbol_names, part_names, Identifier, StringAt}
use Rattle.read_patterns.specs.Patterns.{PatternGoing, Seen, pattern_symbol_fault, pattern_part_fault, AddsItem, AddsToken}
use Rattle.read_bookkeeping.proofs.Choosing.{no-fault}
use Rattle.read_bookkeeping.proofs.Declaring.{names-append, known-symbol, known-part}
use Rattle.read_bookkeeping.proofs.Lengths.{within}
use Rattle.read_bookkeeping.proofs.Items.{identifier-inside, ItemHere}
use Rattle.read_bookkeeping.proofs.Itemed.{string-went, string-quiet, variable-went, variable-quiet}
use Rattle.read_bookkeeping.proofs.Going.{ready-after}
use Rattle.read_patterns.proofs.Elements.{ends_with, ends-string, tape-string, tape-one}

-- ITEMS

-- the item's fault after elements of which this is counted
abbrev Faulted : Bytes → Variables → Counts → Item → ℕ → Type 0
Faulted text v p item number = (before : List Element) → Seen text v p before → pattern_fault before item ≡ number

-- what is counted with these elements added
record Counting (text : Bytes) (v : Variables) (p : Counts) (es : List Element) (v' : Variables) (next : Counts) : Type 0 where
  known : Known text v'
  few : next.letters ≤ max_letters
  letters : p.letters + letters_in es ≡ next.letters
  symbols : symbols_from (symbol_names text v) es ≡ symbol_names text v'
  parts : part_names text v ++ parts_of es ≡ part_names text v'
  ending : (before : List Element) → ends_in_part before ≡ p.ending → ends_in_part (before ++ es) ≡ next.ending

-- an item without a fault, the words of whose elements are written
item-taken : {text : Bytes} {v : Variables} {p : Counts} {tape : List ℕ} {item : Item} {place : ℕ} {v' : Variables} {tape' : List ℕ}
    {next : Counts} {words : List ℕ}
    → PatternGoing text p → pattern_tape (elements_of item) ≡ words → Faulted text v p item 0
    → Counting text v p (elements_of item) v' next
    → Went text p.at p.words tape next.at next.words tape' words
    → T (every is_quiet words)
    → AddsItem text v p tape item place next.at v' tape' (Ok next)
item-taken {item = item} h e f k g q =
    record {
      gives =
          record {
            known = k.known;
            going = record { few_letters = k.few; ready = ready-after h.ready.short g };
            at = refl;
            went = rw e g;
            quiet = rw e q;
            fault = f;
            seen =
                λ before s.
                record {
                  letters = letters-append before (elements_of item) ∙ rw s.letters k.letters;
                  symbols = symbols-append [] before (elements_of item) ∙ rw s.symbols k.symbols;
                  parts = parts-append before (elements_of item) ∙ rw s.parts k.parts;
                  ending = k.ending before s.ending;
                };
          };
    }

-- STRINGS

module _ {text : Bytes} {p : Counts} {place past count : ℕ} (pre : PatternGoing text p × StringAt text p.at place past count)
    (few : p.letters + count ≤ max_letters)
  where
    abbrev string : Bytes
    string = characters_in (quotation_at text place)

    string-faulted : (v : Variables) → Faulted text v p (characters string) 0
    string-faulted v before s = rw (s.letters, pre.1.counted, le-leb (p.letters + count) max_letters few)

    pub string-taken : (tape tape' : List ℕ) (words : ℕ) (ending : Bool)
        → WroteOnTape tape p.words (characters_in (string_from text (place + 1))) words tape' ×
        T (every is_quiet (characters_in (string_from text (place + 1))))
        → ending ≡ both p.ending (eqb count 0)
        → (v : Variables) → Known text v
        → AddsItem text v p tape (characters string) place past v tape'
        (Ok (record { at = past; words = words; letters = p.letters + count; ending = ending }))
    string-taken tape tape' words ending w e v known =
        item-taken pre.0 (tape-string string) (string-faulted v)
        (record {
          known = known;
          few = few;
          letters = rw (characters-letters string, pre.1.counted);
          symbols = characters-symbols (symbol_names text v) string;
          parts = rw (characters-parts string) (append-nil (part_names text v));
          ending = λ before s. ends-string before string ∙ rw (s, pre.1.counted) (sym e);
        })
        (string-went pre.0.ready pre.1 w.0)
        (string-quiet pre.0.ready pre.1 w.1)

-- VARIABLES

module _ {text : Bytes} {v : Variables} {p : Counts} {x : Span} (h : Known text v × PatternGoing text p × Identifier text p.at x) where
  abbrev name : Name
  name = View.span_text text x

  -- a variable of a kind, whose word is written with it
  variable-taken : {tape : List ℕ} {item : Item} {place : ℕ} {v' : Variables} {tape' : List ℕ} {next : Counts} {word : ℕ} (kind : ℕ) → kind ≤ 2
      → x.past - x.from ≤ max_identifier
      → word ≡ kind * kind_width + (x.past - x.from)
      → pattern_tape (elements_of item) ≡ named kind name
      → Faulted text v p item 0
      → Counting text v p (elements_of item) v' next
      → next.at ≡ x.past
      → WroteOnTape tape p.words (word ∷ name) next.words tape' × T (every is_quiet name)
      → AddsItem text v p tape item place next.at v' tape' (Ok next)
  variable-taken kind k s u e f c r w =
      item-taken h.1 e f c (rw r (variable-went h.1.ready h.2 kind u w.0)) (variable-quiet h.1.ready h.2 kind (omega arith) w.1)

  -- AN S-VARIABLE

  abbrev pub symbol_fault : ℕ
  symbol_fault = pattern_symbol_fault p.letters (symbol_names text v) (part_names text v) name

  -- what the tests say where there is no fault
  record Fitting : Type 0 where
    short : x.past - x.from ≤ max_identifier
    few : p.letters + 1 ≤ max_letters

  fitting : 0 ≡ symbol_fault → Fitting
  fitting f =
      let a = leb (length name) max_identifier in
      let b = leb (p.letters + 1) max_letters in
      let c = leb (length (added name (symbol_names text v))) max_symbols in
      let t = (no-fault (both a (both b c)) 3 _ (sym f)).0 in
      record {
        short = within text x (identifier-inside h.2) max_identifier 3 0 (rw (both_left a (both b c) t));
        few = leb-true (p.letters + 1) max_letters (both_left b c (both_right a (both b c) t));
      }

  -- the s-variables with this one among them
  remembered : (v' : Variables) (known : Bool) → known ≡ member name (symbol_names text v)
      → symbol_spans v' ≡ pick known (symbol_spans v) (symbol_spans v ++ x ∷ [])
      → part_spans v' ≡ part_spans v
      → Known text v' × (added name (symbol_names text v) ≡ symbol_names text v')
  remembered v' true k s r = (record { symbols = rw s h.0.symbols; parts = rw r h.0.parts }, rw (← k, s))
  remembered v' false k s r =
      (known-symbol text v v' h.0 x (identifier-inside h.2) s r, rw (← k, s) (sym (names-append text (symbol_spans v) (x ∷ []))))

  pub symbol-taken : 0 ≡ symbol_fault → (tape tape' : List ℕ) (words place : ℕ) (v' : Variables) (known : Bool)
      → known ≡ member name (symbol_names text v)
      → symbol_spans v' ≡ pick known (symbol_spans v) (symbol_spans v ++ x ∷ [])
      → part_spans v' ≡ part_spans v
      → WroteOnTape tape p.words ((symbol_word + (x.past - x.from)) ∷ name) words tape' × T (every is_quiet name)
      → AddsItem text v p tape (symbol_item name) place x.past v' tape'
      (Ok (record { at = x.past; words = words; letters = p.letters + 1; ending = false }))
  unfolding letters_in symbols_from parts_of
  symbol-taken f tape tape' words place v' known k s r w =
      let t = fitting f in
      let m = remembered v' known k s r in
      variable-taken 1 (omega arith) t.short (omega arith) (tape-one (letter (symbol name)))
      (λ before seen. rw (seen.letters, seen.symbols, seen.parts) (sym f))
      (record {
        known = m.0;
        few = t.few;
        letters = refl;
        symbols = m.1;
        parts = append-nil (part_names text v) ∙ rw r;
        ending = λ before seen. ends_with before (letter (symbol name));
      })
      refl
      w

  -- AN E-VARIABLE

  abbrev pub part_fault : ℕ
  part_fault = pattern_part_fault (symbol_names text v) (part_names text v) p.ending name

  part-short : 0 ≡ part_fault → x.past - x.from ≤ max_identifier
  part-short f = within text x (identifier-inside h.2) max_identifier 3 _ (no-fault (ltb (length (part_names text v)) max_parts) 2 _ (sym f)).1

  pub part-taken : 0 ≡ part_fault → (tape tape' : List ℕ) (words place : ℕ) (v' : Variables)
      → symbol_spans v' ≡ symbol_spans v
      → part_spans v' ≡ part_spans v ++ x ∷ []
      → WroteOnTape tape p.words ((part_word + (x.past - x.from)) ∷ name) words tape' × T (every is_quiet name)
      → AddsItem text v p tape (part_item name) place x.past v' tape'
      (Ok (record { at = x.past; words = words; letters = p.letters; ending = true }))
  unfolding letters_in symbols_from parts_of
  part-taken f tape tape' words place v' s r w =
      variable-taken 2 (omega arith) (part-short f) (omega arith) (tape-one (part name))
      (λ before seen. rw (seen.symbols, seen.parts, seen.ending) (sym f))
      (record {
        known = known-part text v v' h.0 x (identifier-inside h.2) s r;
        few = h.1.few_letters;
        letters = add-zero p.letters;
        symbols = rw s;
        parts = rw r (sym (names-append text (part_spans v) (x ∷ [])));
        ending = λ before seen. ends_with before (part name);
      })
      refl
      w

-- TOKENS

-- what comes of the item comes of the token
module _ {text : Bytes} {v : Variables} {p : Counts} {tape : List ℕ} {t : Placed} {item : Item} {past : ℕ} {v' : Variables} {tape' : List ℕ}
    (h : ItemHere text t item past) where
  pub takes : {next : Counts} → AddsItem text v p tape item t.place past v' tape' (Ok next) → AddsToken text v p tape t v' tape' (Ok (Some next))
  takes a = record { gives = (rw (h.is, ← h.ends) a.gives, rw h.is h.some) }

  pub refuses : {fault : Fault} {r : Result (Option Counts) Fault} → AddsItem text v p tape item t.place past v' tape' (Err fault) → r ≡ Err fault
      → AddsToken text v p tape t v' tape' r
  refuses a e = rw e (record { gives = inl (rw h.is a.gives, rw h.is h.some) })
