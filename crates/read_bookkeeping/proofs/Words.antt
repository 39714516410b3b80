-- Words written on the tape, one after the other.
use Prim.Native.Nat.{ℕ, suc, ◌+◌, ◌-◌, ◌≤◌, ◌<◌}
use mathlib.Core.Path.{◌≡◌, refl, sym, ap, ◌∙◌}
use mathlib.Core.List.{List, [], ◌∷◌, ◌++◌, append_assoc}
use native.Mathlib.Nat.{add-zero}
use native.Mathlib.Numerals.{add-one}
use native.Mathlib.Omega.{arith}
use Rattle.std.proofs.lemmas.List.{take_all}
use lib.Dec.{T, lt→ltb}
use lib.ListN.{length, get_or, set, take, drop, length-append}
use lib.Seq.{length-sets, length-take-le, set-set, set_comm, sets-eq, take_at, take-suc, drop_at, take-append_seam}
use Rattle.meaning.specs.Choice.{Bytes, every}
use Rattle.meaning.specs.Tokens as Tokens
use Rattle.read_tokens.specs.View.{IsClosed, characters_in, span_text}
use Rattle.read_characters.specs.View.{continued, EndsInText, StandsInString}
use Rattle.read_characters.specs.declared.Character.{Character}
use Rattle.read_characters.specs.declared.Character.TheVariants.{Given, Nothing, Closed, Broken}
use Rattle.read_tokens.specs.declared.Span.{Span}
use Rattle.meaning.specs.Allowed.{max_table}
use Rattle.read_bookkeeping.specs.Tables.{Inside}
use Rattle.read_bookkeeping.specs.Written.{written_from, WroteOnTape, string_from, is_quiet, Ready}
use Rattle.read_bookkeeping.proofs.Lengths.{part_length}
use Rattle.read_bookkeeping.proofs.Choosing.{every_append, every_one}

-- ON THE TAPE

pub written_none : (tape : List ℕ) (at : ℕ) → written_from tape at [] ≡ tape
unfolding written_from
written_none tape at = refl

pub written_one : (tape : List ℕ) (at w : ℕ) → set tape at w ≡ written_from tape at (w ∷ [])
unfolding written_from
written_one tape at w = refl

pub written-snoc : (ws tape : List ℕ) (at w : ℕ) → set (written_from tape at ws) (at + length ws) w ≡ written_from tape at (ws ++ w ∷ [])
unfolding written_from
written-snoc [] tape at w = rw (add-zero at)
written-snoc (v ∷ ws) tape at w =
    let e : at + suc (length ws) ≡ suc at + length ws = omega arith in
    rw e (written-snoc ws (set tape at v) (suc at) w)

written-length : (tape : List ℕ) (at : ℕ) (ws : List ℕ) → length (written_from tape at ws) ≡ length tape
unfolding written_from
written-length tape at ws = length-sets tape at ws

-- writing keeps the tape's length
pub wrote-length : {tape : List ℕ} {at : ℕ} {words : List ℕ} {at' : ℕ} {tape' : List ℕ} → WroteOnTape tape at words at' tape'
    → length tape' ≡ length tape
wrote-length w = ap length w.same ∙ written-length _ _ _

pub written-append : (a b tape : List ℕ) (at : ℕ) → written_from (written_from tape at a) (at + length a) b ≡ written_from tape at (a ++ b)
unfolding written_from
written-append [] b tape at = rw (add-zero at)
written-append (v ∷ a) b tape at =
    let e : at + suc (length a) ≡ suc at + length a = omega arith in
    rw e (written-append a b (set tape at v) (suc at))

-- a store before what is written
set-written : (ws tape : List ℕ) (i at w : ℕ) → i < at → set (written_from tape at ws) i w ≡ written_from (set tape i w) at ws
unfolding written_from
set-written [] tape i at w h = refl
set-written (v ∷ ws) tape i at w h =
    set-written ws (set tape at v) i (suc at) w (omega arith)
    ∙ ap (λ (l : List ℕ). written_from l (suc at) ws) (set_comm tape at i v w (λ e. omega arith))

-- what is written over, by as many words or more, doesn't matter
pub written_over : (a b tape : List ℕ) (at : ℕ) → length a ≤ length b → written_from (written_from tape at a) at b ≡ written_from tape at b
unfolding written_from
written_over [] b tape at h = refl
written_over (v ∷ a) [] tape at h = absurd (omega arith)
written_over (v ∷ a) (w ∷ b) tape at h =
    rw (set-written a (set tape at v) at (suc at) w (omega arith), set-set tape at v w) (written_over a b (set tape at w) (suc at) (omega arith))

-- words that fit stand there afterwards, and those before them are kept
module _ (ws tape : List ℕ) (at : ℕ) (fits : at + length ws ≤ length tape) where
  abbrev rest : List ℕ
  rest = drop (at + length ws) tape

  split : written_from tape at ws ≡ take at tape ++ (ws ++ rest)
  unfolding written_from
  split = sets-eq ws tape at fits ∙ append_assoc (take at tape) ws rest

  long : length (take at tape) ≡ at
  long = length-take-le at tape (omega arith)

  pub written-there : take (length ws) (drop at (written_from tape at ws)) ≡ ws
  written-there = rw (split, drop_at (take at tape) (ws ++ rest) at long) (take-append_seam ws rest)

  pub written-before : take at (written_from tape at ws) ≡ take at tape
  written-before = rw split (take_at (take at tape) (ws ++ rest) at long)

-- a part of the text stands on the tape too, from a place on
pub record OnTape (text : Bytes) (x : Span) (tape : List ℕ) (at : ℕ) : Type 0 where
  pub inside : at + (x.past - x.from) ≤ length tape
  pub same : take (x.past - x.from) (drop at tape) ≡ span_text text x

pub on-tape : {text : Bytes} {x : Span} {tape tape' : List ℕ} {at to : ℕ} → Inside text x → at + (x.past - x.from) ≤ length tape
    → WroteOnTape tape at (span_text text x) to tape'
    → OnTape text x tape' at
on-tape {text} {x} {tape} {at = at} i h w =
    let l = part_length text x i in
    record {
      inside = rw (wrote-length w) h;
      same = rw (w.same, ← l) (written-there (span_text text x) tape at (rw l h));
    }

-- A NAME AFTER A WORD

-- so many of these bytes are copied to the tape from a place on
pub record Copied (bytes : Bytes) (start : List ℕ) (first : ℕ) (tape : List ℕ) (i : ℕ) : Type 0 where
  pub room : first + length bytes ≤ max_table
  pub same : tape ≡ written_from start first (take i bytes)
  pub quiet : T (every is_quiet (take i bytes))

pub copy-starts : (text : Bytes) (start : List ℕ) (first : ℕ) (x : Span) (bytes : Bytes) → bytes ≡ span_text text x → Inside text x
    → first + (x.past - x.from) ≤ max_table
    → Copied bytes start first start 0
unfolding every
copy-starts text start first x bytes e p h =
    record {
      room = rw (e, part_length text x p) h;
      same = sym (written_none start first);
      quiet = tt;
    }

module _ (bytes : Bytes) (start : List ℕ) (first : ℕ) (tape : List ℕ) (i : ℕ) (n : Copied bytes start first tape i) where
  pub copy_goes : (next : List ℕ) → i < length bytes → get_or bytes i 0 < 256 → next ≡ set tape (first + i) (get_or bytes i 0)
      → Copied bytes start first next (i + 1)
  copy_goes next h b e =
      let w : first + i ≡ first + length (take i bytes) = rw (length-take-le i bytes (omega arith)) in
      let more : take (i + 1) bytes ≡ take i bytes ++ get_or bytes i 0 ∷ [] = rw add-one (take-suc bytes i 0 h) in
      record {
        room = n.room;
        same = e ∙ rw (n.same, w, more) (written-snoc (take i bytes) start first (get_or bytes i 0));
        quiet =
            rw more
            (every_append is_quiet (take i bytes) (get_or bytes i 0 ∷ []) n.quiet
            (every_one is_quiet (get_or bytes i 0) (lt→ltb (get_or bytes i 0) 2304 (omega arith))));
      }

  pub copy-ends : length bytes ≤ i → WroteOnTape start first bytes (first + length bytes) tape × T (every is_quiet bytes)
  copy-ends h =
      let all : take i bytes ≡ bytes = take_all i bytes h in
      (record { reached = refl; same = n.same ∙ rw all }, rw all at n.quiet)

-- the word before them
pub wrote_after : (start tape after : List ℕ) (at word to : ℕ) (ws : List ℕ) → tape ≡ set start at word → WroteOnTape tape (at + 1) ws to after
    → WroteOnTape start at (word ∷ ws) to after
unfolding written_from
wrote_after start tape after at word to ws e w = record { reached = omega (arith, w.reached); same = w.same ∙ rw (e, add-one) }

-- THE CHARACTERS OF A STRING

-- the characters so far are written
pub record Spelled-to (text : Bytes) (start : List ℕ) (at from : ℕ) (tape : List ℕ) (to i : ℕ) : Type 0 where
  pub characters : Bytes
  pub string : string_from text from ≡ Tokens.quotation Tokens.plain characters i (drop i text)
  pub reached : to ≡ at + length characters
  pub same : tape ≡ written_from start at characters
  pub quiet : T (every is_quiet characters)
  pub charged : to ≤ i
  pub inside : i ≤ length text
  pub short : length text ≤ max_table

pub spelling-starts : (text : Bytes) (start : List ℕ) (at from : ℕ) → Ready text from at → Spelled-to text start at from start at from
unfolding every
spelling-starts text start at from r =
    record {
      characters = [];
      string = refl;
      reached = omega arith;
      same = sym (written_none start at);
      quiet = tt;
      charged = r.charged;
      inside = r.inside;
      short = r.short;
    }

pub spelled-length : {text : Bytes} {start : List ℕ} {at from : ℕ} {tape : List ℕ} {to i : ℕ} → Spelled-to text start at from tape to i →
    length tape ≡ length start
spelled-length s = wrote-length (record { reached = s.reached; same = s.same })

-- what the string comes to, or how its characters go on, after each
module _ {text : Bytes} {start : List ℕ} {at from : ℕ} {tape : List ℕ} {to i : ℕ} (s : Spelled-to text start at from tape to i) where
  abbrev pub SpelledOn : Character → Type 0
  SpelledOn (Given b past) =
      (i < past) × (past ≤ length text) × (to < max_table)
      × (b < 256 → (next : List ℕ) → next ≡ set tape to b → Spelled-to text start at from next (to + 1) past)
  SpelledOn (Nothing past) = (i < past) × Spelled-to text start at from tape to past
  SpelledOn (Closed past) =
      WroteOnTape start at (characters_in (string_from text from)) to tape × T (every is_quiet (characters_in (string_from text from)))
  SpelledOn (Broken past) = IsClosed (string_from text from) → ⊥

  pub spelled-on : (r : Character) → StandsInString text Tokens.plain i (i + 1) r → SpelledOn r
  spelled-on r stood = turned r (s.string ∙ stood.same s.characters) stood.passes
    where
      turned : (r : Character) → string_from text from ≡ continued text r s.characters → EndsInText text (i + 1) r → SpelledOn r
      turned (Given b past) w p = (
        omega arith,
        p.1,
        omega (arith, s.charged, s.short),
        λ small next e.
            record {
              characters = s.characters ++ b ∷ [];
              string = w;
              reached = rw (length-append s.characters (b ∷ [])) (omega (arith, s.reached));
              same = e ∙ rw (s.same, s.reached) (written-snoc s.characters start at b);
              quiet = every_append is_quiet s.characters (b ∷ []) s.quiet (every_one is_quiet b (lt→ltb b 2304 (omega arith)));
              charged = omega (arith, s.charged);
              inside = p.1;
              short = s.short;
            },
      )
      turned (Nothing past) w p = (
        omega arith,
        record {
          characters = s.characters;
          string = w;
          reached = s.reached;
          same = s.same;
          quiet = s.quiet;
          charged = omega (arith, s.charged);
          inside = p.1;
          short = s.short;
        },
      )
      turned (Closed past) w p = (record { reached = rw w s.reached; same = rw w s.same }, rw w s.quiet)
      turned (Broken past) w p = λ k. rw w at k
