-- Items on the tape: the characters of a string, and a variable's word and identifier.
use Prim.Native.Nat.{ℕ, ◌+◌, ◌-◌, ◌*◌, ◌<◌}
use mathlib.Core.Path.{◌≡◌}
use mathlib.Core.List.{List, ◌∷◌}
use native.Mathlib.Numerals.{add-one}
use native.Mathlib.Omega.{arith}
use lib.Dec.{T}
use Rattle.meaning.specs.Choice.{Bytes, every}
use Rattle.tape_layout.specs.Tape.{named, call_word, kind_width}
use Rattle.read_tokens.specs.View as View
use Rattle.read_tokens.specs.View.{IsClosed, characters_in, quotation_at}
use Rattle.read_tokens.specs.declared.Span.{Span}
use Rattle.read_bookkeeping.specs.Written.{WroteOnTape, string_from, is_quiet, Ready, Went}
use Rattle.read_bookkeeping.specs.Items.{Identifier, StringAt}
use Rattle.read_bookkeeping.proofs.Going.{name-went, name-quiet}
use Rattle.read_bookkeeping.proofs.Items.{identifier-inside}

-- a string
module _ {text : Bytes} {at words place past count : ℕ} (r : Ready text at words) (a : StringAt text at place past count) where
  pub string-ready : Ready text (place + 1) words × IsClosed (string_from text (place + 1))
  string-ready = (
    record {
      inside = omega (arith, a.charged, a.inside);
      charged = omega (arith, r.charged, a.after);
      short = r.short;
    },
    rw add-one a.closed,
  )

  pub string-went : {tape tape' : List ℕ} {words' : ℕ} → WroteOnTape tape words (characters_in (string_from text (place + 1))) words' tape'
      → Went text at words tape past words' tape' (characters_in (quotation_at text place))
  string-went {tape} {tape'} {words'} w =
      let v : WroteOnTape tape words (characters_in (quotation_at text place)) words' tape' = rw add-one at w in
      record {
        onward = omega (arith, a.after, a.charged);
        inside = a.inside;
        charged = omega (arith, v.reached, a.counted, r.charged, a.after, a.charged);
        counted = v.reached;
        wrote = v.same;
      }

  pub string-quiet : T (every is_quiet (characters_in (string_from text (place + 1)))) → T (every is_quiet (characters_in (quotation_at text place)))
  string-quiet q = rw add-one at q

-- a variable, of the kind 1 or 2
module _ {text : Bytes} {at words : ℕ} {x : Span} (r : Ready text at words) (i : Identifier text at x) where
  pub variable-went : (kind : ℕ) {word : ℕ} {tape tape' : List ℕ} {words' : ℕ} → word ≡ kind * kind_width + (x.past - x.from)
      → WroteOnTape tape words (word ∷ View.span_text text x) words' tape'
      → Went text at words tape x.past words' tape' (named kind (View.span_text text x))
  variable-went kind e w =
      name-went kind (identifier-inside i) (omega (arith, i.after, i.some)) i.inside (omega (arith, r.charged, i.after, i.some)) e w

  pub variable-quiet : (kind : ℕ) → kind * kind_width + (x.past - x.from) < call_word → T (every is_quiet (View.span_text text x)) →
      T (every is_quiet (named kind (View.span_text text x)))
  variable-quiet kind s q = name-quiet kind (identifier-inside i) s q
