-- The pattern's reader: the loop over its tokens.
use Prim.Native.Nat.{ℕ, ◌<◌}
use mathlib.Core.Path.{◌≡◌, refl, sym, ◌∙◌, ap}
use mathlib.Core.Bool.{false}
use mathlib.Core.List.{List, [], ◌++◌}
use mathlib.Core.Logic.{inl, inr}
use native.Mathlib.Omega.{arith}
use lib.Dec.{T}
use Rattle.std.specs.Prelude.{Result, Option, Some, None, Ok, Err}
use Rattle.meaning.specs.Choice.{every}
use Rattle.meaning.specs.Tree.{Element}
use Rattle.meaning.specs.Allowed.{symbols_from, parts_of, letters_in}
use Rattle.tape_layout.specs.Tape.{pattern_tape}
use Rattle.meaning.specs.Tokens.{inside}
use Rattle.meaning.specs.Reading.{stopped, ends_in_part, elements_of, parse_pattern}
use Rattle.read_tokens.specs.View.{stream, Comes}
use Rattle.read_tokens.specs.declared.Placed as Code
use Rattle.answers.specs.declared.Fault.{Fault}
use Rattle.answers.specs.Numbers.{refusal_number}
use Rattle.answers.proofs.Refused.{not-accepted}
use Rattle.read_patterns.specs.declared.Counts.{Counts}
use Rattle.read_bookkeeping.specs.declared.variables.Variables.{Variables}
use Rattle.read_bookkeeping.specs.Answered.{Agrees}
use Rattle.read_bookkeeping.specs.Tokened.{unless_word}
use Rattle.read_bookkeeping.specs.Written.{is_quiet, Ready, Went}
use Rattle.read_bookkeeping.specs.Items.{Known, symbol_spans, part_spans, token_item}
use Rattle.read_patterns.specs.Patterns.{PatternGoing, Seen, TokenAdded, PatternRead}
use Rattle.read_bookkeeping.proofs.Choosing.{every_append}
use Rattle.read_bookkeeping.proofs.Declaring.{known-none}
use Rattle.read_bookkeeping.proofs.Items.{item-then}
use Rattle.read_bookkeeping.proofs.Going.{check-wrong, stops, reads, went-none, went_then}
use Rattle.read_bookkeeping.proofs.Tokening.{went-before}
use Rattle.read_bookkeeping.proofs.Refusing.{stopped-before}
use Rattle.read_patterns.proofs.Elements.{tape-append}

-- the pattern from the start is that from here with these elements before it
pub record Patterned (text start : List ℕ) (at words : ℕ) (tape : List ℕ) (v : Variables) (p : Counts) : Type 0 where
  pub before : List Element
  pub same : parse_pattern [] (stream text inside at) ≡ parse_pattern before (stream text inside p.at)
  pub known : Known text v
  pub going : PatternGoing text p
  pub seen : Seen text v p before
  pub went : Went text at words start p.at p.words tape (pattern_tape before)
  pub quiet : T (every is_quiet (pattern_tape before))

pub pattern-starts : (text start : List ℕ) (at words : ℕ) (v : Variables) → Ready text at words → symbol_spans v ≡ [] → part_spans v ≡ []
    → Patterned text start at words start v (record { at = at; words = words; letters = 0; ending = false })
unfolding pattern_tape every symbols_from parts_of letters_in ends_in_part
pattern-starts text start at words v r s p =
    record {
      before = [];
      same = refl;
      known = known-none text v s p;
      going = record { few_letters = omega arith; ready = r };
      seen = record { letters = refl; symbols = rw s; parts = rw p; ending = refl };
      went = went-none text at words start r;
      quiet = tt;
    }

-- what the pattern comes to, or how it goes on, after a token
module _ {text start : List ℕ} {at words : ℕ} {tape : List ℕ} {v : Variables} {p : Counts} (k : Patterned text start at words tape v p)
    {t : Code.Placed}
    (c : Comes text inside p.at t)
    (v' : Variables) (tape' : List ℕ) where
  abbrev Agree : Result Counts Fault → Type 0
  Agree r = Agrees (PatternRead text at words start v' tape') (unless_word (parse_pattern [] (stream text inside at))) r

  abbrev pub PatternOn : Result (Option Counts) Fault → Type 0
  PatternOn (Ok (Some next)) = (p.at < next.at) × Patterned text start at words tape' v' next
  PatternOn (Ok None) = Agree (Ok (record { at = t.place; words = p.words; letters = p.letters; ending = p.ending }))
  PatternOn (Err fault) = Agree (Err fault)

  pub pattern-on : (r : Result (Option Counts) Fault) → TokenAdded text v p tape t v' tape' r → PatternOn r
  unfolding parse_pattern
  pattern-on (Ok (Some next)) g =
      let i = item-then c g.1 in (
        omega (arith, g.0.at, i.moves),
        record {
          before = k.before ++ elements_of (token_item text t);
          same = k.same ∙ rw (i.unrolled, g.1, g.0.fault k.before k.seen, g.0.at);
          known = g.0.known;
          going = g.0.going;
          seen = g.0.seen k.before k.seen;
          went = rw (tape-append k.before (elements_of (token_item text t))) (went_then k.went g.0.went);
          quiet =
              rw (tape-append k.before (elements_of (token_item text t)))
              (every_append is_quiet (pattern_tape k.before) (pattern_tape (elements_of (token_item text t))) k.quiet g.0.quiet);
        },
      )
  pattern-on (Ok None) g =
      reads k.before (stream text inside p.at) (rw (k.same, c.unrolled, g.0.other, g.0.wordless))
      (record {
        tokens = sym c.again;
        went = rw g.2 (went-before k.went c);
        quiet = k.quiet;
        variables = rw g.1 k.known;
        symbols = rw g.1 k.seen.symbols;
        parts = rw g.1 k.seen.parts;
      })
  pattern-on (Err fault) (inl g) =
      let i = item-then c g.1 in
      stops
      (stopped-before (k.same ∙ rw (i.unrolled, g.1, g.0.number k.before k.seen) (check-wrong _ _ _ (not-accepted fault.refusal)))
      ∙ ap (stopped (refusal_number fault.refusal)) (sym g.0.place))
  pattern-on (Err fault) (inr g) = stops (rw (k.same, c.unrolled, g.other, g.word, g.number, g.place))
