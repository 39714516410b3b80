-- The opening of a call: its name, which has no fault, and the word for it.
use Prim.Native.Nat.{ℕ, ◌+◌, ◌-◌, ◌*◌, ◌≤◌, ◌<◌}
use mathlib.Core.Path.{◌≡◌, refl, sym, ◌∙◌}
use mathlib.Core.Bool.{false}
use mathlib.Core.List.{List, ◌∷◌}
use native.Mathlib.Omega.{arith}
use lib.Dec.{T, leb, ltb, eqb}
use lib.ListN.{length}
use borrow.Author.Tests.{lt-leb, le-leb, lt-ltb, le-ltb}
use Rattle.meaning.specs.Choice.{Bytes, both, every}
use Rattle.tape_layout.specs.Tape.{call_kind, kind_width}
use Rattle.meaning.specs.Tokens as Tokens
use Rattle.meaning.specs.Grammar.{standing}
use Rattle.meaning.specs.Reading as Reading
use Rattle.meaning.specs.Reading.{Parsed, parsed}
use Rattle.meaning.specs.Allowed.{max_items, max_name, max_nesting, max_table}
use Rattle.read_tokens.specs.View as View
use Rattle.read_tokens.specs.View.{stream, Comes}
use Rattle.read_tokens.specs.declared.Span.{Span}
use Rattle.read_tokens.specs.declared.Token.TheVariants.{Name as NameToken}
use Rattle.read_tokens.specs.declared.Placed as Code
use Rattle.answers.specs.declared.Fault.{Fault}
use Rattle.read_functions.specs.declared.expressions.ExpressionCounts.{ExpressionCounts}
use Rattle.std.specs.Prelude.{Result, Ok, Err}
use Rattle.read_bookkeeping.specs.Tables.{Inside}
use Rattle.answers.specs.declared.Refusal.TheVariants.{OverLimit}
use Rattle.answers.specs.Numbers.{refusal_number}
use Rattle.answers.proofs.Refused.{not-accepted}
use Rattle.read_bookkeeping.specs.Answered.{Agrees}
use Rattle.read_bookkeeping.specs.Written.{WroteOnTape, is_quiet, Ready}
use Rattle.read_functions.specs.Expressions.{CallStands, CalledName, call_opening, OpeningRead}
use Rattle.read_bookkeeping.proofs.Choosing.{both_false}
use Rattle.read_bookkeeping.proofs.Lengths.{part_length, within}
use Rattle.read_bookkeeping.proofs.Going.{check-wrong, stops, reads, name-went}
use Rattle.read_bookkeeping.proofs.Tokening.{NameFirst, name-first, names-not, refused, FaultOf, NoName}

-- what the definition reads of a call after its `<`, up to its argument
abbrev pub opening_at : Bytes → ℕ → ExpressionCounts → ℕ → Parsed CalledName
opening_at text depth s place = call_opening depth s.items (standing (Tokens.sign Tokens.less_than) place s.at) (stream text Tokens.naming s.at)

abbrev pub OpeningAgrees : Bytes → ℕ → ExpressionCounts → ℕ → List ℕ → List ℕ → Result ExpressionCounts Fault → Type 0
OpeningAgrees text depth s place tape tape' r = Agrees (OpeningRead text depth s tape tape') (opening_at text depth s place) r

-- one call too deep, one item too many
module _ (depth items : ℕ) where
  pub too-deep : max_nesting ≤ depth → both (ltb depth max_nesting) (leb (items + 1) max_items) ≡ false
  too-deep h = rw (le-ltb depth max_nesting h)

  pub too_many : max_items ≤ items → both (ltb depth max_nesting) (leb (items + 1) max_items) ≡ false
  too_many h = rw (lt-leb (items + 1) max_items (omega arith)) (sym (both_false (ltb depth max_nesting) refl))

pub call-limited : (text : Bytes) (depth : ℕ) (s : ExpressionCounts) (place : ℕ) {tape tape' : List ℕ} →
    both (ltb depth max_nesting) (leb (s.items + 1) max_items) ≡ false
    → OpeningAgrees text depth s place tape tape' (Err (record { refusal = OverLimit; place = place }))
call-limited text depth s place e = stops (rw e)

-- a call may stand here, and a token comes after its `<`
pub record CallComes (text : Bytes) (depth : ℕ) (s : ExpressionCounts) (place : ℕ) (t : Code.Placed) : Type 0 where
  pub ready : Ready text s.at s.words
  pub after : s.words < s.at
  pub shallow : depth < max_nesting
  pub few : s.items < max_items
  pub comes : Comes text Tokens.naming s.at t

module _ {text : Bytes} {depth : ℕ} {s : ExpressionCounts} {place : ℕ} {t : Code.Placed} (k : CallComes text depth s place t) where
  at_name : opening_at text depth s place
      ≡ Reading.pass_name Reading.called_fault (stream text Tokens.naming s.at) (λ at n rest. parsed (record { place = at; name = n }) rest)
  at_name = rw (lt-ltb depth max_nesting k.shallow, le-leb (s.items + 1) max_items (omega (arith, k.few)))

  pub call-nameless : {tape tape' : List ℕ} {fault : Fault} → NoName t.token
      → FaultOf t fault
      → OpeningAgrees text depth s place tape tape' (Err fault)
  call-nameless n f = refused k.comes (at_name ∙ names-not k.comes _ _ n) f

-- the token is a name
pub record CallName {text : Bytes} {depth : ℕ} {s : ExpressionCounts} {place : ℕ} {t : Code.Placed} (call : CallComes text depth s place t)
    (n : Span) : Type 0 where
  pub is : t.token ≡ NameToken n

module _ {text : Bytes} {depth : ℕ} {s : ExpressionCounts} {place : ℕ} {t : Code.Placed} {call : CallComes text depth s place t} {n : Span}
    (m : CallName call n) where
  pub named_here : NameFirst text Tokens.naming s.at t n
  named_here = name-first call.comes m.is

  pub call-misnamed : {tape tape' : List ℕ} {fault : Fault}
      → refusal_number fault.refusal ≡ Reading.called_fault (View.span_text text n) → fault.place ≡ t.place
      → OpeningAgrees text depth s place tape tape' (Err fault)
  call-misnamed {fault = fault} f p =
      stops (at_name call ∙ rw (named_here.unrolled, ← f, p) (check-wrong (refusal_number fault.refusal) _ _ (not-accepted fault.refusal)))

-- it has no fault
pub record CallNamed {text : Bytes} {depth : ℕ} {s : ExpressionCounts} {place : ℕ} {t : Code.Placed} {call : CallComes text depth s place t}
    {n : Span} (name : CallName call n) : Type 0 where
  pub sound : Reading.called_fault (View.span_text text n) ≡ 0

module _ {text : Bytes} {depth : ℕ} {s : ExpressionCounts} {place : ℕ} {t : Code.Placed} {call : CallComes text depth s place t} {n : Span}
    {name : CallName call n}
    (m : CallNamed name) where
  abbrev here : NameFirst text Tokens.naming s.at t n
  here = named_here name

  name-length : length (View.span_text text n) ≡ n.past - n.from
  name-length = part_length text n here.inside

  name-short : n.past - n.from ≤ max_name
  name-short = within text n here.inside max_name 3 _ m.sound

  pub name-room : Inside text n × (s.words + 1 + (n.past - n.from) ≤ max_table) × (n.past - n.from ≤ max_name) × (t.place ≤ max_table)
  name-room = (
    here.inside,
    omega (arith, call.after, call.ready.short, call.comes.onward, here.from, here.inside.forward, here.inside.inside),
    name-short,
    omega (arith, call.ready.short, call.comes.forward, call.comes.inside),
  )

  name-stands : T (every is_quiet (View.span_text text n)) → CallStands (View.span_text text n)
  name-stands q = record { short = rw name-length name-short; quiet = q }

  pub call_opens : {tape tape' : List ℕ} {words : ℕ}
      → WroteOnTape tape s.words (((call_kind + t.place) * kind_width + (n.past - n.from)) ∷ View.span_text text n) words tape'
      × T (every is_quiet (View.span_text text n))
      → OpeningAgrees text depth s place tape tape' (Ok (record { at = t.past; words = words; items = s.items + 1; passed = s.passed }))
  call_opens w =
      let k = call.comes in
      reads (record { place = t.place; name = View.span_text text n }) (stream text Tokens.inside t.past)
      (at_name call ∙ rw (here.unrolled, m.sound))
      (record {
        tokens = refl;
        shorter = rw here.unrolled (omega arith);
        went =
            name-went (call_kind + t.place) here.inside (omega (arith, k.onward, k.forward)) k.inside
            (omega (arith, call.after, k.onward, here.from, here.past, here.some)) refl w.0;
        shallow = call.shallow;
        few = call.few;
        counted = refl;
        passed = refl;
        stands = name-stands w.1;
      })
