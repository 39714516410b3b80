-- What reading a text comes to: by what its functions' reader comes to, and by the calls of the table that it gives.
use Prim.Native.Nat.{ℕ, ◌≤◌, ◌<◌}
use mathlib.Core.Path.{◌≡◌, refl, sym, ◌∙◌, ap}
use mathlib.Core.List.{List}
use mathlib.Core.Option.{Option, none, some}
use native.Mathlib.Omega.{arith}
use borrow.Author.Tests.{lt-leb, le-leb}
use lib.ListN.{length, take}
use lib.Seq.{take-take}
use Rattle.meaning.specs.Choice.{Bytes}
use Rattle.meaning.specs.Answers.{table_too_long}
use Rattle.meaning.specs.Allowed.{max_table}
use Rattle.meaning.specs.Tree.{Table}
use Rattle.tape_layout.specs.Tape.{tape}
use Rattle.meaning.specs.Reading.{unknown_in, accepted, refused, known, verdict, read}
use Rattle.read_tokens.specs.View.{stream}
use Rattle.std.specs.Prelude.{Result, Ok, Err}
use Rattle.answers.specs.declared.Refusal.TheVariants.{TableTooLong, UndeclaredName}
use Rattle.answers.specs.declared.Fault.{Fault}
use Rattle.read_table.specs.declared.Reading.{Reading}
use Rattle.read_functions.specs.declared.functions.Tally.{Tally}
use Rattle.std.specs.Prelude as Code
use Rattle.answers.specs.Numbers.{refusal_number}
use Rattle.read_functions.specs.Functions.{Heads, functions_of, FunctionsRead, FunctionsAgree}
use Rattle.read_table.specs.Calls.{unknown_as, NamesFollow, Holds}
use Rattle.read_table.specs.Reads.{Reads}
use Rattle.read_bookkeeping.proofs.Going.{ReadAt, has-stopped, has-read}
use Rattle.read_functions.proofs.Noting.{begins, names-noted}
use Rattle.read_table.proofs.Called.{tape-follows}

-- THE TEXT

module _ (text : Bytes) where
  read-long : max_table < length text → read text ≡ refused table_too_long 0
  read-long h = rw (lt-leb (length text) max_table h)

  read_short : length text ≤ max_table → read text ≡ verdict (functions_of text)
  unfolding stream
  read_short h = rw (le-leb (length text) max_table h)

  -- a refusal, whatever is on the tape
  refuses : (fault : Fault) (tape' : List ℕ) → read text ≡ refused (refusal_number fault.refusal) fault.place → Reads text (Err fault) tape'
  refuses fault tape' f = record { answer = rw f; words = rw f; tape = rw f }

  -- a table
  accepts : (t : Table) (r : Reading) (tape' : List ℕ) → read text ≡ accepted t → r.functions ≡ length t → r.words ≡ length (tape t)
      → take r.words tape' ≡ tape t
      → Reads text (Ok r) tape'
  accepts t r tape' f c n h = record { answer = rw (f, c); words = rw f n; tape = rw f h }

  pub too_long : {tape' : List ℕ} → max_table < length text → Reads text (Err (record { refusal = TableTooLong; place = 0 })) tape'
  too_long h = refuses _ _ (read-long h)

-- THE FUNCTIONS

-- a text's functions were read
pub record TableRead (text tape' heads : List ℕ) (p : Tally) : Type 0 where
  pub start : List ℕ
  pub short : length text ≤ max_table
  pub room : length text ≤ length tape'
  pub read : ReadAt (FunctionsRead text start tape' heads) (functions_of text) p

module _ {text start tape' heads : List ℕ} (h : length text ≤ max_table) where
  pub functions-stop : {fault : Fault} → FunctionsAgree text start tape' heads (Err fault) → Reads text (Err fault) tape'
  functions-stop {fault} a = refuses text fault _ (read_short text h ∙ ap verdict (has-stopped _ fault refl a))

  pub functions-done : {p : Tally} → FunctionsAgree text start tape' heads (Ok p) → length text ≤ length tape' → TableRead text tape' heads p
  functions-done a room = record { start = start; short = h; room = room; read = has-read _ _ refl a }

module _ {text tape' heads : List ℕ} {p : Tally} (k : TableRead text tape' heads p) where
  abbrev table : Table
  table = k.read.value

  on-tape : take p.words tape' ≡ tape table
  on-tape = begins k.read.how.went k.room

  abbrev used : List ℕ
  used = take p.words tape'

  heads-here : Heads used heads p.words p.functions table
  heads-here =
      let again : take p.words used ≡ used = take-take p.words p.words tape' (omega arith) in
      record { written = again ∙ on-tape; noted = k.read.how.noted; stand = k.read.how.stand }

  pub held : Holds used (take p.functions heads) table
  held = record { written = on-tape; declared = names-noted heads-here; stand = k.read.how.stand }

  pub words-there : p.words ≤ length tape'
  words-there = let w = k.read.how.went in omega (arith, w.charged, w.inside, k.room)

  -- what the search for undeclared names requires
  pub searchable : NamesFollow used
  searchable = rw on-tape (tape-follows table k.read.how.stand)

  pub heads-there : p.functions ≤ length heads
  heads-there = k.read.how.few

  -- THE CALLS

  module _ {found : Code.Option ℕ} (search : (t : Table) → Holds used (take p.functions heads) t → found ≡ unknown_as (unknown_in t t)) where
    judged : {o : Option ℕ} → unknown_in table table ≡ o → read text ≡ known o table
    judged e = read_short text k.short ∙ ap verdict k.read.same ∙ ap (λ o. known o table) e

    pub call-unknown : {place : ℕ} → found ≡ Code.Some place → Reads text (Err (record { refusal = UndeclaredName; place = place })) tape'
    call-unknown {place} e = refuses text _ _ (judged (is_some (unknown_in table table) (sym (search table held) ∙ e)))
      where
        is_some : (o : Option ℕ) → unknown_as o ≡ Code.Some place → o ≡ some place
        is_some none f = let z : ◌≡◌ {A = ℕ} 0 1 = cc in absurd (omega arith)
        is_some (some q) f = cc

    pub calls-known : found ≡ Code.None → Reads text (Ok (record { functions = p.functions; words = p.words })) tape'
    calls-known e =
        accepts text table _ _ (judged (is_none (unknown_in table table) (sym (search table held) ∙ e)))
        k.read.how.count (omega (arith, k.read.how.went.counted)) on-tape
      where
        is_none : (o : Option ℕ) → unknown_as o ≡ Code.None → o ≡ none
        is_none none f = refl
        is_none (some q) f = let z : ◌≡◌ {A = ℕ} 0 1 = cc in absurd (omega arith)
