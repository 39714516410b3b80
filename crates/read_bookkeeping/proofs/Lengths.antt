-- The length of a part of the text.
use Prim.Native.Nat.{ℕ, suc, ◌-◌, ◌≤◌, ◌<◌}
use mathlib.Core.Path.{◌≡◌}
use mathlib.Core.Bool.{true, false}
use lib.Dec.{leb}
use lib.ListN.{length}
use lib.Seq.{length-slice}
use borrow.Author.Tests.{lt-leb, le-leb, leb-true}
use Rattle.meaning.specs.Choice.{Bytes}
use Rattle.meaning.specs.Reading.{fault_unless}
use Rattle.read_tokens.specs.View.{span_text}
use Rattle.read_tokens.specs.declared.Span.{Span}
use Rattle.read_bookkeeping.specs.Tables.{Inside}
use Rattle.read_bookkeeping.proofs.Choosing.{no-fault}

module _ (text : Bytes) (x : Span) (p : Inside text x) where
  pub part_length : length (span_text text x) ≡ x.past - x.from
  part_length = length-slice x.from x.past text p.inside

  pub too_long : (limit : ℕ) → limit < x.past - x.from → leb (length (span_text text x)) limit ≡ false
  too_long limit h = lt-leb (length (span_text text x)) limit (rw part_length h)

  pub short-enough : (limit : ℕ) → x.past - x.from ≤ limit → leb (length (span_text text x)) limit ≡ true
  short-enough limit h = le-leb (length (span_text text x)) limit (rw part_length h)

  -- where there is no fault of its length
  pub within : (limit number later : ℕ) → fault_unless (leb (length (span_text text x)) limit) (suc number) later ≡ 0 → x.past - x.from ≤ limit
  within limit number later f = rw part_length at (leb-true (length (span_text text x)) limit (no-fault _ number later f).0)
