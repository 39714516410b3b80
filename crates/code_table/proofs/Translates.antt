-- Translating the tape of an allowed table gives the code of that table.
use mathlib.Core.Path.{◌≡◌, ap}
use lib.Dec.{T}
use Rattle.meaning.specs.Tree.{Table}
use Rattle.meaning.specs.Allowed.{allowed}
use Rattle.tape_layout.specs.Tape.{tape}
use Rattle.meaning.specs.Translation.{translate}
use Rattle.meaning.specs.Packing.{pack}
use Rattle.code_table.specs.Leaves.{code_of}
use Rattle.code_table.proofs.Laws.Retraced.{tape-retraced}

pub tape-translated : (t : Table) → T (allowed t) → code_of (tape t) ≡ pack (translate t)
tape-translated t ok = ap (λ (u : Table). pack (translate u)) (tape-retraced t ok)
