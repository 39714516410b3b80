-- The facts about `put_profile` that the check is told: the names on the tape are those of the table's functions.
use native.Mathlib.Omega.{arith}
use mathlib.Core.Path.{◌∙◌, ap}
use lib.ListN.{length}
use Rattle.program_printing.proofs.Putting.{put-bytes, at-most-then, sum_near}
use Rattle.program_profile.proofs.Names.{heads-read}
use Rattle.program_profile.proofs.put_profile.Goals as goal

pub put_lines-requires : goal.put_lines-requires
put_lines-requires c =
    let heads = heads-read _ c.type_inv.table c.read.ensures c.words_read-words.ensures c.find_heads-count.ensures
    (c.find_heads-count.auto.heads ∙ ap length c.room-heads.ensures) in
    (heads.spelled, omega (arith, heads.few, c.told-counts), omega (arith, heads.few))

pub returns : goal.returns
returns c =
    let heads = heads-read _ c.type_inv.table c.read.ensures c.words_read-words.ensures c.find_heads-count.ensures
    (c.find_heads-count.auto.heads ∙ ap length c.room-heads.ensures) in
    sum_near (at-most-then (rw heads.named at c.put_lines.ensures)
    (at-most-then (put-bytes c.put_all.ensures) (rw c.from.ensures at c.put_number.ensures)))
    (omega (arith, heads.few))
