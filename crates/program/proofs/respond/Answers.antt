-- `program::respond` prints what the report and the cells show.
use Rattle.std.proofs.Common.{ℕ, ◌≡◌, ◌≤◌, length, ◌∙◌, arith, rules}
use Rattle.std.proofs.lemmas.List.{length-take-le}
use Rattle.meaning.specs.Choice.{Bytes}
use Rattle.byte_writing.specs.declared.ByteWriter.{ByteWriter}
use Rattle.byte_writing.specs.Put.{Put}
use Rattle.byte_writing.specs.Wrote.{Wrote}
use Rattle.program_printing.specs.Texts.{Prints}
use Rattle.program_printing.proofs.Putting.{at-most-then, put-prints}
use Rattle.program.proofs.respond.Goals as goal

-- what a writer is given from the first cell on, and fits, is printed
wrote-prints : {text old new : Bytes} {count : ℕ} {first last : ByteWriter} → first.cells.now ≡ old → first.at ≡ 0 → Wrote first text last →
    count ≡ last.at → new ≡ last.cells.now → count ≤ length old → Prints text old count new
wrote-prints {text} {old} {new} {count} cells place w is same h =
    let put : Put 0 old text count new =
    record { place = omega (arith, is, place, w.put.place); cells = same ∙ w.put.cells ∙ rw (cells, place) } in
    put-prints put h

pub returns-in-Err : goal.returns-in-Err
returns-in-Err c =
    rw (c.in-Err.ensures, ← c.from.ensures) (put-prints c.put_refusal.ensures.put (omega (arith, c.put_refusal.ensures.near)))

pub returns : goal.returns
returns c =
    let ran = c.in-Ok.ensures in
    let put = at-most-then c.put_result.ensures c.put_profile.ensures in
    let emissions = length-take-le _ _ ran.emissions in
    let text = length-take-le _ _ ran.result in
    rw (ran.run, ← c.from-2.ensures)
    (wrote-prints c.new-writer.ensures.cells c.new-writer.ensures.first put.wrote c.count.ensures (search rules)
    (omega (arith, put.near, emissions, text, ran.emissions, ran.result)))
