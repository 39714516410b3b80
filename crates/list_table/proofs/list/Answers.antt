-- The facts about `list` that the check is told: words past the most that a tape has don't count.
use Rattle.list_table.specs.Words.{most_words}
use Rattle.list_table.proofs.Leaving.{leaves-listing, leaves_nothing, take_within}
use Rattle.list_table.proofs.list.Goals as goal

pub returns-then-length-out : goal.returns-then-length-out
returns-then-length-out c =
    rw (← (take_within most_words c.args.tape.now))
    (leaves_nothing (rw c.min.ensures at c.list_length-length.ensures) c.if-length-out.true)

pub returns : goal.returns
returns c =
    rw (← (take_within most_words c.args.tape.now))
    (leaves-listing (rw c.min.ensures at c.list_length-length.ensures) c.if-length-out.false (rw c.min.ensures at c.list_words.ensures))
