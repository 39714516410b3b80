-- The facts about `number_in` that the check is told: a digit is read, and a byte that is none, or the end, decides.
use Rattle.run_angles.proofs.Reading.{read-on, read_under, read-over, read_past, read_done}
use Rattle.run_angles.proofs.number_in.Goals as goal
use Rattle.run_angles.proofs.number_in.Goals.{then-byte-lt48-via-then-byte-lt48, then-byte-lt48-via-else-byte-lt48+then-byte-gt57}

pub returns-then-byte-lt48 : goal.returns-then-byte-lt48
returns-then-byte-lt48 c =
    let a = c.args in
    elim c.then-byte-lt48.branch [
      | then-byte-lt48-via-then-byte-lt48 w ↦
          read_under a.least a.most a.greatest a.text.now c.loop-byte.invariant c.loop-byte-test.true w.if-byte-lt48.true
      | then-byte-lt48-via-else-byte-lt48+then-byte-gt57 w ↦
          read-over a.least a.most a.greatest a.text.now c.loop-byte.invariant c.loop-byte-test.true w.if-byte-gt57.true
    ]

pub loop-byte-preserved : goal.loop-byte-preserved
loop-byte-preserved c =
    rw c.from.ensures (read-on c.loop-byte.invariant c.loop-byte-test.true c.if-byte-lt48.false c.if-byte-gt57.false)

pub returns-then-greatest-value : goal.returns-then-greatest-value
returns-then-greatest-value c =
    let a = c.args in
    read_past a.least a.most a.greatest a.text.now c.loop-byte.invariant
    c.if-text-least.false c.if-most-text.false c.loop-byte-test.false
    c.if-greatest-value.true

pub returns : goal.returns
returns c =
    let a = c.args in
    read_done a.least a.most a.greatest a.text.now c.loop-byte.invariant
    c.if-text-least.false c.if-most-text.false c.loop-byte-test.false
    c.if-greatest-value.false
