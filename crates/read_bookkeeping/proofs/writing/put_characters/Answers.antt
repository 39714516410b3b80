-- The facts about `writing::put_characters` that the check is told.
use mathlib.Core.Path.{◌≡◌}
use native.Mathlib.Omega.{arith}
use Rattle.read_characters.specs.declared.Character.{Character}
use Rattle.read_bookkeeping.proofs.Words.{spelling-starts, SpelledOn, spelled-on}
use Rattle.read_bookkeeping.proofs.writing.put_characters.Goals.{After-next_character}
use Rattle.read_bookkeeping.proofs.writing.put_characters.Goals as goal

-- after the next character, whatever it is
turned : (c : After-next_character) {r : Character} → c.next_character.result ≡ r → SpelledOn c.loop-byte.invariant r
turned c {r} e = spelled-on c.loop-byte.invariant r (rw e at c.next_character.ensures)

pub loop-byte-init : goal.loop-byte-init
loop-byte-init c = spelling-starts _ _ _ _ c.requires.0

pub loop-byte-preserved-in-Given : goal.loop-byte-preserved-in-Given
loop-byte-preserved-in-Given c =
    (turned (goal.at.loop-byte-preserved-in-Given c).After-next_character c.in-Given.is).3 (omega arith) _ cc
