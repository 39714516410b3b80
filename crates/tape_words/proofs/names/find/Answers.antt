-- The facts about `names::find` that the check is told.
use Rattle.std.proofs.Common.{rules}
use Rattle.std.proofs.lemmas.Iterator.{IsFirst-from_position, YieldsList-from_slice}
use Rattle.tape_words.proofs.Laws.Spelling.{Has, Lacks, found_number}
use Rattle.tape_words.proofs.names.find.Goals as goal

pub returns-clause-number : goal.returns-clause-number
returns-clause-number c =
    let a = c.args in
    let has = Has a.tape.now a.name.now in
    let lacks = Lacks a.tape.now a.name.now in
    found_number a.tape.now a.name.now a.heads.now _
    (IsFirst-from_position _ _ _ has lacks c.position.ensures.ran (YieldsList-from_slice a.heads.now cc)
    (λ x q k. search rules) (λ x q k. search rules))
