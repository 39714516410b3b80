-- The facts about `names::find_recoverer` that the check is told.
use Rattle.std.proofs.Common.{rules, ◌++◌}
use Rattle.std.proofs.lemmas.Iterator.{IsFirst-from_position, YieldsList-from_slice}
use Rattle.meaning.specs.Names.{recover_prefix}
use Rattle.tape_words.specs.Words.{head_names}
use Rattle.tape_words.proofs.Laws.Spelling.{Has, Lacks, found_number, recovered-by}
use Rattle.tape_words.proofs.names.find_recoverer.Goals as goal

pub returns-clause-number : goal.returns-clause-number
returns-clause-number c =
    let a = c.args in
    let other = recover_prefix ++ a.name.now in
    let has = Has a.tape.now other in
    let lacks = Lacks a.tape.now other in
    recovered-by (head_names a.tape.now a.heads.now) a.name.now c.is_recovering.ensures c.if-is_recovering.false
    (found_number a.tape.now other a.heads.now _
    (IsFirst-from_position _ _ _ has lacks c.position.ensures.ran (YieldsList-from_slice a.heads.now cc)
    (λ x q k. search rules) (λ x q k. search rules)))
