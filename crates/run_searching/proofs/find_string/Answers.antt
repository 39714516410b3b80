-- The facts about `find_string` that the check is told: where the string stands, the places that are searched are.
use Rattle.run_searching.proofs.Laws.Strings.{string-at, string-after, string-nowhere}
use Rattle.run_searching.proofs.find_string.Goals as goal

pub overflow_sub-result : goal.overflow_sub-result
overflow_sub-result c =
    let a = c.args in
    string-after _ a.field.now a.places a.first _ _ (rw c.in_ok-offset.ensures.ok_part at c.string_of.ensures) _ (rw c.in-Some.is at c.in_ok-place.ensures)

pub returns-in-Some : goal.returns-in-Some
returns-in-Some c = string-at _ _ _ _ _ _ (rw c.in_ok-offset.ensures.ok_part at c.string_of.ensures) _ (rw c.in-Some.is at c.in_ok-place.ensures)

pub returns-in-None : goal.returns-in-None
returns-in-None c = string-nowhere _ _ _ _ _ _ (rw c.in_ok-offset.ensures.ok_part at c.string_of.ensures) (rw c.in-None.is at c.in_ok-place.ensures)
