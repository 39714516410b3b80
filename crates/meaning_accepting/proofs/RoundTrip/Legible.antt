-- An allowed expression is spelled so that its listing can be read: characters are bytes, identifiers and names are words.
use mathlib.Core.Path.{◌≡◌, refl}
use mathlib.Core.Bool.{Bool, true, not}
use mathlib.Core.List.{List}
use mathlib.Core.Option.{some}
use Rattle.meaning.specs.Choice.{Name, both, every, is_some}
use Rattle.meaning.specs.Tree.{Expression, end, then_character, then_symbol, then_part, then_call}
use Rattle.meaning.specs.Names.{is_predicate}
use Rattle.meaning.specs.Allowed.{is_byte, spelled_name, spelled_identifier, member, coming_after, coming_after_all, spelled_items}
use Rattle.meaning.specs.Allowed.{allowed_expression}
use Rattle.meaning.proofs.Laws.Choosing.{given-some, both_some}
use Rattle.meaning_accepting.proofs.Reading.Basics.{both_left, both_right, both_true}
use Rattle.meaning_accepting.proofs.Reading.Lists.{member-every}
use Rattle.meaning_accepting.proofs.Reading.ExpressionItems.{coming-every}

unfoldable pub legible : Expression → Bool
legible end = true
legible (then_character c e) = both (is_byte c) (legible e)
legible (then_symbol x e) = both (spelled_identifier x) (legible e)
legible (then_part x e) = both (spelled_identifier x) (legible e)
legible (then_call place n a e) = both (spelled_name n) (both (legible a) (legible e))

-- with the e-variables that may still come after it
record Legible (e : Expression) (after : List Name) : Type 0 where
  whole : legible e ≡ true
  later : every spelled_identifier after ≡ true

spelled-legible : (symbols : List Name) → every spelled_identifier symbols ≡ true → (e : Expression) (coming : List Name) {after : List Name} →
    every spelled_identifier coming ≡ true → spelled_items symbols e ≡ true → coming_after_all e coming ≡ some after → Legible e after
unfolding legible spelled_items coming_after_all
spelled-legible symbols known end coming {after} spelled items order =
    let same : coming ≡ after = cc in
    record { whole = refl; later = rw (← same) spelled }
spelled-legible symbols known (then_character c e) coming spelled items order =
    let l = spelled-legible symbols known e coming spelled (both_right (is_byte c) _ items) order in
    record { whole = both_true (both_left (is_byte c) _ items) l.whole; later = l.later }
spelled-legible symbols known (then_symbol x e) coming spelled items order =
    let l = spelled-legible symbols known e coming spelled (both_right (member x symbols) _ items) order in
    record { whole = both_true (member-every spelled_identifier x symbols known (both_left (member x symbols) _ items)) l.whole; later = l.later }
spelled-legible symbols known (then_part x e) coming spelled items order =
    let w = both_some (coming_after x coming) (coming_after_all e) order in
    let (this, others) = coming-every spelled_identifier x coming spelled w.first in
    let l = spelled-legible symbols known e w.middle others items w.second in
    record { whole = both_true this l.whole; later = l.later }
spelled-legible symbols known (then_call place n a e) coming spelled items order =
    let w = both_some (coming_after_all a coming) (coming_after_all e) order in
    let named = both_left (spelled_name n) (not (is_predicate n)) (both_left (both (spelled_name n) (not (is_predicate n))) _ items) in
    let others = both_right (both (spelled_name n) (not (is_predicate n))) (both (spelled_items symbols a) (spelled_items symbols e)) items in
    let inner = spelled-legible symbols known a coming spelled (both_left (spelled_items symbols a) (spelled_items symbols e) others) w.first in
    let outer = spelled-legible symbols known e w.middle inner.later (both_right (spelled_items symbols a) (spelled_items symbols e) others)
    w.second in
    record { whole = both_true named (both_true inner.whole outer.whole); later = outer.later }

pub allowed-legible : (symbols parts : List Name) (e : Expression) → every spelled_identifier symbols ≡ true → every spelled_identifier parts ≡ true →
    allowed_expression symbols parts e ≡ true → legible e ≡ true
allowed-legible symbols parts e known spelled allows =
    let order = given-some (coming_after_all e parts)
    (both_left (is_some (coming_after_all e parts)) _ (both_right (spelled_items symbols e) _ allows)) in
    (spelled-legible symbols known e parts spelled (both_left (spelled_items symbols e) _ allows) order.is).whole
