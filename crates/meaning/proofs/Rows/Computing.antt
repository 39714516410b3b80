-- What a row has to open so that both sides of it compute: a row says `unfolding computing`.
use Prim.Native.Nat.{ℕ}
use Rattle.meaning.specs.Choice.{every, same_bytes, starts_with, lookup, nth}
use Rattle.meaning.specs.Numerals.{numeral_from}
use Rattle.meaning.specs.Angles.{cut_before, cut_after}
use Rattle.meaning.specs.Names.{class_named, number_from}
use Rattle.meaning.specs.Allowed.{member, symbols_from, parts_of, letters_in, parted, distinct, items_in, nesting, spelled_items, coming_after}
use Rattle.meaning.specs.Allowed.{coming_after_all, sentences_in, calls_known}
use Rattle.meaning.specs.Rewriting.{applications, applications_from, hold, shortest, match, choose, evaluate, apply}
use Rattle.meaning.specs.Matching.{check_all, search, stored_values, choose_from}
use Rattle.meaning.specs.Machine.{process, enter}
use Rattle.meaning.specs.Translation.{shape_of, tested_template, value_from, item_actions, translated_sentences}
use Rattle.meaning.specs.Packing.{pack_actions, unpack_actions, pack_sentences, unpack_tests, unpack_stores, unpack_sentences, pack_functions}
use Rattle.meaning.specs.Packing.{places_from}

unfoldable pub computing : ℕ
unfolding every same_bytes starts_with lookup nth
    numeral_from cut_before cut_after
    class_named number_from
    member symbols_from parts_of letters_in parted distinct items_in nesting spelled_items coming_after coming_after_all sentences_in calls_known
    applications applications_from hold shortest match choose evaluate apply
    check_all search stored_values choose_from
    process enter
    shape_of tested_template value_from item_actions translated_sentences
    pack_actions unpack_actions pack_sentences unpack_tests unpack_stores unpack_sentences pack_functions places_from
computing = 0
