-- 02, T-06: "A flat table calls declared functions only by tail calls; Emit names may be called anywhere in it", and so
-- may DmAdd and DmSub, which T-08 lets "stand in a flat table". "New: 19, a declared call that is not a tail call, with
-- the place of its name, leftmost".
use Rattle.std.specs.Prelude.{ℕ, min, Bool, not, List, [], ◌∷◌, ◌++◌}
use Rattle.std.proofs.Math.Option.{Option, none, some}
use Rattle.meaning.specs.Choice.{is_some}
use Rattle.meaning.specs.Tree.{Expression, end, then_character, then_symbol, then_part, then_call, Sentence, Table}
use Rattle.meaning.specs.Translation.{Manner, emits, computes, replaces, nests, Level, outermost, in_argument}
use Rattle.meaning.specs.Translation.{manner_of}

-- a call's place, where it is done in a frame of its own, and those of others
abbrev pub nested_at : Manner → ℕ → List ℕ → List ℕ
nested_at emits place others = others
nested_at (computes op) place others = others
nested_at replaces place others = others
nested_at nests place others = place ∷ others

-- the places of an expression's declared calls that are no tail calls: `manner_of` says of translation which are
unfoldable pub nested_calls : Level → Expression → List ℕ
nested_calls level end = []
nested_calls level (then_character c e) = nested_calls level e
nested_calls level (then_symbol x e) = nested_calls level e
nested_calls level (then_part x e) = nested_calls level e
nested_calls level (then_call place n a e) =
    nested_at (manner_of level e n) place (nested_calls in_argument a ++ nested_calls level e)

unfoldable pub nested_sentences : List Sentence → List ℕ
nested_sentences [] = []
nested_sentences (s ∷ ss) = nested_calls outermost s.expression ++ nested_sentences ss

-- "looks at the whole accepted table"
unfoldable pub nested_in : Table → List ℕ
nested_in [] = []
nested_in (f ∷ fs) = nested_sentences f.sentences ++ nested_in fs

abbrev pub lesser : ℕ → Option ℕ → ℕ
lesser n none = n
lesser n (some m) = min n m

-- the least of some places
unfoldable pub leftmost : List ℕ → Option ℕ
leftmost [] = none
leftmost (n ∷ ns) = some (lesser n (leftmost ns))

abbrev pub is_flat : Table → Bool
is_flat t = not (is_some (leftmost (nested_in t)))
