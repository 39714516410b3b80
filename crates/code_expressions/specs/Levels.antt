-- What an expression is read as from the words of a tape, whatever they are: within 01's limits, and with the calls
-- that are open.
use Rattle.std.specs.Prelude.{ℕ, zero, suc, ◌+◌, ◌-◌, ◌/◌, List, [], ◌∷◌, take}
use Rattle.meaning.specs.Choice.{Name}
use Rattle.meaning.specs.Tree.{Expression, end, then_character, then_symbol, then_part, then_call}
use Rattle.tape_layout.specs.Tape.{kind_width, call_kind}
use Rattle.tape_words.specs.declared.tape.Item.{Item}
use Rattle.tape_words.specs.declared.tape.Item.TheVariants.{Byte, Symbol, Part, Call, Pass, Close, Unclosed, Stop}
use Rattle.tape_words.specs.Words.{carried, item_of_word}

-- a call's word counts its kind on from `call_kind` by the place of its name
abbrev pub place_in : ℕ → ℕ
place_in w = w / kind_width - call_kind

-- the rest of the innermost open call's argument (or of the expression), what comes after each open call, the innermost
-- first, and the words after it all
pub record Levels : Type 0 where
  pub current : Expression
  pub outer : List Expression
  pub rest : List ℕ

abbrev pub levels_ended : List ℕ → Levels
levels_ended ws = record { current = end; outer = []; rest = ws }

abbrev pub on_current : (Expression → Expression) → Levels → Levels
on_current f l = record { current = f l.current; outer = l.outer; rest = l.rest }

abbrev pub level_closed : Levels → Levels
level_closed l = record { current = end; outer = l.current ∷ l.outer; rest = l.rest }

-- what comes after the innermost open call; nothing where the words ran out
abbrev pub first_of : List Expression → Expression
first_of [] = end
first_of (e ∷ es) = e

abbrev pub others_of : List Expression → List Expression
others_of [] = []
others_of (e ∷ es) = es

abbrev pub level_opened : ℕ → Name → Levels → Levels
level_opened place n l =
    record { current = then_call place n l.current (first_of l.outer); outer = others_of l.outer; rest = l.rest }

-- `next` reads on with so many calls open and after so many items, so many words further on
abbrev pub item_by : Item → ℕ → ℕ → ℕ → List ℕ → (ℕ → ℕ → ℕ → Levels) → Levels
item_by Byte depth items w ws next = on_current (then_character w) (next depth (items + 1) 0)
item_by Symbol depth items w ws next =
    on_current (then_symbol (take (carried w) ws)) (next depth (items + 1) (carried w))
item_by Part depth items w ws next = on_current (then_part (take (carried w) ws)) (next depth (items + 1) (carried w))
item_by Call depth items w ws next =
    level_opened (place_in w) (take (carried w) ws) (next (depth + 1) (items + 1) (carried w))
item_by Pass depth items w ws next = next depth items 0
item_by Close depth items w ws next = level_closed (next (depth - 1) items 0)
item_by Unclosed depth items w ws next = levels_ended (w ∷ ws)
item_by Stop depth items w ws next = levels_ended (w ∷ ws)

unfoldable pub levels_in : ℕ → ℕ → ℕ → List ℕ → Levels
levels_in depth items skip [] = levels_ended []
levels_in depth items (suc skip) (w ∷ ws) = levels_in depth items skip ws
levels_in depth items zero (w ∷ ws) =
    item_by (item_of_word w depth items) depth items w ws (λ d n skip. levels_in d n skip ws)
