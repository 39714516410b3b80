-- The listing word by word: what each word of a tape adds to the listing, and how the listing stands after it. Listing
-- the tape of a tree so gives meaning's listing of the tree (proofs/Lists).
use Rattle.std.specs.Prelude.{ℕ, pred, ◌/◌, ◌%◌, List, [], ◌∷◌, ◌++◌, ltb, leb, eqb}
use Rattle.meaning.specs.Choice.{Bytes, pick}
use Rattle.tape_layout.specs.Tape.{symbol_kind, part_kind, condition_kind, equals_kind, close_kind, next_kind, end_kind}
use Rattle.tape_layout.specs.Tape.{function_kind}
use Rattle.tape_layout.specs.Tape.{kind_width}
use Rattle.list_strings.specs.declared.State.{State}
use Rattle.list_strings.specs.declared.State.TheVariants.{Start, Plain, InString, AfterCode, Name, Condition, Header}
use Rattle.list_strings.specs.Steps.{Step, step, character_step}
use Rattle.list_items.specs.Steps.{condition_step, parted_step, ended_step}

-- a word of a kind, with what it carries
abbrev pub kind_step : State → ℕ → ℕ → Step
kind_step s kind carried =
    pick (eqb kind symbol_kind) (parted_step s 115 (Name carried))
    (pick (eqb kind part_kind) (parted_step s 101 (Name carried))
    (pick (eqb kind condition_kind) (condition_step s carried)
    (pick (eqb kind equals_kind) (parted_step s 61 Plain)
    (pick (eqb kind close_kind) (ended_step s (62 ∷ []) Plain)
    (pick (eqb kind next_kind) (ended_step s (59 ∷ 10 ∷ []) Start)
    (pick (eqb kind end_kind) (ended_step s (59 ∷ 10 ∷ 125 ∷ 10 ∷ []) Start)
    (pick (eqb kind function_kind) (step [] (Header carried))
    (parted_step s 60 (Name carried)))))))))

abbrev pub item_step : State → ℕ → Step
item_step s w = pick (ltb w kind_width) (character_step s w) (kind_step s (w / kind_width) (w % kind_width))

-- a byte of a name, and after the last one what follows the name
abbrev pub copy_step : ℕ → ℕ → State → Bytes → State → Step
copy_step left b more tail after = pick (leb left 1) (step (b ∷ tail) after) (step (b ∷ []) more)

abbrev pub word_step : State → ℕ → Step
word_step Start w = item_step Start w
word_step Plain w = item_step Plain w
word_step InString w = item_step InString w
word_step AfterCode w = item_step AfterCode w
word_step (Name n) w = copy_step n (w % kind_width) (Name (pred n)) [] Plain
word_step (Condition n b) w = copy_step n (w % kind_width) (Condition (pred n) b) (62 ∷ 58 ∷ 32 ∷ 39 ∷ b ∷ 39 ∷ []) Plain
word_step (Header n) w = copy_step n (w % kind_width) (Header (pred n)) (32 ∷ 123 ∷ 10 ∷ []) Start

-- the listing of the words from a state on
unfoldable pub list_from : State → List ℕ → Bytes
list_from s [] = []
list_from s (w ∷ ws) = (word_step s w).bytes ++ list_from (word_step s w).state ws

-- the most words that a tape has
abbrev pub most_words : ℕ
most_words = 32768
