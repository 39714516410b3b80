-- How many bytes a word adds to the listing at most.
use Prim.Native.Nat.{ℕ, pred, ◌/◌, ◌%◌, ◌≤◌}
use native.Mathlib.Omega.{arith}
use mathlib.Core.Bool.{Bool}
use mathlib.Core.List.{[], ◌∷◌}
use lib.Dec.{eqb, ltb, leb}
use lib.ListN.{length, length-append}
use Rattle.meaning.specs.Choice.{Bytes, pick}
use Rattle.tape_layout.specs.Tape.{symbol_kind, part_kind, condition_kind, equals_kind, close_kind, next_kind, end_kind, function_kind}
use Rattle.meaning.proofs.Laws.Choosing.{of_either}
use Rattle.list_strings.specs.declared.State.{State}
use Rattle.list_strings.specs.declared.State.TheVariants.{Start, Plain, InString, AfterCode, Name, Condition, Header}
use Rattle.list_strings.specs.Steps.{quoted_in, Step, step, character_step}
use Rattle.list_items.specs.Steps.{condition_step, parted_step, ended_step}
use Rattle.list_strings.proofs.Sizes.{quoting-size, character-size}
use Rattle.list_items.proofs.Sizes.{ending-size, parting-size, class-size, letter-size}
use Rattle.list_table.specs.Words.{kind_step, item_step, copy_step, word_step}

-- no word adds more bytes than this
abbrev pub widest : ℕ
widest = 16

record Small (x : Step) : Type 0 where
  small : length x.bytes ≤ widest

pick_small : (b : Bool) {x y : Step} → Small x → Small y → Small (pick b x y)
pick_small b {x} {y} = of_either Small b x y

parted-small : (s : State) (b : ℕ) (after : State) → Small (parted_step s b after)
parted-small s b after = record { small = rw length-append (omega (arith, parting-size s)) }

ended-small : (s : State) (bytes : Bytes) (after : State) → length bytes ≤ 4 → Small (ended_step s bytes after)
ended-small s bytes after h = record { small = rw length-append (omega (arith, ending-size s)) }

condition-small : (s : State) (carried : ℕ) → Small (condition_step s carried)
condition-small s carried =
    record { small = simp length-append (omega (arith, ending-size s, class-size (carried % 5), letter-size (carried / 10 % 2))) }

character-small : (s : State) (c : ℕ) → Small (character_step s c)
character-small s c =
    record { small = rw length-append (omega (arith, quoting-size s, character-size (quoted_in s) c)) }

header-small : (n : ℕ) → Small (step [] (Header n))
header-small n = record { small = omega arith }

kind-small : (s : State) (kind carried : ℕ) → Small (kind_step s kind carried)
kind-small s kind carried =
    pick_small (eqb kind symbol_kind) (parted-small s 115 (Name carried))
    (pick_small (eqb kind part_kind) (parted-small s 101 (Name carried))
    (pick_small (eqb kind condition_kind) (condition-small s carried)
    (pick_small (eqb kind equals_kind) (parted-small s 61 Plain)
    (pick_small (eqb kind close_kind) (ended-small s (62 ∷ []) Plain (omega arith))
    (pick_small (eqb kind next_kind) (ended-small s (59 ∷ 10 ∷ []) Start (omega arith))
    (pick_small (eqb kind end_kind) (ended-small s (59 ∷ 10 ∷ 125 ∷ 10 ∷ []) Start (omega arith))
    (pick_small (eqb kind function_kind) (header-small carried)
    (parted-small s 60 (Name carried)))))))))

item-small : (s : State) (w : ℕ) → Small (item_step s w)
item-small s w = pick_small (ltb w 256) (character-small s w) (kind-small s (w / 256) (w % 256))

copy-small : (left b : ℕ) (more : State) (tail : Bytes) (after : State) → length tail ≤ 6 → Small (copy_step left b more tail after)
copy-small left b more tail after h =
    pick_small (leb left 1) {x = step (b ∷ tail) after} {y = step (b ∷ []) more} (record { small = omega arith }) (record { small = omega arith })

pub word_size : (s : State) (w : ℕ) → length (word_step s w).bytes ≤ widest
word_size Start w = (item-small Start w).small
word_size Plain w = (item-small Plain w).small
word_size InString w = (item-small InString w).small
word_size AfterCode w = (item-small AfterCode w).small
word_size (Name n) w = (copy-small n (w % 256) (Name (pred n)) [] Plain (omega arith)).small
word_size (Condition n b) w =
    (copy-small n (w % 256) (Condition (pred n) b) (62 ∷ 58 ∷ 32 ∷ 39 ∷ b ∷ 39 ∷ []) Plain (omega arith)).small
word_size (Header n) w = (copy-small n (w % 256) (Header (pred n)) (32 ∷ 123 ∷ 10 ∷ []) Start (omega arith)).small
