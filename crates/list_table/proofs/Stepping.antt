-- The words of a tape listed one after another.
use Prim.Native.Nat.{ℕ, zero, suc, ◌+◌, ◌*◌, ◌≤◌, ◌<◌}
use native.Mathlib.Omega.{arith}
use native.Mathlib.Numerals.{add-one}
use mathlib.Core.Path.{◌≡◌, refl}
use mathlib.Core.List.{List, [], ◌∷◌}
use lib.ListN.{length, drop, get_or, drop_of_length-le}
use lib.Seq.{drop-cons}
use borrow.Author.Tests.{ne_eqb}
use types.Run.{OneOf, miss}
use denote.Enum.Declared.{tag_of}
use Rattle.list_strings.specs.contracts.State as state
use Rattle.list_strings.specs.declared.State.{State}
use Rattle.list_strings.specs.declared.State.TheVariants.{Start, Plain, InString, AfterCode, Name, Condition, Header}
use Rattle.byte_writing.specs.declared.ByteWriter.{ByteWriter}
use Rattle.byte_writing.specs.Wrote.{Wrote}
use Rattle.list_strings.specs.Steps.{WroteStep}
use Rattle.list_items.specs.Steps.{parted_step}
use Rattle.list_table.specs.Words.{kind_step, item_step, word_step, list_from}
use Rattle.byte_writing.proofs.Writing.{wrote-none, wrote_then}
use Rattle.list_table.proofs.Sizes.{widest, word_size}

-- where no name is being copied a word is an item
abbrev not_copying : List ℕ
not_copying = 0 ∷ 1 ∷ 2 ∷ 3 ∷ []

pub item-next : (s : State) (w : ℕ) → OneOf not_copying (tag_of state.the_type s) → word_step s w ≡ item_step s w
item-next Start w k = refl
item-next Plain w k = refl
item-next InString w k = refl
item-next AfterCode w k = refl
item-next (Name n) w k = absurd (miss not_copying 4 tt k)
item-next (Condition n b) w k = absurd (miss not_copying 5 tt k)
item-next (Header n) w k = absurd (miss not_copying 6 tt k)

-- none of the numbers from 1 to this one
abbrev pub Others : ℕ → ℕ → Type 0
Others kind zero = Unit {0}
Others kind (suc n) = Others kind n × (kind ≡ suc n → ⊥)

pub others : (kind n : ℕ) → n < kind → Others kind n
others kind zero h = tt
others kind (suc n) h = (others kind n (omega arith), λ e. omega arith)

-- a word of a further kind opens a call
pub other-kind : (s : State) (kind n : ℕ) → Others kind 8 → kind_step s kind n ≡ parted_step s 60 (Name n)
other-kind s kind n o =
    rw (
      ne_eqb kind 1 o.0.0.0.0.0.0.0.1,
      ne_eqb kind 2 o.0.0.0.0.0.0.1,
      ne_eqb kind 3 o.0.0.0.0.0.1,
      ne_eqb kind 4 o.0.0.0.0.1,
      ne_eqb kind 5 o.0.0.0.1,
      ne_eqb kind 6 o.0.0.1,
      ne_eqb kind 7 o.0.1,
      ne_eqb kind 8 o.1,
    )

-- i words are listed: to write the rest from here is to write the whole from the start
pub record Lists (first : ByteWriter) (words : List ℕ) (w : ByteWriter) (i : ℕ) (s : State) : Type 0 where
  pub low : w.at ≤ widest * i
  pub rest : {last : ByteWriter} → Wrote w (list_from s (drop i words)) last → Wrote first (list_from Start words) last

pub lists-word : {first w next : ByteWriter} {words : List ℕ} {i : ℕ} {s t : State} → Lists first words w i s → i < length words →
    WroteStep w (word_step s (get_or words i 0)) t next → Lists first words next (i + 1) t
unfolding list_from
lists-word {words = words} {i = i} {s = s} l h w =
    record {
      low = omega (arith, l.low, w.wrote.put.place, word_size s (get_or words i 0));
      rest = λ p. l.rest (rw (drop-cons words i 0 h) (wrote_then w.wrote (rw (add-one i, w.state) at p)));
    }

pub lists-all : {first w : ByteWriter} {words : List ℕ} {i : ℕ} {s : State} → Lists first words w i s → length words ≤ i →
    Wrote first (list_from Start words) w
unfolding list_from
lists-all {words = words} l h = l.rest (rw (drop_of_length-le words h) wrote-none)
