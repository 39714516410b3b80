-- The registers and the lent cells as the specification's state: stack in from p on, the selected cells, stack out up
-- to r, what was counted, and what a frame keeps; and what it means that a function implements an action of the
-- machine.
use Rattle.std.specs.Prelude.{ℕ, suc, pred, ◌+◌, ◌*◌, ◌-◌, ◌≤◌, ◌<◌, ◌≡◌, Bool, true, false, ltb}
use Rattle.std.specs.Prelude.{List, ◌++◌, length, get_or, take, drop, set}
use Rattle.meaning.specs.Choice.{Bytes, both, pick}
use Rattle.meaning.specs.Outcome.{max_counted, Outcome, done, stop}
use Rattle.meaning.specs.Instructions.{Action, Code}
use Rattle.meaning.specs.Machine.{out_cells, Ledger, Stacks, Local, moved_on, with_output, noting, perform, max_opened}
use Rattle.meaning.specs.Runs.{Room, lent}
use Rattle.meaning.specs.Leaving.{max_frames}
use Rattle.meaning.specs.Packing.{null_number, whole_number, left_number, right_number, max_stored}
use Rattle.run_cells.specs.Places.{place}
use Rattle.run_actions.specs.declared.registers.Registers.{Registers}
use Rattle.run_actions.specs.declared.registers.Next.{Next}
use Rattle.run_actions.specs.declared.registers.Next.TheVariants.{Onward, Done, Stopped, Deeper}
use Rattle.answers.specs.Numbers.{ending_number}

-- the stacks, the record, the frames' words and their stored values
pub record Memory : Type 0 where
  pub input : Bytes
  pub output : Bytes
  pub «record» : Bytes
  pub frames : List ℕ
  pub values : Bytes

abbrev pub memory : Bytes → Bytes → Bytes → List ℕ → Bytes → Memory
memory input output «record» frames values =
    record { input = input; output = output; «record» = «record»; frames = frames; values = values }

-- the bytes of an emission's line beside its name and argument: a blank, and the line's end
abbrev pub line_marks : ℕ
line_marks = 2

-- how many lengths a span may name
abbrev pub length_count : ℕ
length_count = suc right_number

-- the words that a frame keeps, by their names; the lengths stand at their numbers
abbrev pub null_slot : ℕ
null_slot = null_number

abbrev pub whole_slot : ℕ
whole_slot = whole_number

abbrev pub left_slot : ℕ
left_slot = left_number

abbrev pub right_slot : ℕ
right_slot = right_number

abbrev pub stored_slot : ℕ
stored_slot = length_count

abbrev pub opened_slot : ℕ
opened_slot = suc stored_slot

abbrev pub return_slot : ℕ
return_slot = suc opened_slot

abbrev pub selection_slot : ℕ
selection_slot = suc return_slot

-- all words of a frame, with r at each open BeginSeq; those of so many frames, with the counts of applications before
-- them; and the stored values of so many frames
abbrev pub frame_words : ℕ
frame_words = suc selection_slot + max_opened

abbrev pub words_for : ℕ → ℕ
words_for n = max_counted + frame_words * n

abbrev pub values_for : ℕ → ℕ
values_for n = max_stored * n

-- how many frames a run has room for at first
abbrev pub first_frames : ℕ
first_frames = 8

-- a frame is there, and so are its values; the values are there for every frame that is
abbrev pub HasFrame : ℕ → List ℕ → Type 0
HasFrame k frames = words_for (suc k) ≤ length frames

abbrev pub HasValues : ℕ → Bytes → Type 0
HasValues k values = values_for (suc k) ≤ length values

abbrev pub Paired : List ℕ → Bytes → Type 0
Paired frames values = (k : ℕ) → HasFrame k frames → HasValues k values

-- a frame more may be added, but is not there
abbrev pub crowded_at : ℕ → List ℕ → Bool
crowded_at k frames = both (ltb (suc k) max_frames) (ltb (length frames) (words_for (suc (suc k))))

-- the frames' words behind the counts
abbrev pub words_in : List ℕ → List ℕ
words_in frames = drop max_counted frames

-- a frame's words: the lengths of null, d, dl and dr, the number of values, the number of open sequences, where its
-- call returns to and q there; and from the end back r at each BeginSeq
abbrev pub frame_word : ℕ → ℕ → List ℕ → ℕ
frame_word k i frames = get_or (words_in frames) (frame_words * k + i) 0

-- a word of a frame stored
abbrev pub with_word : ℕ → ℕ → ℕ → List ℕ → List ℕ
with_word k i v frames = set frames (max_counted + (frame_words * k + i)) v

-- the words of the frames that wait below one
abbrev pub words_below : ℕ → List ℕ → List ℕ
words_below k frames = take (frame_words * k) (words_in frames)

abbrev pub local_at : ℕ → List ℕ → Bytes → Local
local_at k frames values =
    record {
      field = frame_word k whole_slot frames;
      place = frame_word k left_slot frames;
      values = take (frame_word k stored_slot frames) (drop (values_for k) (take (values_for k + max_stored) values));
      opened = drop (frame_words * k + frame_words - frame_word k opened_slot frames)
          (take (frame_words * k + frame_words) (words_in frames));
    }

-- a frame's words agree with each other, and it keeps no more than it has room for
pub record Held (k : ℕ) (frames : List ℕ) : Type 0 where
  pub null : frame_word k null_slot frames ≡ 0
  pub right : frame_word k right_slot frames ≡ frame_word k whole_slot frames - frame_word k left_slot frames
  pub stored : frame_word k stored_slot frames ≤ max_stored
  pub opened : frame_word k opened_slot frames ≤ max_opened

-- a frame's words as its application begins: the lengths of the registers by their numbers, the number of values, and
-- no sequence open
abbrev pub begun : ℕ → ℕ → ℕ → ℕ → List ℕ → List ℕ
begun frame field place stored frames =
    with_word frame opened_slot 0
    (with_word frame stored_slot stored
    (with_word frame right_slot (field - place)
    (with_word frame left_slot place
    (with_word frame whole_slot field
    (with_word frame null_slot 0 frames)))))

-- the caller's frame keeps where its call returns to, and q
abbrev pub calling_from : ℕ → ℕ → ℕ → List ℕ → List ℕ
calling_from k at end frames = with_word k selection_slot end (with_word k return_slot at frames)

-- a sequence opened at a cell of out, if one more may be open
abbrev pub opened_at : ℕ → ℕ → List ℕ → List ℕ
opened_at k r frames =
    let count = frame_word k opened_slot frames in
    with_word k opened_slot (count + 1) (with_word k (frame_words - 1 - count) r frames)

abbrev pub Opens : ℕ → ℕ → List ℕ → List ℕ → Bool → Type 0
Opens k r before after true = (frame_word k opened_slot before < max_opened) × (after ≡ opened_at k r before)
Opens k r before after false = (max_opened ≤ frame_word k opened_slot before) × (after ≡ before)

abbrev pub local_of : Registers → Memory → Local
local_of g m = local_at g.frame m.frames m.values

abbrev pub stacks_of : Registers → Memory → Stacks
stacks_of g m =
    record { input = drop g.p.0 m.input; selected = g.q.0 - g.p.0; output = take g.r.0 m.output }

-- the applications of each function
abbrev pub counts_in : List ℕ → List ℕ
counts_in frames = take max_counted frames

-- one application more of the function with a number; one past those that are counted has no word
abbrev pub counted_in : ℕ → List ℕ → List ℕ
counted_in number frames =
    let more = set frames (pred number) (suc (get_or frames (pred number) 0)) in
    pick (ltb max_counted number) frames more

-- no count is above a number
abbrev pub CountsWithin : ℕ → List ℕ → Type 0
CountsWithin most frames = (i : ℕ) → get_or (counts_in frames) i 0 ≤ most

abbrev pub Ledgers : Type 0
Ledgers = Ledger (Unit {0})

abbrev pub ledger_of : ℕ → Registers → Memory → Ledgers
ledger_of allowance g m =
    record {
      tally =
          record {
            steps_left = allowance - g.steps;
            steps = g.steps;
            counts = counts_in m.frames;
            emissions = take g.emitted m.«record»;
          };
      mark = tt;
    }

abbrev pub memory_room : Memory → Room
memory_room m =
    record {
      in_cells = length m.input;
      out_cells = length m.output;
      record_bytes = length m.«record»;
      frames = max_frames;
    }

-- the registers with p, q and r elsewhere
abbrev pub moved_to : Registers → ℕ → ℕ → ℕ → Registers
moved_to g p q r =
    record {
      p = place p;
      q = place q;
      r = place r;
      frame = g.frame;
      at = g.at;
      steps = g.steps;
      emitted = g.emitted;
      callee = g.callee;
    }

-- WHAT HOLDS OF REGISTERS AND CELLS

-- p and q stand in order on in
pub record SelectionWithin (p q : ℕ) (input : Bytes) : Type 0 where
  pub ordered : p ≤ q
  pub inside : q ≤ length input

-- what is written lies within what is lent for it: r on out, the emissions in the record
pub record WrittenWithin (r emitted : ℕ) (output «record» : Bytes) : Type 0 where
  pub below : r ≤ length output
  pub logged : emitted ≤ length «record»

-- a frame's number is allowed, and the frame is there
pub record FrameWithin (k : ℕ) (frames : List ℕ) : Type 0 where
  pub framed : k < max_frames
  pub frame_room : HasFrame k frames

pub record RoomFor (p q r emitted k : ℕ) (m : Memory) : Type 0 where
  pub selection : SelectionWithin p q m.input
  pub written : WrittenWithin r emitted m.output m.«record»
  pub frame : FrameWithin k m.frames
  pub values : Paired m.frames m.values

-- the registers stay within what is lent
abbrev pub WithinRoom : Registers → Memory → Type 0
WithinRoom g m = RoomFor g.p.0 g.q.0 g.r.0 g.emitted g.frame m

-- THE INVARIANT OF AN ACTION: the registers stay within what is lent, and the frame's words agree
pub record ActionInvariant (g : Registers) (m : Memory) : Type 0 where
  pub room : WithinRoom g m
  pub held : Held g.frame m.frames

-- WHAT AN ACTION COMES TO

-- what a run comes to; and what is still to be done in a frame, as a function of its state
abbrev pub Outcomes : Type 0
Outcomes = Outcome Stacks Ledgers

abbrev pub Continuation : Type 0
Continuation = Local → Stacks → Ledgers → Outcomes

-- the outcome of a run from an action's answer on, given what is still to be done from each place of the code on
abbrev pub outcome_after : ℕ → (ℕ → Continuation) → Next → Memory → Outcomes
outcome_after allowance k (Onward g) m = k g.at.0 (local_of g m) (stacks_of g m) (ledger_of allowance g m)
outcome_after allowance k (Done g) m = done (stacks_of g m) (ledger_of allowance g m)
outcome_after allowance k (Stopped g ending function) m = stop (ending_number ending) function (ledger_of allowance g m)
outcome_after allowance k (Deeper g) m = k g.at.0 (local_of g m) (stacks_of g m) (ledger_of allowance g m)

-- an action of the machine passes the selected cells, and leaves a text on out where there is room for it
pub record Writes (action : Action) (text : Bytes) (g : Registers) (m : Memory) : Type 0 where
  pub same : (allowance : ℕ) (code : Code) (enter : ℕ → ℕ → Stacks → Ledgers → Outcomes) (k : Continuation) →
      let s = stacks_of g m in
      perform (lent (memory_room m)) code enter k (suc g.frame) action (local_of g m) s (ledger_of allowance g m) ≡
      noting (lent (memory_room m)) (out_cells (length s.output + length text)) (ledger_of allowance g m)
      (k (local_of g m) (moved_on s.selected (with_output (s.output ++ text) s)))

-- an action preserves the invariant and all but its own cells, and goes on at a place of the code, in the same frame
-- and step
pub record Preserves (at : ℕ) (g : Registers) (m : Memory) (h : Registers) (n : Memory) : Type 0 where
  pub invariant : ActionInvariant g m → ActionInvariant h n
  pub frame : h.frame ≡ g.frame
  pub place : h.at.0 ≡ at
  pub steps : h.steps ≡ g.steps
  pub callee : h.callee ≡ g.callee
  pub waiting : words_below g.frame n.frames ≡ words_below g.frame m.frames
  pub counts : counts_in n.frames ≡ counts_in m.frames
  pub values : n.values ≡ m.values
  pub beyond : (old : Bytes) → drop g.emitted m.«record» ≡ drop g.emitted old →
      drop h.emitted n.«record» ≡ drop h.emitted old

-- an action that goes on preserves all that; one that stops changes nothing
abbrev pub PreservesOrStops : ℕ → Registers → Memory → Next → Memory → Type 0
PreservesOrStops at g m (Onward h) n = Preserves at g m h n
PreservesOrStops at g m (Done h) n = ⊥
PreservesOrStops at g m (Stopped h ending function) n = (h ≡ g) × (n ≡ m)
PreservesOrStops at g m (Deeper h) n = ⊥

-- a function implements an action of the machine: whatever is still to be done then, both have the same outcome
pub record ImplementsAction (action : Action) (at : ℕ) (g : Registers) (m : Memory)
    (next : Next) (n : Memory) : Type 0 where
  pub same : (allowance : ℕ) (code : Code) (enter : ℕ → ℕ → Stacks → Ledgers → Outcomes) (k : Continuation) →
      let l = ledger_of allowance g m in
      perform (lent (memory_room m)) code enter k (suc g.frame) action (local_of g m) (stacks_of g m) l ≡
      outcome_after allowance (λ place. k) next n
  pub preserves : PreservesOrStops at g m next n
