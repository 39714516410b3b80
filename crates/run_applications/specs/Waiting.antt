-- The outcome of a run from where it stands, by the definition of the machine: what is still to be done in the current
-- frame, and then in each frame that waits for the one above it; and the measure, which falls with each turn.
use Rattle.std.specs.Prelude.{ℕ, zero, suc, ◌+◌, ◌*◌, ◌-◌, ◌≤◌, max, Bool, List, ltb, length, get_or, take, drop}
use Rattle.meaning.specs.Choice.{Bytes, both, every, pick}
use Rattle.meaning.specs.Outcome.{done, stop, and_then, pay}
use Rattle.meaning.specs.Instructions.{Action, Code}
use Rattle.meaning.specs.Machine.{Stacks, returned, is_declared, perform, process, ran_paid, enter}
use Rattle.meaning.specs.Runs.{Room, lent}
use Rattle.meaning.specs.Packing.{Words, functions_at, unpack_actions}
use Rattle.run_cells.specs.Places.{place}
use Rattle.run_actions.specs.declared.registers.Registers.{Registers}
use Rattle.answers.specs.declared.Ending.TheVariants.{NoSentenceFits}
use Rattle.run_actions.specs.declared.registers.Next.{Next}
use Rattle.run_actions.specs.declared.registers.Next.TheVariants.{Onward, Done, Stopped, Deeper}
use Rattle.run_actions.specs.States.{Memory, frame_word, local_at, local_of, Held, stacks_of, Ledgers, ledger_of}
use Rattle.run_actions.specs.States.{Outcomes, Continuation}
use Rattle.run_actions.specs.States.{return_slot, selection_slot}
use Rattle.answers.specs.Numbers.{ending_number}

-- how many functions the table tells, and whether it is sound
abbrev pub count_in : Words → ℕ
count_in words = get_or words 0 0

abbrev pub sound_in : Words → Bool
sound_in words =
    both (ltb (count_in words) (length words))
    (every (λ at. ltb at (length words)) (take (count_in words) (drop 1 words)))

-- the functions of a sound table
abbrev pub functions_in : Words → Code
functions_in words = functions_at words (take (count_in words) (drop 1 words))

module _ (room : Room) (allowance : ℕ) (words : Words) where
  -- an application in a frame; the allowance is depth enough
  abbrev pub entering : ℕ → ℕ → Stacks → Ledgers → Outcomes
  entering = enter (lent room) allowance (functions_in words)

  -- what is still to be done in a frame from a place of the code on, the frame being told by how many wait below it
  abbrev pub continuation_at : ℕ → ℕ → Continuation
  continuation_at k at = process (lent room) (functions_in words) entering (suc k) (unpack_actions 0 (drop at words))

  -- the frames that wait, the uppermost first: each goes on where its call returns to, with q where it was
  unfoldable pub waiting : ℕ → List ℕ → Bytes → Outcomes → Outcomes
  waiting zero frames values o = o
  waiting (suc k) frames values o =
      waiting k frames values
      (and_then o
      (λ s g.
      let back = returned (room.in_cells - frame_word k selection_slot frames) s in
      continuation_at k (frame_word k return_slot frames) (local_at k frames values) back g))

  -- the outcome of a run, from the outcome in its current frame
  abbrev pub returning : Registers → Memory → Outcomes → Outcomes
  returning g m o = waiting g.frame m.frames m.values o

  -- what comes next in the current frame: the application of a function, where the registers name one that is declared,
  -- or else actions
  abbrev pub outcome_of_application : Registers → Memory → Outcomes
  outcome_of_application g m =
      let l = ledger_of allowance g m in
      ran_paid (lent room) (functions_in words) entering (suc g.frame) g.callee (stacks_of g m) l
      (pay g.callee l.tally)

  abbrev pub outcome_of_actions : Registers → Memory → Outcomes
  outcome_of_actions g m = continuation_at g.frame g.at.0 (local_of g m) (stacks_of g m) (ledger_of allowance g m)

  abbrev pub outcome_onward : Registers → Memory → Outcomes
  outcome_onward g m =
      let application = outcome_of_application g m in
      let actions = outcome_of_actions g m in
      returning g m (pick (is_declared (functions_in words) g.callee) application actions)

  -- the outcome of a run from an answer on
  abbrev pub outcome_from : Next → Memory → Outcomes
  outcome_from (Onward g) m = outcome_onward g m
  outcome_from (Done g) m = done (stacks_of g m) (ledger_of allowance g m)
  outcome_from (Stopped g ending function) m = stop (ending_number ending) function (ledger_of allowance g m)
  outcome_from (Deeper g) m = outcome_onward g m

-- a frame that waits holds what it should, and its q is a cell of in or the end
pub record Waits (cells k : ℕ) (frames : List ℕ) : Type 0 where
  pub held : Held k frames
  pub kept : frame_word k selection_slot frames ≤ cells

-- the outcome of a run from an action of the machine on, which then goes on at a place of the code
abbrev pub outcome_of_action : Room → ℕ → Words → Action → ℕ → Registers → Memory → Outcomes
outcome_of_action room allowance words action at g m =
    returning room allowance words g m
    (perform (lent room) (functions_in words) (entering room allowance words)
    (continuation_at room allowance words g.frame at) (suc g.frame) action
    (local_of g m) (stacks_of g m) (ledger_of allowance g m))

-- THE MEASURE: code words for each step that is left, and those left in the frames

-- the words left in the frames that wait
unfoldable pub measure_waiting : ℕ → ℕ → List ℕ → ℕ
measure_waiting size zero frames = 0
measure_waiting size (suc k) frames = size - frame_word k return_slot frames + measure_waiting size k frames

-- the measure without the words left in the current frame
abbrev pub measure_below : ℕ → ℕ → Registers → Memory → ℕ
measure_below size allowance g m = (allowance - g.steps) * suc size + measure_waiting size g.frame m.frames

-- the measure of an answer
abbrev pub measure : ℕ → ℕ → Next → Memory → ℕ
measure size allowance (Onward g) m = suc (measure_below size allowance g m + (size - g.at.0))
measure size allowance (Done g) m = 0
measure size allowance (Stopped g ending function) m = 0
measure size allowance (Deeper g) m = 0

-- THE END OF AN APPLICATION: the frame below goes on, its q where it was, or at p where that has passed it, or the run
-- is done

abbrev pub back_in : ℕ → Registers → List ℕ → Registers
back_in k g frames =
    record {
      p = g.p;
      q = place (max g.p.0 (frame_word k selection_slot frames));
      r = g.r;
      frame = k;
      at = record { 0 = frame_word k return_slot frames };
      steps = g.steps;
      emitted = g.emitted;
      callee = g.callee;
    }

abbrev pub left_from : ℕ → Registers → List ℕ → Next
left_from zero g frames = Done g
left_from (suc k) g frames = Onward (back_in k g frames)

abbrev pub left_by : Registers → List ℕ → Next
left_by g frames = left_from g.frame g frames

-- AN APPLICATION THAT IS TO BEGIN

-- where a function's application is to begin: its frame, at no place of the code
abbrev pub called_in : ℕ → ℕ → ℕ → Registers → Registers
called_in frame size number g =
    record {
      p = g.p;
      q = g.q;
      r = g.r;
      frame = frame;
      at = record { 0 = size };
      steps = g.steps;
      emitted = g.emitted;
      callee = number;
    }

-- where no sentence of a function fits: 11, or the function that recovers it is to be applied in the same frame
abbrev pub recovered_by : ℕ → ℕ → ℕ → Registers → Next
recovered_by size number zero g = Stopped g NoSentenceFits number
recovered_by size number (suc recoverer) g = Onward (called_in g.frame size (suc recoverer) g)
