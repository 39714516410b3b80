-- The string machine: 000 section 3 and 01 'Machine', big-step as in 000, where a function is a procedure. Stack in is
-- the list of cells from p to its right end, stack out the list [0, r); q is held as the number of selected cells, q -
-- p. What an instruction needs of the stacks, the record and the frames is noted before it is done, and the watch
-- decides what a need means: so the run without end, the run on lent cells and what the run without end passes first
-- are one definition (Runs).
use Rattle.std.specs.Prelude.{ℕ, zero, suc, ◌+◌, ◌-◌, Bool, true, false, List, [], ◌∷◌, ◌++◌, leb, ltb, length, take, drop}
use Rattle.std.proofs.Math.Option.{Option, none, some}
use Rattle.meaning.specs.Choice.{Bytes, both, nth, numbered}
use Rattle.meaning.specs.Angles.{angled}
use Rattle.meaning.specs.Allowed.{max_nesting}
use Rattle.meaning.specs.Answers.{no_sentence_fits, allowance_spent, no_instruction}
use Rattle.meaning.specs.Outcome.{Tally, pay, emitted, emitted_line, Outcome, done, stop, and_then, computed}
use Rattle.meaning.specs.Instructions.{Length, null, whole, left, right, Span, Action, go, select, out, out_c}
use Rattle.meaning.specs.Instructions.{out_v, begin_seq, use_seq, call, tail_call, emission, compute, unknown_action}
use Rattle.meaning.specs.Instructions.{Sentences, no_more, Code}
use Rattle.meaning.specs.Matching.{Choice, chosen, chosen_none, chosen_wrong, choose_from, stored_values}

-- what an instruction needs to be there after it: cells of in from p to the right end, cells of out, bytes of the
-- record, frames
pub data Need : Type 0 where
  in_cells out_cells record_bytes frames : ℕ → Need

-- a need is let pass with a new mark, or ends the run with an answer
pub data Noted (Mark : Type 0) : Type 0 where
  onward : Mark → Noted Mark
  halt : ℕ → Noted Mark

pub record Watch : Type 1 where
  pub Mark : Type 0
  pub note : Need → Tally → Mark → Noted Mark

-- what is counted beside the stacks
pub record Ledger (Mark : Type 0) : Type 0 where
  pub tally : Tally
  pub mark : Mark

-- the stacks
pub record Stacks : Type 0 where
  pub input : Bytes
  pub selected : ℕ
  pub output : Bytes

-- what one application keeps: the lengths d and dl fixed by the match, the stored values, and r at each open BeginSeq
pub record Local : Type 0 where
  pub field : ℕ
  pub place : ℕ
  pub values : Bytes
  pub opened : List ℕ

-- at most so many sequences are open in one application: a call is one, and so many calls stand one inside another
abbrev pub max_opened : ℕ
max_opened = max_nesting

abbrev pub register_of : Length → Local → ℕ
register_of null l = 0
register_of whole l = l.field
register_of left l = l.place
register_of right l = l.field - l.place

abbrev pub span_of : Span → Local → ℕ
span_of s l = register_of s.register l + s.add - s.back

abbrev pub function_of : Option Sentences → Sentences
function_of none = no_more 0
function_of (some f) = f

-- the function with a number
abbrev pub code_at : Code → ℕ → Sentences
code_at code number = function_of (numbered number code)

abbrev pub is_declared : Code → ℕ → Bool
is_declared code number = both (ltb 0 number) (leb number (length code))

-- p moved on by n cells, and q to p
abbrev pub moved_on : ℕ → Stacks → Stacks
moved_on n s = record { input = drop n s.input; selected = 0; output = s.output }

abbrev pub with_selected : ℕ → Stacks → Stacks
with_selected n s = record { input = s.input; selected = n; output = s.output }

abbrev pub with_output : Bytes → Stacks → Stacks
with_output bytes s = record { input = s.input; selected = s.selected; output = bytes }

abbrev pub with_opened : List ℕ → Local → Local
with_opened rs l = record { field = l.field; place = l.place; values = l.values; opened = rs }

-- UseSeq: in[p-(r-r0)..p-1] := out[r0..r-1]; p := p-(r-r0); r := r0; q stays where it is
abbrev pub sequence_moved : ℕ → Stacks → Stacks
sequence_moved r s =
    record {
      input = drop r s.output ++ s.input;
      selected = s.selected + length (drop r s.output);
      output = take r s.output;
    }

-- the cells from q to in's right end
abbrev pub after_field : Stacks → ℕ
after_field s = length s.input - s.selected

-- back from a Call: q is where it was, so many cells before in's right end, or at p where the callee passed it
abbrev pub returned : ℕ → Stacks → Stacks
returned after s = with_selected (length s.input - after) s

module _ (W : Watch) where
  -- what a run comes to: the stacks, with what was counted
  abbrev pub Ran : Type 0
  Ran = Outcome Stacks (Ledger W.Mark)

  -- what is left to do, given the application's own values, the stacks and what was counted
  abbrev pub Next : Type 0
  Next = Local → Stacks → Ledger W.Mark → Ran

  abbrev pub wrong_words : Ledger W.Mark → Ran
  wrong_words g = stop no_instruction 0 g

  abbrev pub with_tally : Tally → Ledger W.Mark → Ledger W.Mark
  with_tally t g = record { tally = t; mark = g.mark }

  abbrev pub after_note : Noted W.Mark → Ledger W.Mark → (Ledger W.Mark → Ran) → Ran
  after_note (onward m) g k = k (record { tally = g.tally; mark = m })
  after_note (halt answer) g k = stop answer 0 g

  -- a need is noted before the instruction that has it
  abbrev pub noting : Need → Ledger W.Mark → (Ledger W.Mark → Ran) → Ran
  noting need g k = after_note (W.note need g.tally g.mark) g k

  -- words that ask for something that isn't there are no instruction
  abbrev pub where_there : Bool → Ledger W.Mark → Ran → Ran
  where_there true g ran = ran
  where_there false g ran = wrong_words g

  abbrev pub where_stored : Option ℕ → Ledger W.Mark → (ℕ → Ran) → Ran
  where_stored none g k = wrong_words g
  where_stored (some b) g k = k b

  abbrev pub where_opened : List ℕ → Ledger W.Mark → (ℕ → List ℕ → Ran) → Ran
  where_opened [] g k = wrong_words g
  where_opened (r ∷ rs) g k = k r rs

  -- "end the run with 12 if the steps equal the allowance"
  abbrev pub where_payable : Option Tally → Ledger W.Mark → Ran → Ran
  where_payable none g ran = stop allowance_spent 0 g
  where_payable (some t) g ran = ran

  -- one byte written to out
  abbrev pub writing : ℕ → Stacks → Ledger W.Mark → (Stacks → Ledger W.Mark → Ran) → Ran
  writing b s g k = noting (out_cells (suc (length s.output))) g (k (with_output (s.output ++ b ∷ []) s))

  -- One instruction, in a frame of a number. `enter` applies a function in a frame; `next` is what comes after.
  abbrev pub perform : Code → (ℕ → ℕ → Stacks → Ledger W.Mark → Ran) → Next → ℕ → Action → Local → Stacks
      → Ledger W.Mark → Ran
  perform code enter next frame (go a) l s g =
      let n = span_of a l in
      let ran = next l (moved_on n s) g in
      where_there (leb n (length s.input)) g ran
  perform code enter next frame (select a) l s g =
      let n = s.selected + span_of a l in
      let ran = next l (with_selected n s) g in
      where_there (leb n (length s.input)) g ran
  perform code enter next frame out l s g =
      noting (out_cells (length s.output + s.selected)) g
      (next l (moved_on s.selected (with_output (s.output ++ take s.selected s.input) s)))
  perform code enter next frame (out_c c) l s g = writing c s g (next l)
  perform code enter next frame (out_v k) l s g = where_stored (nth k l.values) g (λ b. writing b s g (next l))
  perform code enter next frame begin_seq l s g =
      let ran = next (with_opened (length s.output ∷ l.opened) l) s g in
      where_there (ltb (length l.opened) max_opened) g ran
  perform code enter next frame use_seq l s g =
      where_opened l.opened g
      (λ r rs. noting (in_cells (length (drop r s.output) + length s.input)) g
      (next (with_opened rs l) (sequence_moved r s)))
  perform code enter next frame (call f) l s g =
      let ran = noting (frames (suc frame)) g
      (λ g₁. and_then (enter (suc frame) f s g₁) (λ s₁ g₂. next l (returned (after_field s) s₁) g₂)) in
      let payable = where_payable (pay f g.tally) g ran in
      where_there (is_declared code f) g payable
  perform code enter next frame (tail_call f) l s g =
      let ran = enter frame f s g in
      where_there (is_declared code f) g ran
  perform code enter next frame (emission n) l s g =
      noting (record_bytes (length g.tally.emissions + length (emitted_line n (take s.selected s.input)))) g
      (λ g₁. next l (moved_on s.selected s) (with_tally (emitted n (take s.selected s.input) g₁.tally) g₁))
  perform code enter next frame (compute op) l s g =
      and_then (computed (angled op (take s.selected s.input)) g)
      (λ text g₁. noting (out_cells (length s.output + length text)) g₁
      (next l (moved_on s.selected (with_output (s.output ++ text) s))))
  perform code enter next frame unknown_action l s g = wrong_words g

  unfoldable pub process : Code → (ℕ → ℕ → Stacks → Ledger W.Mark → Ran) → ℕ → List Action → Next
  process code enter frame [] l s g = done s g
  process code enter frame (a ∷ more) l s g = perform code enter (process code enter frame more) frame a l s g

  -- the sentence's actions on the stacks, with the values stored; q is set to p first
  abbrev pub started : Code → (ℕ → ℕ → Stacks → Ledger W.Mark → Ran) → ℕ → List Action → ℕ → Option Bytes → Stacks
      → Ledger W.Mark → Ran
  started code enter frame actions at none s g = wrong_words g
  started code enter frame actions at (some values) s g =
      process code enter frame actions (record { field = s.selected; place = at; values = values; opened = [] })
      (with_selected 0 s) g

  -- where no sentence fits: 02, T-04, RecoverX on the same field "takes X's frame", and "11 remains for the rest"
  abbrev pub ran_choice : Code → (ℕ → ℕ → Stacks → Ledger W.Mark → Ran) → ℕ → ℕ → Choice → Stacks → Ledger W.Mark
      → Ran
  ran_choice code enter frame f (chosen at stores actions) s g =
      started code enter frame actions at (stored_values stores (take s.selected s.input) at) s g
  ran_choice code enter frame f (chosen_none zero) s g = stop no_sentence_fits f g
  ran_choice code enter frame f (chosen_none (suc r)) s g =
      let ran = enter frame (suc r) s g in
      where_there (is_declared code (suc r)) g ran
  ran_choice code enter frame f chosen_wrong s g = wrong_words g

  -- an application that can be paid is a step, and its field is what is selected
  abbrev pub ran_paid : Code → (ℕ → ℕ → Stacks → Ledger W.Mark → Ran) → ℕ → ℕ → Stacks → Ledger W.Mark
      → Option Tally → Ran
  ran_paid code enter frame f s g none = stop allowance_spent 0 g
  ran_paid code enter frame f s g (some paid) =
      ran_choice code enter frame f (choose_from (code_at code f) (take s.selected s.input)) s (with_tally paid g)

  -- One application in a frame. The depth is rewriting's: it never shows.
  unfoldable pub enter : ℕ → Code → ℕ → ℕ → Stacks → Ledger W.Mark → Ran
  enter zero code frame f s g = stop allowance_spent 0 g
  enter (suc depth) code frame f s g = ran_paid code (enter depth code) frame f s g (pay f g.tally)
