-- One induction over the machine for every law that compares two runs, or a run with itself. A computation takes what was counted and gives a run; a
-- relation between computations that is closed under what instructions do (note a need, emit, call, go on, stop) holds between the same actions on
-- both sides. `Nesting` says whether the code may have calls that add a frame: any code under `Unit`, only code without them under `⊥`.
use Prim.Native.Nat.{ℕ, zero, suc, ◌+◌}
use mathlib.Core.Path.{◌≡◌, refl}
use mathlib.Core.Bool.{Bool, true, false}
use mathlib.Core.List.{List, [], ◌∷◌, ◌++◌}
use mathlib.Core.Option.{Option, none, some}
use lib.Dec.{T, leb, ltb}
use lib.ListN.{length, take, drop}
use Rattle.meaning.specs.Choice.{Bytes, Name, nth}
use Rattle.meaning.specs.Angles.{Angled, sum, not_angles, out_of_range, angled}
use Rattle.meaning.specs.Answers.{no_sentence_fits, allowance_spent, no_instruction, argument_not_angles, angle_out_of_range}
use Rattle.meaning.specs.Outcome.{Tally, pay, emitted, emitted_line, done, stop, and_then, computed}
use Rattle.meaning.specs.Instructions.{Action, go, select, out, out_c, out_v, begin_seq, use_seq, call, tail_call, emission, compute, unknown_action}
use Rattle.meaning.specs.Instructions.{Code}
use Rattle.meaning.specs.Matching.{Choice, chosen, chosen_none, chosen_wrong, choose_from, stored_values}
use Rattle.meaning.specs.Machine.{Need, in_cells, out_cells, record_bytes, frames, Watch, Ledger, Stacks, Local, Ran, Next, with_tally, noting}
use Rattle.meaning.specs.Machine.{where_there, where_stored, where_opened, where_payable, max_opened, span_of, is_declared, moved_on, with_selected}
use Rattle.meaning.specs.Machine.{with_output, with_opened, sequence_moved, after_field, returned, writing, perform, process, started, ran_choice}
use Rattle.meaning.specs.Machine.{ran_paid}
use Rattle.meaning.specs.Machine.{enter, code_at}
use Rattle.meaning_agreeing.proofs.Laws.Framing.{is_frames, is_call, any_call, choice_calls, either_left, either-right}

-- the answers that a run gives whatever is lent: 11, 12, 18, 20 and 21
pub data Own (answer : ℕ) : Type 0 where
  unfitting : answer ≡ no_sentence_fits → Own answer
  spent : answer ≡ allowance_spent → Own answer
  unreadable : answer ≡ no_instruction → Own answer
  misformed : answer ≡ argument_not_angles → Own answer
  past : answer ≡ angle_out_of_range → Own answer

-- a computation under a watch
abbrev pub Computation : Watch → Type 0
Computation W = Ledger W.Mark → Ran W

abbrev pub Relation : Watch → Watch → Type 1
Relation W U = Computation W → Computation U → Type 0

-- the relation is closed under what an instruction does
pub record Closed (W U : Watch) (Nesting : Type 0) (R : Relation W U) : Type 0 where
  pub gives : (s : Stacks) → R (done s) (done s)
  pub ends : (answer function : ℕ) → Own answer → R (stop answer function) (stop answer function)
  pub notes : (need : Tally → Need) → ((t : Tally) → T (is_frames (need t)) → Nesting) → (k : Computation W) (k' : Computation U) → R k k' →
      R (λ g. noting W (need g.tally) g k) (λ g. noting U (need g.tally) g k')
  pub emits : (n : Name) (text : Bytes) (k : Computation W) (k' : Computation U) → R k k' →
      R (λ g. k (with_tally W (emitted n text g.tally) g)) (λ g. k' (with_tally U (emitted n text g.tally) g))
  pub affords : (f : ℕ) (k : Computation W) (k' : Computation U) → R k k' →
      R (λ g. where_payable W (pay f g.tally) g (k g)) (λ g. where_payable U (pay f g.tally) g (k' g))
  pub chains : (first : Computation W) (first' : Computation U) (k : Stacks → Computation W) (k' : Stacks → Computation U) →
      R first first' → ((s : Stacks) → R (k s) (k' s)) → R (λ g. and_then (first g) k) (λ g. and_then (first' g) k')

-- how functions are applied, in a frame
abbrev pub Enters : Watch → Type 0
Enters W = ℕ → ℕ → Stacks → Computation W

-- what is chosen of a function's code
abbrev pub choice_for : Code → ℕ → Stacks → Choice
choice_for code f s = choose_from (code_at code f) (take s.selected s.input)

-- nothing is chosen that adds a frame, where no frame may be added
abbrev pub Nested : Type 0 → Code → Type 0
Nested Nesting code = (f : ℕ) (s : Stacks) → T (choice_calls (choice_for code f s)) → Nesting

-- the relation holds across the payment of a step, too
abbrev pub Paying : (W U : Watch) → Relation W U → Type 0
Paying W U R =
    (code : Code) (e : Enters W) (e' : Enters U) (frame f : ℕ) (s : Stacks) →
    R (ran_choice W code e frame f (choice_for code f s) s) (ran_choice U code e' frame f (choice_for code f s) s) →
    R (λ g. ran_paid W code e frame f s g (pay f g.tally)) (λ g. ran_paid U code e' frame f s g (pay f g.tally))

module _ (W U : Watch) (Nesting : Type 0) (R : Relation W U) (closed : Closed W U Nesting R) where
  wrong : R (stop no_instruction 0) (stop no_instruction 0)
  wrong = closed.ends no_instruction 0 (unreadable refl)

  there : (b : Bool) (k : Computation W) (k' : Computation U) → R k k' → R (λ g. where_there W b g (k g)) (λ g. where_there U b g (k' g))
  there true k k' r = r
  there false k k' r = wrong

  kept_value : (o : Option ℕ) (k : ℕ → Computation W) (k' : ℕ → Computation U) → ((b : ℕ) → R (k b) (k' b)) →
      R (λ g. where_stored W o g (λ b. k b g)) (λ g. where_stored U o g (λ b. k' b g))
  kept_value none k k' r = wrong
  kept_value (some b) k k' r = r b

  opened_at : (rs : List ℕ) (k : ℕ → List ℕ → Computation W) (k' : ℕ → List ℕ → Computation U) →
      ((r : ℕ) (more : List ℕ) → R (k r more) (k' r more)) →
      R (λ g. where_opened W rs g (λ r more. k r more g)) (λ g. where_opened U rs g (λ r more. k' r more g))
  opened_at [] k k' related = wrong
  opened_at (r ∷ more) k k' related = related r more

  works_out : (a : Angled) (k : Bytes → Computation W) (k' : Bytes → Computation U) → ((text : Bytes) → R (k text) (k' text)) →
      R (λ g. and_then (computed a g) k) (λ g. and_then (computed a g) k')
  works_out (sum text) k k' r = r text
  works_out not_angles k k' r = closed.ends argument_not_angles 0 (misformed refl)
  works_out out_of_range k k' r = closed.ends angle_out_of_range 0 (past refl)

  module _ (code : Code) (e : Enters W) (e' : Enters U) (entering : (frame f : ℕ) (s : Stacks) → R (e frame f s) (e' frame f s)) where
    writes : (b : ℕ) (s : Stacks) (k : Stacks → Computation W) (k' : Stacks → Computation U) → ((s : Stacks) → R (k s) (k' s)) →
        R (λ g. writing W b s g k) (λ g. writing U b s g k')
    writes b s k k' r = closed.notes (λ t. out_cells (suc (length s.output))) (λ t h. absurd h) _ _ (r (with_output (s.output ++ b ∷ []) s))

    performs : (next : Next W) (next' : Next U) (frame : ℕ) → ((l : Local) (s : Stacks) → R (next l s) (next' l s)) → (a : Action) →
        (T (is_call a) → Nesting) → (l : Local) (s : Stacks) →
        R (perform W code e next frame a l s) (perform U code e' next' frame a l s)
    performs next next' frame r (go a) calls l s = there (leb (span_of a l) (length s.input)) _ _ (r l (moved_on (span_of a l) s))
    performs next next' frame r (select a) calls l s =
        there (leb (s.selected + span_of a l) (length s.input)) _ _ (r l (with_selected (s.selected + span_of a l) s))
    performs next next' frame r out calls l s =
        closed.notes (λ t. out_cells (length s.output + s.selected)) (λ t h. absurd h) _ _
        (r l (moved_on s.selected (with_output (s.output ++ take s.selected s.input) s)))
    performs next next' frame r (out_c c) calls l s = writes c s _ _ (r l)
    performs next next' frame r (out_v k) calls l s =
        kept_value (nth k l.values) (λ b g. writing W b s g (next l)) (λ b g. writing U b s g (next' l)) (λ b. writes b s _ _ (r l))
    performs next next' frame r begin_seq calls l s =
        there (ltb (length l.opened) max_opened) _ _ (r (with_opened (length s.output ∷ l.opened) l) s)
    performs next next' frame r use_seq calls l s =
        opened_at l.opened
        (λ r rs g. noting W (in_cells (length (drop r s.output) + length s.input)) g (next (with_opened rs l) (sequence_moved r s)))
        (λ r rs g. noting U (in_cells (length (drop r s.output) + length s.input)) g (next' (with_opened rs l) (sequence_moved r s)))
        (λ at rs.
        closed.notes (λ t. in_cells (length (drop at s.output) + length s.input)) (λ t h. absurd h) _ _
        (r (with_opened rs l) (sequence_moved at s)))
    performs next next' frame r (call f) calls l s =
        there (is_declared code f) _ _
        (closed.affords f _ _
        (closed.notes (λ t. frames (suc frame)) (λ t h. calls tt) _ _
        (closed.chains (e (suc frame) f s) (e' (suc frame) f s) (λ s₁ g. next l (returned (after_field s) s₁) g)
        (λ s₁ g. next' l (returned (after_field s) s₁) g)
        (entering (suc frame) f s)
        (λ s₁. r l (returned (after_field s) s₁)))))
    performs next next' frame r (tail_call f) calls l s = there (is_declared code f) _ _ (entering frame f s)
    performs next next' frame r (emission n) calls l s =
        closed.notes (λ t. record_bytes (length t.emissions + length (emitted_line n (take s.selected s.input)))) (λ t h. absurd h) _ _
        (closed.emits n (take s.selected s.input) _ _ (r l (moved_on s.selected s)))
    performs next next' frame r (compute op) calls l s =
        works_out (angled op (take s.selected s.input)) _ _
        (λ text. closed.notes (λ t. out_cells (length s.output + length text)) (λ t h. absurd h) _ _
        (r l (moved_on s.selected (with_output (s.output ++ text) s))))
    performs next next' frame r unknown_action calls l s = wrong

    pub processes : (frame : ℕ) (actions : List Action) → (T (any_call actions) → Nesting) → (l : Local) (s : Stacks) →
        R (process W code e frame actions l s) (process U code e' frame actions l s)
    unfolding process any_call
    processes frame [] calls l s = closed.gives s
    processes frame (a ∷ more) calls l s =
        performs (process W code e frame more) (process U code e' frame more) frame
        (processes frame more (λ h. calls (either-right (is_call a) (any_call more) h)))
        a
        (λ h. calls (either_left (is_call a) (any_call more) h))
        l s

    starts : (frame : ℕ) (actions : List Action) → (T (any_call actions) → Nesting) → (at : ℕ) (values : Option Bytes) (s : Stacks) →
        R (started W code e frame actions at values s) (started U code e' frame actions at values s)
    starts frame actions calls at none s = wrong
    starts frame actions calls at (some values) s =
        processes frame actions calls (record { field = s.selected; place = at; values = values; opened = [] }) (with_selected 0 s)

    pub chooses : (frame f : ℕ) (c : Choice) → (T (choice_calls c) → Nesting) → (s : Stacks) →
        R (ran_choice W code e frame f c s) (ran_choice U code e' frame f c s)
    chooses frame f (chosen at stores actions) calls s =
        starts frame actions calls at (stored_values stores (take s.selected s.input) at) s
    chooses frame f (chosen_none zero) calls s = closed.ends no_sentence_fits f (unfitting refl)
    chooses frame f (chosen_none (suc r)) calls s = there (is_declared code (suc r)) _ _ (entering frame (suc r) s)
    chooses frame f chosen_wrong calls s = wrong

  -- a relation that holds across payments holds between applications at the same depth
  pub applies : Paying W U R → (depth : ℕ) (code : Code) → Nested Nesting code → (frame f : ℕ) (s : Stacks) →
      R (enter W depth code frame f s) (enter U depth code frame f s)
  unfolding enter
  applies pays zero code nested frame f s = closed.ends allowance_spent 0 (spent refl)
  applies pays (suc depth) code nested frame f s =
      pays code (enter W depth code) (enter U depth code) frame f s
      (chooses code (enter W depth code) (enter U depth code) (applies pays depth code nested) frame f (choice_for code f s) (nested f s) s)
