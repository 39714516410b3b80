-- The run on lent cells beside the run without end, for any code: they come to the same exactly when the run without end passes nothing that is lent,
-- and otherwise the run on lent cells stops at what is passed first. One induction over how a mark is read gives both halves.
use Prim.Native.Nat.{ℕ, ◌≤◌}
use native.Mathlib.Omega.{arith}
use mathlib.Core.Path.{◌≡◌, refl, sym, ap, ◌∙◌}
use mathlib.Core.Bool.{Bool, true, false}
use mathlib.Core.List.{[]}
use mathlib.Core.Option.{Option, none, some}
use Rattle.meaning.specs.Choice.{Bytes, pick}
use Rattle.meaning.specs.Answers.{in_full, record_full}
use Rattle.meaning.specs.Outcome.{Tally, fresh, pay, emitted, Outcome, done, stop, and_then, told, result_of}
use Rattle.meaning.specs.Instructions.{Code}
use Rattle.meaning.specs.Machine.{Need, in_cells, out_cells, record_bytes, frames, onward, halt, Watch, Ledger, Stacks, Ran, with_tally, after_note}
use Rattle.meaning.specs.Machine.{noting, where_payable, ran_choice, ran_paid, enter}
use Rattle.meaning.specs.Runs.{Room, passes, answer_to, endless, lent, Passed, first_passed, watching, loaded, run_under, text_of, mark_of}
use Rattle.meaning.specs.Runs.{run_endless}
use Rattle.meaning.specs.Runs.{run_lent, passed_first}
use Rattle.meaning_agreeing.proofs.Laws.Answers.{StopsSo, then-stops}
use Rattle.meaning_agreeing.proofs.Laws.Related.{Own, unfitting, spent, unreadable, misformed, past, Computation, Closed, Enters, choice_for}
use Rattle.meaning_agreeing.proofs.Laws.Related.{Paying, applies}

-- a watch that lets every need pass
abbrev pub passing : (A : Type 0) → (Need → Tally → A → A) → Watch
passing A step = record { Mark = A; note = λ need t m. onward (step need t m) }

-- how a mark is read for another watch: its run is still going with a mark of its own, or has ended
pub data Seen (Mark : Type 0) : Type 0 where
  going : Mark → Seen Mark
  ended : ℕ → Ledger Mark → Seen Mark

-- a computation of the other watch, where its run is still going
abbrev pub resumed : (U : Watch) → Seen U.Mark → Tally → Computation U → Ran U
resumed U (going m) t k = k (record { tally = t; mark = m })
resumed U (ended answer g) t k = stop answer 0 g

-- a run as the other watch has it
abbrev pub read_for : {A : Type 0} (U : Watch) → (A → Seen U.Mark) → Outcome Stacks (Ledger A) → Ran U
read_for U sees (done s g) = resumed U (sees g.mark) g.tally (done s)
read_for U sees (stop answer function g) = resumed U (sees g.mark) g.tally (stop answer function)

module _ (U : Watch) where
  -- what a computation is told is the tally at hand
  resumed-tally : (x : Seen U.Mark) (t : Tally) (k : Tally → Computation U) →
      resumed U x t (λ g. k g.tally g) ≡ resumed U x t (k t)
  resumed-tally (going m) t k = refl
  resumed-tally (ended answer g) t k = refl

  resumed-with : (x : Seen U.Mark) (t u : Tally) (k : Computation U) → resumed U x u k ≡ resumed U x t (λ g. k (with_tally U u g))
  resumed-with (going m) t u k = refl
  resumed-with (ended answer g) t u k = refl

  resumed-then : (x : Seen U.Mark) (t : Tally) (first : Computation U) (k : Stacks → Computation U) →
      and_then (resumed U x t first) k ≡ resumed U x t (λ g. and_then (first g) k)
  resumed-then (going m) t first k = refl
  resumed-then (ended answer g) t first k = refl

module _ (A : Type 0) (step : Need → Tally → A → A) (U : Watch) (sees : A → Seen U.Mark)
    (law : (need : Need) (t : Tally) (m : A) (k : Computation U) → resumed U (sees (step need t m)) t k ≡
    resumed U (sees m) t (λ g. noting U need g k)) where
  abbrev W : Watch
  W = passing A step

  abbrev Reads : Computation W → Computation U → Type 0
  Reads k k' = (g : Ledger A) → read_for U sees (k g) ≡ resumed U (sees g.mark) g.tally k'

  afforded : (o : Option Tally) (k : Computation W) (k' : Computation U) (g : Ledger A) → Reads k k' →
      read_for U sees (where_payable W o g (k g)) ≡ resumed U (sees g.mark) g.tally (λ h. where_payable U o h (k' h))
  afforded none k k' g reads = refl
  afforded (some t) k k' g reads = reads g

  chained : (o : Ran W) (k : Stacks → Computation W) (k' : Stacks → Computation U) → ((s : Stacks) → Reads (k s) (k' s)) →
      read_for U sees (and_then o k) ≡ and_then (read_for U sees o) k'
  chained (done s g) k k' later = later s g ∙ sym (resumed-then U (sees g.mark) g.tally (done s) k')
  chained (stop answer function g) k k' later = sym (resumed-then U (sees g.mark) g.tally (stop answer function) k')

  reads-closed : Closed W U (Unit {0}) Reads
  reads-closed =
      record {
        gives = λ s g. refl;
        ends = λ answer function own g. refl;
        notes = λ need nesting k k' reads g.
            reads (record { tally = g.tally; mark = step (need g.tally) g.tally g.mark }) ∙
            law (need g.tally) g.tally g.mark k' ∙
            sym (resumed-tally U (sees g.mark) g.tally (λ t h. noting U (need t) h k'));
        emits = λ n text k k' reads g.
            reads (with_tally W (emitted n text g.tally) g) ∙
            resumed-with U (sees g.mark) g.tally (emitted n text g.tally) k' ∙
            sym (resumed-tally U (sees g.mark) g.tally (λ t h. k' (with_tally U (emitted n text t) h)));
        affords = λ f k k' reads g.
            afforded (pay f g.tally) k k' g reads ∙
            sym (resumed-tally U (sees g.mark) g.tally (λ t h. where_payable U (pay f t) h (k' h)));
        chains = λ first first' k k' reads later g.
            chained (first g) k k' later ∙
            ap (λ o. and_then o k') (reads g) ∙
            resumed-then U (sees g.mark) g.tally first' k';
      }

  paid : (o : Option Tally) (code : Code) (e : Enters W) (e' : Enters U) (frame f : ℕ) (s : Stacks) (g : Ledger A) →
      Reads (ran_choice W code e frame f (choice_for code f s) s) (ran_choice U code e' frame f (choice_for code f s) s) →
      read_for U sees (ran_paid W code e frame f s g o) ≡ resumed U (sees g.mark) g.tally (λ h. ran_paid U code e' frame f s h o)
  paid none code e e' frame f s g reads = refl
  paid (some t) code e e' frame f s g reads =
      reads (with_tally W t g) ∙ resumed-with U (sees g.mark) g.tally t (ran_choice U code e' frame f (choice_for code f s) s)

  reads-paying : Paying W U Reads
  reads-paying code e e' frame f s reads g =
      paid (pay f g.tally) code e e' frame f s g reads ∙
      sym (resumed-tally U (sees g.mark) g.tally (λ t h. ran_paid U code e' frame f s h (pay f t)))

  -- the run that lets everything pass, read for the other watch, is the other watch's run, from where the mark says
  pub enter-read : (depth : ℕ) (code : Code) (frame f : ℕ) (s : Stacks) (g : Ledger A) →
      read_for U sees (enter W depth code frame f s g) ≡ resumed U (sees g.mark) g.tally (enter U depth code frame f s)
  enter-read depth code frame f s g = applies W U (Unit {0}) Reads reads-closed reads-paying depth code (λ f s h. tt) frame f s g

-- whatever stops a run without end is its own
abbrev pub OwnStop : Ran endless → Type 0
OwnStop = StopsSo (λ answer function. Own answer)

abbrev OwnStops : Computation endless → Computation endless → Type 0
OwnStops k k' = (g : Ledger (Unit {0})) → OwnStop (k g)

own-afforded : (o : Option Tally) (g : Ledger (Unit {0})) (ran : Ran endless) → OwnStop ran → OwnStop (where_payable endless o g ran)
own-afforded none g ran own = spent refl
own-afforded (some t) g ran own = own

own-closed : Closed endless endless (Unit {0}) OwnStops
own-closed =
    record {
      gives = λ s g. tt;
      ends = λ answer function own g. own;
      notes = λ need nesting k k' own g. own g;
      emits = λ n text k k' own g. own (with_tally endless (emitted n text g.tally) g);
      affords = λ f k k' own g. own-afforded (pay f g.tally) g (k g) (own g);
      chains = λ first first' k k' own later g. then-stops (λ answer function. Own answer) (first g) k (own g) later;
    }

own-paid : (o : Option Tally) (code : Code) (e : Enters endless) (frame f : ℕ) (s : Stacks) (g : Ledger (Unit {0})) →
    ((g : Ledger (Unit {0})) → OwnStop (ran_choice endless code e frame f (choice_for code f s) s g)) →
    OwnStop (ran_paid endless code e frame f s g o)
own-paid none code e frame f s g own = spent refl
own-paid (some t) code e frame f s g own = own (with_tally endless t g)

pub endless-own : (depth : ℕ) (code : Code) (frame f : ℕ) (s : Stacks) (g : Ledger (Unit {0})) → OwnStop (enter endless depth code frame f s g)
endless-own depth code =
    applies endless endless (Unit {0}) OwnStops own-closed (λ code e e' frame f s own g. own-paid (pay f g.tally) code e frame f s g own)
    depth code (λ f s h. tt)

-- 13 to 16
pub record ForRoom (answer : ℕ) : Type 0 where
  pub least : in_full ≤ answer
  pub most : answer ≤ record_full

answer-for-room : (need : Need) → ForRoom (answer_to need)
answer-for-room (in_cells n) = omega arith
answer-for-room (out_cells n) = omega arith
answer-for-room (record_bytes n) = omega arith
answer-for-room (frames n) = omega arith

own-differs : {answer : ℕ} → Own answer → ForRoom answer → ⊥
own-differs (unfitting e) h = omega arith
own-differs (spent e) h = omega arith
own-differs (unreadable e) h = omega arith
own-differs (misformed e) h = omega arith
own-differs (past e) h = omega arith

-- no run without end answers for want of room
answers-differ : (o : Ran endless) → OwnStop o → ForRoom (result_of (text_of o)).answer → ⊥
answers-differ (done s g) own h = omega arith
answers-differ (stop answer function g) own h = own-differs own h

-- "This run never answers 13 to 16"
pub endless-never : (code : Code) (start : ℕ) (text : Bytes) (allowance : ℕ) → ForRoom (run_endless code start text allowance).answer → ⊥
endless-never code start text allowance =
    answers-differ (run_under endless code start text allowance tt)
    (endless-own allowance code 1 start (loaded text) (record { tally = fresh allowance; mark = tt }))

-- for a run without end the mark says nothing
abbrev pub seen_endless : Option Passed → Seen (Unit {0})
seen_endless m = going tt

-- on lent cells the run has ended where something was passed
abbrev pub seen_lent : Option Passed → Seen (Unit {0})
seen_lent none = going tt
seen_lent (some p) = ended (answer_to p.need) (record { tally = p.tally; mark = tt })

module _ (room : Room) where
  abbrev watches : Need → Tally → Option Passed → Option Passed
  watches need t m = first_passed m need t (passes room need)

  lent-notes : (need : Need) (t : Tally) (k : Computation (lent room)) (b : Bool) →
      resumed (lent room) (seen_lent (first_passed none need t b)) t k ≡
      after_note (lent room) (pick b (halt (answer_to need)) (onward tt)) (record { tally = t; mark = tt }) k
  lent-notes need t k true = refl
  lent-notes need t k false = refl

  lent-law : (need : Need) (t : Tally) (m : Option Passed) (k : Computation (lent room)) →
      resumed (lent room) (seen_lent (watches need t m)) t k ≡ resumed (lent room) (seen_lent m) t (λ g. noting (lent room) need g k)
  lent-law need t none k = lent-notes need t k (passes room need)
  lent-law need t (some p) k = refl

  unpassed : (o : Ran (watching room)) → mark_of o ≡ none → read_for (lent room) seen_lent o ≡ read_for endless seen_endless o
  unpassed (done s g) h = rw h
  unpassed (stop answer function g) h = rw h

  stopped : (o : Ran (watching room)) (p : Passed) → mark_of o ≡ some p →
      read_for (lent room) seen_lent o ≡ stop (answer_to p.need) 0 (record { tally = p.tally; mark = tt })
  stopped (done s g) p h = rw h
  stopped (stop answer function g) p h = rw h

  module _ (code : Code) (start : ℕ) (text : Bytes) (allowance : ℕ) where
    abbrev watched : Ran (watching room)
    watched = run_under (watching room) code start text allowance none

    -- The watched run without its mark is the run without end.
    pub watched-endless : read_for endless seen_endless watched ≡ run_under endless code start text allowance tt
    watched-endless =
        enter-read (Option Passed) watches endless seen_endless (λ need t m k. refl) allowance code 1 start (loaded text)
        (record { tally = fresh allowance; mark = none })

    watched-lent : read_for (lent room) seen_lent watched ≡ run_under (lent room) code start text allowance tt
    watched-lent =
        enter-read (Option Passed) watches (lent room) seen_lent lent-law allowance code 1 start (loaded text)
        (record { tally = fresh allowance; mark = none })

    -- Where nothing is passed, the run on lent cells is the run without end, its stacks included.
    pub lent-endless : passed_first room code start text allowance ≡ none →
        run_under (lent room) code start text allowance tt ≡ run_under endless code start text allowance tt
    lent-endless h = sym watched-lent ∙ unpassed watched h ∙ watched-endless

    -- Where something is passed, the run on lent cells stops there.
    pub lent-stops : (p : Passed) → passed_first room code start text allowance ≡ some p →
        run_under (lent room) code start text allowance tt ≡ stop (answer_to p.need) 0 (record { tally = p.tally; mark = tt })
    lent-stops p h = sym watched-lent ∙ stopped watched p h

    pub lent-equal : passed_first room code start text allowance ≡ none →
        run_lent room code start text allowance ≡ run_endless code start text allowance
    lent-equal h = ap (λ o. result_of (text_of o)) (lent-endless h)

    pub lent-passed : (p : Passed) → passed_first room code start text allowance ≡ some p →
        run_lent room code start text allowance ≡
        told (answer_to p.need) 0 [] p.tally
    lent-passed p h = ap (λ o. result_of (text_of o)) (lent-stops p h)

    -- Where something is passed, the two come to different results: so they come to the same exactly when nothing is passed.
    pub lent-differs : (p : Passed) → passed_first room code start text allowance ≡ some p →
        run_lent room code start text allowance ≡ run_endless code start text allowance → ⊥
    lent-differs p h same =
        let answer : answer_to p.need ≡ (run_endless code start text allowance).answer = ap (λ r. r.answer) (sym (lent-passed p h) ∙ same) in
        endless-never code start text allowance (rw answer at (answer-for-room p.need))

    pub lent-exactly : run_lent room code start text allowance ≡ run_endless code start text allowance → passed_first room code start text allowance ≡
        none
    lent-exactly same = go (passed_first room code start text allowance) refl
      where
        go : (o : Option Passed) → passed_first room code start text allowance ≡ o → o ≡ none
        go none e = refl
        go (some p) e = absurd (lent-differs p e same)
