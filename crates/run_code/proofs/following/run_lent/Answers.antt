-- The facts about `following::run_lent` that the check is told: the text is on in (`on_in`), the first frame is empty, and the run
-- is followed from there to its end (`whole`).
use Prim.Native.Nat.{ℕ, ◌≤◌, ◌<◌}
use native.Mathlib.Omega.{arith}
use mathlib.Core.Path.{◌≡◌, ◌∙◌}
use mathlib.Core.List.{List}
use lib.ListN.{length}
use borrow.Author.Tests.{le-leb}
use Rattle.meaning.specs.Choice.{Bytes}
use Rattle.meaning.specs.Packing.{Words}
use Rattle.meaning.specs.Outcome.{uncounted}
use Rattle.run_actions.specs.declared.registers.Next.{Next}
use Rattle.run_actions.specs.declared.registers.Next.TheVariants.{Onward}
use Rattle.run_actions.specs.States.{Memory, memory, counts_in, words_for, values_for, first_frames, begun}
use Rattle.run_applications.specs.Waiting.{count_in}
use Rattle.run_applications.specs.Simulation.{Invariant, Simulates}
use Rattle.run_applications.proofs.Laws.Simulation.{simulates-on}
use Rattle.run_applications.proofs.Laws.Applying.{declared-some, begun-held, begun-counts}
use Rattle.run_code.specs.Leaving.{loaded_with}
use Rattle.run_code.specs.Following.{SimulatesUntil, HasEnded}
use Rattle.run_code.proofs.Laws.Leaving.{Loaded, Whole, invariant-start, starting, steps-allowed, ending}
use Rattle.run_code.proofs.following.run_lent.Goals as goal

module _ (text input input' : Bytes) (l : Loaded text input input') (output «record» : Bytes) (lent frames : List ℕ) (values : Bytes)
    (words : Words) (start allowance : ℕ) (sized : length lent ≡ words_for first_frames) (valued : length values ≡ values_for first_frames)
    (blank : counts_in lent ≡ uncounted) (empty : frames ≡ begun 0 0 0 0 lent) (kept : length frames ≡ length lent) where
  -- nothing is counted yet
  none : counts_in frames ≡ uncounted
  none = rw empty (begun-counts lent 0 0 0 0 (omega (arith, sized)) ∙ blank)

  -- the run begins
  begins : Invariant allowance (loaded_with (length input) (length text) start) (memory input' output «record» frames values)
  begins =
      invariant-start _ _ _ l _ _ _ _ words start _ (kept ∙ sized) valued none
      (rw empty (begun-held lent 0 0 0 0 (omega (arith, sized)) (omega arith)))

  -- the run as a whole, followed to its end, where the start is declared
  simulated : count_in words < length words → 0 < start → start ≤ count_in words → (last : Next) (n : Memory) →
      SimulatesUntil HasEnded words allowance (Onward (loaded_with (length input) (length text) start))
      (memory input' output «record» frames values) last n →
      Simulates words allowance (Whole _ _ _ l output «record» frames values words start allowance)
      (loaded_with (length input) (length text) start) (memory input' output «record» frames values) last n
  simulated counted positive within last n followed =
      simulates-on _ _ _ _ _ _ _ _ _
      (starting _ _ _ l _ _ _ _ _ _ _ begins none
      (declared-some words counted start (λ e. omega (arith, positive)) ∙ le-leb start (count_in words) within)) followed.simulates

pub follow_all-last-requires-clause-next_invariant : goal.follow_all-last-requires-clause-next_invariant
follow_all-last-requires-clause-next_invariant c =
    let a = c.args in
    let p = c.requires in
    let on_in : Loaded a.text.now a.input.now c.copy_to.new.cells =
    record { fits = p.text_in_bounds; pasted = rw c.loaded-g.ensures.result at c.copy_to.ensures; sized = c.copy_to.auto.cells } in
    rw c.loaded-g.ensures.result
    (begins _ _ _ on_in _ _ _ _ _ a.code.now a.start a.allowance p.frames_len p.values_len p.frames_value
    c.begin_frame.ensures.leaves c.begin_frame.auto.frames)

pub reported-ran-requires : goal.reported-ran-requires
reported-ran-requires c =
    let a = c.args in
    let p = c.requires in
    let on_in : Loaded a.text.now a.input.now c.copy_to.new.cells =
    record { fits = p.text_in_bounds; pasted = rw c.loaded-g.ensures.result at c.copy_to.ensures; sized = c.copy_to.auto.cells } in
    let left = c.follow_all-last.new in
    let n = memory left.input left.output left.«record» left.frames left.values in
    let followed = rw c.loaded-g.ensures.result at c.follow_all-last.ensures.simulates in
    let whole = simulated _ _ _ on_in _ _ _ _ _ a.code.now a.start a.allowance p.frames_len p.values_len p.frames_value
    c.begin_frame.ensures.leaves c.begin_frame.auto.frames p.code_in_bounds p.start_nonzero p.start_bound c.follow_all-last.result n
    followed in
    let few = steps-allowed _ _ _ on_in _ _ _ _ _ _ _ _ n whole followed.ended in
    omega (arith, few, c.ranges.allowance.fits)

pub returns : goal.returns
returns c = record {
  leaves =
      let a = c.args in
      let p = c.requires in
      let on_in : Loaded a.text.now a.input.now c.copy_to.new.cells =
      record { fits = p.text_in_bounds; pasted = rw c.loaded-g.ensures.result at c.copy_to.ensures; sized = c.copy_to.auto.cells } in
      let left = c.follow_all-last.new in
      let n = memory left.input left.output left.«record» left.frames left.values in
      let followed = rw c.loaded-g.ensures.result at c.follow_all-last.ensures.simulates in
      let whole = simulated _ _ _ on_in _ _ _ _ _ a.code.now a.start a.allowance p.frames_len p.values_len p.frames_value
      c.begin_frame.ensures.leaves c.begin_frame.auto.frames p.code_in_bounds p.start_nonzero p.start_bound c.follow_all-last.result n
      followed in
      rw (c.clear_from.ensures.leaves, c.clear_from-2.ensures.leaves, c.reported-ran.ensures.result)
      (ending _ _ _ on_in _ _ _ _ _ _ _ _ n whole followed.ended);
}
