-- What a run answers and leaves, in the terms of meaning's Leaving.
use Rattle.std.specs.Prelude.{ℕ, ◌-◌, ◌<◌, ◌≡◌, List, ◌++◌, length, take}
use Rattle.meaning.specs.Choice.{Bytes}
use Rattle.meaning.specs.Outcome.{Result}
use Rattle.meaning.specs.Matching.{Choice}
use Rattle.meaning.specs.Leaving.{Cells, Leaving, zeros}
use Rattle.run_cells.specs.Places.{place}
use Rattle.run_actions.specs.declared.registers.Ran.{Ran}
use Rattle.run_actions.specs.declared.registers.Registers.{Registers}
use Rattle.run_actions.specs.declared.registers.Next.{Next}
use Rattle.run_actions.specs.declared.registers.Next.TheVariants.{Onward, Done, Stopped, Deeper}
use Rattle.answers.specs.declared.Ending.{Ending}
use Rattle.answers.specs.declared.Ending.TheVariants.{Finished}
use Rattle.answers.specs.Numbers.{ending_number}
use Rattle.run_glancing.specs.declared.Seen.{Seen}
use Rattle.run_glancing.specs.declared.Seen.TheVariants.{Nothing, Dropped, Perhaps}
use Rattle.run_glancing.specs.Glanced.{Glances}

abbrev pub cells : Bytes → Bytes → Bytes → Cells
cells stack_in stack_out «record» = record { stack_in = stack_in; stack_out = stack_out; «record» = «record» }

-- the numbers that a run answers are those of a result
pub record Tells (ran : Ran) (result : Result) : Type 0 where
  pub answer : ending_number ran.ending ≡ result.answer
  pub function : ran.function ≡ result.function
  pub steps : ran.steps ≡ result.steps
  pub text : ran.text ≡ length result.text
  pub emissions : ran.emissions ≡ length result.emissions

-- a run answers, counts and leaves what it should
pub record Leaves (ran : Ran) (counts : List ℕ) (now : Cells) (should : Leaving) : Type 0 where
  pub tells : Tells ran should.result
  pub counted : counts ≡ should.result.counts
  pub leaves : now ≡ should.cells

-- a refusal's numbers
abbrev pub refused_with : Ending → Ran
refused_with ending = record { ending = ending; function = 0; steps = 0; text = 0; emissions = 0 }

-- what is reported of a run that is done, and of the end of any run
abbrev pub finished_with : Registers → Ran
finished_with g = record { ending = Finished; function = 0; steps = g.steps; text = g.r.0; emissions = g.emitted }

abbrev pub reported_of : Next → Ran
reported_of (Onward g) = finished_with g
reported_of (Done g) = finished_with g
reported_of (Deeper g) = finished_with g
reported_of (Stopped g ending function) =
    record { ending = ending; function = function; steps = g.steps; text = 0; emissions = g.emitted }

-- the cells up to a place, and zeros after it
abbrev pub cleared_from : ℕ → Bytes → Bytes
cleared_from start bytes = take start bytes ++ zeros (length bytes - start)

-- the registers as a run begins: the text lies on in as the field, out is empty, nothing is counted yet, and the
-- start's application is to begin
abbrev pub loaded_with : ℕ → ℕ → ℕ → Registers
loaded_with count text start =
    record {
      p = place (count - text);
      q = place count;
      r = place 0;
      frame = 0;
      at = record { 0 = 0 };
      steps = 0;
      emitted = 0;
      callee = start;
    }

-- A RUN THAT ITS FIRST APPLICATION ENDS

abbrev pub ended_with : Ending → ℕ → Ran
ended_with ending function = record { ending = ending; function = function; steps = 1; text = 0; emissions = 0 }

-- what is seen of the first application holds of its choice, and a step is allowed for it
abbrev pub Foreseen : Seen → ℕ → Choice → Type 0
Foreseen Nothing allowance choice = (0 < allowance) × Glances Nothing choice
Foreseen Dropped allowance choice = (0 < allowance) × Glances Dropped choice
Foreseen Perhaps allowance choice = Unit {0}
