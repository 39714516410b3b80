-- The facts about `advance` that the check is told: each instruction begins where the last that was tried left the
-- registers. `begun`, `written`, `used` and `selected` say what each led to, `acting` and `ready` that an instruction may come.
use Rattle.run_turns.specs.Turns.{ActingInvariant}
use Rattle.run_turns.proofs.Laws.Statuses.{over-other, over-left}
use Rattle.run_turns.proofs.Laws.Trying.{acting-on, acting-used, turn-again, turn-used, turn-done}
use Rattle.run_turns.proofs.advance.Goals as goal

pub returns-then-begun-ne0 : goal.returns-then-begun-ne0
returns-then-begun-ne0 c = record {
  simulates = turn-again _ _ c.if-begun-ne0.true (rw c.in-Onward.is at (c.enter-entered.ensures.simulates _ _ c.requires.invariant));
}

pub write_items-written-requires : goal.write_items-written-requires
write_items-written-requires c =
    let a = c.args in
    let begun = rw c.in-Onward.is at (c.enter-entered.ensures.simulates _ _ c.requires.invariant) in
    record {
      allowance = a.program.allowance;
      «record» = a.«record».now;
      acting = record { invariant = begun.below.simulates.invariant; idle = c.if-begun-ne0.false };
    }

pub try_use-used-requires : goal.try_use-used-requires
try_use-used-requires c =
    let a = c.args in
    let begun = rw c.in-Onward.is at (c.enter-entered.ensures.simulates _ _ c.requires.invariant) in
    let acting : ActingInvariant a.program.allowance _ _ = record { invariant = begun.below.simulates.invariant; idle = c.if-begun-ne0.false } in
    let written = c.write_items-written.ensures.simulates _ _ acting in
    let u = (acting-on _ _ written).invariant in
    record {
      selection_within = u.ready.room.selection;
      r_in_bounds = u.ready.room.written.below;
      frame_within = u.ready.room.frame;
      held = u.current;
    }

pub returns-in_default-used : goal.returns-in_default-used
returns-in_default-used c = record {
  simulates =
      let a = c.args in
      let begun = rw c.in-Onward.is at (c.enter-entered.ensures.simulates _ _ c.requires.invariant) in
      let acting : ActingInvariant a.program.allowance _ _ = record { invariant = begun.below.simulates.invariant; idle = c.if-begun-ne0.false } in
      let written = c.write_items-written.ensures.simulates _ _ acting in
      let used = c.try_use-used.ensures.simulates _ _ _ (acting-on _ _ written) in
      turn-used _ _ begun written (over-left _ a.program.allowance c.try_use-used.result _ (over-other c.try_use-used.result c.in_default-used.not-Onward))
      used;
}

pub try_span-selected-requires : goal.try_span-selected-requires
try_span-selected-requires c =
    let a = c.args in
    let begun = rw c.in-Onward.is at (c.enter-entered.ensures.simulates _ _ c.requires.invariant) in
    let acting : ActingInvariant a.program.allowance _ _ = record { invariant = begun.below.simulates.invariant; idle = c.if-begun-ne0.false } in
    let written = c.write_items-written.ensures.simulates _ _ acting in
    let used = rw c.in-Onward-used.is at (c.try_use-used.ensures.simulates _ _ _ (acting-on _ _ written)) in
    let ready = acting-used _ _ (acting-on _ _ written) used in
    let u = ready.invariant in
    record { selection_within = u.ready.room.selection; frame_within = u.ready.room.frame; held = u.current }

pub act-requires : goal.act-requires
act-requires c = record {
  acting_invariant =
      let a = c.args in
      let begun = rw c.in-Onward.is at (c.enter-entered.ensures.simulates _ _ c.requires.invariant) in
      let acting : ActingInvariant a.program.allowance _ _ = record { invariant = begun.below.simulates.invariant; idle = c.if-begun-ne0.false } in
      let written = c.write_items-written.ensures.simulates _ _ acting in
      let used = rw c.in-Onward-used.is at (c.try_use-used.ensures.simulates _ _ _ (acting-on _ _ written)) in
      let ready = acting-used _ _ (acting-on _ _ written) used in
      let selected = c.try_span-selected.ensures.simulates _ _ _ _ ready in
      acting-on _ _ selected;
}

pub returns : goal.returns
returns c = record {
  simulates =
      let a = c.args in
      let begun = rw c.in-Onward.is at (c.enter-entered.ensures.simulates _ _ c.requires.invariant) in
      let acting : ActingInvariant a.program.allowance _ _ = record { invariant = begun.below.simulates.invariant; idle = c.if-begun-ne0.false } in
      let written = c.write_items-written.ensures.simulates _ _ acting in
      let used = rw c.in-Onward-used.is at (c.try_use-used.ensures.simulates _ _ _ (acting-on _ _ written)) in
      let ready = acting-used _ _ (acting-on _ _ written) used in
      let selected = c.try_span-selected.ensures.simulates _ _ _ _ ready in
      turn-done _ _ begun written used selected c.act.ensures.simulates;
}
