-- The facts about `write_items` that the check is told: after each instruction that is tried the registers keep within what
-- is lent, and all are tried from the entry on. `begun`, `gone`, `selected` and `written` say what the tries come to.
use Rattle.run_turns.proofs.Laws.Trying.{acting-on, tries-then}
use Rattle.run_turns.proofs.write_items.Goals as goal

pub try_span-gone-requires : goal.try_span-gone-requires
try_span-gone-requires c =
    let o = c.requires in
    let begun = c.try_begin-begun.ensures.simulates o.allowance _ _ o.«record» _ o.acting in
    let u = (acting-on _ _ begun).invariant in
    record { selection_within = u.ready.room.selection; frame_within = u.ready.room.frame; held = u.current }

pub try_span-selected-requires : goal.try_span-selected-requires
try_span-selected-requires c =
    let o = c.requires in
    let begun = c.try_begin-begun.ensures.simulates o.allowance _ _ o.«record» _ o.acting in
    let gone = c.try_span-gone.ensures.simulates o.allowance _ o.«record» _ (acting-on _ _ begun) in
    let u = (acting-on _ _ gone).invariant in
    record { selection_within = u.ready.room.selection; frame_within = u.ready.room.frame; held = u.current }

pub try_writes-written-requires : goal.try_writes-written-requires
try_writes-written-requires c =
    let o = c.requires in
    let begun = c.try_begin-begun.ensures.simulates o.allowance _ _ o.«record» _ o.acting in
    let gone = c.try_span-gone.ensures.simulates o.allowance _ o.«record» _ (acting-on _ _ begun) in
    let selected = c.try_span-selected.ensures.simulates o.allowance _ o.«record» _ (acting-on _ _ gone) in
    record { allowance = o.allowance; «record» = o.«record»; acting = acting-on _ _ selected }

pub try_span-requires : goal.try_span-requires
try_span-requires c =
    let o = c.requires in
    let begun = c.try_begin-begun.ensures.simulates o.allowance _ _ o.«record» _ o.acting in
    let gone = c.try_span-gone.ensures.simulates o.allowance _ o.«record» _ (acting-on _ _ begun) in
    let selected = c.try_span-selected.ensures.simulates o.allowance _ o.«record» _ (acting-on _ _ gone) in
    let written = c.try_writes-written.ensures.simulates o.allowance o.«record» (acting-on _ _ selected) in
    let u = (acting-on _ _ written).invariant in
    record { selection_within = u.ready.room.selection; frame_within = u.ready.room.frame; held = u.current }

pub returns : goal.returns
returns c = record {
  simulates =
      λ allowance «record» a.
      let begun = c.try_begin-begun.ensures.simulates allowance _ _ «record» _ a in
      let gone = tries-then _ _ begun (c.try_span-gone.ensures.simulates allowance _ «record» _ (acting-on _ _ begun)) in
      let selected = tries-then _ _ gone (c.try_span-selected.ensures.simulates allowance _ «record» _ (acting-on _ _ gone)) in
      let written = tries-then _ _ selected (c.try_writes-written.ensures.simulates allowance «record» (acting-on _ _ selected)) in
      tries-then _ _ written (c.try_span.ensures.simulates allowance _ «record» _ (acting-on _ _ written));
}
