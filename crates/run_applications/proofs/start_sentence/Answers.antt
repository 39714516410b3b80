-- The facts about `start_sentence` that the check is told.
use Prim.Native.Nat.{ℕ, ◌-◌}
use native.Mathlib.Omega.{arith}
use mathlib.Core.Path.{◌≡◌, ap, ◌∙◌}
use mathlib.Core.Option.{Option}
use lib.ListN.{length, drop}
use Rattle.meaning.specs.Choice.{Bytes}
use Rattle.meaning.specs.Matching.{stored_values}
use Rattle.meaning.specs.Packing.{unpack_stores}
use Rattle.run_actions.proofs.Laws.Acting.{part-long}
use Rattle.run_applications.specs.Storing.{Stored, Stores}
use Rattle.run_applications.proofs.Laws.Applying.{starts-wrong, starts-right}
use Rattle.run_applications.proofs.start_sentence.Goals as goal

stored-as : {base count next : ℕ} {values values' : Option Bytes} {before after : Bytes} {stored : Stored} → values ≡ values' →
    Stores base count next values before after stored → Stores base count next values' before after stored
stored-as e s = rw e at s

pub store_values-requires : goal.store_values-requires
store_values-requires c =
    let p = c.requires in
    omega (arith, p.paired _ p.frame_within.frame_room, p.stored_le_max_stored)

pub returns-in_default : goal.returns-in_default
returns-in_default c = record {
  simulates =
      let a = c.args in
      -- the values of the stores are those of the field
      let kept = λ (field : Bytes). stored_values (unpack_stores a.stored (drop a.stores.0 a.code.now)) field a.place in
      λ allowance output «record». rw c.stopped.ensures
      (starts-wrong _ _ _ _ _ _ _ _ _ _ _ _ c.requires.stored_le_max_stored
      (stored-as (ap kept c.part-field.ensures) (rw c.in_default.is at c.store_values.ensures.stores)));
}

pub returns : goal.returns
returns c = record {
  simulates =
      let a = c.args in
      let kept = λ (field : Bytes). stored_values (unpack_stores a.stored (drop a.stores.0 a.code.now)) field a.place in
      -- the field is what is selected
      let selected : length c.part-field.result.now ≡ a.g.q.0 - a.g.p.0 =
      ap length c.part-field.ensures ∙ part-long a.input.now a.g.p.0 a.g.q.0 c.requires.selection_within.inside in
      λ allowance output «record». rw (c.begin_frame.ensures.leaves, selected)
      (starts-right _ _ _ _ _ _ _ _ _ _ _ _ c.requires.stored_le_max_stored c.in-Ok.actions c.store_values.auto.values
      (stored-as (ap kept c.part-field.ensures) (rw c.in-Ok.is at c.store_values.ensures.stores)));
}
