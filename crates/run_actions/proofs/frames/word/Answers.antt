-- The facts about `frames::word` that the check is told.
use Prim.Native.Nat.{◌+◌, ◌*◌}
use mathlib.Core.Path.{sym}
use lib.Seq.{get_or-drop}
use Rattle.meaning.specs.Outcome.{max_counted}
use Rattle.run_actions.proofs.frames.word.Goals as goal

pub returns : goal.returns
returns c = record {
  result =
      let a = c.args in
      sym (get_or-drop max_counted a.frames.now (24 * a.frame + a.index) 0);
}
