-- The facts about `framed_call` that the check is told.
use Prim.Native.Nat.{suc, ◌<◌}
use native.Mathlib.Numerals.{add-one}
use native.Mathlib.Omega.{arith}
use mathlib.Core.Path.{◌≡◌, ◌∙◌}
use lib.ListN.{length}
use Rattle.run_actions.specs.States.{HasFrame, begun, calling_from}
use Rattle.run_applications.proofs.Laws.Applying.{begun-length, begun-below, begun-counts, begun-held}
use Rattle.run_applications.proofs.Laws.Calling.{call-spent, call-full, calling-counts, calling-length, not-crowded, call_enters}
use Rattle.run_applications.proofs.framed_call.Goals as goal

pub returns-then-allowed-g : goal.returns-then-allowed-g
returns-then-allowed-g c = record {
  simulates =
      λ input output «record» values. rw c.stopped.ensures (call-spent _ _ c.args.number _ _ c.requires.number_value c.if-allowed-g.true);
}

pub returns-then-frame-ge-FRAMES : goal.returns-then-frame-ge-FRAMES
returns-then-frame-ge-FRAMES c = record {
  simulates =
      λ input output «record» values. rw c.stopped-then-frame-ge-FRAMES.ensures
      (call-full _ _ c.args.number _ _ c.requires.number_value c.if-allowed-g.false (omega (arith, c.if-frame-ge-FRAMES.true)));
}

pub returns : goal.returns
returns c = record {
  simulates =
      let a = c.args in
      let k = a.g.frame in
      let calling = calling_from k a.g.at.0 a.g.q.0 a.frames.now in
      let sized : length calling ≡ length a.frames.now = calling-length a.frames.now k a.g.at.0 a.g.q.0 in
      let few : suc k < 256 = omega (arith, c.if-frame-ge-FRAMES.false) in
      let there : HasFrame (suc k) calling = rw sized (not-crowded k a.frames.now c.requires.frames_value few) in
      λ input output «record» values. rw (c.begin_frame.ensures.leaves, c.keep_caller.ensures.leaves, add-one k)
      (call_enters _ _ a.number a.g input output «record» a.frames.now values c.requires.number_value
      c.if-allowed-g.false (omega (arith, c.if-frame-ge-FRAMES.false))
      (begun (suc k) 0 0 0 calling) (rw (begun-length calling (suc k) 0 0 0 there) there) (begun-length calling (suc k) 0 0 0 there ∙ sized)
      (begun-counts calling (suc k) 0 0 0 there ∙ calling-counts a.frames.now k a.g.at.0 a.g.q.0)
      (begun-below calling (suc k) 0 0 0 there)
      (begun-held calling (suc k) 0 0 0 there (omega arith)));
}
