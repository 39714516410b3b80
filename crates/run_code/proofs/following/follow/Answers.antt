-- The facts about `following::follow` that the check is told: it begins at the first answer, goes on by a turn as long as the
-- run goes on, and ends where it is over.
use mathlib.Core.Path.{sym, ◌∙◌}
use Rattle.run_applications.proofs.Laws.Simulation.{simulates-start, simulates-on}
use Rattle.run_turns.proofs.Laws.Statuses.{rejoined, goes-onward, is-over}
use Rattle.run_code.proofs.following.follow.Goals as goal

pub loop-status-init : goal.loop-status-init
loop-status-init c =
    rw (rejoined c.args.first c.status_of-status.result c.registers_of-g.result c.registers_of-g.ensures.result
    c.status_of-status.ensures.result)
    (simulates-start c.args.program.code.now c.args.program.allowance c.args.first _ c.requires.next_invariant)

pub step-status-requires : goal.step-status-requires
step-status-requires c = record {
  invariant =
      let l = c.loop-status in
      rw (goes-onward l.status l.g (sym c.is_onward.ensures.result ∙ c.loop-status-test.true)) at l.invariant.invariant;
}

pub loop-status-preserved : goal.loop-status-preserved
loop-status-preserved c =
    let l = c.loop-status in
    let on = goes-onward l.status l.g (sym c.is_onward.ensures.result ∙ c.loop-status-test.true) in
    simulates-on _ _ _ _ _ _ _ _ _ (rw on at l.invariant) c.step-status.ensures.simulates.simulates

pub loop-status-smaller : goal.loop-status-smaller
loop-status-smaller c =
    let l = c.loop-status in
    rw (goes-onward l.status l.g (sym c.is_onward.ensures.result ∙ c.loop-status-test.true)) c.step-status.ensures.simulates.decreases

pub returns : goal.returns
returns c = record {
  simulates =
      let l = c.loop-status in
      rw c.next_of.ensures.result
      (record {
        simulates = l.invariant;
        ended = is-over l.status l.g (sym c.is_onward.ensures.result ∙ c.loop-status-test.false);
      });
}
