-- `profile::refal0_profile` tells what the run left.
use Rattle.engine.proofs.Runs.{profiles}
use Rattle.engine.proofs.profile.refal0_profile.Goals as goal

pub returns : goal.returns
returns c = profiles c.run-ran.ensures.leaves c.from.ensures
