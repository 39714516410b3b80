-- The measure of `following::follow_deeper`: 0, since where it would call itself, more frames would be needed than there may be.
use Rattle.run_code.proofs.following.+follow_deeper.Given as goal

abbrev pub decreases-follow_deeper : goal.decreases-follow_deeper
decreases-follow_deeper l = 0
