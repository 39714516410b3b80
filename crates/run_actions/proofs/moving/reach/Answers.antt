-- The fact about `moving::reach` that the check is told: the cells that are counted are there.
use native.Mathlib.Omega.{arith}
use mathlib.Core.List.{[]}
use Rattle.meaning.specs.Packing.{first_in, second_in, third_in, length_of}
use Rattle.run_actions.specs.States.{local_at}
use Rattle.run_actions.proofs.Laws.Spanning.{counted}
use Rattle.run_actions.proofs.moving.reach.Goals as goal

pub after-requires : goal.after-requires
after-requires c =
    let w = c.args.span.0 in
    let count = counted (second_in w) (third_in w) (local_at c.args.frame c.args.frames.now [])
    c.room.result (length_of (first_in w)) _ (c.in_ok-cells.ensures.counts []) in
    omega (arith, count.enough, c.room.ensures, c.requires)
