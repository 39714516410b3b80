-- The fact about `every_in_class` that the check is told: all bytes pass exactly if those that lead are all.
use Prim.Native.Nat.{◌≤◌}
use mathlib.Core.Path.{◌≡◌}
use lib.Dec.{leb}
use lib.ListN.{length}
use Rattle.std.proofs.Common.{rules}
use Rattle.meaning.specs.Choice.{every}
use Rattle.meaning.specs.Classes.{in_class}
use Rattle.byte_classes.specs.Classed.{class_meant}
use Rattle.run_class_runs.specs.Runs.{Leads}
use Rattle.run_class_runs.proofs.Laws.Runs.{leads-every}
use Rattle.run_class_runs.proofs.every_in_class.Goals as goal

pub returns : goal.returns
returns c =
    let leads : Leads (in_class (class_meant c.args.class)) c.args.part.now c.leading.result =
    c.leading.ensures (in_class (class_meant c.args.class)) (λ b answer e. search rules) in
    let all : leb (length c.args.part.now) c.leading.result ≡ every (in_class (class_meant c.args.class)) c.args.part.now = leads-every _ _ _ leads in
    let inside : c.leading.result ≤ length c.args.part.now = leads.inside in
    search rules
