-- The facts about `functions::functions` that the check is told: how reading stands at the start, that fewer declarations may come after each one,
-- and what it comes to.
use mathlib.Core.Path.{◌≡◌, refl, ap}
use mathlib.Core.List.{List}
use Prim.Native.Nat.{ℕ}
use Rattle.std.specs.declared.ops.ControlFlow.TheVariants.{Continue}
use Rattle.read_tokens.specs.declared.reader.Reader.{Reader}
use Rattle.read_functions.specs.declared.functions.Tally.{Tally}
use Rattle.read_functions.specs.Functions.{Stage, TallyIs, DeclaresFrom}
use Rattle.read_functions.proofs.Functioned.{functions-start}
use Rattle.read_table.specs.Through.{reached_at, GoesOn}
use Rattle.read_table.proofs.functions.functions.Goals as goal

-- how reading stands after a declaration, read in this text
turned : {text start tape heads tape' heads' : List ℕ} {reader reader' : Reader} {n : Tally} {stage stage' : Stage}
    → GoesOn reader tape heads (Continue n) reader' tape' heads' stage
    → reader.text.now ≡ text
    → TallyIs text start tape heads reader.at n
    → stage ≡ stage'
    → DeclaresFrom text start tape' heads' (reached_at reader'.at stage')
turned {start = start} g same stands e = rw same at (rw e at (g.declares.keeps start (rw same stands)))

pub loop-next-init : goal.loop-next-init
loop-next-init c = record {
  same = ap (λ (r : Reader). r.text.now) c.new-reader.ensures;
  stands =
      rw (c.new-reader.ensures, c.new-n.ensures)
      (functions-start c.args.text.now c.args.tape.now c.args.heads.now c.requires.0 c.requires.1 c.requires.2);
}

pub loop-next-smaller : goal.loop-next-smaller
loop-next-smaller c = let falls = rw c.in-Continue.is at c.next_declaration.ensures.declares.falls in falls _ refl

pub returns-in-Break : goal.returns-in-Break
returns-in-Break c = turned c.next_declaration.ensures c.loop-next.invariant.same c.loop-next.invariant.stands c.in-Break.is
