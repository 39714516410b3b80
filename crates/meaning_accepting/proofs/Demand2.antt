-- Demand 2 on reading: "A table is accepted exactly when the published Refal-0 grammar, with 01's limits and name rules, allows it, conditions as 01
-- has them, and what is read is the tree the grammar gives"; "Demand 2 takes conditions as here" (T-03). Which texts are refused, and how, stands in
-- the crate `meaning_refusing`.
use Prim.Native.Nat.{◌≤◌}
use mathlib.Core.Path.{◌≡◌, refl}
use mathlib.Core.Logic.{◌↔◌}
use mathlib.Core.Bool.{true}
use mathlib.Core.List.{List}
use lib.ListN.{length}
use Rattle.meaning.specs.Choice.{Bytes, every}
use Rattle.meaning.specs.Tree.{Table}
use Rattle.meaning.specs.Allowed.{is_byte, allowed, max_table}
use Rattle.meaning.specs.Tokens.{Placed, tokens}
use Rattle.meaning.specs.Grammar.{IsProgram}
use Rattle.meaning.specs.Reading.{read, accepted}
use Rattle.meaning_accepting.proofs.Reading.Accepted.{accepted-allows, allows-accepted}
use Rattle.meaning_accepting.proofs.OneTree.{same-program}

-- A text of bytes is read as a tree exactly when it is at most 32,768 bytes long, its tokens derive that tree by the grammar, and the tree is
-- allowed.
pub accepted-exactly : (text : Bytes) → every is_byte text ≡ true → (t : Table)
    → (read text ≡ accepted t) ↔ ((length text ≤ max_table) × IsProgram (tokens text) t × (allowed t ≡ true))
accepted-exactly text s t = (
  λ e. let a = accepted-allows text t s e in (a.short, a.derived, a.within),
  λ a. allows-accepted text t (record { short = a.0; derived = a.1; within = a.2 }),
)

-- The grammar alone gives one tree: whatever the limits and the rules allow, tokens that derive two trees derive the same.
pub one-tree : (ts : List Placed) (t u : Table) → IsProgram ts t → IsProgram ts u → t ≡ u
one-tree ts t u d e = same-program d e refl
