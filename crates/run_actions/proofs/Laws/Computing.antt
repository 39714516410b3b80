-- The angle call on registers and cells does what the machine's does.
use Prim.Native.Nat.{ℕ, ◌-◌, ◌≤◌}
use native.Mathlib.Omega.{arith}
use mathlib.Core.Path.{◌≡◌, refl, ap, ◌∙◌}
use mathlib.Core.List.{◌++◌}
use lib.ListN.{length, take, drop, length-append}
use lib.Seq.{take-append_seam}
use Rattle.meaning.specs.Choice.{Bytes}
use Rattle.meaning.specs.Angles.{Operation, Angled as Meant, sum, not_angles, out_of_range, angled}
use Rattle.meaning.specs.Instructions.{compute}
use Rattle.std.proofs.Common.{Result, Ok, Err}
use Rattle.run_angles.specs.declared.AngleFault.{AngleFault}
use Rattle.run_angles.specs.declared.AngleFault.TheVariants.{NotAngles, OutOfRange}
use Rattle.run_angles.specs.Post.{Left, left_with, leaves}
use Rattle.run_actions.specs.declared.registers.Registers.{Registers}
use Rattle.answers.specs.declared.Ending.TheVariants.{ArgumentNotAngles, AngleOutOfRange}
use Rattle.run_actions.specs.declared.registers.Next.TheVariants.{Stopped}
use Rattle.run_actions.specs.States.{Memory, Writes, ImplementsAction}
use Rattle.run_actions.proofs.Laws.Acting.{stops}

module _ (g : Registers) (m : Memory) (op : Operation) where
  abbrev called : Meant
  called = angled op (take (g.q.0 - g.p.0) (drop g.p.0 m.input))

  pub not-angles : called ≡ not_angles → ImplementsAction (compute op) g.at.0 g m (Stopped g ArgumentNotAngles 0) m
  not-angles e = stops g m _ _ ArgumentNotAngles (λ allowance code enter k. rw e)

  pub out_of_range_lem : called ≡ out_of_range → ImplementsAction (compute op) g.at.0 g m (Stopped g AngleOutOfRange 0) m
  out_of_range_lem e = stops g m _ _ AngleOutOfRange (λ allowance code enter k. rw e)

  pub result-writes : {text : Bytes} → called ≡ sum text → Writes (compute op) text g m
  result-writes e = record { same = λ allowance code enter k. rw e }

-- WHAT THE CALL HANDED BACK

-- so many bytes that stand first in what was lent
pub record Given (a : Meant) (count : ℕ) (result : Bytes) : Type 0 where
  pub same : a ≡ sum (take count result)
  pub within : count ≤ length result

answered : {r q : Result ℕ AngleFault} {result old : Bytes} → left_with r result ≡ left_with q old → r ≡ q
answered e = ap (λ (l : Left). l.answer) e

module _ (old : Bytes) {result : Bytes} where
  pub given : (a : Meant) {count : ℕ} → left_with (Ok count) result ≡ leaves a old → Given a count result
  given (sum text) {count = count} e =
      let counts : Ok count ≡ Ok (length text) = answered e in
      let counted : count ≡ length text = cc in
      let written : result ≡ text ++ drop (length text) old = ap (λ (l : Left). l.result) e in
      record {
        same = rw (counted, written, take-append_seam text (drop (length text) old));
        within = omega (arith, counted, ap length written, length-append text (drop (length text) old));
      }
  given not_angles {count = count} e =
      let other : Ok count ≡ Err NotAngles = answered e in
      absurd (cc)
  given out_of_range {count = count} e =
      let other : Ok count ≡ Err OutOfRange = answered e in
      absurd (cc)

  pub refused-angles : (a : Meant) → left_with (Err NotAngles) result ≡ leaves a old → a ≡ not_angles
  refused-angles (sum text) e =
      let other : Err NotAngles ≡ Ok (length text) = answered e in
      absurd (cc)
  refused-angles not_angles e = refl
  refused-angles out_of_range e =
      let other : ◌≡◌ {A = Result ℕ AngleFault} (Err NotAngles) (Err OutOfRange) = answered e in
      absurd (cc)

  pub refused-range : (a : Meant) → left_with (Err OutOfRange) result ≡ leaves a old → a ≡ out_of_range
  refused-range (sum text) e =
      let other : Err OutOfRange ≡ Ok (length text) = answered e in
      absurd (cc)
  refused-range not_angles e =
      let other : ◌≡◌ {A = Result ℕ AngleFault} (Err OutOfRange) (Err NotAngles) = answered e in
      absurd (cc)
  refused-range out_of_range e = refl
