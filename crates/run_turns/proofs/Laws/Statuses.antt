-- An answer and its two parts, the registers and how the run goes on.
use Prim.Native.Nat.{ℕ}
use mathlib.Core.Path.{◌≡◌, refl, sym, ap, subst, ◌∙◌}
use mathlib.Core.Bool.{true, false}
use lib.Dec.{T}
use Rattle.run_actions.specs.declared.registers.Registers.{Registers}
use Rattle.run_actions.specs.declared.registers.Next.{Next}
use Rattle.run_actions.specs.declared.registers.Next.TheVariants.{Onward, Done, Stopped, Deeper}
use Rattle.run_actions.specs.declared.registers.Status.{Status}
use Rattle.run_actions.specs.declared.registers.Status.TheVariants as status
use Rattle.run_actions.specs.States.{Memory}
use Rattle.run_applications.specs.Waiting.{measure}
use Rattle.run_applications.specs.Simulation.{registers_in}
use Rattle.run_turns.specs.Turns.{status_in, next_of, is_onward, kept_of, IsOver}

parts_join : (r : Next) → next_of (status_in r) (registers_in r) ≡ r
parts_join (Onward g) = refl
parts_join (Done g) = refl
parts_join (Stopped g ending function) = refl
parts_join (Deeper g) = refl

pub rejoined : (r : Next) (x : Status) (g : Registers) → g ≡ registers_in r → x ≡ status_in r → next_of x g ≡ r
rejoined r x g new how = ap (λ (y : Status). next_of y g) how ∙ ap (next_of (status_in r)) new ∙ parts_join r

pub goes-onward : (x : Status) (g : Registers) → is_onward x ≡ true → next_of x g ≡ Onward g
goes-onward status.Onward g e = refl
goes-onward status.Done g e = absurd (subst T (sym e) tt)
goes-onward (status.Stopped ending function) g e = absurd (subst T (sym e) tt)
goes-onward status.Deeper g e = absurd (subst T (sym e) tt)

pub is-over : (x : Status) (g : Registers) → is_onward x ≡ false → IsOver (next_of x g)
is-over status.Onward g e = absurd (subst T e tt)
is-over status.Done g e = tt
is-over (status.Stopped ending function) g e = tt
is-over status.Deeper g e = tt

-- an answer that is none that goes on has ended the run here
pub over-other : (r : Next) → ((g : Registers) → r ≡ Onward g → ⊥) → IsOver r
over-other (Onward g) other = absurd (other g refl)
over-other (Done g) other = tt
over-other (Stopped g ending function) other = tt
over-other (Deeper g) other = tt

-- nothing is left to do then
pub over-left : (size allowance : ℕ) (r : Next) (n : Memory) → IsOver r → measure size allowance r n ≡ 0
over-left size allowance (Onward g) n over = absurd over
over-left size allowance (Done g) n over = refl
over-left size allowance (Stopped g ending function) n over = refl
over-left size allowance (Deeper g) n over = refl

-- and after an action that was tried the registers are those before it
pub over-kept : (r : Next) (g : Registers) → IsOver r → kept_of r g ≡ g
over-kept (Onward h) g over = absurd over
over-kept (Done h) g over = refl
over-kept (Stopped h ending function) g over = refl
over-kept (Deeper h) g over = refl
