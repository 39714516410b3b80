-- Outcomes of rewriting carried over to the machine without end, and what its instructions do there to stacks of a known form.
use Prim.Native.Nat.{ℕ, suc, ◌+◌, ◌-◌, ◌≤◌, ◌<◌}
use native.Mathlib.Nat.{zero-add}
use native.Mathlib.Omega.{arith}
use mathlib.Core.Path.{◌≡◌, refl}
use mathlib.Core.Bool.{true}
use mathlib.Core.List.{List, [], ◌∷◌, ◌++◌, append_assoc}
use mathlib.Core.Option.{some}
use lib.ListN.{length, length-append}
use lib.Seq.{take-append_seam, drop-append_seam}
use borrow.Author.Tests.{le-leb}
use Rattle.meaning.specs.Choice.{Bytes, nth}
use Rattle.meaning.specs.Angles.{Operation, Angled, sum, not_angles, out_of_range, angled}
use Rattle.meaning.specs.Outcome.{pay, Outcome, done, stop, and_then, computed}
use Rattle.meaning.specs.Rewriting.{Course, emitting, tally_of, before}
use Rattle.meaning.specs.Instructions.{Length, null, whole, left, right, Span, Action, go, select, out, out_c, out_v, begin_seq, use_seq, call}
use Rattle.meaning.specs.Instructions.{tail_call}
use Rattle.meaning.specs.Instructions.{emission, compute, Code}
use Rattle.meaning.specs.Machine.{Ledger, Stacks, Local, Ran, register_of, span_of, is_declared, after_field, returned, with_opened, max_opened}
use Rattle.meaning.specs.Machine.{where_payable, process}
use Rattle.meaning.specs.Runs.{endless}

abbrev pub Endless : Type 0
Endless = Ran endless

-- the run without end notes nothing
abbrev pub ledger : Course → Ledger (Unit {0})
ledger t = record { tally = tally_of t; mark = tt }

abbrev pub stacks : Bytes → ℕ → Bytes → Stacks
stacks input selected output = record { input = input; selected = selected; output = output }

-- what comes after an outcome of rewriting, on the machine's side
abbrev pub into : Outcome Bytes Course → (Bytes → Course → Endless) → Endless
into (done text t) k = k text t
into (stop answer function t) k = stop answer function (ledger t)

-- an outcome of rewriting as the machine leaves it: what lay below the field on in, and the text after what out held
abbrev pub carried : Bytes → Bytes → Outcome Bytes Course → Endless
carried below o r = into r (λ text t. done (stacks below 0 (o ++ text)) (ledger t))

pub into-and_then : (r : Outcome Bytes Course) (k : Bytes → Course → Outcome Bytes Course) (j : Bytes → Course → Endless) → into (and_then r k) j ≡
    into r (λ text t. into (k text t) j)
into-and_then (done text t) k j = refl
into-and_then (stop answer function t) k j = refl

-- what is written before an outcome's text
pub into-written : (x o : Bytes) (r : Outcome Bytes Course) (j : Bytes → Course → Endless) → into r (λ text t. j (o ++ x ++ text) t) ≡
    into (before x r) (λ text t. j (o ++ text) t)
into-written x o (done text t) j = rw append_assoc
into-written x o (stop answer function t) j = refl

-- what comes after counts only by what it gives
pub into-same : (r : Outcome Bytes Course) (j k : Bytes → Course → Endless) → ((text : Bytes) (t : Course) → j text t ≡ k text t) → into r j ≡
    into r k
into-same (done text t) j k h = h text t
into-same (stop answer function t) j k h = refl

pub front_fits : (front back : Bytes) → length front ≤ length (front ++ back)
front_fits front back = rw length-append (omega arith)

-- which sequences are open changes no length
pub span-opened : (a : Span) (l : Local) (rs : List ℕ) → span_of a (with_opened rs l) ≡ span_of a l
span-opened a l rs = rw (register-opened a.register)
  where
    register-opened : (r : Length) → register_of r (with_opened rs l) ≡ register_of r l
    register-opened null = refl
    register-opened whole = refl
    register-opened left = refl
    register-opened right = refl

-- how a function is applied in a frame
abbrev pub Applying : Type 0
Applying = ℕ → ℕ → Stacks → Ledger (Unit {0}) → Endless

-- the instructions from here on
abbrev pub doing : Code → Applying → ℕ → List Action → Local → Stacks → Course → Endless
doing code enter frame actions l s t = process endless code enter frame actions l s (ledger t)

module _ (code : Code) (enter : Applying) (frame : ℕ) (more : List Action) (l : Local) (t : Course) where
  pub go-law : (a : Span) (front back o : Bytes) (n : ℕ) → span_of a l ≡ length front →
      doing code enter frame (go a ∷ more) l (stacks (front ++ back) n o) t ≡ doing code enter frame more l (stacks back 0 o) t
  unfolding process
  go-law a front back o n e = rw (e, le-leb (length front) (length (front ++ back)) (front_fits front back), drop-append_seam)

  pub select_law : (a : Span) (front back o : Bytes) (n : ℕ) → n + span_of a l ≡ length front →
      doing code enter frame (select a ∷ more) l (stacks (front ++ back) n o) t ≡
      doing code enter frame more l (stacks (front ++ back) (length front) o) t
  unfolding process
  select_law a front back o n e = rw (e, le-leb (length front) (length (front ++ back)) (front_fits front back))

  pub out-law : (front back o : Bytes) →
      doing code enter frame (out ∷ more) l (stacks (front ++ back) (length front) o) t ≡ doing code enter frame more l (stacks back 0 (o ++ front)) t
  unfolding process
  out-law front back o = rw (take-append_seam, drop-append_seam)

  pub character-law : (c n : ℕ) (i o : Bytes) →
      doing code enter frame (out_c c ∷ more) l (stacks i n o) t ≡ doing code enter frame more l (stacks i n (o ++ c ∷ [])) t
  unfolding process
  character-law c n i o = refl

  pub value-law : (k b n : ℕ) (i o : Bytes) → nth k l.values ≡ some b →
      doing code enter frame (out_v k ∷ more) l (stacks i n o) t ≡ doing code enter frame more l (stacks i n (o ++ b ∷ [])) t
  unfolding process
  value-law k b n i o e = rw e

  pub begin-law : (i o : Bytes) (n : ℕ) → length l.opened < max_opened →
      doing code enter frame (begin_seq ∷ more) l (stacks i n o) t ≡
      doing code enter frame more (with_opened (length o ∷ l.opened) l) (stacks i n o) t
  unfolding process
  begin-law i o n h = rw (le-leb (suc (length l.opened)) max_opened h)

  -- the argument moves from out to just below p
  pub use-law : (rs : List ℕ) (i o argument : Bytes) →
      doing code enter frame (use_seq ∷ more) (with_opened (length o ∷ rs) l) (stacks i 0 (o ++ argument)) t ≡
      doing code enter frame more (with_opened rs l) (stacks (argument ++ i) (length argument) o) t
  unfolding process
  use-law rs i o argument = simp (take-append_seam, drop-append_seam, zero-add)

  pub emission-law : (name argument below o : Bytes) →
      doing code enter frame (emission name ∷ more) l (stacks (argument ++ below) (length argument) o) t ≡
      doing code enter frame more l (stacks below 0 o) (emitting name argument t)
  unfolding process
  emission-law name argument below o = rw (take-append_seam, drop-append_seam)

  -- the argument is passed, and its result stands on out
  pub compute-law : (op : Operation) (argument below o : Bytes) →
      doing code enter frame (compute op ∷ more) l (stacks (argument ++ below) (length argument) o) t ≡
      into (computed (angled op argument) t) (λ given t₁. doing code enter frame more l (stacks below 0 (o ++ given)) t₁)
  unfolding process
  compute-law op argument below o = rw (take-append_seam, drop-append_seam) (by_result (angled op argument))
    where
      by_result : (a : Angled) →
          and_then (computed a (ledger t)) (λ given g. process endless code enter frame more l (stacks below 0 (o ++ given)) g) ≡
          into (computed a t) (λ given t₁. doing code enter frame more l (stacks below 0 (o ++ given)) t₁)
      by_result (sum given) = refl
      by_result not_angles = refl
      by_result out_of_range = refl

  pub call-law : (f : ℕ) (s : Stacks) → is_declared code f ≡ true →
      doing code enter frame (call f ∷ more) l s t ≡
      where_payable endless (pay f (tally_of t)) (ledger t)
      (and_then (enter (suc frame) f s (ledger t)) (λ s₁ g₁. process endless code enter frame more l (returned (after_field s) s₁) g₁))
  unfolding process
  call-law f s e = rw e

  pub tail-law : (f : ℕ) (s : Stacks) → is_declared code f ≡ true → doing code enter frame (tail_call f ∷ more) l s t ≡ enter frame f s (ledger t)
  unfolding process
  tail-law f s e = rw e

-- a callee that took just its argument from in leaves q at p
pub returned-law : (argument below o o₁ : Bytes) →
    returned (after_field (stacks (argument ++ below) (length argument) o)) (stacks below 0 o₁) ≡ stacks below 0 o₁
returned-law argument below o o₁ =
    let e : length below - (length (argument ++ below) - length argument) ≡ 0 = omega (arith, length-append argument below) in
    rw e

-- what comes after a call, on the stacks that it leaves
pub carried-and_then : (below o : Bytes) (r : Outcome Bytes Course) (k : Stacks → Ledger (Unit {0}) → Endless) →
    and_then (carried below o r) k ≡ into r (λ given t. k (stacks below 0 (o ++ given)) (ledger t))
carried-and_then below o (done given t) k = refl
carried-and_then below o (stop answer function t) k = refl
