-- Depth never shows: any depth of at least the steps left gives the same, of the machine and of rewriting; and steps and steps left come to the same
-- sum before and after.
use Prim.Native.Nat.{ℕ, zero, suc, ◌+◌, ◌≤◌}
use native.Mathlib.Omega.{arith}
use mathlib.Core.Path.{◌≡◌, refl, sym}
use mathlib.Core.List.{List, [], ◌∷◌}
use mathlib.Core.Option.{Option, none, some}
use lib.ListN.{length}
use Rattle.meaning.specs.Choice.{Bytes, Name, lookup}
use Rattle.meaning.specs.Outcome.{Tally, fresh, counted, pay, emitted, Outcome, done, stop, and_then, computed}
use Rattle.meaning.specs.Tree.{Expression, end, then_character, then_symbol, then_part, then_call, Table}
use Rattle.meaning.specs.Angles.{Angled, sum, not_angles, out_of_range, angled}
use Rattle.meaning.specs.Names.{number_of, Calling, as_emission, as_angles, as_function, calling_of}
use Rattle.meaning.specs.Rewriting.{Course, unbegun, take_step, tally_of, Bindings, symbol_bytes, part_bytes, before, evaluate, Fit, choose}
use Rattle.meaning.specs.Rewriting.{function_at}
use Rattle.meaning.specs.Rewriting.{call_named, recoverer_at, unfitted, rewritten, applied, apply, called_as}
use Rattle.meaning.specs.Instructions.{Code}
use Rattle.meaning.specs.Machine.{Noted, onward, halt, Watch, Ledger, Stacks, with_tally, after_note, where_payable, ran_paid, enter}
use Rattle.meaning.specs.Runs.{loaded, run_under}
use Rattle.meaning_agreeing.proofs.Laws.Related.{Computation, Closed, choice_for, chooses}

-- what may come after a tally: no more steps left, and the same sum of steps and steps left
pub record Spent (t u : Tally) : Type 0 where
  pub fewer : u.steps_left ≤ t.steps_left
  pub sum : u.steps + u.steps_left ≡ t.steps + t.steps_left

pub spent-refl : (t : Tally) → Spent t t
spent-refl t = omega arith

pub spent-trans : {t u v : Tally} → Spent t u → Spent u v → Spent t v
spent-trans p q = omega arith

-- nothing left to pay with
pub pay-none : (f : ℕ) (t : Tally) → t.steps_left ≤ 0 → pay f t ≡ none
pay-none f t h = let e : t.steps_left ≡ 0 = omega arith in rw e

-- where an outcome has come to, over a reading of what was counted
abbrev pub counted_of : {A L : Type 0} → Outcome A L → L
counted_of (done v l) = l
counted_of (stop answer function l) = l

-- two outcomes of what was begun with a tally: the same, and nothing won back
pub record Same {A L : Type 0} (tally_of : L → Tally) (t : Tally) (o o' : Outcome A L) : Type 0 where
  pub same : o ≡ o'
  pub spent : Spent t (tally_of (counted_of o))

-- nothing was paid
pub unmoved : {A L : Type 0} {tally_of : L → Tally} {o : Outcome A L} → Same tally_of (tally_of (counted_of o)) o o
unmoved = record { same = refl; spent = spent-refl _ }

pub same-later : {A L : Type 0} {tally_of : L → Tally} {t u : Tally} {o o' : Outcome A L} → Spent t u → Same tally_of u o o' → Same tally_of t o o'
same-later p q = record { same = q.same; spent = spent-trans p q.spent }

-- what comes after is asked only where no more steps are left
pub same_then : {A B L : Type 0} (tally_of : L → Tally) (t : Tally) (o o' : Outcome A L) (k k' : A → L → Outcome B L) →
    Same tally_of t o o' → ((v : A) (l : L) → (tally_of l).steps_left ≤ t.steps_left → Same tally_of (tally_of l) (k v l) (k' v l)) →
    Same tally_of t (and_then o k) (and_then o' k')
same_then tally_of t o o' k k' first later = rw (← first.same) (go o first.spent)
  where
    go : (o : _) → Spent t (tally_of (counted_of o)) → Same tally_of t (and_then o k) (and_then o k')
    go (done v l) p = same-later p (later v l p.fewer)
    go (stop answer function l) p = record { same = refl; spent = p }

-- two depths come to the same with so many steps left
pub data Enough (depth depth' left : ℕ) : Type 0 where
  deep : left ≤ depth → left ≤ depth' → Enough depth depth' left
  level : depth ≡ depth' → Enough depth depth' left

enough-fewer : {depth depth' n m : ℕ} → m ≤ n → Enough depth depth' n → Enough depth depth' m
enough-fewer p (deep h h') = deep (omega arith) (omega arith)
enough-fewer p (level e) = level e

enough-paid : {depth depth' n : ℕ} → Enough (suc depth) (suc depth') (suc n) → Enough depth depth' n
enough-paid (deep h h') = deep (omega arith) (omega arith)
enough-paid (level e) = level (omega arith)

-- a depth of nothing is enough for nothing left, or beside itself
enough-none : {depth n : ℕ} → Enough zero (suc depth) n → n ≤ 0
enough-none (deep h h') = h
enough-none (level e) = omega arith

enough-turned : {depth depth' n : ℕ} → Enough depth depth' n → Enough depth' depth n
enough-turned (deep h h') = deep h' h
enough-turned (level e) = level (sym e)

-- THE MACHINE

module _ (W : Watch) where
  abbrev tallied : Ledger W.Mark → Tally
  tallied g = g.tally

  -- two computations are alike where the depths come to the same
  abbrev Alike : ℕ → ℕ → Computation W → Computation W → Type 0
  Alike depth depth' k k' = (g : Ledger W.Mark) → Enough depth depth' g.tally.steps_left → Same tallied g.tally (k g) (k' g)

  module _ (depth depth' : ℕ) where
    noted : (g : Ledger W.Mark) (o : Noted W.Mark) (k k' : Computation W) → Alike depth depth' k k' →
        Enough depth depth' g.tally.steps_left →
        Same tallied g.tally (after_note W o g k) (after_note W o g k')
    noted g (onward m) k k' alike h = alike (record { tally = g.tally; mark = m }) h
    noted g (halt answer) k k' alike h = unmoved

    afforded : (g : Ledger W.Mark) (o : Option Tally) (k k' : Computation W) → Alike depth depth' k k' →
        Enough depth depth' g.tally.steps_left →
        Same tallied g.tally (where_payable W o g (k g)) (where_payable W o g (k' g))
    afforded g none k k' alike h = unmoved
    afforded g (some t) k k' alike h = alike g h

    alike-closed : Closed W W (Unit {0}) (Alike depth depth')
    alike-closed =
        record {
          gives = λ s g h. unmoved;
          ends = λ answer function own g h. unmoved;
          notes = λ need nesting k k' alike g h. noted g (W.note (need g.tally) g.tally g.mark) k k' alike h;
          emits = λ name text k k' alike g h. same-later (omega arith) (alike (with_tally W (emitted name text g.tally) g) h);
          affords = λ f k k' alike g h. afforded g (pay f g.tally) k k' alike h;
          chains = λ first first' k k' alike later g h.
              same_then tallied g.tally (first g) (first' g) k k' (alike g h) (λ s g₁ p. later s g₁ (enough-fewer p h));
        }

  -- an application pays before anything else is done
  paid-alike : (depth depth' : ℕ) (code : Code) (frame f : ℕ) (s : Stacks) (left steps : ℕ) (counts : List ℕ) (emissions : Bytes) (m : W.Mark) →
      ((frame f : ℕ) (s : Stacks) → Alike depth depth' (enter W depth code frame f s) (enter W depth' code frame f s)) →
      Enough (suc depth) (suc depth') left →
      let g : Ledger W.Mark = record { tally = record { steps_left = left; steps = steps; counts = counts; emissions = emissions }; mark = m } in
      Same tallied g.tally
      (ran_paid W code (enter W depth code) frame f s g (pay f g.tally))
      (ran_paid W code (enter W depth' code) frame f s g (pay f g.tally))
  paid-alike depth depth' code frame f s zero steps counts emissions m alike h = unmoved
  paid-alike depth depth' code frame f s (suc n) steps counts emissions m alike h =
      same-later (omega arith)
      (chooses W W (Unit {0}) (Alike depth depth') (alike-closed depth depth') code (enter W depth code) (enter W depth' code) alike frame f
      (choice_for code f s)
      (λ h. tt)
      s
      (record { tally = record { steps_left = n; steps = suc steps; counts = counted f counts; emissions = emissions }; mark = m })
      (enough-paid h))

  alike-enter : (depth depth' : ℕ) (code : Code) (frame f : ℕ) (s : Stacks) →
      Alike depth depth' (enter W depth code frame f s) (enter W depth' code frame f s)
  unfolding enter
  alike-enter zero zero code frame f s g h = unmoved
  alike-enter zero (suc depth') code frame f s g h = rw (pay-none f g.tally (enough-none h)) (unmoved)
  alike-enter (suc depth) zero code frame f s g h = rw (pay-none f g.tally (enough-none (enough-turned h))) (unmoved)
  alike-enter (suc depth) (suc depth') code frame f s g h =
      paid-alike depth depth' code frame f s g.tally.steps_left g.tally.steps g.tally.counts g.tally.emissions g.mark
      (alike-enter depth depth' code)
      h

  -- Any depth of at least the steps left is the same depth.
  pub enter-depth : (depth depth' : ℕ) (code : Code) (frame f : ℕ) (s : Stacks) (g : Ledger W.Mark) → g.tally.steps_left ≤ depth →
      g.tally.steps_left ≤ depth' →
      enter W depth code frame f s g ≡ enter W depth' code frame f s g
  enter-depth depth depth' code frame f s g h h' = (alike-enter depth depth' code frame f s g (deep h h')).same

  -- At any depth an application never wins steps back, and steps and steps left keep their sum.
  pub enter-spent : (depth : ℕ) (code : Code) (frame f : ℕ) (s : Stacks) (g : Ledger W.Mark) →
      Spent g.tally (counted_of (enter W depth code frame f s g)).tally
  enter-spent depth code frame f s g = (alike-enter depth depth code frame f s g (level refl)).spent

  -- An application is its one step over applications at any depth that is great enough: with one depth on both sides, an equation that `enter`
  -- solves.
  pub enter_step : (depth depth' : ℕ) (code : Code) (frame f : ℕ) (s : Stacks) (g : Ledger W.Mark) →
      g.tally.steps_left ≤ depth → g.tally.steps_left ≤ suc depth' →
      enter W depth code frame f s g ≡ ran_paid W code (enter W depth' code) frame f s g (pay f g.tally)
  unfolding enter
  enter_step depth depth' code frame f s g h h' = enter-depth depth (suc depth') code frame f s g h h'

  -- From the start of a run, steps and steps left come to the allowance.
  pub from-spent : (code : Code) (start : ℕ) (text : Bytes) (allowance : ℕ) (m : W.Mark) →
      let t : Tally = (counted_of (run_under W code start text allowance m)).tally in
      t.steps + t.steps_left ≡ allowance
  from-spent code start text allowance m =
      omega (arith, (enter-spent allowance code 1 start (loaded text) (record { tally = fresh allowance; mark = m })).sum)

-- REWRITING

-- two ways to call by name, or to apply by number, are alike where the depths come to the same
abbrev AlikeCalls : {A : Type 0} → ℕ → ℕ → (A → Bytes → Course → Outcome Bytes Course) → (A → Bytes → Course → Outcome Bytes Course) → Type 0
AlikeCalls {A} depth depth' call call' = (n : A) (text : Bytes) (t : Course) → Enough depth depth' t.steps_left →
    Same tally_of (tally_of t) (call n text t) (call' n text t)

same-before : (text : Bytes) (t : Course) (o o' : Outcome Bytes Course) → Same tally_of (tally_of t) o o' →
    Same tally_of (tally_of t) (before text o) (before text o')
same-before text t o o' p = same_then tally_of (tally_of t) o o' _ _ p (λ rest t₁ h. unmoved)

module _ (depth depth' : ℕ) (call call' : Name → Bytes → Course → Outcome Bytes Course) (alike : AlikeCalls depth depth' call call')
    (bound : Bindings) where
  evaluate-alike : (e : Expression) (t : Course) → Enough depth depth' t.steps_left →
      Same tally_of (tally_of t) (evaluate call bound e t) (evaluate call' bound e t)
  unfolding evaluate
  evaluate-alike end t h = unmoved
  evaluate-alike (then_character c e) t h = same-before (c ∷ []) t _ _ (evaluate-alike e t h)
  evaluate-alike (then_symbol x e) t h = same-before (symbol_bytes (lookup x bound.symbols)) t _ _ (evaluate-alike e t h)
  evaluate-alike (then_part x e) t h = same-before (part_bytes (lookup x bound.parts)) t _ _ (evaluate-alike e t h)
  evaluate-alike (then_call place n argument e) t h =
      same_then tally_of (tally_of t) _ _ _ _ (evaluate-alike argument t h)
      (λ text t₁ p₁. same_then tally_of (tally_of t₁) _ _ _ _ (alike n text t₁ (enough-fewer p₁ h))
      (λ given t₂ p₂. same-before given t₂ _ _ (evaluate-alike e t₂ (enough-fewer p₂ (enough-fewer p₁ h)))))

module _ (depth depth' : ℕ) (table : Table) (apply apply' : ℕ → Bytes → Course → Outcome Bytes Course) (alike : AlikeCalls depth depth' apply apply')
  where
    as-alike : (c : Calling) (n : Name) (text : Bytes) (t : Course) (o o' : Outcome Bytes Course) → Same tally_of (tally_of t) o o' →
        Same tally_of (tally_of t) (called_as c n text t o) (called_as c n text t o')
    as-alike as_emission n text t o o' p = record { same = refl; spent = omega arith }
    as-alike (as_angles op) n text t o o' p = computed-alike (angled op text)
      where
        computed-alike : (a : Angled) → Same tally_of (tally_of t) (computed a t) (computed a t)
        computed-alike (sum given) = unmoved
        computed-alike not_angles = unmoved
        computed-alike out_of_range = unmoved
    as-alike as_function n text t o o' p = p

    called-alike : AlikeCalls depth depth' (call_named table apply) (call_named table apply')
    called-alike n text t h = as-alike (calling_of n) n text t _ _ (alike (number_of table n) text t h)

    unfitted-alike : (r number : ℕ) (text : Bytes) (t : Course) → Enough depth depth' t.steps_left →
        Same tally_of (tally_of t) (unfitted apply r number text t) (unfitted apply' r number text t)
    unfitted-alike zero number text t h = unmoved
    unfitted-alike (suc r) number text t h = alike (suc r) text t h

    rewritten-alike : (number : ℕ) (text : Bytes) (fit : Option Fit) (t : Course) → Enough depth depth' t.steps_left →
        Same tally_of (tally_of t) (rewritten table apply number text fit t) (rewritten table apply' number text fit t)
    rewritten-alike number text none t h = unfitted-alike (recoverer_at table number) number text t h
    rewritten-alike number text (some f) t h =
        evaluate-alike depth depth' (call_named table apply) (call_named table apply') called-alike f.bindings f.fitting.expression t h

    applied-alike : (number : ℕ) (text : Bytes) (left : ℕ) (history : List ℕ) (emissions : Bytes) → Enough (suc depth) (suc depth') left →
        let t : Course = record { steps_left = left; history = history; emissions = emissions } in
        Same tally_of (tally_of t) (applied table apply number text t (take_step number t)) (applied table apply' number text t (take_step number t))
    applied-alike number text zero history emissions h = unmoved
    applied-alike number text (suc n) history emissions h =
        same-later (omega arith)
        (rewritten-alike number text (choose (function_at table number) text)
        (record { steps_left = n; history = number ∷ history; emissions = emissions })
        (enough-paid h))

step-none : (number : ℕ) (t : Course) → t.steps_left ≤ 0 → take_step number t ≡ none
step-none number t h = let e : t.steps_left ≡ 0 = omega arith in rw e

apply-alike : (depth depth' : ℕ) (table : Table) → AlikeCalls depth depth' (apply depth table) (apply depth' table)
unfolding apply
apply-alike zero zero table number text t h = unmoved
apply-alike zero (suc depth') table number text t h = rw (step-none number t (enough-none h)) unmoved
apply-alike (suc depth) zero table number text t h = rw (step-none number t (enough-none (enough-turned h))) unmoved
apply-alike (suc depth) (suc depth') table number text t h =
    applied-alike depth depth' table (apply depth table) (apply depth' table) (apply-alike depth depth' table)
    number text t.steps_left t.history t.emissions h

-- Any depth of at least the steps left is the same depth.
pub apply-depth : (depth depth' : ℕ) (table : Table) (number : ℕ) (text : Bytes) (t : Course) → t.steps_left ≤ depth → t.steps_left ≤ depth' →
    apply depth table number text t ≡ apply depth' table number text t
apply-depth depth depth' table number text t h h' = (apply-alike depth depth' table number text t (deep h h')).same

-- At any depth an application never wins steps back, and steps and steps left keep their sum.
pub apply-spent : (depth : ℕ) (table : Table) (number : ℕ) (text : Bytes) (t : Course) →
    Spent (tally_of t) (tally_of (counted_of (apply depth table number text t)))
apply-spent depth table number text t = (apply-alike depth depth table number text t (level refl)).spent

pub rewriting-spent : (table : Table) (start : ℕ) (text : Bytes) (allowance : ℕ) →
    let t : Course = counted_of (apply allowance table start text (unbegun allowance)) in
    length t.history + t.steps_left ≡ allowance
rewriting-spent table start text allowance = omega (arith, (apply-spent allowance table start text (unbegun allowance)).sum)
