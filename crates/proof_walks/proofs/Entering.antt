-- A function that is proved by hand: a walk of its MIR, over the tables in which each name means its own routine, proves its entry there.
use mathlib.Core.List.{[], ◌∷◌}
use seplogic.Ra.Ura.{Ura}
use mir.Syntax.{Fn}
use base.Logic.{SProp, ent, sep}
use types.Logic.{Logic}
use prog.Model.{Model}
use prog.Routine.{Callee, Env}
use prog.Wp.{Calls, Loops, WpFn, Closed}
use contract.Monad.{fact}
use contract.Lifetimes.{Lfts, Shares, AllOutlive}
use contract.Running.{Running, tables, tables_of}
use types.Kit.{raw, ◌⊛◌, ◌$◌, ◌∵◌, !, qed, by, move, split}
use sound.Laws.{of_model}
use sound.WpLaws.{FmC, fm_of, WpFn-mono}
use denote.RattleType.{flat}
use denote.Laws.{Are, Ises, Spells, valss, Tellss}
use denote.Signature.{types_at}
use denote.Steps.{heard}
use denote.Triple.Clauses.{Clauses, Ended, closing}
use denote.Triple.Entry.{Args, on_entry}
use denote.Triple.Spec.{Meets, triple_of}
use denote.Triple.Table.{entered}
use denote.Triple.Walked.{Stays, AllGo, walk_of, walked, walk_Meets}

module _ {M : Type 1} {𝓤 : Ura M} (𝓛 : Logic 𝓤) (𝓜 : Model 𝓤 𝓛.H) (𝓡 : Running 𝓤 𝓛.H 𝓜) (γ : Env) where
  open 𝓛 use {H}

  abbrev C : Calls 𝓤 H
  C = (tables 𝓤 H 𝓜 𝓡 γ).C

  abbrev Λ : Loops 𝓤 H
  Λ = (tables 𝓤 H 𝓜 𝓡 γ).Λ

  -- the calls keep what a function's own part doesn't touch
  pub calls-framed : FmC 𝓤 H (of_model 𝓤 H 𝓜) C
  unfolding tables_of
  calls-framed = fm_of 𝓤 H (of_model 𝓤 H 𝓜) (tables_of 𝓤 H 𝓜 (tables 𝓤 H 𝓜 𝓡 γ))

  -- the function's signature and clauses, what it has of its parameters at exit, and how they are spelt
  pub walk-enters : (T : Ended) (hs : Stays T.signature.params T.kept)
      → AllGo 𝓛 T.signature.lifetimes T.signature.params T.kept hs
      → (c : Clauses 𝓤 T) (k : Callee) (e : Fn) → Closed 𝓤 H C Λ k e
      → (sp : (κs : Lfts T.signature.lifetimes) → Spells (types_at T.signature.params κs))
      → ((κs : Lfts T.signature.lifetimes) → Tellss (types_at T.signature.params κs) (Ises (types_at T.signature.params κs)) (sp κs))
      → ((κs : Lfts T.signature.lifetimes) (qs : Shares T.signature.lifetimes)
      (bounds : AllOutlive T.signature.lifetimes T.signature.outlives κs)
      (a : Args T.signature κs) (g : (c κs a).ghost)
      → Are (types_at T.signature.params κs) (Ises (types_at T.signature.params κs)) a (valss (types_at T.signature.params κs) (sp κs) a)
      → ent 𝓤 (sep 𝓤 (on_entry 𝓛 T.signature κs qs a (valss (types_at T.signature.params κs) (sp κs) a)) ((c κs a).requires g))
      (WpFn 𝓤 H C Λ e (flat (types_at T.signature.params κs) (valss (types_at T.signature.params κs) (sp κs) a))
      ((walk_of 𝓛 T hs c).post ((κs, qs, bounds, a, valss (types_at T.signature.params κs) (sp κs) a), g))))
      → Meets 𝓛 T.signature (C k) (closing 𝓛 T c)
  unfolding tables_of
  walk-enters T hs gs c k e closed sp tl w =
      entered 𝓤 H (triple_of 𝓛 T.signature (closing 𝓛 T c)) C Λ k e closed
      (walk_Meets 𝓛 T hs gs c (WpFn 𝓤 H C Λ e) (WpFn-mono 𝓤 H (of_model 𝓤 H 𝓜) (tables_of 𝓤 H 𝓜 (tables 𝓤 H 𝓜 𝓡 γ)) e)
      (walked 𝓛 T hs c (WpFn 𝓤 H C Λ e) sp tl w))

-- the one fact that a function requires, and the three
pub required-one : {M : Type 1} {𝓤 : Ura M} (𝓛 : Logic 𝓤) → (φ : Type 0) (P : SProp 𝓤) {Q : SProp 𝓤} → (φ → ent 𝓤 P Q) →
    ent 𝓤 (sep 𝓤 P (fact 𝓤 φ)) Q
required-one {𝓤 = 𝓤} 𝓛 φ P k = qed 𝓛 (raw P ∷ raw (fact 𝓤 φ) ∷ []) ∵ move ! (1 ∷ []) $ heard ! φ (λ x. by ! (k x))

pub required : {M : Type 1} {𝓤 : Ura M} (𝓛 : Logic 𝓤) → (φ ψ χ : Type 0) (P : SProp 𝓤) {Q : SProp 𝓤} →
    (φ → ψ → χ → ent 𝓤 P Q)
    → ent 𝓤 (sep 𝓤 P (sep 𝓤 (fact 𝓤 φ) (sep 𝓤 (fact 𝓤 ψ) (fact 𝓤 χ)))) Q
required {𝓤 = 𝓤} 𝓛 φ ψ χ P k = qed 𝓛 (raw P ∷ (raw (fact 𝓤 φ) ⊛ raw (fact 𝓤 ψ) ⊛ raw (fact 𝓤 χ)) ∷ []) ∵ move ! (1 ∷ []) $ split ! $
    heard ! φ (λ x. split ! $ heard ! ψ (λ y. heard ! χ (λ z. by ! (k x y z))))
