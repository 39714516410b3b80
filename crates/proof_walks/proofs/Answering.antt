-- What a callee answers: some result, of which what its `ensures` says holds.
use mathlib.Core.List.{List, [], ◌∷◌}
use seplogic.Ra.Ura.{Ura}
use mir.Val.{Val}
use base.Logic.{SProp, ent, sep, ex, emp, ex_e, snd∗, id⊢}
use base.Fml.{Fml}
use types.Logic.{Logic, sem}
use contract.Monad.{fact}
use types.Kit.{Goal, Soaks, Item, Seq, ‵, raw, some, later, ◌⊛◌, ◌$◌, move, drop, use1, split, await, pick}
use denote.RattleType.{RattleType}
use denote.Laws.{Is, shows}
use denote.Steps.{heard, peeks}

-- of what is said of last values and the clause, the clause alone
pub clause : {M : Type 1} {𝓤 : Ura M} (𝓛 : Logic 𝓤) {X : Type 0} (L : X → Fml) (φ : Type 0) →
    ent 𝓤 (ex 𝓤 (λ (ws : X). sep 𝓤 (sem 𝓛 (L ws)) (fact 𝓤 φ))) (fact 𝓤 φ)
clause {𝓤 = 𝓤} 𝓛 L φ = ex_e 𝓤 _ (λ ws. snd∗ 𝓤 (sem 𝓛 (L ws)) (fact 𝓤 φ))

-- some result, with the tokens back and what is said of it and of the last values
pub answers-lasts : {M : Type 1} {𝓤 : Ura M} {𝓛 : Logic 𝓤} {K : Type 0} {Γ : List (Item 𝓤)} {G : Goal 𝓤 𝓛.H}
    → K → Soaks G → (R : RattleType) (P : SProp 𝓤) (X : Type 0) (L : X → Fml) (S : R.Denot → X → SProp 𝓤) (v : Val)
    → ((r : R.Denot) (ws : X) → Is R r (v ∷ []) → Seq K 𝓛 (‵ (R.own_val r (v ∷ [])) ∷ raw P ∷ ‵ (L ws) ∷ raw (S r ws) ∷ Γ) G)
    → Seq K 𝓛 (raw (𝓛.H.⇛ (ex 𝓤 (λ (r : R.Denot). sep 𝓤 (sep 𝓤 P (sem 𝓛 (R.own_val r (v ∷ []))))
    (ex 𝓤 (λ (ws : X). sep 𝓤 (sem 𝓛 (L ws)) (S r ws)))))) ∷ Γ) G
answers-lasts {𝓤 = 𝓤} {𝓛 = 𝓛} t z R P X L S v k =
    use1 𝓛 (later (some (λ (r : R.Denot). (raw P ⊛ ‵ (R.own_val r (v ∷ []))) ⊛ some (λ (ws : X). ‵ (L ws) ⊛ raw (S r ws))))) (id⊢ 𝓤 _) $ await t z $
    pick t (λ r.
    split t $ move t (1 ∷ []) $ pick t (λ ws. split t $ move t (2 ∷ []) $ split t $ move t (1 ∷ []) $ peeks t R (Is R) (shows 𝓛 R) r (v ∷ [])
    (λ is. k r ws is)))

-- the same of a callee without a `&mut`: of its `ensures`, the clause
pub answers-back : {M : Type 1} {𝓤 : Ura M} {𝓛 : Logic 𝓤} {K : Type 0} {Γ : List (Item 𝓤)} {G : Goal 𝓤 𝓛.H}
    → K → Soaks G → (R : RattleType) (P : SProp 𝓤) (E : R.Denot → SProp 𝓤) (φ : R.Denot → Type 0) → ((r : R.Denot) → ent 𝓤 (E r) (fact 𝓤 (φ r))) →
    (v : Val)
    → ((r : R.Denot) → φ r → Is R r (v ∷ []) → Seq K 𝓛 (‵ (R.own_val r (v ∷ [])) ∷ raw P ∷ Γ) G)
    → Seq K 𝓛 (raw (𝓛.H.⇛ (ex 𝓤 (λ (r : R.Denot). sep 𝓤 (sep 𝓤 P (sem 𝓛 (R.own_val r (v ∷ [])))) (E r)))) ∷ Γ) G
answers-back {𝓤 = 𝓤} {𝓛 = 𝓛} t z R P E φ said v k =
    use1 𝓛 (later (some (λ (r : R.Denot). (raw P ⊛ ‵ (R.own_val r (v ∷ []))) ⊛ raw (E r)))) (id⊢ 𝓤 _) $ await t z $ pick t (λ r.
    split t $ move t (1 ∷ []) $ use1 𝓛 (raw (fact 𝓤 (φ r))) (said r) $ heard t (φ r)
    (λ x. split t $ move t (1 ∷ []) $ peeks t R (Is R) (shows 𝓛 R) r (v ∷ []) (λ is. k r x is)))

-- and without a lifetime
pub answers : {M : Type 1} {𝓤 : Ura M} {𝓛 : Logic 𝓤} {K : Type 0} {Γ : List (Item 𝓤)} {G : Goal 𝓤 𝓛.H}
    → K → Soaks G → (R : RattleType) (E : R.Denot → SProp 𝓤) (φ : R.Denot → Type 0) → ((r : R.Denot) → ent 𝓤 (E r) (fact 𝓤 (φ r))) → (v : Val)
    → ((r : R.Denot) → φ r → Is R r (v ∷ []) → Seq K 𝓛 (‵ (R.own_val r (v ∷ [])) ∷ Γ) G)
    → Seq K 𝓛 (raw (𝓛.H.⇛ (ex 𝓤 (λ (r : R.Denot). sep 𝓤 (sep 𝓤 (emp 𝓤) (sem 𝓛 (R.own_val r (v ∷ [])))) (E r)))) ∷ Γ) G
answers {𝓤 = 𝓤} t z R E φ said v k = answers-back t z R (emp 𝓤) E φ said v (λ r x is. move t (1 ∷ []) $ drop t $ k r x is)
