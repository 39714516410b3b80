-- A function's locals and what they hold.
use mathlib.Core.Path.{◌≡◌, refl}
use Prim.Native.Nat.{ℕ, zero, suc}
use mathlib.Core.List.{List, [], ◌∷◌, ◌++◌}
use seplogic.Ra.Ura.{Ura}
use base.Fraction.{full_share}
use mir.Syntax.{Ty, Local, local, Opd as Operand, copy, place}
use mir.Val.{Val}
use base.Logic.{ent, via, mono_r}
use base.Fml.{Share, fat, froom, fdies}
use prog.Wp.{Env, spot_of}
use types.Logic.{Logic}
use types.Kit.{Goal, allocs, frees, Item, Seq, Step, step, ‵, ⋆, nth, pop, push, mean, ◌$◌, ◌∵◌, !, qed, by, move, done}
use types.Run.{Opd, Opds, look, forget, stop, from, load, and_then, alloc1, alloc0, free1, free0}

pub data Content : Type 0 where
  vacant : Content
  holds : Val → Content

-- the locals' types with their addresses
abbrev pub placed : List Local → List ℕ → List (Ty × ℕ)
placed [] bs = []
placed (local τ h ∷ ls) [] = []
placed (local τ h ∷ ls) (b ∷ bs) = (τ, b) ∷ placed ls bs

abbrev pub cell : {M : Type 1} {𝓤 : Ura M} → Ty → ℕ → Content → Item 𝓤
cell τ b vacant = ‵ (froom τ b 0)
cell τ b (holds v) = ‵ (fat full_share τ b 0 v)

-- each local's cell and the right to free it, in order; those that nothing is said of are vacant
abbrev pub laid : {M : Type 1} {𝓤 : Ura M} → List (Ty × ℕ) → List Content → List (Item 𝓤)
laid [] cs = []
laid (l ∷ ls) [] = ‵ (froom l.0 l.1 0) ∷ ‵ (fdies l.0 l.1) ∷ laid ls []
laid (l ∷ ls) (c ∷ cs) = cell l.0 l.1 c ∷ ‵ (fdies l.0 l.1) ∷ laid ls cs

-- they are laid out in order, so that local i stands at 2 · i: after the context Δ of those before
abbrev pub Laying : {M : Type 1} {𝓤 : Ura M} (K : Type 0) (𝓛 : Logic 𝓤) → List (Item 𝓤) → List Local → List (Item 𝓤) →
    (Env 𝓤 𝓛.H → Goal 𝓤 𝓛.H) → Type 1
Laying K 𝓛 Γ [] Δ f = Seq K 𝓛 (Δ ++ Γ) (f [])
Laying K 𝓛 Γ (local τ h ∷ ls) Δ f = (b : ℕ) → Laying K 𝓛 Γ ls (Δ ++ ‵ (froom τ b 0) ∷ ‵ (fdies τ b) ∷ []) (λ E. f ((τ, b) ∷ E))

behind : {M : Type 1} {𝓤 : Ura M} (𝓛 : Logic 𝓤) (i j : Item 𝓤) (Δ Γ : List (Item 𝓤)) →
    ent 𝓤 (⋆ 𝓛 (i ∷ j ∷ (Δ ++ Γ))) (⋆ 𝓛 ((Δ ++ i ∷ j ∷ []) ++ Γ))
behind {𝓤 = 𝓤} 𝓛 i j [] Γ = qed 𝓛 (i ∷ j ∷ Γ) ∵ done !
behind {𝓤 = 𝓤} 𝓛 i j (d ∷ Δ) Γ =
    qed 𝓛 (i ∷ j ∷ d ∷ (Δ ++ Γ)) ∵ move ! (2 ∷ 0 ∷ 1 ∷ []) $
    by ! (via 𝓤 _ (pop 𝓛 d (i ∷ j ∷ (Δ ++ Γ))) (via 𝓤 _ (mono_r 𝓤 (mean 𝓛 d) (behind 𝓛 i j Δ Γ)) (push 𝓛 d ((Δ ++ i ∷ j ∷ []) ++ Γ))))

laid-after : {M : Type 1} {𝓤 : Ura M} {𝓛 : Logic 𝓤} {K : Type 0} → K →
    (Γ : List (Item 𝓤)) (ls : List Local) (Δ : List (Item 𝓤)) (f : Env 𝓤 𝓛.H → Goal 𝓤 𝓛.H) → Laying K 𝓛 Γ ls Δ f → Seq K 𝓛 (Δ ++ Γ) (allocs ls f)
laid-after t Γ [] Δ f k = alloc0 t $ k
laid-after {𝓤 = 𝓤} {𝓛 = 𝓛} t Γ (local τ h ∷ ls) Δ f k =
    alloc1 t (λ b. by t (via 𝓤 _ (behind 𝓛 (‵ (froom τ b 0)) (‵ (fdies τ b)) Δ Γ)
    (laid-after t Γ ls (Δ ++ ‵ (froom τ b 0) ∷ ‵ (fdies τ b) ∷ []) (λ E. f ((τ, b) ∷ E)) (k b)).prf))

pub lays-out : {M : Type 1} {𝓤 : Ura M} {𝓛 : Logic 𝓤} {K : Type 0} {Γ : List (Item 𝓤)} {ls : List Local}
    {f : Env 𝓤 𝓛.H → Goal 𝓤 𝓛.H} →
    K → Laying K 𝓛 Γ ls [] f → Seq K 𝓛 Γ (allocs ls f)
lays-out {Γ = Γ} {ls = ls} {f = f} t k = laid-after t Γ ls [] f k

-- all of them are freed
pub frees-laid : {M : Type 1} {𝓤 : Ura M} {𝓛 : Logic 𝓤} {K : Type 0} {Γ : List (Item 𝓤)} {g : Goal 𝓤 𝓛.H} → K →
    (ls : List (Ty × ℕ)) (cs : List Content) → Step K 𝓛 Γ g (laid ls cs ++ Γ) (frees ls g)
frees-laid t [] cs = free0 t
frees-laid t (l ∷ ls) [] = step (λ s. free1 t $ frees-laid t ls [] $ s)
frees-laid t (l ∷ ls) (vacant ∷ cs) = step (λ s. free1 t $ frees-laid t ls cs $ s)
frees-laid t (l ∷ ls) (holds v ∷ cs) = step (λ s. forget t 0 refl $ free1 t $ frees-laid t ls cs $ s)

-- n, n + 1 and so on: k numbers
abbrev pub counting : ℕ → ℕ → List ℕ
counting n zero = []
counting n (suc k) = n ∷ counting (suc n) k

-- a local is an operand as it stands
module _ {M : Type 1} {𝓤 : Ura M} {𝓛 : Logic 𝓤} {K : Type 0} {Γ : List (Item 𝓤)} {E : Env 𝓤 𝓛.H} where
  open 𝓛 use {H}

  pub copies : K → (n : ℕ) {i : ℕ} {q : Share} {v : Val} → nth 𝓛 n Γ ≡ ‵ (fat q (spot_of 𝓤 H E i).0 (spot_of 𝓤 H E i).1 0 v) →
      Opd K 𝓛 Γ E (copy (place i [])) v
  copies t n e = load t (from t (stop t)) (look t n e)

  pub and-copies : K → (n : ℕ) {i : ℕ} {q : Share} {v : Val} {xs : List Operand} {vs : List Val} → nth 𝓛 n Γ ≡
      ‵ (fat q (spot_of 𝓤 H E i).0 (spot_of 𝓤 H E i).1 0 v) → Opds K 𝓛 Γ E xs vs
      → Opds K 𝓛 Γ E (copy (place i []) ∷ xs) (v ∷ vs)
  and-copies t n e os = and_then t (copies t n e) os
