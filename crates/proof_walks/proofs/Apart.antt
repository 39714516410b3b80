-- The tokens of a function's lifetimes and what its parameters own: all in one, or each by itself.
use Prim.Native.Nat.{ℕ, zero, suc}
use mathlib.Core.List.{List, [], ◌∷◌, ◌++◌}
use seplogic.Ra.Ura.{Ura}
use base.Logic.{ent, emp, via, mono_r, id⊢}
use base.Fml.{flft}
use types.Logic.{Logic, sem}
use contract.Lifetimes.{Lfts, Shares, toks}
use types.Kit.{Goal, Item, Step, ‵, raw, ⋆, push, pop, cut}
use denote.RattleType.{RattleType, Denots, Valss, owns}

abbrev pub tokens : {M : Type 1} {𝓤 : Ura M} (n : ℕ) → Lfts n → Shares n → List (Item 𝓤)
tokens zero κs qs = []
tokens (suc n) κs qs = ‵ (flft κs.0 qs.0) ∷ tokens n κs.1 qs.1

abbrev pub each_owns : {M : Type 1} {𝓤 : Ura M} (Ts : List RattleType) → Denots Ts → Valss Ts → List (Item 𝓤)
each_owns [] a vss = []
each_owns (T ∷ Ts) a vss = ‵ (T.own_val a.0 vss.0) ∷ each_owns Ts a.1 vss.1

module _ {M : Type 1} {𝓤 : Ura M} (𝓛 : Logic 𝓤) where
  open 𝓛 use {A}

  tokens-out : (n : ℕ) (κs : Lfts n) (qs : Shares n) → ent 𝓤 (toks 𝓛 n κs qs) (⋆ 𝓛 (tokens n κs qs))
  tokens-out zero κs qs = id⊢ 𝓤 (emp 𝓤)
  tokens-out (suc n) κs qs = via 𝓤 _ (mono_r 𝓤 (A.lft κs.0 qs.0) (tokens-out n κs.1 qs.1))
      (push 𝓛 (‵ (flft κs.0 qs.0)) (tokens n κs.1 qs.1))

  tokens-in : (n : ℕ) (κs : Lfts n) (qs : Shares n) → ent 𝓤 (⋆ 𝓛 (tokens n κs qs)) (toks 𝓛 n κs qs)
  tokens-in zero κs qs = id⊢ 𝓤 (emp 𝓤)
  tokens-in (suc n) κs qs = via 𝓤 _ (pop 𝓛 (‵ (flft κs.0 qs.0)) (tokens n κs.1 qs.1))
      (mono_r 𝓤 (A.lft κs.0 qs.0) (tokens-in n κs.1 qs.1))

  owned-out : (Ts : List RattleType) (a : Denots Ts) (vss : Valss Ts) → ent 𝓤 (sem 𝓛 (owns Ts a vss)) (⋆ 𝓛 (each_owns Ts a vss))
  owned-out [] a vss = id⊢ 𝓤 (emp 𝓤)
  owned-out (T ∷ Ts) a vss = via 𝓤 _ (mono_r 𝓤 (sem 𝓛 (T.own_val a.0 vss.0)) (owned-out Ts a.1 vss.1))
      (push 𝓛 (‵ (T.own_val a.0 vss.0)) (each_owns Ts a.1 vss.1))

  owned_in : (Ts : List RattleType) (a : Denots Ts) (vss : Valss Ts) → ent 𝓤 (⋆ 𝓛 (each_owns Ts a vss)) (sem 𝓛 (owns Ts a vss))
  owned_in [] a vss = id⊢ 𝓤 (emp 𝓤)
  owned_in (T ∷ Ts) a vss = via 𝓤 _ (pop 𝓛 (‵ (T.own_val a.0 vss.0)) (each_owns Ts a.1 vss.1))
      (mono_r 𝓤 (sem 𝓛 (T.own_val a.0 vss.0)) (owned_in Ts a.1 vss.1))

module _ {M : Type 1} {𝓤 : Ura M} {𝓛 : Logic 𝓤} {K : Type 0} {Γ : List (Item 𝓤)} {G : Goal 𝓤 𝓛.H} (t : K) where
  pub tokens-apart : (n : ℕ) (κs : Lfts n) (qs : Shares n) → Step K 𝓛 (tokens n κs qs ++ Γ) G (raw (toks 𝓛 n κs qs) ∷ Γ) G
  tokens-apart n κs qs = cut (raw (toks 𝓛 n κs qs) ∷ []) (tokens n κs qs) Γ (tokens-out 𝓛 n κs qs)

  pub tokens-joined : (n : ℕ) (κs : Lfts n) (qs : Shares n) → Step K 𝓛 (raw (toks 𝓛 n κs qs) ∷ Γ) G (tokens n κs qs ++ Γ) G
  tokens-joined n κs qs = cut (tokens n κs qs) (raw (toks 𝓛 n κs qs) ∷ []) Γ (tokens-in 𝓛 n κs qs)

  pub owned-apart : (Ts : List RattleType) (a : Denots Ts) (vss : Valss Ts) → Step K 𝓛 (each_owns Ts a vss ++ Γ) G (‵ (owns Ts a vss) ∷ Γ) G
  owned-apart Ts a vss = cut (‵ (owns Ts a vss) ∷ []) (each_owns Ts a vss) Γ (owned-out 𝓛 Ts a vss)

  pub owned-joined : (Ts : List RattleType) (a : Denots Ts) (vss : Valss Ts) → Step K 𝓛 (‵ (owns Ts a vss) ∷ Γ) G (each_owns Ts a vss ++ Γ) G
  owned-joined Ts a vss = cut (each_owns Ts a vss) (‵ (owns Ts a vss) ∷ []) Γ (owned_in 𝓛 Ts a vss)
