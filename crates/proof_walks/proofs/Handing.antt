-- What a function proved by hand hands on to a callee. Of its own parameters it has at exit what the callee's contract says of them.
use Prim.Native.Nat.{ℕ}
use mathlib.Core.List.{List, [], ◌∷◌}
use seplogic.Ra.Ura.{Ura}
use mir.Val.{Val}
use base.Logic.{ent, sep, emp}
use types.Logic.{Logic, sem}
use contract.Lifetimes.{Lfts}
use types.Kit.{‵, ◌$◌, ◌∵◌, !, qed, move, join, fjoin, frame, done}
use denote.RattleType.{RattleType, Denots, owns}
use denote.Exit.{Kept, left}
use denote.Signature.{Slot, types_at}
use denote.Steps.{nothing}
use denote.Triple.End.{Kepts, Fins}
use denote.Triple.Walked.{Stay, Stays, fits_of, AllGo}

abbrev pub handed : {n : ℕ} (s : Slot n) (k : Kept) → Stay s k
handed s k = record { fit = λ κs x f. Unit {0}; has = λ κs x f vs. left ((s.row κs).exit k) x f }

abbrev pub all-handed : {n : ℕ} (ss : List (Slot n)) (ks : Kepts ss) → Stays ss ks
all-handed [] ks = tt
all-handed (s ∷ ss) ks = (handed s ks.0, all-handed ss ks.1)

-- the parameters after the first
abbrev pub after_first : {n : ℕ} → List (Slot n) → List (Slot n)
after_first [] = []
after_first (s ∷ ss) = ss

pub all_fit : {n : ℕ} (κs : Lfts n) (ss : List (Slot n)) (ks : Kepts ss) (a : Denots (types_at ss κs)) (ws : Fins κs ss ks a) →
    fits_of κs ss ks (all-handed ss ks) a ws
all_fit κs [] ks a ws = tt
all_fit κs (s ∷ ss) ks a ws = (tt, all_fit κs ss ks.1 a.1 ws.1)

pub all_go : {M : Type 1} {𝓤 : Ura M} (𝓛 : Logic 𝓤) (n : ℕ) (ss : List (Slot n)) (ks : Kepts ss) →
    AllGo 𝓛 n ss ks (all-handed ss ks)
all_go 𝓛 n [] ks = tt
all_go 𝓛 n (s ∷ ss) ks = ((λ κs x f vs fits. 𝓛.laws.⇛_intro _), all_go 𝓛 n ss ks.1)

-- what is asked by a function without a lifetime and a `requires`, of no parameter and of one
module _ {M : Type 1} {𝓤 : Ura M} (𝓛 : Logic 𝓤) where
  pub none_passed : ent 𝓤 (emp 𝓤) (sep 𝓤 (sep 𝓤 (emp 𝓤) (sem 𝓛 (owns [] tt tt))) (emp 𝓤))
  none_passed = qed 𝓛 [] ∵ nothing ! $ nothing ! $ join ! $ nothing ! $ move ! (1 ∷ 0 ∷ []) $ join ! $ done !

  pub one-passed : (T : RattleType) (x : T.Denot) (vs : List Val) →
      ent 𝓤 (sem 𝓛 (T.own_val x vs)) (sep 𝓤 (sep 𝓤 (emp 𝓤) (sem 𝓛 (owns (T ∷ []) (x, tt) (vs, tt)))) (emp 𝓤))
  one-passed T x vs = qed 𝓛 (‵ (T.own_val x vs) ∷ []) ∵ nothing ! $ move ! (1 ∷ 0 ∷ []) $ fjoin ! $ nothing ! $ join ! $ frame ! $ done !
